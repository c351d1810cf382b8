use Rattle.past_tests.proofs.mixing.paint_on_two_pages.Goals as goal

pub returns : goal.returns
returns g c p law = c.render-second.ensures.past.every _ (c.render-first.ensures.past.every p law)
