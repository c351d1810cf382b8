use Rattle.std.proofs.Common.{subst}
use Rattle.events.specs.declared.styles.MarkdownStyles.{MarkdownStyles}
use Rattle.markdown.specs.Outcomes.{load_outcome}
use Rattle.markdown.specs.Calls.{Load, load, load_of}
use Rattle.markdown.specs.Replies.{load_ended}
use Rattle.markdown.specs.Pasts.{longer}
use Rattle.markdown.specs.GoesOn.{HasPast}
use Rattle.past_tests.proofs.mixing.load_by_two_rulers.Goals as goal

pub returns : goal.returns
returns g c p law =
    let text = c.args.text.now in
    let one : MarkdownStyles → Load = λ y. load_of (g.R.Ruler.meaning c.args.first.now) y text text c.args.events.now in
    let two : MarkdownStyles → Load = λ y. load_of (g.Q.Ruler.meaning c.args.second.now) y text text c.args.events.now in
    subst
    (λ (y : MarkdownStyles). HasPast (longer (longer p (load (one y)) (load_ended (load_outcome c.load-first.result))) (load (two y)) (load_ended (load_outcome c.load-second.result))) c.load-second.new.self)
    c.new-styles.ensures.value (c.load-second.ensures.past.every _ (c.load-first.ensures.past.every p law))
