use Rattle.markdown.specs.Views.{sheet_of, memory_of}
use Rattle.markdown.proofs.Lives.{paint_lives, page_after, render_ends}
use Rattle.markdown.proofs.GoesOn.{goes_on}
use Rattle.markdown.proofs.Markdown.render.Goals as goal

pub returns-clause-number : goal.returns-clause-number
returns-clause-number g c = let x = g.S.Surface.shows c.args.page.now in render_ends c.args.area x.wide x.high c.render.result c.render.ensures.answer

pub returns-clause-past : goal.returns-clause-past
returns-clause-past g c =
    let m = c.args.self.now in
    let b = g.R.BreakingRule.meaning c.args.rule.now in
    let shows = g.S.Surface.shows in
    let after = page_after shows g.S.Surface.held g.S.Surface.rest g.S.Surface.lawful b c.args.area (sheet_of m) c.render.result c.args.page.now c.render.new.page c.render.ensures.answer c.render.ensures.after c.render.ensures.same in
    goes_on m m m.lived (λ p law. paint_lives p (sheet_of m) (memory_of m) law b c.args.area (shows c.args.page.now) (shows c.render.new.page) c.render.result c.render.ensures.answer after)
