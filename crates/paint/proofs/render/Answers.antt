use Rattle.std.proofs.Common.{◌≡◌, true, sym, subst, ◌∙◌, ap}
use Rattle.blocks.specs.Reads.{blocks_of}
use Rattle.drawings.specs.Drawings.{drawing}
use Rattle.drawings.specs.Pages.{on_page}
use Rattle.drawings.specs.Frames.{Frame, Drawn}
use Rattle.drawings.proofs.Apart.{blocks_apart}
use Rattle.drawings.proofs.Painted.{paint-drawn}
use Rattle.drawings.proofs.Taken.{blocks_taken}
use Rattle.paint.proofs.render.Goals as goal

pub returns-then-not-lies_on-clause-apart : goal.returns-then-not-lies_on-clause-apart
returns-then-not-lies_on-clause-apart g c =
    let a = c.args in
    blocks_apart (g.R.BreakingRule.meaning a.rule.now) a.area.width a.streaming a.border 0 (blocks_of a.sheet.now)

pub returns-then-area-gt0-2-clause-after : goal.returns-then-area-gt0-2-clause-after
returns-then-area-gt0-2-clause-after g c admitted =
    let s = g.S.Surface in
    let a = c.args in
    let b = g.R.BreakingRule.meaning a.rule.now in
    let strokes = drawing b a.area.width a.streaming a.border (blocks_of a.sheet.now) in
    let on : on_page a.area (s.shows a.page.now).wide (s.shows a.page.now).high ≡ true =
    ap (λ w. on_page a.area w (s.shows a.page.now).high) (sym c.sides.ensures.wide)
    ∙ ap (λ h. on_page a.area c.sides.result.width h) (sym c.sides.ensures.high)
    ∙ sym c.if-not-lies_on.ensures.value in
    let P : Frame → Type 0 = λ f. Drawn s.shows s.held s.rest s.lawful f strokes a.page.now c.draw_blocks.new.page in
    paint-drawn s.shows s.held s.rest s.lawful a.area strokes a.page.now c.draw_blocks.new.page on
    (blocks_apart b a.area.width a.streaming a.border 0 (blocks_of a.sheet.now)) (subst P c.new-pen.ensures.value c.draw_blocks.ensures.after)

pub returns-then-area-gt0-2-clause-apart : goal.returns-then-area-gt0-2-clause-apart
returns-then-area-gt0-2-clause-apart g c =
    let a = c.args in
    blocks_apart (g.R.BreakingRule.meaning a.rule.now) a.area.width a.streaming a.border 0 (blocks_of a.sheet.now)

pub returns-else-area-gt0-clause-apart : goal.returns-else-area-gt0-clause-apart
returns-else-area-gt0-clause-apart g c =
    let a = c.args in
    blocks_apart (g.R.BreakingRule.meaning a.rule.now) a.area.width a.streaming a.border 0 (blocks_of a.sheet.now)

pub returns-then-not-lies_on-clause-taken : goal.returns-then-not-lies_on-clause-taken
returns-then-not-lies_on-clause-taken g c known sound =
    let a = c.args in
    blocks_taken a.border known (g.R.BreakingRule.meaning a.rule.now) a.area.width a.streaming 0 (blocks_of a.sheet.now) sound

pub returns-then-area-gt0-2-clause-taken : goal.returns-then-area-gt0-2-clause-taken
returns-then-area-gt0-2-clause-taken g c known sound =
    let a = c.args in
    blocks_taken a.border known (g.R.BreakingRule.meaning a.rule.now) a.area.width a.streaming 0 (blocks_of a.sheet.now) sound

pub returns-else-area-gt0-clause-taken : goal.returns-else-area-gt0-clause-taken
returns-else-area-gt0-clause-taken g c known sound =
    let a = c.args in
    blocks_taken a.border known (g.R.BreakingRule.meaning a.rule.now) a.area.width a.streaming 0 (blocks_of a.sheet.now) sound
