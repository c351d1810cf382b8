use Rattle.std.proofs.Common.{ℕ, ◌+◌, subst, arith}
use Rattle.wrap_laws.specs.Breaks.{rows}
use Rattle.drawings.specs.Strokes.{line_strokes}
use Rattle.drawings.specs.Frames.{Drawn}
use Rattle.drawings.proofs.Lists.{lie_in}
use Rattle.drawings.proofs.RowPlaces.{line_lies}
use Rattle.drawings.proofs.Trails.{drawn-cut}
use Rattle.paint.specs.declared.pen.Bounds.{Bounds}
use Rattle.paint.specs.Pens.{frame_of, with_bounds, cut_bounds}
use Rattle.paint.proofs.pen.Pen.draw_entry.Goals as goal

pub returns-clause-after : goal.returns-clause-after
returns-clause-after g c =
    let s = g.S.Surface in
    let a = c.args in
    let b = g.R.BreakingRule.meaning a.rule.now in
    let strokes = line_strokes b a.alignment a.width a.x a.y a.entry.now in
    let f = frame_of (with_bounds a.self.now (cut_bounds a.self.now.bounds a.x a.y a.width a.height)) in
    let P : Bounds → Type 0 = λ k. Drawn s.shows s.held s.rest s.lawful (frame_of (with_bounds a.self.now k)) (line_strokes b a.alignment a.width c.from.result c.from-2.result a.entry.now) a.page.now c.draw_line.new.page in
    let Q : ℕ → Type 0 = λ x. Drawn s.shows s.held s.rest s.lawful f (line_strokes b a.alignment a.width x c.from-2.result a.entry.now) a.page.now c.draw_line.new.page in
    let R : ℕ → Type 0 = λ y. Drawn s.shows s.held s.rest s.lawful f (line_strokes b a.alignment a.width a.x y a.entry.now) a.page.now c.draw_line.new.page in
    drawn-cut s.shows s.held s.rest s.lawful (frame_of a.self.now) a.x (a.x + a.width) a.y (a.y + a.height) strokes a.page.now c.draw_line.new.page
    (lie_in a.x (a.x + a.width) a.y (a.y + rows b a.entry.now a.width) a.x (a.x + a.width) a.y (a.y + a.height) strokes (omega arith) (omega arith) (omega arith) (omega (arith, c.requires)) (line_lies b a.alignment a.width a.x a.y a.entry.now))
    (subst R c.from-2.ensures (subst Q c.from.ensures (subst P c.cut_to-self.ensures.value c.draw_line.ensures.after)))
