use Rattle.std.proofs.Common.{drop}
use Rattle.drawings.specs.Strokes.{row_strokes}
use Rattle.drawings.proofs.Trails.{Onward}
use Rattle.paint.specs.Pens.{frame_of}
use Rattle.paint.proofs.pen.Pen.draw_row.Given as goal

abbrev pub invariant-loop-glyph : goal.invariant-loop-glyph
invariant-loop-glyph g l =
    let s = g.S.Surface in
    Onward s.shows s.held s.rest s.lawful (frame_of l.self) (row_strokes l.width l.start l.y l.glyphs) l.initial.page (row_strokes l.width l.x l.y (drop l.glyph-index l.glyphs)) l.page
