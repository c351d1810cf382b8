use Rattle.std.proofs.Common.{drop}
use Rattle.drawings.specs.Tables.{borders_from}
use Rattle.drawings.proofs.Trails.{Onward}
use Rattle.paint.specs.Pens.{frame_of}
use Rattle.paint.proofs.pen.Pen.draw_borders_at.Given as goal

abbrev pub invariant-loop-width : goal.invariant-loop-width
invariant-loop-width g l =
    let s = g.S.Surface in
    Onward s.shows s.held s.rest s.lawful (frame_of l.self) (borders_from l.style 0 l.y l.widths) l.initial.page (borders_from l.style l.x l.y (drop l.width-index l.widths)) l.page
