use Rattle.std.proofs.Common.{drop}
use Rattle.drawings.specs.Tables.{rule_from, rule_strokes}
use Rattle.drawings.proofs.Trails.{Onward}
use Rattle.paint.specs.Pens.{frame_of}
use Rattle.paint.proofs.pen.Pen.draw_rule_at.Given as goal

abbrev pub invariant-loop-width : goal.invariant-loop-width
invariant-loop-width g l =
    let s = g.S.Surface in
    Onward s.shows s.held s.rest s.lawful (frame_of l.self) (rule_strokes l.style l.corners l.y l.widths) l.initial.page (rule_from l.style l.corners l.corner l.x l.y (drop l.width-index l.widths)) l.page
