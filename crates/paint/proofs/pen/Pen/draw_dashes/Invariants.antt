use Rattle.std.proofs.Common.{◌+◌, ◌-◌}
use Rattle.drawings.specs.Tables.{dashes}
use Rattle.drawings.proofs.Trails.{Onward}
use Rattle.paint.specs.Pens.{frame_of}
use Rattle.paint.proofs.pen.Pen.draw_dashes.Given as goal

abbrev pub invariant-loop-at : goal.invariant-loop-at
invariant-loop-at g l =
    let s = g.S.Surface in
    Onward s.shows s.held s.rest s.lawful (frame_of l.self) (dashes l.style l.x l.y l.count) l.initial.page (dashes l.style l.at l.y (l.x + l.count - l.at)) l.page
