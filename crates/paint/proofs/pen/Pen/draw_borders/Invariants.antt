use Rattle.std.proofs.Common.{◌+◌, ◌-◌}
use Rattle.drawings.specs.Tables.{borders}
use Rattle.drawings.proofs.Trails.{Onward}
use Rattle.paint.specs.Pens.{frame_of}
use Rattle.paint.proofs.pen.Pen.draw_borders.Given as goal

abbrev pub invariant-loop-y : goal.invariant-loop-y
invariant-loop-y g l =
    let s = g.S.Surface in
    Onward s.shows s.held s.rest s.lawful (frame_of l.self) (borders l.style l.top l.widths l.height) l.initial.page (borders l.style l.y l.widths (l.top + l.height - l.y)) l.page
