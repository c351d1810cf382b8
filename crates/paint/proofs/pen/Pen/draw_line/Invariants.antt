use Rattle.std.proofs.Common.{◌≡◌, ◌+◌, length}
use Rattle.std.specs.List.{AllByRecursion}
use Rattle.wrap_laws.specs.Breaks.{places}
use Rattle.drawings.specs.Strokes.{rows_strokes, line_strokes}
use Rattle.drawings.proofs.RowPlaces.{IsRow}
use Rattle.drawings.proofs.Trails.{Onward}
use Rattle.paint.specs.Pens.{frame_of}
use Rattle.paint.proofs.pen.Pen.draw_line.Given as goal

abbrev pub invariant-loop-start : goal.invariant-loop-start
invariant-loop-start g l =
    let s = g.S.Surface in
    let b = g.R.BreakingRule.meaning in
    let it = l.start-iterator in
    let left = places (b it.rule.now) it.line.now it.width it.start in
    record {
      next : (goal.iterator-loop-start g).can_next it;
      finite : (goal.iterator-loop-start g).is_finite it;
      fits : AllByRecursion (IsRow l.line l.width) left;
      counted : l.y + length left ≡ l.top + length (places (b l.rule) l.line l.width 0);
      drawn : Onward s.shows s.held s.rest s.lawful (frame_of l.self) (line_strokes (b l.rule) l.alignment l.width l.x l.top l.line) l.initial.page (rows_strokes l.alignment l.width l.x l.y l.line left) l.page;
    }
