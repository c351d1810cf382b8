use Rattle.std.proofs.Common.{◌≡◌, []}
use Rattle.stack.specs.Stacks.{held, room}
use Rattle.events.specs.Cursors.{left}
use Rattle.checks.specs.Checks.{most_marks, checked_from}
use Rattle.checks.proofs.walk.Given as goal

abbrev pub invariant-loop-event : goal.invariant-loop-event
invariant-loop-event g l = let a = (g.R.Ruler.meaning l.ruler).admits in let t = l.initial.cursor.text.now in
    (room l.marks ≡ most_marks) × (l.cursor.text.now ≡ t)
    × (checked_from a t l.cursor.taken (held l.marks) (left l.cursor) ≡ checked_from a t l.initial.cursor.taken [] (left l.initial.cursor))
