use Rattle.std.proofs.Common.{◌≡◌, ◌+◌, false, length, IsUtf8}
use Rattle.std.specs.Str.Iter.{chars_rest}
use Rattle.std.specs.Str.{chars}
use Rattle.tail.specs.Entries.{pieces, cell_count}
use Rattle.tail.proofs.entries.cell_count.Given as goal

abbrev pub invariant-loop-c : goal.invariant-loop-c
invariant-loop-c l =
    (goal.iterator-loop-c).can_next l.rest × (goal.iterator-loop-c).is_finite l.rest
    × IsUtf8 (chars_rest l.rest)
    × (l.count + length (pieces false (chars (chars_rest l.rest))) ≡ 1 + cell_count (chars l.line))

abbrev pub decreases-loop-c : goal.decreases-loop-c
decreases-loop-c l = length (chars_rest l.rest)
