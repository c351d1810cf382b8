use Rattle.std.proofs.Common.{◌≡◌, ℕ, true, List, None, IsUtf8}
use Rattle.std.specs.Str.Iter.{split_text, split_has_more, split_pattern}
use Rattle.std.specs.Str.{chars}
use Rattle.tail.specs.Lines.{lines_of}
use Rattle.tail.specs.Fences.{run_at_end}
use Rattle.tail.specs.Scanning.{Sound, Holds}
use Rattle.tail.proofs.Splits.{finished, parts_left}
use Rattle.tail.proofs.scan.run_at_end.Given as goal

abbrev pub invariant-loop-line : goal.invariant-loop-line
invariant-loop-line l =
    (goal.iterator-loop-line).can_next l.line-iterator × (goal.iterator-loop-line).is_finite l.line-iterator
    × (split_pattern l.line-iterator ≡ 10)
    × (split_has_more l.line-iterator ≡ true → IsUtf8 (split_text l.line-iterator))
    × Sound l.scanner.fence
    × ((run : List (List ℕ)) × Holds l.scanner.run run
    × (finished l.scanner.fence run (parts_left 10 (split_has_more l.line-iterator) (split_text l.line-iterator)) ≡ run_at_end None (lines_of (chars l.text))))
