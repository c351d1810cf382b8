use Rattle.std.proofs.Common.{◌≡◌, ◌++◌, map, max, take, drop}
use Rattle.columns.proofs.natural_slots.Given as goal

abbrev pub invariant-loop-n : goal.invariant-loop-n
invariant-loop-n l = l.n-items ≡ map (max 1) (take l.n-index l.initial.n-items) ++ drop l.n-index l.initial.n-items
