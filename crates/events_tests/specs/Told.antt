-- An answer of a check as the two numbers of its refusal, 0 and 0 where it admits.
use Rattle.std.specs.Prelude.{ℕ, Ok, Err, Result}
use Rattle.events.specs.declared.refusal.Refusal.{Refusal}
use Rattle.events.specs.Refusals.{numbered}

abbrev pub told : Result (Unit {0}) Refusal → ℕ × ℕ
told (Ok u) = (0, 0)
told (Err x) = numbered x
