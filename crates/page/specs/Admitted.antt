use Rattle.std.specs.Prelude.{cond, is_ok, Result}
use Rattle.page.specs.declared.refusals.Refusal.{Refusal}
use Rattle.page.specs.declared.sides.Sides.{Sides}

-- the sides of a page that a check admits, 0 and 0 where it refuses it
abbrev pub if_admitted : Result (Unit {0}) Refusal → Sides → Sides
if_admitted r s = record { width = cond (is_ok r) s.width 0; height = cond (is_ok r) s.height 0 }
