-- How calls end, by number.
use Rattle.std.specs.Prelude.{ℕ, List, [], ◌∷◌, Ok, Err, Result}
use Rattle.events.specs.declared.refusal.Refusal.{Refusal}
use Rattle.events.specs.Refusals.{numbered}
use Rattle.paint.specs.declared.refusals.Refusal.{Refusal as RenderRefusal}
use Rattle.paint.specs.Refusals.{number}
use Rattle.markdown.specs.declared.tables.TableRefusal.{TableRefusal}
use Rattle.markdown.specs.Tables.{number_of}

-- A call is admitted, or refused with a number and the values that go with it.
pub data Outcome : Type 0 where
  admitted : Outcome
  refused : ℕ → List ℕ → Outcome

-- The outcome of a load, of a table question and of a paint: each refusal by the one definition that gives it its number.
abbrev pub load_outcome : Result (Unit {0}) Refusal → Outcome
load_outcome (Ok u) = admitted
load_outcome (Err e) = refused (numbered e).0 ((numbered e).1 ∷ [])

abbrev pub table_outcome : Result (Unit {0}) TableRefusal → Outcome
table_outcome (Ok u) = admitted
table_outcome (Err e) = refused (number_of e) []

abbrev pub render_outcome : Result (Unit {0}) RenderRefusal → Outcome
render_outcome (Ok u) = admitted
render_outcome (Err e) = refused (number e) []
