-- The numbers of refusals.
use Rattle.std.specs.Prelude.{ℕ, List, ◌++◌, codes, decimal}
use Rattle.events.specs.declared.refusal.Amount.{Amount}
use Rattle.events.specs.declared.refusal.Amount.TheVariants.{Glyphs, Lines, Rows, Tables}
use Rattle.events.specs.declared.refusal.Refusal.{Refusal}
use Rattle.events.specs.declared.refusal.Refusal.TheVariants as refused

-- The number of an amount.
abbrev pub amount_number : Amount → ℕ
amount_number Glyphs = 0
amount_number Lines = 1
amount_number Rows = 2
amount_number Tables = 3

-- The number of a refusal, and its value: an event, an amount or a style.
abbrev pub numbered : Refusal → ℕ × ℕ
numbered (refused.Kind event) = (1, event)
numbered (refused.Nesting event) = (2, event)
numbered (refused.Ruler event) = (3, event)
numbered (refused.Amount amount) = (4, amount_number amount)
numbered (refused.Style style) = (9, style)

-- A refusal as it is printed: its number, and behind a space its value.
abbrev pub refusal_text : Refusal → List ℕ
refusal_text e = decimal (numbered e).0 ++ (codes " " ++ decimal (numbered e).1)
