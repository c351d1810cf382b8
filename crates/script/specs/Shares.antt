-- The command that asks for the columns of a table.
use Rattle.std.specs.Prelude.{ℕ, ◌-◌, ◌^◌, Bool, List, [], ◌∷◌, ◌++◌, take, Ok, Err, vec_items, codes, decimal, Result}
use Rattle.std.specs.List.{flat_map}
use Rattle.columns.specs.declared.ColumnLayout.{ColumnLayout}
use Rattle.columns.specs.declared.Refusal.{Refusal}
use Rattle.columns.specs.declared.Refusal.TheVariants as refusal
use Rattle.columns.specs.Layout.{answered, laid}
use Rattle.words.specs.declared.faults.Fault.{Fault}
use Rattle.words.specs.declared.faults.Fault.TheVariants.{MissingNumber, TooWide, TooManyColumns}
use Rattle.script.specs.declared.columns_command.ColumnsCommand.{ColumnsCommand}
use Rattle.words.specs.Numbers.{number_in}
use Rattle.words.specs.Outcomes.{and_then}
use Rattle.words.specs.Pieces.{leads, past}

-- What a line asks for: the page width, whether the table is still growing, and the natural widths.
pub record Asked : Type 0 where
  pub width : ℕ
  pub growing : Bool
  pub natural : List ℕ

-- The same of a command that was read.
abbrev pub asked : ColumnsCommand → Asked
asked c = record { width = c.width; growing = c.growing; natural = vec_items c.natural }

-- The natural widths that words say, which fit 32 bits.
abbrev pub naturals_in : List (List ℕ) → Result (List ℕ) Fault
naturals_in [] = Ok []
naturals_in (w ∷ ws) = and_then (number_in (2 ^ 32 - 1) TooWide w) (λ n. and_then (naturals_in ws) (λ ns. Ok (n ∷ ns)))

-- The rest of a line behind `columns`: a width that fits 16 bits, perhaps the word `streaming`, and the natural widths.
abbrev pub columns_in : List (List ℕ) → Result Asked Fault
columns_in [] = Err MissingNumber
columns_in (w ∷ ws) = and_then (number_in (2 ^ 16 - 1) TooWide w) (λ width. and_then (naturals_in (past (codes "streaming") ws)) (λ ns. Ok (record { width = width; growing = leads (codes "streaming") ws; natural = ns })))

-- Numbers in decimal, each behind a space.
abbrev pub spaced : List ℕ → List ℕ
spaced ns = flat_map (λ n. 32 ∷ decimal n) ns

-- The line that answers: the page width, the widths of the columns and the number of cells taken away.
abbrev pub columns_line : ℕ → ColumnLayout → List ℕ
columns_line width layout = codes "columns " ++ (decimal width ++ (codes " widths" ++ (spaced (take layout.count layout.widths) ++ (codes " taken " ++ decimal layout.taken))))

-- The fault that a refusal of the shares is to a line.
abbrev pub fault_of : Refusal → Fault
fault_of refusal.TooManyColumns = TooManyColumns
fault_of (refusal.TooWide column) = TooWide

-- A line where the shares are answered, and a fault where they are refused.
abbrev pub answer_or : Result (Unit {0}) Refusal → List ℕ → Result (List ℕ) Fault
answer_or (Ok t) line = Ok line
answer_or (Err e) line = Err (fault_of e)

-- What is printed for a command.
abbrev pub shares_answer : Asked → Result (List ℕ) Fault
shares_answer a = answer_or (answered a.natural) (columns_line a.width (laid a.width a.growing a.natural))
