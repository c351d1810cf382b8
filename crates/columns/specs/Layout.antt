-- The answer to a column question, and the layout that it fills.
use Rattle.std.specs.Prelude.{ℕ, suc, ◌-◌, Bool, cond, List, [], ◌∷◌, ◌++◌, length, replicate, is_ok, Ok, Err, Result, nat_lt}
use Rattle.shares.specs.Shares.{naturals, widths, taken}
use Rattle.columns.specs.declared.ColumnLayout.{ColumnLayout}
use Rattle.columns.specs.declared.Refusal.{Refusal}
use Rattle.columns.specs.declared.Refusal.TheVariants.{TooManyColumns, TooWide}

-- Widths in the 32 slots of a layout: those beyond the count are 0.
abbrev pub slots : List ℕ → List ℕ
slots ws = ws ++ replicate (32 - length ws) 0

-- The first column from number i on that is wider than 100,000 cells is refused by its number.
abbrev pub first_too_wide : ℕ → List ℕ → Result (Unit {0}) Refusal
first_too_wide i [] = Ok tt
first_too_wide i (n ∷ ns) = cond (nat_lt 100000 n) (Err (TooWide i)) (first_too_wide (suc i) ns)

-- Refused: more than 32 columns, then the first column that is too wide.
abbrev pub answered : List ℕ → Result (Unit {0}) Refusal
answered ns = cond (nat_lt 32 (length ns)) (Err TooManyColumns) (first_too_wide 0 ns)

-- The layout of columns with these natural widths on a page of width w.
abbrev pub shared_out : ℕ → Bool → List ℕ → ColumnLayout
shared_out w growing ns = record { count = length ns; natural = slots ns; widths = slots (widths w growing ns); taken = taken w growing ns }

-- The layout of a table on a page of width w.
abbrev pub laid : ℕ → Bool → List ℕ → ColumnLayout
laid w growing ns = shared_out w growing (naturals ns)

-- What the lent place holds afterwards: the layout, or what it held where the question is refused.
abbrev pub filled : ℕ → Bool → List ℕ → ColumnLayout → ColumnLayout
filled w growing ns old = cond (is_ok (answered ns)) (laid w growing ns) old

-- A layout of no columns.
abbrev pub empty : ColumnLayout
empty = record { count = 0; natural = slots []; widths = slots []; taken = 0 }
