-- Words that are numbers.
use Rattle.std.specs.Prelude.{ℕ, ◌+◌, ◌-◌, ◌*◌, Bool, false, cond, List, [], ◌∷◌, Ok, Err, Result, nat_le}
use Rattle.std.specs.Str.{all_ascii_digits}
use Rattle.words.specs.declared.faults.Fault.{Fault}
use Rattle.words.specs.declared.faults.Fault.TheVariants.{NotANumber}

-- The number n with decimal digits written behind it.
abbrev pub extended : ℕ → List ℕ → ℕ
extended n [] = n
extended n (c ∷ cs) = extended (n * 10 + (c - 48)) cs

-- The number that decimal digits write.
abbrev pub numeral : List ℕ → ℕ
numeral cs = extended 0 cs

-- A number is one decimal digit or more, and nothing else.
abbrev pub is_number : List ℕ → Bool
is_number [] = false
is_number (c ∷ cs) = all_ascii_digits (c ∷ cs)

-- What a word says as a number of at most `most`, with the fault to give above that.
abbrev pub number_in : ℕ → Fault → List ℕ → Result ℕ Fault
number_in most above word = cond (is_number word) (cond (nat_le (numeral word) most) (Ok (numeral word)) (Err above)) (Err NotANumber)
