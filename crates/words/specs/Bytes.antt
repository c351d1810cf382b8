-- Byte strings in a line, and numbers and byte strings taken off a line's words.
use Rattle.std.specs.Prelude.{ℕ, ◌+◌, ◌-◌, ◌*◌, ◌/◌, ◌%◌, Bool, cond, ◌&&◌, ◌||◌, List, [], ◌∷◌, Ok, Err, codes, Result, nat_le}
use Rattle.std.specs.List.{flat_map}
use Rattle.std.specs.Str.{bytes_eq}
use Rattle.words.specs.declared.faults.Fault.{Fault}
use Rattle.words.specs.declared.faults.Fault.TheVariants.{MissingNumber, TooLarge, NotBytes, MissingBytes, TooManyWords}
use Rattle.words.specs.Numbers.{number_in}
use Rattle.words.specs.Outcomes.{and_then}

-- A hexadecimal digit is one of 0 to 9 and a to f.
abbrev pub is_hex : ℕ → Bool
is_hex c = (nat_le 48 c && nat_le c 57) || (nat_le 97 c && nat_le c 102)

-- The value of a hexadecimal digit.
abbrev pub hex_value : ℕ → ℕ
hex_value c = cond (nat_le c 57) (c - 48) (c - 87)

-- The bytes that pairs of hexadecimal digits write.
abbrev pub hex_in : List ℕ → Result (List ℕ) Fault
hex_in [] = Ok []
hex_in (a ∷ []) = Err NotBytes
hex_in (a ∷ b ∷ cs) = cond (is_hex a && is_hex b) (and_then (hex_in cs) (λ bs. Ok ((16 * hex_value a + hex_value b) ∷ bs))) (Err NotBytes)

-- The byte string that a word says: `-` says the empty one, and an empty word none.
abbrev pub bytes_in : List ℕ → Result (List ℕ) Fault
bytes_in [] = Err NotBytes
bytes_in (c ∷ cs) = cond (bytes_eq (c ∷ cs) (codes "-")) (Ok []) (hex_in (c ∷ cs))

-- The first of some words as a number of at most `most`.
abbrev pub first_number : ℕ → List (List ℕ) → Result ℕ Fault
first_number most [] = Err MissingNumber
first_number most (w ∷ ws) = number_in most TooLarge w

-- The first of some words as a byte string.
abbrev pub first_bytes : List (List ℕ) → Result (List ℕ) Fault
first_bytes [] = Err MissingBytes
first_bytes (w ∷ ws) = bytes_in w

-- No word is left.
abbrev pub ended : List (List ℕ) → Result (Unit {0}) Fault
ended [] = Ok tt
ended (w ∷ ws) = Err TooManyWords

-- A hexadecimal digit of a value below 16.
abbrev pub hex_digit : ℕ → ℕ
hex_digit n = cond (nat_le n 9) (48 + n) (87 + n)

-- Bytes as pairs of hexadecimal digits.
abbrev pub hex_of : List ℕ → List ℕ
hex_of bs = flat_map (λ b. hex_digit (b / 16) ∷ hex_digit (b % 16) ∷ []) bs

-- A byte string as it is printed: `-` for the empty one.
abbrev pub hex_text : List ℕ → List ℕ
hex_text [] = codes "-"
hex_text (b ∷ bs) = hex_of (b ∷ bs)
