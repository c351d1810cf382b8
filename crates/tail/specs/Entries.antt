-- The entries of a table line.
use Rattle.std.specs.Prelude.{ℕ, zero, suc, ◌%◌, Bool, true, false, cond, not, ◌&&◌, ◌||◌, List, [], ◌∷◌, length, ◌==◌}
use Rattle.std.specs.List.{list_all}
use Rattle.tail.specs.Texts.{all, is, at_end, trimmed, ends_with, front, without_first, without_last}
use Rattle.tail.specs.Lines.{onto}

-- The last character is a pipe after an even number of backslashes.
abbrev pub ends_in_pipe : List ℕ → Bool
ends_in_pipe cs = ends_with 124 cs && at_end (is 92) (front cs) % 2 == 0

-- Without a last pipe that stands after an even number of backslashes.
abbrev pub without_last_pipe : List ℕ → List ℕ
without_last_pipe cs = cond (ends_in_pipe cs) (front cs) cs

-- A line, trimmed, without the pipes that are decoration.
abbrev pub undecorated : List ℕ → List ℕ
undecorated l = without_last_pipe (without_first 124 (trimmed l))

-- What stands between pipes that no backslash escapes; b tells whether a backslash escapes the first character.
abbrev pub pieces : Bool → List ℕ → List (List ℕ)
pieces b [] = [] ∷ []
pieces true (c ∷ cs) = onto c (pieces false cs)
pieces false (c ∷ cs) = cond (c == 124) ([] ∷ pieces false cs) (onto c (pieces (c == 92) cs))

-- The entries of a line.
abbrev pub entries : List ℕ → List (List ℕ)
entries l = pieces false (undecorated l)

-- How many entries a line has.
abbrev pub cell_count : List ℕ → ℕ
cell_count l = length (entries l)

-- One or more hyphens, and nothing else.
abbrev pub hyphens : List ℕ → Bool
hyphens cs = not (length cs == 0) && all (is 45) cs

-- The entry, trimmed, is one or more hyphens with an optional colon at either end.
abbrev pub delimits : List ℕ → Bool
delimits e = hyphens (without_last 58 (without_first 58 (trimmed e)))

-- Every entry is such a one.
abbrev pub all_delimit : List (List ℕ) → Bool
all_delimit es = list_all delimits es

-- The line is a complete delimiter row for n entries.
abbrev pub complete : ℕ → List ℕ → Bool
complete n l = all_delimit (entries l) && cell_count l == n

-- A character of an unfinished delimiter row: pipe, hyphen, colon, space or tab.
abbrev pub delimiter_char : ℕ → Bool
delimiter_char c = c == 124 || (c == 45 || (c == 58 || (c == 32 || c == 9)))

-- The line could still become a delimiter row: once trimmed not empty, and only such characters.
abbrev pub unfinished : List ℕ → Bool
unfinished l = not (length (trimmed l) == 0) && all delimiter_char (trimmed l)

-- As often three hyphens and a pipe.
abbrev pub dashes : ℕ → List ℕ
dashes zero = []
dashes (suc n) = 45 ∷ 45 ∷ 45 ∷ 124 ∷ dashes n

-- The delimiter row of n entries.
abbrev pub delimiter_row : ℕ → List ℕ
delimiter_row n = 124 ∷ dashes n
