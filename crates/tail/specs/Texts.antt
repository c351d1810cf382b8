-- Words for texts. A text is the list of its characters, each the number of a code point.
use Rattle.std.specs.Prelude.{ℕ, Bool, false, cond, ◌&&◌, List, [], ◌∷◌, length, drop, ◌==◌}
use Rattle.std.specs.List.{list_all, list_any}
use Rattle.std.specs.Char.{is_whitespace}

-- Every character passes the test.
abbrev pub all : (ℕ → Bool) → List ℕ → Bool
all p cs = list_all p cs

-- Some character passes the test.
abbrev pub any : (ℕ → Bool) → List ℕ → Bool
any p cs = list_any p cs

-- The test for one character.
abbrev pub is : ℕ → ℕ → Bool
is d c = c == d

-- What follows the longest front whose characters all pass.
abbrev pub past : (ℕ → Bool) → List ℕ → List ℕ
past p [] = []
past p (c ∷ cs) = cond (p c) (past p cs) (c ∷ cs)

-- The text without the longest end whose characters all pass.
abbrev pub before : (ℕ → Bool) → List ℕ → List ℕ
before p [] = []
before p (c ∷ cs) = cond (p c && all p cs) [] (c ∷ before p cs)

-- How long that end is.
abbrev pub at_end : (ℕ → Bool) → List ℕ → ℕ
at_end p [] = 0
at_end p (c ∷ cs) = cond (p c && all p cs) (length (c ∷ cs)) (at_end p cs)

-- Without the white space, Unicode's, at both ends.
abbrev pub trimmed : List ℕ → List ℕ
trimmed cs = before is_whitespace (past is_whitespace cs)

-- The first character is d.
abbrev pub starts_with : ℕ → List ℕ → Bool
starts_with d [] = false
starts_with d (c ∷ cs) = c == d

-- The last character is d.
abbrev pub ends_with : ℕ → List ℕ → Bool
ends_with d [] = false
ends_with d (c ∷ []) = c == d
ends_with d (c ∷ b ∷ cs) = ends_with d (b ∷ cs)

-- Without its last character.
abbrev pub front : List ℕ → List ℕ
front [] = []
front (c ∷ []) = []
front (c ∷ b ∷ cs) = c ∷ front (b ∷ cs)

-- Without one d at the start, if it has one there.
abbrev pub without_first : ℕ → List ℕ → List ℕ
without_first d cs = cond (starts_with d cs) (drop 1 cs) cs

-- Without one d at the end, if it has one there.
abbrev pub without_last : ℕ → List ℕ → List ℕ
without_last d cs = cond (ends_with d cs) (front cs) cs
