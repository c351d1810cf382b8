-- The lines of a text.
use Rattle.std.specs.Prelude.{ℕ, cond, List, [], ◌∷◌, ◌==◌}

-- Puts a character in front of the first piece.
abbrev pub onto : ℕ → List (List ℕ) → List (List ℕ)
onto c [] = []
onto c (l ∷ ls) = (c ∷ l) ∷ ls

-- What stands between the characters d. A text without any is one piece.
abbrev pub parts : ℕ → List ℕ → List (List ℕ)
parts d [] = [] ∷ []
parts d (c ∷ cs) = cond (c == d) ([] ∷ parts d cs) (onto c (parts d cs))

-- What stands between line feeds. A text without any is one line.
abbrev pub lines_of : List ℕ → List (List ℕ)
lines_of cs = parts 10 cs
