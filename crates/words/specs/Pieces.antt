-- The words of a line.
use Rattle.std.specs.Prelude.{ℕ, Bool, false, cond, List, [], ◌∷◌, drop, Some, None, Option, ◌==◌}
use Rattle.std.specs.Borrow.{Bor}
use Rattle.std.specs.Str.{bytes_eq}
use Rattle.words.specs.declared.cursor.Words.{Words}

-- A byte put in front of the first word of a list.
abbrev pub prefixed : ℕ → List (List ℕ) → List (List ℕ)
prefixed c [] = (c ∷ []) ∷ []
prefixed c (w ∷ ws) = (c ∷ w) ∷ ws

-- The pieces of a line between its spaces: two spaces in a row have an empty word between them, and an empty line is one empty word.
abbrev pub words_of : List ℕ → List (List ℕ)
words_of [] = [] ∷ []
words_of (c ∷ cs) = cond (c == 32) ([] ∷ words_of cs) (prefixed c (words_of cs))

-- The words of what is left of a line, and none where nothing is left.
abbrev pub words_in : Option (Bor (List ℕ)) → List (List ℕ)
words_in None = []
words_in (Some s) = words_of s.now

-- The words that a cursor has still to give.
abbrev pub words_left : Words → List (List ℕ)
words_left w = words_in w.rest

-- Whether a word stands first.
abbrev pub leads : List ℕ → List (List ℕ) → Bool
leads word [] = false
leads word (w ∷ ws) = bytes_eq w word

-- What follows a word where it stands first, and else all.
abbrev pub past : List ℕ → List (List ℕ) → List (List ℕ)
past word ws = cond (leads word ws) (drop 1 ws) ws
