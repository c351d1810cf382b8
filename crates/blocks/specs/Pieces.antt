-- The blocks of a sheet as lists.
use Rattle.std.specs.Prelude.{ℕ, List, [], ◌∷◌, ◌++◌, take, replicate}
use Rattle.glyphs.specs.declared.Glyph.{Glyph}
use Rattle.records.specs.declared.kinds.Info.{Info}

-- A line, or a table's entry: its glyphs.
abbrev pub Line : Type 0
Line = List Glyph

-- A block: the lines of a text, or what a table was told and its rows, the header first, each a list of entries.
pub data Piece : Type 0 where
  text : List Line → Piece
  table : Info → List (List Line) → Piece

-- A line before lines that were trimmed: an empty one goes if nothing is left behind it.
abbrev pub keep : Line → List Line → List Line
keep [] [] = []
keep [] (l ∷ ls) = [] ∷ l ∷ ls
keep (g ∷ gs) ls = (g ∷ gs) ∷ ls

-- The lines without the empty ones at their end.
abbrev pub trim : List Line → List Line
trim [] = []
trim (l ∷ ls) = keep l (trim ls)

-- The text of these lines, or no block if there are none.
abbrev pub texts : List Line → List Piece
texts [] = []
texts (l ∷ ls) = text (l ∷ ls) ∷ []

-- A stretch of text gives its trimmed lines, a table itself.
abbrev pub settle : Piece → List Piece
settle (text ls) = texts (trim ls)
settle (table i rs) = table i rs ∷ []

-- The blocks that stretches and tables give.
abbrev pub settled : List Piece → List Piece
settled [] = []
settled (p ∷ ps) = settle p ++ settled ps

-- A row as it is kept: the 32 entries for which it has room, empty ones behind those that came.
abbrev pub padded : List Line → List Line
padded row = take 32 (row ++ replicate 32 [])

-- A row of n entries: the first n, empty ones for those that did not come.
abbrev pub resized : ℕ → List Line → List Line
resized n row = take n (padded row)
