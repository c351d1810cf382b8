-- What blocks account for.
use Rattle.std.specs.Prelude.{◌≡◌, ℕ, ◌+◌, ◌<◌, ◌≤◌, List, [], ◌∷◌, length}
use Rattle.std.specs.List.{AllByRecursion}
use Rattle.blocks.specs.Pieces.{Line, Piece, text, table, trim}
use Rattle.blocks.specs.Needs.{Needs, needs}

-- The glyphs of lines, or of a row's entries.
abbrev pub glyphs_in : List Line → ℕ
glyphs_in [] = 0
glyphs_in (l ∷ ls) = length l + glyphs_in ls

-- The glyphs of rows.
abbrev pub glyphs_over : List (List Line) → ℕ
glyphs_over [] = 0
glyphs_over (r ∷ rs) = glyphs_in r + glyphs_over rs

-- The records of one block.
abbrev pub weigh : Piece → Needs
weigh (text ls) = needs (glyphs_in ls) (length ls) 0 0
weigh (table i rs) = needs (glyphs_over rs) 0 (length rs) 1

-- The records of blocks, added up.
abbrev pub account : List Piece → Needs
account [] = needs 0 0 0 0
account (p ∷ ps) = needs ((weigh p).glyphs + (account ps).glyphs) ((weigh p).lines + (account ps).lines) ((weigh p).rows + (account ps).rows) ((weigh p).tables + (account ps).tables)

-- A table has 1 to 32 columns, and each of its rows an entry for each of them.
abbrev pub Even : Piece → Type 0
Even (text ls) = Unit {0}
Even (table i rs) = (1 ≤ i.columns) × (i.columns ≤ 32) × AllByRecursion (λ row. length row ≡ i.columns) rs

-- A text has a line, and its last line is not empty.
abbrev pub Solid : Piece → Type 0
Solid (text ls) = (0 < length ls) × (trim ls ≡ ls)
Solid (table i rs) = Unit {0}
