-- What a breaking rule is, and how many rows it gives. A place of a line counts its glyphs from 0; a row is the glyphs from its start up to its end.
use Rattle.std.specs.Prelude.{◌≡◌, ℕ, zero, suc, ◌+◌, ◌-◌, ◌<◌, ◌≤◌, min, max, Bool, true, cond, List, [], ◌∷◌, length, take, drop, nat_lt, slice_index_or}
use Rattle.glyphs.specs.declared.Glyph.{Glyph}
use Rattle.glyphs.specs.Glyphs.{is_space}

-- What is read past a line's end.
abbrev pub no_glyph : Glyph
no_glyph = record { symbol = record { bytes = 0; len = 0 }; width = 0; style = record { fg = 0; bg = 0; add = 0; remove = 0 } }

-- Whether the glyph at a place of a line is a space.
abbrev pub space_at : List Glyph → ℕ → Bool
space_at line k = is_space (slice_index_or line k no_glyph)

-- What a glyph counts in a row of w columns.
abbrev pub counted : ℕ → Glyph → ℕ
counted w g = min g.width w

-- What a list of glyphs counts in a row of w columns.
abbrev pub columns : ℕ → List Glyph → ℕ
columns w [] = 0
columns w (g ∷ gs) = counted w g + columns w gs

-- A rule's answers: from a line, a width and the start of a row to where it ends and where the next one starts.
abbrev pub Breaks : Type 0
Breaks = List Glyph → ℕ → ℕ → ℕ × ℕ

-- How many rows a line has from a start on, counted up to n.
abbrev pub rows_from : Breaks → List Glyph → ℕ → ℕ → ℕ → ℕ
rows_from b line w zero s = 0
rows_from b line w (suc n) s = cond (nat_lt s (length line)) (suc (rows_from b line w n (b line w s).1)) 0

-- How many rows a line has: an empty line is one row, and any other has at most one row for each glyph.
abbrev pub rows_by : Breaks → List Glyph → ℕ → ℕ
rows_by b line w = max 1 (rows_from b line w (length line) 0)

-- The meaning of a breaking rule: its answers, and the laws that they keep.
pub record Breaking : Type 0 where
  -- Where the row that starts at s ends, and where the next one starts.
  pub breaks : Breaks
  -- A row ends no earlier than its start and no later than the next start.
  pub ordered : (line : List Glyph) (w s : ℕ) → s < length line → (s ≤ (breaks line w s).0) × ((breaks line w s).0 ≤ (breaks line w s).1)
  -- The next start lies further on, at most at the line's end.
  pub onward : (line : List Glyph) (w s : ℕ) → s < length line → (s < (breaks line w s).1) × ((breaks line w s).1 ≤ length line)
  -- No row exceeds the width.
  pub narrow : (line : List Glyph) (w s : ℕ) → s < length line → columns w (take ((breaks line w s).0 - s) (drop s line)) ≤ w
  -- Only spaces are skipped.
  pub spaces : (line : List Glyph) (w s k : ℕ) → s < length line → (breaks line w s).0 ≤ k → k < (breaks line w s).1 → space_at line k ≡ true
  -- One more column never gives more rows.
  pub fewer : (line : List Glyph) (w : ℕ) → 1 ≤ w → rows_by breaks line (w + 1) ≤ rows_by breaks line w

-- The rows of a line from a start on, each by its start and its end, up to n of them.
abbrev pub places_from : Breaks → List Glyph → ℕ → ℕ → ℕ → List (ℕ × ℕ)
places_from b line w zero s = []
places_from b line w (suc n) s = cond (nat_lt s (length line)) ((s, (b line w s).0) ∷ places_from b line w n (b line w s).1) []

-- The rows of a line from a start on: at most one for each glyph that is left.
abbrev pub places : Breaking → List Glyph → ℕ → ℕ → List (ℕ × ℕ)
places b line w s = places_from b.breaks line w (length line - s) s

-- How many rows a line has at a width by a breaking rule.
abbrev pub rows : Breaking → List Glyph → ℕ → ℕ
rows b line w = rows_by b.breaks line w

-- Of two widths from 1 up the wider gives no more rows.
abbrev pub WiderNoMoreRows : Breaking → Type 0
WiderNoMoreRows b = (line : List Glyph) (v w : ℕ) → 1 ≤ v → v ≤ w → rows b line w ≤ rows b line v
