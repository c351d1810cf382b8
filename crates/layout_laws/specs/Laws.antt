-- What natural widths mean, in plain words.
use Rattle.std.specs.Prelude.{◌≡◌, ℕ, ◌<◌, ◌≤◌, List, [], length, map, slice_index, slice_index_or}
use Rattle.blocks.specs.Pieces.{Line}
use Rattle.layout_laws.specs.Layouts.{entry_width, natural_widths}

-- The width of the entry in row i and column k; 0 where there is none.
abbrev pub width_at : List (List Line) → ℕ → ℕ → ℕ
width_at rs i k = slice_index (map entry_width (slice_index_or rs i [])) k

-- No entry is wider than its column's natural width.
abbrev pub ColumnsHoldTheirEntries : Type 0
ColumnsHoldTheirEntries = (rs : List (List Line)) (i k : ℕ) → width_at rs i k ≤ slice_index (natural_widths rs) k

-- A column of more than one cell is as wide as one of its entries.
abbrev pub ColumnsAreNoWider : Type 0
ColumnsAreNoWider = (rs : List (List Line)) (k : ℕ) → 1 < slice_index (natural_widths rs) k → (i : ℕ) × (i < length rs) × (width_at rs i k ≡ slice_index (natural_widths rs) k)
