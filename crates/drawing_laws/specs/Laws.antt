-- What a drawing means, in plain words.
use Rattle.std.specs.Prelude.{◌≡◌, ℕ, ◌+◌, ◌*◌, ◌≤◌, List, [], ◌∷◌, ◌++◌, Some, length, sum, take}
use Rattle.std.specs.List.{slice_get}
use Rattle.style.specs.declared.Style.{Style}
use Rattle.wrap_laws.specs.Breaks.{Breaking}
use Rattle.records.specs.declared.kinds.Info.{Info}
use Rattle.records.specs.Alignments.{alignment}
use Rattle.blocks.specs.Pieces.{Line}
use Rattle.drawings.specs.Strokes.{Stroke, stroke, line_strokes}
use Rattle.drawings.specs.Tables.{bar, borders_from, entries_from}

-- In each row of a table row border k stands behind the columns before it, each with three cells of its own.
abbrev pub BordersStandBehindTheirColumns : Type 0
BordersStandBehindTheirColumns = (t : Style) (x y k : ℕ) (ws : List ℕ) → k ≤ length ws → slice_get (borders_from t x y ws) k ≡ Some (stroke (x + (sum (take k ws) + 3 * k)) y bar t)

-- The entries of a row from column k on, the border at whose left stands at x, each aligned by its own two bits.
abbrev pub entries_by : Breaking → Info → ℕ → ℕ → ℕ → List ℕ → List Line → List Stroke
entries_by b i k x y [] es = []
entries_by b i k x y (w ∷ ws) [] = []
entries_by b i k x y (w ∷ ws) (e ∷ es) = line_strokes b (alignment i k) w (x + 2) y e ++ entries_by b i (k + 1) (x + (w + 3)) y ws es

-- Each column of a table is aligned by bits 2i and 2i + 1 of what the table was told.
abbrev pub ColumnsAlignByTheirBits : Type 0
ColumnsAlignByTheirBits = (b : Breaking) (i : Info) (x y : ℕ) (ws : List ℕ) (es : List Line) → entries_from b i.alignments x y ws es ≡ entries_by b i 0 x y ws es
