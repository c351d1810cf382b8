-- What the worked sheets are made of, and what is looked at in them.
use Rattle.std.specs.Prelude.{◌≡◌, ℕ, true, false, List, [], ◌∷◌, map, filter, replicate, nat_le, nat_lt, if◌then◌else◌, encode_utf8, codes}
use Rattle.std.specs.List.{range_with_len, enumerate_from}
use Rattle.columns.specs.Layout.{slots}
use Rattle.style.specs.Symbols.{symbol_of}
use Rattle.page.specs.declared.cells.Cell.{Cell}
use Rattle.page.specs.Cells.{fresh, inked}
use Rattle.events.specs.Styles.{defaults}
use Rattle.glyphs.specs.Rulings.{byte_ruling}
use Rattle.glyphs.specs.Glyphs.{sanitized}
use Rattle.wrap_laws.specs.Breaks.{Breaking}
use Rattle.records.specs.declared.kinds.Info.{Info}
use Rattle.blocks.specs.Pieces.{Line, table}
use Rattle.drawings.specs.declared.Area.{Area}
use Rattle.drawings.specs.Strokes.{Stroke, stroke}
use Rattle.drawings.specs.Pages.{painted}
use Rattle.markdown.specs.declared.tables.TableLayout.{TableLayout}
use Rattle.markdown.specs.Sheets.{Sheet, sheet}
use Rattle.markdown.specs.Tables.{table_placed}

-- The glyphs of a text by the byte ruler, in the default style.
abbrev pub line : List ℕ → Line
line bytes = sanitized byte_ruling defaults.base bytes

-- An entry of n narrow glyphs.
abbrev pub entry : ℕ → Line
entry n = line (replicate n 120)

-- A sheet of one table of n columns, aligned left and open, that is not streaming.
abbrev pub table_sheet : ℕ → List (List Line) → Sheet
table_sheet n rows =
    let info : Info = record { columns = n; alignments = 0; «open» = true } in
    sheet (table info rows ∷ []) defaults.table_border false

-- A sheet with a table whose widest entries are 5, 9 and 9 cells wide.
abbrev pub three_columns : Sheet
three_columns =
    table_sheet 3
    ((entry 5 ∷ entry 4 ∷ entry 9 ∷ []) ∷ (entry 2 ∷ entry 9 ∷ entry 1 ∷ []) ∷ [])

-- A sheet with a table of the header a, b and the row 10, 7.
abbrev pub two_columns : Sheet
two_columns =
    table_sheet 2
    (map line (codes "a" ∷ codes "b" ∷ []) ∷ map line (codes "10" ∷ codes "7" ∷ []) ∷ [])

-- By every breaking rule, the columns of a sheet's first table, whose natural widths are 5, 9 and 9,
-- get these widths on a page of w cells, and n cells are taken.
abbrev pub Tells : ℕ → Sheet → List ℕ → ℕ → Type 0
Tells w s widths n =
    (b : Breaking) (old : TableLayout) →
    (table_placed b 0 w s old).columns ≡
    record { count = 3; natural = slots (5 ∷ 9 ∷ 9 ∷ []); widths = slots widths; taken = n }

-- By each of two breaking rules.
abbrev pub Both : Breaking → Breaking → (Breaking → Type 0) → Type 0
Both b c P = P b × P c

-- The strokes of a drawing that fall off a page of w cells.
abbrev pub overhang : ℕ → List Stroke → List Stroke
overhang w ps = filter (λ p. nat_le w p.x) ps

-- The strokes of signs one below another at column x, from the top down, in the style of borders.
abbrev pub column_strokes : ℕ → List ℕ → List Stroke
column_strokes x signs =
    map (λ r. stroke x r.0 (encode_utf8 r.1) defaults.table_border) (enumerate_from 0 signs)

-- The cells of a fresh page of w by h cells, row by row, after a drawing was painted on all of it.
abbrev pub cell_rows : ℕ → ℕ → List Stroke → List (List Cell)
cell_rows w h ps =
    let all : Area = record { x = 0; y = 0; width = w; height = h } in
    let shown : ℕ → ℕ → Cell = painted all ps (λ _ _. fresh) in
    map (λ y. map (λ x. shown x y) (range_with_len 0 w)) (range_with_len 0 h)

-- Fresh cells on which signs stand, one on each: box signs in the style of borders, any other in the base style.
abbrev pub cells : List ℕ → List Cell
cells signs =
    map
    (λ c. inked (symbol_of (encode_utf8 c)) (if nat_lt c 128 then defaults.base else defaults.table_border) fresh)
    signs
