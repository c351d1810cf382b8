-- What is true of a sheet, whatever its past, over every breaking rule and every page.
-- All of it is said of answers: of what a table question and a height tell, and of the page after a paint. Of the sheet a reader needs which table
-- has which number, and how wide an entry is.
use Rattle.std.specs.Prelude.{◌≡◌, ℕ, ◌+◌, ◌<◌, ◌≤◌, ◌⊎◌, max, true, List, [], ◌∷◌, map, length, sum, take, Some, slice_index}
use Rattle.std.specs.List.{range_with_len}
use Rattle.shares.specs.Shares.{budget}
use Rattle.wrap_laws.specs.Breaks.{Breaking}
use Rattle.page.specs.Surfaces.{Page}
use Rattle.style.specs.Styles.{known_colours}
use Rattle.style.specs.Symbols.{symbol_of}
use Rattle.page.specs.Cells.{inked}
use Rattle.records.specs.declared.kinds.Info.{Info}
use Rattle.blocks.specs.Pieces.{Line, Piece, table}
use Rattle.drawings.specs.Tables.{upper}
use Rattle.layout_laws.specs.Layouts.{entry_width, Table, table_at}
use Rattle.drawings.specs.declared.Area.{Area}
use Rattle.markdown.specs.declared.tables.TableLayout.{TableLayout}
use Rattle.markdown.specs.Sheets.{Sheet, Limits}
use Rattle.markdown.specs.Outcomes.{Outcome, admitted}
use Rattle.markdown.specs.Calls.{question, height, paint}
use Rattle.markdown.specs.Replies.{question_ended, height_is, paint_ended, Gives, AreCopies}

-- How many columns rows of entries have: as many as the longest row has entries, at least one.
abbrev pub column_count : List (List Line) → ℕ
column_count [] = 1
column_count (row ∷ rows) = max (length row) (column_count rows)

-- The widest entry of column k, by its glyphs' widths; a blank column counts as one.
abbrev pub widest_entry : List (List Line) → ℕ → ℕ
widest_entry [] k = 1
widest_entry (row ∷ rows) k = max (slice_index (map entry_width row) k) (widest_entry rows k)

-- The widest entry of each column of a table, the leftmost column first.
abbrev pub widest_entries_of : Table → List ℕ
widest_entries_of t = map (widest_entry t.rows) (range_with_len 0 (column_count t.rows))

-- The cells that a page of width w leaves to the columns of a table.
abbrev pub budget_of : ℕ → Table → ℕ
budget_of w t = budget w (column_count t.rows)

-- The cells that the columns get by a layout.
abbrev pub widths_in : TableLayout → List ℕ
widths_in l = take l.columns.count l.columns.widths

-- Widths ws share b cells out among columns whose widest entries are ns.
pub record Shares (b : ℕ) (ns ws : List ℕ) : Type 0 where
  -- as many widths as columns
  pub long : length ws ≡ length ns
  -- the larger of budget and column count is shared out
  pub total : sum ws ≡ max b (length ns)
  -- each column gets at least one cell
  pub fed : (k : ℕ) → k < length ns → 1 ≤ slice_index ws k
  -- and at most its widest entry
  pub within : (k : ℕ) → k < length ns → slice_index ws k ≤ slice_index ns k
  -- a column below its widest entry is at most one cell narrower than any other
  pub level : (i j : ℕ) → i < length ns → j < length ns → slice_index ws i < slice_index ns i →
      slice_index ws j ≤ slice_index ws i + 1
  -- and only than columns to its left
  pub leftmost : (i j : ℕ) → i < length ns → j < length ns → slice_index ws i < slice_index ns i →
      slice_index ws i < slice_index ws j → j < i

-- A table that needs more than the page's budget shares it out, and every other list of as many widths breaks a sentence of Shares.
pub record SharesOut (limits : Limits) (s : Sheet) : Type 0 where
  pub shares : (b : Breaking) (n w : ℕ) (t : Table) (old new : TableLayout) →
      table_at s.blocks n ≡ Some t → Gives limits s (question b n w old) (question_ended admitted new) →
      budget_of w t < sum (widest_entries_of t) → Shares (budget_of w t) (widest_entries_of t) (widths_in new)
  pub only : (b : Breaking) (n w : ℕ) (t : Table) (old new : TableLayout) →
      table_at s.blocks n ≡ Some t → Gives limits s (question b n w old) (question_ended admitted new) →
      budget_of w t < sum (widest_entries_of t) →
      (ws : List ℕ) → Shares (budget_of w t) (widest_entries_of t) ws → ws ≡ widths_in new

-- Of two page widths from 1 up, the wider gives no table column fewer cells, no table more rows, the sheet no greater height.
pub record WiderIsNoWorse (limits : Limits) (s : Sheet) : Type 0 where
  pub columns : (b : Breaking) (n v w k : ℕ) (old narrow old' wide : TableLayout) → 1 ≤ v → v ≤ w →
      Gives limits s (question b n v old) (question_ended admitted narrow) →
      Gives limits s (question b n w old') (question_ended admitted wide) →
      slice_index (widths_in narrow) k ≤ slice_index (widths_in wide) k
  pub rows : (b : Breaking) (n v w : ℕ) (old narrow old' wide : TableLayout) → 1 ≤ v → v ≤ w →
      Gives limits s (question b n v old) (question_ended admitted narrow) →
      Gives limits s (question b n w old') (question_ended admitted wide) → wide.rows ≤ narrow.rows
  pub heights : (b : Breaking) (v w h k : ℕ) → 1 ≤ v → v ≤ w →
      Gives limits s (height b v) (height_is h) → Gives limits s (height b w) (height_is k) → k ≤ h

-- At width 0, and where there are no blocks, a sheet has no rows.
abbrev pub EmptyHasNoRows : Limits → Sheet → Type 0
EmptyHasNoRows limits s =
    (b : Breaking) (w h : ℕ) → (w ≡ 0) ⊎ (s.blocks ≡ []) → Gives limits s (height b w) (height_is h) → h ≡ 0

-- A place lies in an area.
pub record LiesIn (a : Area) (i j : ℕ) : Type 0 where
  pub left : a.x ≤ i
  pub right : i < a.x + a.width
  pub top : a.y ≤ j
  pub bottom : j < a.y + a.height

-- A paint changes only cells of its area, within the rows that the height counts; two admitted areas of equal corner and width that are
-- painted on two copies of one page show every cell of the shorter one alike, in all its parts; and where the first block is a table, the
-- corner of an area shows the table's upper left corner.
pub record PaintsInPlace (limits : Limits) (s : Sheet) : Type 0 where
  pub inside : (b : Breaking) (a : Area) (p q : Page) (r : Outcome) (h i j : ℕ) →
      Gives limits s (paint b a p) (paint_ended r q) → Gives limits s (height b a.width) (height_is h) →
      (LiesIn a i j × (j < a.y + h)) ⊎ (q.cell i j ≡ p.cell i j)
  pub alike : (b : Breaking) (a c : Area) (p q p' q' : Page) (i j : ℕ) →
      a.x ≡ c.x → a.y ≡ c.y → a.width ≡ c.width → a.height ≤ c.height → AreCopies p p' →
      Gives limits s (paint b a p) (paint_ended admitted q) →
      Gives limits s (paint b c p') (paint_ended admitted q') → LiesIn a i j → q.cell i j ≡ q'.cell i j
  pub corner : (b : Breaking) (a : Area) (p q : Page) (i : Info) (rows : List (List Line)) (ps : List Piece) →
      s.blocks ≡ table i rows ∷ ps → known_colours s.border ≡ true → 1 ≤ a.width → 1 ≤ a.height →
      Gives limits s (paint b a p) (paint_ended admitted q) →
      q.cell a.x a.y ≡ inked (symbol_of upper.left) s.border (p.cell a.x a.y)

-- What is true of a sheet that holds s.
pub record IsTrueOf (limits : Limits) (s : Sheet) : Type 0 where
  pub shares : SharesOut limits s
  pub wider : WiderIsNoWorse limits s
  pub empty : EmptyHasNoRows limits s
  pub painted : PaintsInPlace limits s
