-- What the rules give to a call.
use Rattle.std.specs.Prelude.{◌≡◌, ℕ, ◌<◌, if◌then◌else◌, ⊤, [], is_some}
use Rattle.wrap_laws.specs.Breaks.{Breaking}
use Rattle.page.specs.Surfaces.{Page}
use Rattle.drawings.specs.declared.Area.{Area}
use Rattle.drawings.specs.Pages.{on_page, painted}
use Rattle.layout_laws.specs.Layouts.{table_at}
use Rattle.markdown.specs.declared.tables.TableLayout.{TableLayout}
use Rattle.markdown.specs.Sheets.{Sheet, Limits}
use Rattle.markdown.specs.Tables.{height_of, table_placed}
use Rattle.markdown.specs.Pictures.{picture}
use Rattle.markdown.specs.Outcomes.{Outcome, admitted, refused, load_outcome}
use Rattle.markdown.specs.Calls.{Load, Call, load, switch, question, height, paint, load_answer}

-- An answer.
pub data Answer : Type 0 where
  -- how a load ended
  load_ended : Outcome → Answer
  -- streaming is switched
  switch_ended : Answer
  -- how a table question ended, and the layout in the lent place then
  question_ended : Outcome → TableLayout → Answer
  -- the rows of the sheet
  height_is : ℕ → Answer
  -- how a paint ended, and the page then
  paint_ended : Outcome → Page → Answer

-- How a load, a table question and a paint end by the rules: 10 where there is no such table, 5 where the area passes the page's edge.
abbrev pub load_verdict : Limits → Load → Outcome
load_verdict limits l = load_outcome (load_answer limits l)

abbrev pub table_verdict : ℕ → Sheet → Outcome
table_verdict n s = if is_some (table_at s.blocks n) then admitted else refused 10 []

abbrev pub render_verdict : Area → ℕ → ℕ → Outcome
render_verdict a w h = if on_page a w h then admitted else refused 5 []

-- A page after a paint: its sides, and every cell.
pub record PageAfter (b : Breaking) (a : Area) (s : Sheet) (old new : Page) : Type 0 where
  pub wide : new.wide ≡ old.wide
  pub high : new.high ≡ old.high
  pub cells : (i j : ℕ) → new.cell i j ≡
      (if on_page a old.wide old.high then painted a (picture b a.width s) old.cell i j else old.cell i j)

-- What the rules give to a call of a sheet that holds s within its limits.
abbrev pub Gives : Limits → Sheet → Call → Answer → Type 0
Gives limits s (load l) (load_ended r) = r ≡ load_verdict limits l
Gives limits s (switch on) switch_ended = ⊤
Gives limits s (question b n w old) (question_ended r new) = (r ≡ table_verdict n s) × (new ≡ table_placed b n w s old)
Gives limits s (height b w) (height_is h) = h ≡ height_of b w s
Gives limits s (paint b a p) (paint_ended r q) = (r ≡ render_verdict a p.wide p.high) × PageAfter b a s p q
Gives limits s c a = ⊥

-- Two copies of one page: equal sides, and equal cells at the places inside.
pub record AreCopies (p q : Page) : Type 0 where
  pub wide : p.wide ≡ q.wide
  pub high : p.high ≡ q.high
  pub cells : (i j : ℕ) → i < p.wide → j < p.high → p.cell i j ≡ q.cell i j

-- Two answers are the same: outcome, layout, rows, and every cell of the page.
abbrev pub Same : Answer → Answer → Type 0
Same (load_ended q) (load_ended r) = q ≡ r
Same switch_ended switch_ended = ⊤
Same (question_ended q k) (question_ended r l) = (q ≡ r) × (k ≡ l)
Same (height_is h) (height_is k) = h ≡ k
Same (paint_ended q x) (paint_ended r y) = (q ≡ r) × AreCopies x y
Same a b = ⊥
