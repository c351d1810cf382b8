-- What an answered table question tells.
use Rattle.std.proofs.Common.{◌≡◌, ℕ, cond, ◌&&◌, [], Some, None, Option, refl, sym, ap, ◌∙◌}
use Rattle.std.specs.Option.{is_some}
use Rattle.wrap_laws.specs.Breaks.{Breaking}
use Rattle.layout_laws.specs.Layouts.{final_widths, Table, table_at}
use Rattle.paint.proofs.TableSteps.{told_widths}
use Rattle.markdown.specs.declared.tables.TableLayout.{TableLayout}
use Rattle.markdown.specs.Sheets.{Sheet, Limits}
use Rattle.markdown.specs.Tables.{placed, laid_out}
use Rattle.markdown.specs.Outcomes.{admitted, refused}
use Rattle.markdown.specs.Calls.{question}
use Rattle.markdown.specs.Replies.{question_ended, Gives}
use Rattle.markdown.specs.Laws.{widths_in}

-- there is such a table, and it is laid out
pub record Laid (b : Breaking) (s : Sheet) (n w : ℕ) (new : TableLayout) : Type 0 where
  pub table : Table
  pub found : table_at s.blocks n ≡ Some table
  pub layout : new ≡ laid_out b w s table

laid_at : (b : Breaking) (s : Sheet) (n w : ℕ) (old new : TableLayout) (o : Option Table) → table_at s.blocks n ≡ o → admitted ≡ cond (is_some o) admitted (refused 10 []) → new ≡ placed b w s o old → Laid b s n w new
laid_at b s n w old new None e a p = absurd (cc)
laid_at b s n w old new (Some t) e a p = record { table = t; found = e; layout = p }

pub laid : (limits : Limits) (b : Breaking) (s : Sheet) (n w : ℕ) (old new : TableLayout) → Gives limits s (question b n w old) (question_ended admitted new) → Laid b s n w new
laid limits b s n w old new g = laid_at b s n w old new (table_at s.blocks n) refl g.0 g.1

some_same : (t u : Table) → ◌≡◌ {A = Option Table} (Some t) (Some u) → t ≡ u
some_same t u e = cc

-- at two widths it is the same table
pub same_table : (b c : Breaking) (s : Sheet) (n v w : ℕ) (narrow wide : TableLayout) → (f : Laid b s n v narrow) → (g : Laid c s n w wide) → f.table ≡ g.table
same_table b c s n v w narrow wide f g = some_same f.table g.table (sym f.found ∙ g.found)

-- the widths that are told
pub told_are : (b : Breaking) (s : Sheet) (n w : ℕ) (new : TableLayout) (f : Laid b s n w new) → widths_in new ≡ final_widths w (s.streaming && f.table.info.open) f.table.rows
told_are b s n w new f = told_widths new.columns w (s.streaming && f.table.info.open) f.table.rows (ap (λ (l : TableLayout). l.columns) f.layout)
