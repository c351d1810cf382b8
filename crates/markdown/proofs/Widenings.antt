-- Of two page widths the wider is no worse; and nothing has no rows.
use Rattle.std.proofs.Common.{◌≡◌, ℕ, ◌+◌, ◌-◌, Bool, true, false, cond, eqb, ◌&&◌, List, get_or, refl, ap, ◌∙◌, ⊎_elim, arith}
use Rattle.shares.proofs.Totals.{fed_naturals}
use Rattle.shares.proofs.Wider.{widths_wider}
use Rattle.layout_laws.specs.Layouts.{widest_entries, natural_widths, final_widths, table_rows, height, Table}
use Rattle.layout_laws.proofs.Wider.{table_wider, sheet_wider}
use Rattle.markdown.specs.declared.tables.TableLayout.{TableLayout}
use Rattle.markdown.specs.Sheets.{Sheet, Limits}
use Rattle.markdown.specs.Tables.{height_of}
use Rattle.markdown.specs.Laws.{WiderIsNoWorse, EmptyHasNoRows}
use Rattle.markdown.proofs.Told.{laid, same_table, told_are}

pub wider_is_no_worse : (limits : Limits) (s : Sheet) → WiderIsNoWorse limits s
wider_is_no_worse limits s =
    record {
      columns = λ b n v w k old narrow old' wide one le p q.
          let f = laid limits b s n v old narrow p in
          let g = laid limits b s n w old' wide q in
          let x = ap (λ (ws : List ℕ). get_or ws k 0) (told_are b s n v narrow f) in
          let y = ap (λ (ws : List ℕ). get_or ws k 0) (told_are b s n w wide g) in
          let z = ap (λ (t : Table). get_or (final_widths w (s.streaming && t.info.open) t.rows) k 0) (same_table b b s n v w narrow wide f g) in
          omega (arith, x, y, z, widths_wider v w (s.streaming && f.table.info.open) (natural_widths f.table.rows) k (fed_naturals (widest_entries f.table.rows)) le);
      rows = λ b n v w old narrow old' wide one le p q.
          let f = laid limits b s n v old narrow p in
          let g = laid limits b s n w old' wide q in
          let x = ap (λ (l : TableLayout). l.rows) f.layout in
          let y = ap (λ (l : TableLayout). l.rows) g.layout in
          let z = ap (λ (t : Table). table_rows b w (s.streaming && t.info.open) t.rows) (same_table b b s n v w narrow wide f g) in
          omega (arith, x, y, z, table_wider b v w (s.streaming && f.table.info.open) f.table.rows le);
      heights = λ b v w h k one le p q. omega (arith, p, q, sheet_wider b v w s.streaming s.blocks one le);
    }

no_rows : (c : Bool) → cond c 0 (0 + (0 - 1)) ≡ 0
no_rows true = refl
no_rows false = refl

pub empty_has_no_rows : (limits : Limits) (s : Sheet) → EmptyHasNoRows limits s
empty_has_no_rows limits s b w h nothing g = g ∙ ⊎_elim (λ e. ap (λ v. height_of b v s) e) (λ e. ap (λ ps. height b w s.streaming ps) e ∙ no_rows (eqb w 0)) nothing
