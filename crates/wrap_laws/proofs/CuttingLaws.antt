use Rattle.std.proofs.Common.{◌≡◌, ℕ, ◌+◌, ◌-◌, ◌<◌, ◌≤◌, true, List, length, take, drop, arith}
use Rattle.glyphs.specs.declared.Glyph.{Glyph}
use Rattle.wrap_laws.specs.Breaks.{columns, space_at, rows_by}
use Rattle.wrap_laws.specs.Rules.{cutting_break}
use Rattle.wrap_laws.proofs.Fitting.{misfit_no_earlier, misfit_no_later_than_end, misfit_further_on, misfit_columns}
use Rattle.wrap_laws.proofs.RowCounts.{fewer_rows}

pub cutting_ordered : (line : List Glyph) (w s : ℕ) → s < length line → (s ≤ (cutting_break line w s).0) × ((cutting_break line w s).0 ≤ (cutting_break line w s).1)
cutting_ordered line w s h = (omega arith, omega arith)

pub cutting_onward : (line : List Glyph) (w s : ℕ) → s < length line → (s < (cutting_break line w s).1) × ((cutting_break line w s).1 ≤ length line)
cutting_onward line w s h = (misfit_further_on line w s h, misfit_no_later_than_end line w s (omega arith))

pub cutting_narrow : (line : List Glyph) (w s : ℕ) → s < length line → columns w (take ((cutting_break line w s).0 - s) (drop s line)) ≤ w
cutting_narrow line w s h = misfit_columns line w s

pub cutting_spaces : (line : List Glyph) (w s k : ℕ) → s < length line → (cutting_break line w s).0 ≤ k → k < (cutting_break line w s).1 → space_at line k ≡ true
cutting_spaces line w s k h lo hi = absurd (omega arith)

pub cutting_fewer : (line : List Glyph) (w : ℕ) → 1 ≤ w → rows_by cutting_break line (w + 1) ≤ rows_by cutting_break line w
cutting_fewer line w h = fewer_rows cutting_break line w (λ s t k l. misfit_no_earlier line w s t h k)
