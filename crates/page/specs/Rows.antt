use Rattle.std.specs.Prelude.{ℕ, Bool, cond, is_ok}
use Rattle.std.proofs.Common.{arith}
use Rattle.page.specs.declared.cells.Cell.{Cell}
use Rattle.page.specs.Cells.{tidy}
use Rattle.page.specs.Refusals.{memory_answer}
use Rattle.page.specs.Surfaces.{Page, shown}
use Rattle.page.specs.Laws.{tidy-sound, shown-sound, wide_le, high_le}

-- whether m lent of n needed make a page of w by h
abbrev pub fits : ℕ → ℕ → ℕ → ℕ → Bool
fits w h n m = is_ok (memory_answer w h n m)

-- the page of w by h that shows the cells f of memory row by row; it has no place where the memory does not make it
abbrev pub rows_page : ℕ → ℕ → ℕ → ℕ → (ℕ → Cell) → Page
rows_page w h n m f = record {
  wide = cond (fits w h n m) w 0;
  high = cond (fits w h n m) h 0;
  cell = shown (cond (fits w h n m) w 0) (cond (fits w h n m) h 0) (λ k. tidy (f k));
  narrow = omega (arith, wide_le w h n m);
  short = omega (arith, high_le w h n m);
  tidy = shown-sound (cond (fits w h n m) w 0) (cond (fits w h n m) h 0) (λ k. tidy (f k)) (λ k. tidy-sound (f k));
}
