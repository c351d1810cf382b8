use Rattle.std.specs.Prelude.{◌≡◌, ℕ, zero, suc, ◌+◌, ◌-◌, min, true, cond, ◌||◌, List, [], ◌∷◌, nat_lt}
use Rattle.std.proofs.Common.{arith}
use Rattle.std.proofs.lemmas.Bool.{cond_both}
use Rattle.page.specs.declared.cells.Cell.{Cell}
use Rattle.page.specs.Cells.{fresh, sound}
use Rattle.page.specs.Surfaces.{Page}

-- a window of w by h on a page from the corner x, y on, cut to what lies below
abbrev pub window_page : Page → ℕ → ℕ → ℕ → ℕ → Page
window_page p x y w h = record {
  wide = min w (p.wide - x);
  high = min h (p.high - y);
  cell = λ i j. p.cell (x + i) (y + j);
  narrow = omega (arith, p.narrow);
  short = omega (arith, p.short);
  tidy = λ i j. p.tidy (x + i) (y + j);
}

-- what a window hides: the cells left of its corner or above it, and then what the page below hides
abbrev pub window_rest : (ℕ → ℕ → Cell) → (List ℕ → ℕ → ℕ → Cell) → ℕ → ℕ → List ℕ → ℕ → ℕ → Cell
window_rest cell rest x y [] i j = cond (nat_lt i x || nat_lt j y) (cell i j) fresh
window_rest cell rest x y (k ∷ p) i j = rest p i j

-- the cells of two pages side by side: the left page's up to its width w, then the right page's
abbrev pub pair_cell : ℕ → (ℕ → ℕ → Cell) → (ℕ → ℕ → Cell) → ℕ → ℕ → Cell
pair_cell w left right i j = cond (nat_lt i w) (left i j) (right (i - w) j)

-- two pages side by side: widths added up to 65,535, as high as the lower
abbrev pub pair_page : Page → Page → Page
pair_page l r = record {
  wide = min 65535 (l.wide + r.wide);
  high = min l.high r.high;
  cell = pair_cell l.wide l.cell r.cell;
  narrow = omega arith;
  short = omega (arith, l.short);
  tidy = λ i j. cond_both (nat_lt i l.wide) (l.cell i j) (r.cell (i - l.wide) j) (λ c. sound c ≡ true) (λ e. l.tidy i j) (λ e. r.tidy (i - l.wide) j);
}

-- what a pair hides: what the left page has past its width w, and then what each page hides
abbrev pub pair_rest : ℕ → (ℕ → ℕ → Cell) → (List ℕ → ℕ → ℕ → Cell) → (List ℕ → ℕ → ℕ → Cell) → List ℕ → ℕ → ℕ → Cell
pair_rest w left left_rest right_rest [] i j = left (w + i) j
pair_rest w left left_rest right_rest (zero ∷ p) i j = left_rest p i j
pair_rest w left left_rest right_rest (suc k ∷ p) i j = right_rest p i j
