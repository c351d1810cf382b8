use Rattle.std.proofs.Common.{◌≡◌, ℕ, ◌+◌, ◌<◌, true, cond, eqb, List, length, set, replicate, sym, ap, ◌∙◌, ⊎_elim, arith}
use Rattle.std.proofs.lemmas.List.{get_or-set_same, get_or-set_other, get_or-replicate}
use Rattle.std.proofs.lemmas.Bool.{cases_eq, cond-true, cond-false, cond_both, eq-eqb, ne_eqb}
use Rattle.page.specs.declared.cells.Cell.{Cell}
use Rattle.page.specs.Cells.{fresh, no_cell, sound}
use Rattle.grid.specs.Memory.{cell_at}

-- the records of lent cells after a write
pub cell_at-set : (cells : List Cell) (i : ℕ) (v : Cell) → i < length cells → (k : ℕ) → cell_at (set cells i v) k ≡ cond (eqb k i) v (cell_at cells k)
cell_at-set cells i v h k =
    ⊎_elim
    (λ e. ap (λ n. cell_at (set cells i v) n) e ∙ get_or-set_same cells i v no_cell h ∙ sym (cond-true (eqb k i) v (cell_at cells k) (eq-eqb k i e)))
    (λ ne. get_or-set_other cells i k v no_cell ne ∙ sym (cond-false (eqb k i) v (cell_at cells k) (ne_eqb k i ne)))
    (cases_eq k i)

-- a write leaves what lies beyond
pub cell_at_beyond : (cells : List Cell) (i n : ℕ) (v : Cell) → i < n → (k : ℕ) → cell_at (set cells i v) (n + k) ≡ cell_at cells (n + k)
cell_at_beyond cells i n v h k = get_or-set_other cells i (n + k) v no_cell (λ e. omega arith)

-- a cell written among cells
pub sound-set : (cells : List Cell) (i n : ℕ) (v : Cell) → i < length cells → sound v ≡ true → ((k : ℕ) → k < n → sound (cell_at cells k) ≡ true) → (k : ℕ) → k < n → sound (cell_at (set cells i v) k) ≡ true
sound-set cells i n v h s each k l =
    ap sound (cell_at-set cells i v h k) ∙ cond_both (eqb k i) v (cell_at cells k) (λ c. sound c ≡ true) (λ _. s) (λ _. each k l)

pub cell_at-fresh : (n k : ℕ) → k < n → cell_at (replicate n fresh) k ≡ fresh
cell_at-fresh n k l = get_or-replicate n k fresh no_cell l
