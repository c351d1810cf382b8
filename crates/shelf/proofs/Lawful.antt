use Rattle.std.proofs.Common.{◌≡◌, ℕ, zero, suc, ◌+◌, ◌*◌, ◌<◌, ◌≤◌, Bool, true, false, cond, not, ◌&&◌, ltb, List, Some, None, Option, refl, sym, ap, ◌∙◌, ⊎_elim, arith}
use Rattle.std.proofs.lemmas.Bool.{cases_eq, cases_Bool, cond-true, cond-false, lt-ltb, and_left}
use Rattle.std.specs.List.{find, range_with_len}
use Rattle.page.specs.Cells.{sound}
use Rattle.shelf.specs.Bytes.{cell_from, cell_bytes, tail_bytes, no_bytes, every, holds}
use Rattle.shelf.specs.Blocks.{slot_lawful, block_lawful, unlawful}
use Rattle.shelf.proofs.Tests.{every_not}

pub slot-used : (bs : List ℕ) (n k p : ℕ) (r : Bool) → k < n → sound (cell_from bs p) ≡ true → r ≡ holds bs p (cell_bytes (cell_from bs p)) → r ≡ slot_lawful bs n k p
slot-used bs n k p r l s e =
    e ∙ sym (ap (λ b. b && holds bs p (cell_bytes (cell_from bs p))) s)
    ∙ sym (cond-true (ltb k n) (sound (cell_from bs p) && holds bs p (cell_bytes (cell_from bs p))) (holds bs p no_bytes) (lt-ltb k n l))

-- the cell i of block b
abbrev pub cell_test : List ℕ → ℕ → ℕ → ℕ → Bool
cell_test bs n b i = slot_lawful bs n (31 * b + i) (512 * b + 16 * i)

pub block_not : (bs : List ℕ) (w h b i : ℕ) → i < 31 → cell_test bs (w * h) b i ≡ false → block_lawful bs w h b ≡ false
block_not bs w h b i l e = and_left (every 31 (cell_test bs (w * h) b)) (holds bs (512 * b + 496) (tail_bytes b w h)) (every_not 31 (cell_test bs (w * h) b) i l e)

pub block_tail : (bs : List ℕ) (w h b : ℕ) (r : Bool) → every 31 (cell_test bs (w * h) b) ≡ true → r ≡ holds bs (512 * b + 496) (tail_bytes b w h) → r ≡ block_lawful bs w h b
block_tail bs w h b r e f = f ∙ sym (ap (λ t. t && holds bs (512 * b + 496) (tail_bytes b w h)) e)

turned : (t : Bool) (x y : Option ℕ) → cond (not t) x y ≡ cond t y x
turned true x y = refl
turned false x y = refl

-- the search is the library's `find`
pub find-unlawful : (bs : List ℕ) (w h n b : ℕ) → find (λ k. not (block_lawful bs w h k)) (range_with_len b n) ≡ unlawful bs w h n b
unfolding unlawful
find-unlawful bs w h zero b = refl
find-unlawful bs w h (suc n) b =
    ap (cond (not (block_lawful bs w h b)) (Some b)) (find-unlawful bs w h n (b + 1)) ∙ turned (block_lawful bs w h b) (Some b) (unlawful bs w h n (b + 1))

-- where it finds none, every block is lawful
pub lawful_from : (bs : List ℕ) (w h n b : ℕ) → unlawful bs w h n b ≡ None → (k : ℕ) → b ≤ k → k < b + n → block_lawful bs w h k ≡ true
unfolding unlawful
lawful_from bs w h zero b e k l g = absurd (omega arith)
lawful_from bs w h (suc n) b e k l g =
    ⊎_elim
    (λ t. ⊎_elim (λ is. ap (block_lawful bs w h) is ∙ t)
    (λ ne. lawful_from bs w h n (b + 1) (sym (cond-true (block_lawful bs w h b) (unlawful bs w h n (b + 1)) (Some b) t) ∙ e) k (omega arith) (omega arith))
    (cases_eq k b))
    (λ f. let bad : Some b ≡ None = sym (cond-false (block_lawful bs w h b) (unlawful bs w h n (b + 1)) (Some b) f) ∙ e in let z : ◌≡◌ {A = ℕ} 0 1 = cc in absurd (omega arith))
    (cases_Bool (block_lawful bs w h b))
