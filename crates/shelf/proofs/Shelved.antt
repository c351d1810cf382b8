use Rattle.std.proofs.Common.{◌≡◌, ℕ, ◌+◌, ◌*◌, ◌/◌, ◌%◌, ◌<◌, ◌≤◌, true, cond, eqb, ltb, length, get_or, sym, ap, ◌∙◌, ⊎_elim, arith}
use Rattle.std.proofs.lemmas.List.FromFn.{get_or-map-range_with_len, length-map-range_with_len}
use Rattle.std.proofs.lemmas.List.{get_or-replicate}
use Rattle.std.proofs.lemmas.Bool.{cases_lt, and_from, cond-true, cond-false, eq-eqb, lt-ltb, le-ltb}
use Rattle.page.specs.declared.cells.Cell.{Cell}
use Rattle.page.specs.Cells.{sound}
use Rattle.shelf.specs.Bytes.{at, slot, cell_from, cell_in, cell_bytes, tail_bytes, no_bytes, every, holds}
use Rattle.shelf.specs.Blocks.{blocks, shelf_length, Lawful, shelf_byte, shelved}
use Rattle.shelf.proofs.Tests.{every_from}
use Rattle.shelf.proofs.Lawful.{cell_test}
use Rattle.shelf.proofs.Slots.{cell_from_bytes, slot_lawful_bytes}
use Rattle.shelf.proofs.Kept.{sound_small}

-- the bytes of a page of w by h whose cells are f
module _ (w h : ℕ) (f : ℕ → Cell) where
  shelved-at : (k : ℕ) → k < shelf_length w h → at (shelved w h f) k ≡ shelf_byte w h f k
  shelved-at k l = get_or-map-range_with_len (shelf_byte w h f) 0 (shelf_length w h) k k 0 l (omega arith)

  shelved_cell : (b i j : ℕ) → b < blocks (w * h) → i < 31 → j < 16
      → at (shelved w h f) (512 * b + 16 * i + j) ≡ cond (ltb (31 * b + i) (w * h)) (get_or (cell_bytes (f (31 * b + i))) j 0) 0
  shelved_cell b i j lb li lj =
      let k : ℕ = 512 * b + 16 * i + j in
      let place : 31 * (k / 512) + k % 512 / 16 ≡ 31 * b + i = omega arith in
      let in-slot : k % 16 ≡ j = omega arith in
      shelved-at k (omega arith)
      ∙ cond-true (ltb (k % 512) 496) _ _ (lt-ltb (k % 512) 496 (omega arith))
      ∙ ap (λ m. cond (ltb m (w * h)) (get_or (cell_bytes (f m)) (k % 16) 0) 0) place
      ∙ ap (λ m. cond (ltb (31 * b + i) (w * h)) (get_or (cell_bytes (f (31 * b + i))) m 0) 0) in-slot

  shelved_tail : (b j : ℕ) → b < blocks (w * h) → j < 16 → at (shelved w h f) (512 * b + 496 + j) ≡ get_or (tail_bytes b w h) j 0
  shelved_tail b j lb lj =
      let k : ℕ = 512 * b + 496 + j in
      let block : k / 512 ≡ b = omega arith in
      let in-slot : k % 16 ≡ j = omega arith in
      shelved-at k (omega arith)
      ∙ cond-false (ltb (k % 512) 496) _ _ (le-ltb (k % 512) 496 (omega arith))
      ∙ ap (λ m. get_or (tail_bytes m w h) (k % 16) 0) block
      ∙ ap (λ m. get_or (tail_bytes b w h) m 0) in-slot

  pub length-shelved : length (shelved w h f) ≡ shelf_length w h
  length-shelved = length-map-range_with_len (shelf_byte w h f) 0 (shelf_length w h)

  module _ (good : (k : ℕ) → k < w * h → sound (f k) ≡ true) where
    used : (b i : ℕ) → b < blocks (w * h) → i < 31 → 31 * b + i < w * h → (j : ℕ) → j < 16 → at (shelved w h f) (512 * b + 16 * i + j) ≡ get_or (cell_bytes (f (31 * b + i))) j 0
    used b i lb li on j lj =
        shelved_cell b i j lb li lj ∙ cond-true (ltb (31 * b + i) (w * h)) (get_or (cell_bytes (f (31 * b + i))) j 0) 0 (lt-ltb (31 * b + i) (w * h) on)

    -- its cells are read back
    pub cell_in-shelved : (k : ℕ) → k < w * h → cell_in (shelved w h f) k ≡ f k
    cell_in-shelved k on =
        let b : ℕ = k / 31 in
        let i : ℕ = k % 31 in
        let is : 31 * b + i ≡ k = omega arith in
        let lb : b < blocks (w * h) = omega arith in
        let li : i < 31 = omega arith in
        let from : slot k ≡ 512 * b + 16 * i = omega arith in
        let on' : 31 * b + i < w * h = omega arith in
        ap (cell_from (shelved w h f)) from
        ∙ cell_from_bytes (shelved w h f) (512 * b + 16 * i) (f (31 * b + i)) (used b i lb li on') (sound_small (f (31 * b + i)) (good (31 * b + i) on'))
        ∙ ap f is

    unused : (b i : ℕ) → b < blocks (w * h) → i < 31 → w * h ≤ 31 * b + i → holds (shelved w h f) (512 * b + 16 * i) no_bytes ≡ true
    unused b i lb li off =
        every_from 16 (λ j. eqb (at (shelved w h f) (512 * b + 16 * i + j)) (get_or no_bytes j 0))
        (λ j lj. eq-eqb (at (shelved w h f) (512 * b + 16 * i + j)) (get_or no_bytes j 0)
        (shelved_cell b i j lb li lj ∙ cond-false (ltb (31 * b + i) (w * h)) (get_or (cell_bytes (f (31 * b + i))) j 0) 0 (le-ltb (31 * b + i) (w * h) off)
        ∙ sym (get_or-replicate 16 j 0 0 lj)))

    cell_lawful : (b i : ℕ) → b < blocks (w * h) → i < 31 → cell_test (shelved w h f) (w * h) b i ≡ true
    cell_lawful b i lb li =
        ⊎_elim
        (λ on. slot_lawful_bytes (shelved w h f) (512 * b + 16 * i) (f (31 * b + i)) (used b i lb li on) (sound_small (f (31 * b + i)) (good (31 * b + i) on)) (w * h) (31 * b + i) on (good (31 * b + i) on))
        (λ off. cond-false (ltb (31 * b + i) (w * h)) _ (holds (shelved w h f) (512 * b + 16 * i) no_bytes) (le-ltb (31 * b + i) (w * h) off) ∙ unused b i lb li off)
        (cases_lt (31 * b + i) (w * h))

    tail_lawful : (b : ℕ) → b < blocks (w * h) → holds (shelved w h f) (512 * b + 496) (tail_bytes b w h) ≡ true
    tail_lawful b lb =
        every_from 16 (λ j. eqb (at (shelved w h f) (512 * b + 496 + j)) (get_or (tail_bytes b w h) j 0))
        (λ j lj. eq-eqb (at (shelved w h f) (512 * b + 496 + j)) (get_or (tail_bytes b w h) j 0) (shelved_tail b j lb lj))

    -- and all its blocks are lawful
    pub lawful_shelved : Lawful (shelved w h f) w h
    lawful_shelved b lb =
        and_from (every 31 (cell_test (shelved w h f) (w * h) b)) (holds (shelved w h f) (512 * b + 496) (tail_bytes b w h))
        (every_from 31 (cell_test (shelved w h f) (w * h) b) (λ i li. cell_lawful b i lb li))
        (tail_lawful b lb)
