use Rattle.std.proofs.Common.{◌≡◌, ℕ, ◌+◌, ◌*◌, ◌^◌, ◌<◌, ◌≤◌, true, cond, eqb, ◌⊎◌, List, length, sym, refl, ap, ◌∙◌, inl, inr, ⊎_elim, arith}
use Rattle.std.proofs.lemmas.Bool.{cases_eq, cases_order, and_parts, and_from, cond-true, cond-false, eq-eqb, ne_eqb}
use Rattle.style.proofs.Symbols.{small}
use Rattle.page.specs.declared.cells.Cell.{Cell}
use Rattle.page.specs.Cells.{sound}
use Rattle.page.proofs.Sounds.{sound_parts}
use Rattle.shelf.specs.Bytes.{at, slot, cell_in, cell_bytes, tail_bytes, written, every, holds}
use Rattle.shelf.specs.Blocks.{blocks, slot_lawful, block_lawful, Lawful}
use Rattle.shelf.proofs.Tests.{every-at, every_from}
use Rattle.shelf.proofs.Lawful.{cell_test}
use Rattle.shelf.proofs.Slots.{slot_next, slot_within, slot_is, slot_tail, written_at, written_off, cell_from_same, cell_from_bytes, holds_same, slot_lawful_same, slot_lawful_bytes}

pub sound_small : (v : Cell) → sound v ≡ true → v.symbol.bytes < 2 ^ 64
sound_small v s = let p = sound_parts v s in small v.symbol.len v.symbol.bytes p.short p.low

-- a sound cell v is written into slot q of a page of w by h
module _ (bs : List ℕ) (w h q : ℕ) (v : Cell) (l : 512 * blocks (w * h) ≤ length bs) (on : q < w * h) (s : sound v ≡ true) where
  room : slot q + 16 ≤ length bs
  room = omega (arith, slot_within q (w * h) on)

  apart : (k j : ℕ) → (k ≡ q → ⊥) → j < 16 → (slot k + j < slot q) ⊎ (slot q + 16 ≤ slot k + j)
  apart k j ne i =
      ⊎_elim (λ e. absurd (ne e))
      (⊎_elim (λ lt. inl (omega (arith, slot_next k q lt))) (λ gt. inr (omega (arith, slot_next q k gt))))
      (cases_order k q)

  other : (k : ℕ) → (k ≡ q → ⊥) → (j : ℕ) → j < 16 → at (written bs (slot q) (cell_bytes v)) (slot k + j) ≡ at bs (slot k + j)
  other k ne j i = written_off bs (slot q) (cell_bytes v) room refl (slot k + j) (apart k j ne i)

  -- each other cell stays
  pub cell_in-written : (k : ℕ) → cell_in (written bs (slot q) (cell_bytes v)) k ≡ cond (eqb k q) v (cell_in bs k)
  cell_in-written k =
      ⊎_elim
      (λ e. ap (cell_in (written bs (slot q) (cell_bytes v))) e
      ∙ cell_from_bytes (written bs (slot q) (cell_bytes v)) (slot q) v (written_at bs (slot q) (cell_bytes v) room refl) (sound_small v s)
      ∙ sym (cond-true (eqb k q) v (cell_in bs k) (eq-eqb k q e)))
      (λ ne. cell_from_same (written bs (slot q) (cell_bytes v)) bs (slot k) (slot k) (other k ne) ∙ sym (cond-false (eqb k q) v (cell_in bs k) (ne_eqb k q ne)))
      (cases_eq k q)

  slot_lawful_lem : (k : ℕ) → slot_lawful bs (w * h) k (slot k) ≡ true → slot_lawful (written bs (slot q) (cell_bytes v)) (w * h) k (slot k) ≡ true
  slot_lawful_lem k e =
      ⊎_elim
      (λ is. ap (λ m. slot_lawful (written bs (slot q) (cell_bytes v)) (w * h) m (slot m)) is
      ∙ slot_lawful_bytes (written bs (slot q) (cell_bytes v)) (slot q) v (written_at bs (slot q) (cell_bytes v) room refl) (sound_small v s) (w * h) q on s)
      (λ ne. slot_lawful_same (written bs (slot q) (cell_bytes v)) bs (slot k) (slot k) (other k ne) (w * h) k ∙ e)
      (cases_eq k q)

  cell_lawful : (b i : ℕ) → i < 31 → cell_test bs (w * h) b i ≡ true → cell_test (written bs (slot q) (cell_bytes v)) (w * h) b i ≡ true
  cell_lawful b i lt e =
      ap (slot_lawful (written bs (slot q) (cell_bytes v)) (w * h) (31 * b + i)) (sym (slot_is b i lt))
      ∙ slot_lawful_lem (31 * b + i) (ap (slot_lawful bs (w * h) (31 * b + i)) (slot_is b i lt) ∙ e)

  tail_same : (b : ℕ) (new : List ℕ) → holds (written bs (slot q) (cell_bytes v)) (512 * b + 496) new ≡ holds bs (512 * b + 496) new
  tail_same b = holds_same (written bs (slot q) (cell_bytes v)) bs (512 * b + 496) (512 * b + 496)
      (λ j lt. written_off bs (slot q) (cell_bytes v) room refl (512 * b + 496 + j)
      (⊎_elim (λ below. inr (omega arith)) (λ above. inl (omega arith)) (slot_tail q b)))

  block_kept : (b : ℕ) → block_lawful bs w h b ≡ true → block_lawful (written bs (slot q) (cell_bytes v)) w h b ≡ true
  block_kept b t =
      let parts = and_parts (every 31 (cell_test bs (w * h) b)) (holds bs (512 * b + 496) (tail_bytes b w h)) t in
      and_from (every 31 (cell_test (written bs (slot q) (cell_bytes v)) (w * h) b)) (holds (written bs (slot q) (cell_bytes v)) (512 * b + 496) (tail_bytes b w h))
      (every_from 31 (cell_test (written bs (slot q) (cell_bytes v)) (w * h) b) (λ i lt. cell_lawful b i lt (every-at 31 (cell_test bs (w * h) b) parts.0 i lt)))
      (tail_same b (tail_bytes b w h) ∙ parts.1)

  -- and every lawful block stays lawful
  pub lawful_written : Lawful bs w h → Lawful (written bs (slot q) (cell_bytes v)) w h
  lawful_written all b lt = block_kept b (all b lt)
