use Rattle.std.proofs.Common.{◌≡◌, ℕ, ◌+◌, ◌*◌, ◌/◌, ◌%◌, ◌^◌, ◌<◌, ◌≤◌, Bool, true, cond, ◌&&◌, eqb, ltb, ◌⊎◌, List, length, get_or, slice_range, sym, ap, ◌∙◌, inl, inr, ⊎_elim, add-zero, arith, lit<}
use borrow.Rule.Slice.PartMut.{put_mid}
use lib.Seq.{paste}
use Rattle.std.proofs.lemmas.Slice.{put_mid-paste}
use Rattle.std.proofs.lemmas.List.{places}
use Rattle.std.proofs.lemmas.Bool.{cases_lt, eq-eqb}
use Rattle.std.proofs.lemmas.List.Edits.{length-paste}
use Rattle.style.specs.Symbols.{packed, unpacked}
use Rattle.style.proofs.Symbols.{packed-unpacked}
use Rattle.page.specs.declared.cells.Cell.{Cell}
use Rattle.shelf.specs.Bytes.{at, slot, cell_from, cell_bytes, no_bytes, written, holds}
use Rattle.shelf.specs.Blocks.{blocks, slot_lawful}
use Rattle.std.specs.Cmp.Lexicographic.{pointwise}
use Rattle.shelf.proofs.Tests.{every_same, every_from, holds-is}
use Rattle.shelf.proofs.Lawful.{slot-used}
use Rattle.page.specs.Cells.{sound}

-- slots lie one behind the other
pub slot_next : (k l : ℕ) → k < l → slot k + 16 ≤ slot l
slot_next k l h = omega arith

-- and those of n cells within their blocks
pub slot_within : (k n : ℕ) → k < n → slot k + 16 ≤ 512 * blocks n
slot_within k n h = omega arith

pub slot_is : (b i : ℕ) → i < 31 → slot (31 * b + i) ≡ 512 * b + 16 * i
slot_is b i h = omega arith

-- a slot ends before the tail of its block
pub slot_tail : (k b : ℕ) → (slot k + 16 ≤ 512 * b + 496) ⊎ (512 * b + 512 ≤ slot k)
slot_tail k b = ⊎_elim (λ l. inl (omega arith)) (λ g. inr (omega arith)) (cases_lt (k / 31) (b + 1))

paste_at : (bs : List ℕ) (p : ℕ) (new : List ℕ) (m : ℕ) → p + m ≤ length bs → length new ≡ m → (j : ℕ) → j < m → get_or (paste bs p new m) (p + j) 0 ≡ get_or new j 0
paste_at bs p new m l n j h = grind (arith, places)

paste_off : (bs : List ℕ) (p : ℕ) (new : List ℕ) (m : ℕ) → p + m ≤ length bs → length new ≡ m → (k : ℕ) → (k < p) ⊎ (p + m ≤ k) → get_or (paste bs p new m) k 0 ≡ get_or bs k 0
paste_off bs p new m l n k (inl h) = grind (arith, places)
paste_off bs p new m l n k (inr h) = grind (arith, places)

-- as `copy_from_slice` writes them
pub written_by : (bs : List ℕ) (p k : ℕ) (ys new : List ℕ) → ys ≡ new → 16 ≡ k → length new ≡ 16 → put_mid p k bs ys ≡ written bs p new
written_by bs p k ys new e q n = put_mid-paste p k bs ys new 16 e q (sym n)

module _ (bs : List ℕ) (p : ℕ) (new : List ℕ) (l : p + 16 ≤ length bs) (n : length new ≡ 16) where
  -- what is written stands there
  pub written_at : (j : ℕ) → j < 16 → at (written bs p new) (p + j) ≡ get_or new j 0
  written_at = paste_at bs p new 16 l n

  -- and all else stays
  pub written_off : (k : ℕ) → (k < p) ⊎ (p + 16 ≤ k) → at (written bs p new) k ≡ at bs k
  written_off = paste_off bs p new 16 l n

  pub length-written : length (written bs p new) ≡ length bs
  length-written = length-paste bs p new 16 l (omega arith)

-- the same 16 bytes, in bs from p on and in cs from q on
module _ (bs cs : List ℕ) (p q : ℕ) (same : (j : ℕ) → j < 16 → at bs (p + j) ≡ at cs (q + j)) where
  first : at bs p ≡ at cs q
  first = ap (at bs) (sym (add-zero p)) ∙ same 0 (lit< tt) ∙ ap (at cs) (add-zero q)

  pub cell_from_same : cell_from bs p ≡ cell_from cs q
  cell_from_same =
      let e0 = first in
      let e1 = same 1 (lit< tt) in
      let e2 = same 2 (lit< tt) in
      let e3 = same 3 (lit< tt) in
      let e4 = same 4 (lit< tt) in
      let e5 = same 5 (lit< tt) in
      let e6 = same 6 (lit< tt) in
      let e7 = same 7 (lit< tt) in
      let e8 = same 8 (lit< tt) in
      let e9 = same 9 (lit< tt) in
      let e10 = same 10 (lit< tt) in
      let e11 = same 11 (lit< tt) in
      cc

  pub holds_same : (new : List ℕ) → holds bs p new ≡ holds cs q new
  holds_same new = every_same 16 (λ i. eqb (at bs (p + i)) (get_or new i 0)) (λ i. eqb (at cs (q + i)) (get_or new i 0)) (λ k l. ap (λ v. eqb v (get_or new k 0)) (same k l))

  pub slot_lawful_same : (n k : ℕ) → slot_lawful bs n k p ≡ slot_lawful cs n k q
  slot_lawful_same n k =
      ap (λ c. cond (ltb k n) (sound c && holds bs p (cell_bytes c)) (holds bs p no_bytes)) cell_from_same
      ∙ ap (λ b. cond (ltb k n) (sound (cell_from cs q) && b) (holds bs p no_bytes)) (holds_same (cell_bytes (cell_from cs q)))
      ∙ ap (λ b. cond (ltb k n) (sound (cell_from cs q) && holds cs q (cell_bytes (cell_from cs q))) b) (holds_same no_bytes)

-- 16 bytes that are cut out
cut-at : (bs : List ℕ) (p : ℕ) → p + 16 ≤ length bs → (j : ℕ) → j < 16 → at (slice_range bs p (p + 16)) (0 + j) ≡ at bs (p + j)
cut-at bs p l j h = grind (arith, places)

length-cut : (bs : List ℕ) (p : ℕ) → p + 16 ≤ length bs → length (slice_range bs p (p + 16)) ≡ 16
length-cut bs p l = grind (arith, places)

-- and compared
pub holds-cut : (bs : List ℕ) (p : ℕ) (cut new : List ℕ) (r : Bool) → p + 16 ≤ length bs → cut ≡ slice_range bs p (p + 16) → length new ≡ 16 → r ≡ pointwise eqb cut new → r ≡ holds bs p new
holds-cut bs p cut new r l is n e =
    holds-is (slice_range bs p (p + 16)) new r (length-cut bs p l) n (e ∙ ap (λ c. pointwise eqb c new) is)
    ∙ holds_same (slice_range bs p (p + 16)) bs 0 p (cut-at bs p l) new

-- and read as a cell
pub cell_from-cut : (bs : List ℕ) (p : ℕ) (cut : List ℕ) → p + 16 ≤ length bs → cut ≡ slice_range bs p (p + 16) → cell_from cut 0 ≡ cell_from bs p
cell_from-cut bs p cut l is = ap (λ c. cell_from c 0) is ∙ cell_from_same (slice_range bs p (p + 16)) bs 0 p (cut-at bs p l)

pub slot_lawful-cut : (bs : List ℕ) (p : ℕ) (cut : List ℕ) (n k : ℕ) → p + 16 ≤ length bs → cut ≡ slice_range bs p (p + 16) → slot_lawful cut n k 0 ≡ slot_lawful bs n k p
slot_lawful-cut bs p cut n k l is = ap (λ c. slot_lawful c n k 0) is ∙ slot_lawful_same (slice_range bs p (p + 16)) bs 0 p (cut-at bs p l) n k

-- 16 bytes of a cell are read as the cell
module _ (bs : List ℕ) (p : ℕ) (c : Cell) (stand : (j : ℕ) → j < 16 → at bs (p + j) ≡ get_or (cell_bytes c) j 0) (small : c.symbol.bytes < 2 ^ 64) where
  abbrev with_bytes : ℕ → Cell
  with_bytes v = record { symbol = record { bytes = v; len = c.symbol.len }; fg = c.fg; bg = c.bg; modifiers = c.modifiers }

  pub cell_from_bytes : cell_from bs p ≡ c
  cell_from_bytes =
      let e0 : at bs p ≡ c.symbol.bytes % 256 = ap (at bs) (sym (add-zero p)) ∙ stand 0 (lit< tt) in
      let e1 = stand 1 (lit< tt) in
      let e2 = stand 2 (lit< tt) in
      let e3 = stand 3 (lit< tt) in
      let e4 = stand 4 (lit< tt) in
      let e5 = stand 5 (lit< tt) in
      let e6 = stand 6 (lit< tt) in
      let e7 = stand 7 (lit< tt) in
      let e8 = stand 8 (lit< tt) in
      let e9 = stand 9 (lit< tt) in
      let e10 = stand 10 (lit< tt) in
      let e11 = stand 11 (lit< tt) in
      let read : cell_from bs p ≡ with_bytes (packed (unpacked 8 c.symbol.bytes)) = cc in
      read ∙ ap with_bytes (packed-unpacked 8 c.symbol.bytes small)

  pub holds_bytes : holds bs p (cell_bytes c) ≡ true
  holds_bytes = every_from 16 (λ i. eqb (at bs (p + i)) (get_or (cell_bytes c) i 0)) (λ k l. eq-eqb (at bs (p + k)) (get_or (cell_bytes c) k 0) (stand k l))

  -- and are lawful where the cell is sound
  pub slot_lawful_bytes : (n k : ℕ) → k < n → sound c ≡ true → slot_lawful bs n k p ≡ true
  slot_lawful_bytes n k l s = sym (slot-used bs n k p true l (ap sound cell_from_bytes ∙ s) (sym (ap (λ d. holds bs p (cell_bytes d)) cell_from_bytes ∙ holds_bytes)))
