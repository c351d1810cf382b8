use Rattle.std.specs.Prelude.{◌≡◌, ℕ, zero, suc, ◌+◌, ◌-◌, ◌*◌, ◌/◌, ◌%◌, ◌<◌, Bool, true, cond, ◌&&◌, List, [], ◌∷◌, map, length, Some, None, Ok, Err, Option, Result, ◌==◌, nat_le, nat_lt, slice_index}
use Rattle.std.specs.List.{range_with_len}
use Rattle.page.specs.declared.cells.Cell.{Cell}
use Rattle.page.specs.declared.refusals.Refusal.{Refusal}
use Rattle.page.specs.declared.refusals.Refusal.TheVariants.{Block}
use Rattle.page.specs.declared.sides.Sides.{Sides}
use Rattle.page.specs.Cells.{sound}
use Rattle.page.specs.Refusals.{sides}
use Rattle.shelf.specs.Bytes.{at, cell_from, cell_bytes, tail_bytes, no_bytes, every, holds}

-- how many blocks n cells need
abbrev pub blocks : ℕ → ℕ
blocks n = (n + 30) / 31

-- how many bytes a page of w by h needs
abbrev pub shelf_length : ℕ → ℕ → ℕ
shelf_length w h = 512 * blocks (w * h)

-- whether the 16 bytes from p on are lawful for cell k of n: those of a sound cell, or 0 past the last cell
abbrev pub slot_lawful : List ℕ → ℕ → ℕ → ℕ → Bool
slot_lawful bs n k p = cond (nat_lt k n) (sound (cell_from bs p) && holds bs p (cell_bytes (cell_from bs p))) (holds bs p no_bytes)

-- whether block b of a page of w by h is lawful: 31 cells, then its tail
abbrev pub block_lawful : List ℕ → ℕ → ℕ → ℕ → Bool
block_lawful bs w h b = every 31 (λ i. slot_lawful bs (w * h) (31 * b + i) (512 * b + 16 * i)) && holds bs (512 * b + 496) (tail_bytes b w h)

-- every block of a page of w by h is lawful
abbrev pub Lawful : List ℕ → ℕ → ℕ → Type 0
Lawful bs w h = (b : ℕ) → b < blocks (w * h) → block_lawful bs w h b ≡ true

-- the sides that block 0 tells
abbrev pub wide_of : List ℕ → ℕ
wide_of bs = at bs 500 + 256 * at bs 501

abbrev pub high_of : List ℕ → ℕ
high_of bs = at bs 502 + 256 * at bs 503

-- the first of n blocks from b on that is not lawful
unfoldable pub unlawful : List ℕ → ℕ → ℕ → ℕ → ℕ → Option ℕ
unlawful bs w h zero b = None
unlawful bs w h (suc n) b = cond (block_lawful bs w h b) (unlawful bs w h n (b + 1)) (Some b)

-- the block that opening bytes refuses: block 0, then by the length the count of whole blocks, then the other blocks
abbrev pub fault : List ℕ → Option ℕ
fault bs =
    cond (nat_le 512 (length bs) && (sides (wide_of bs) (high_of bs) && block_lawful bs (wide_of bs) (high_of bs) 0))
    (cond (length bs == shelf_length (wide_of bs) (high_of bs))
    (unlawful bs (wide_of bs) (high_of bs) (blocks (wide_of bs * high_of bs) - 1) 1)
    (Some (length bs / 512)))
    (Some 0)

-- what opening answers
abbrev pub open_answer : Option ℕ → Result (Unit {0}) Refusal
open_answer None = Ok tt
open_answer (Some b) = Err (Block b)

-- the same as numbers: 8 and the block
abbrev pub open_told : Option ℕ → List ℕ
open_told None = []
open_told (Some b) = 8 ∷ b ∷ []

-- the sides of the page that bytes hold, or the block that opening them refuses
abbrev pub opened_as : ℕ → ℕ → Option ℕ → Result Sides Refusal
opened_as w h None = Ok (record { width = w; height = h })
opened_as w h (Some b) = Err (Block b)

abbrev pub opened : List ℕ → Result Sides Refusal
opened bs = opened_as (wide_of bs) (high_of bs) (fault bs)

-- the sides of a page with no place
abbrev pub no_sides : Sides
no_sides = record { width = 0; height = 0 }

-- the byte at k of a page of w by h whose cells are f
abbrev pub shelf_byte : ℕ → ℕ → (ℕ → Cell) → ℕ → ℕ
shelf_byte w h f k =
    cond (nat_lt (k % 512) 496)
    (cond (nat_lt (31 * (k / 512) + k % 512 / 16) (w * h)) (slice_index (cell_bytes (f (31 * (k / 512) + k % 512 / 16))) (k % 16)) 0)
    (slice_index (tail_bytes (k / 512) w h) (k % 16))

-- the bytes of a page of w by h whose cells are f
abbrev pub shelved : ℕ → ℕ → (ℕ → Cell) → List ℕ
shelved w h f = map (shelf_byte w h f) (range_with_len 0 (shelf_length w h))
