use Rattle.std.specs.Prelude.{ℕ, zero, suc, ◌+◌, ◌*◌, ◌/◌, ◌%◌, Bool, true, ◌&&◌, List, [], ◌∷◌, ◌++◌, nat_eq, slice_index}
use Rattle.std.proofs.Math.Seq.{paste}
use Rattle.style.specs.Symbols.{packed, unpacked}
use Rattle.style.specs.declared.Style.{Style}
use Rattle.style.specs.declared.Symbol.{Symbol}
use Rattle.page.specs.declared.cells.Cell.{Cell}
use Rattle.page.specs.Cells.{inked, tidy}

-- the byte at k, 0 past the end
abbrev pub at : List ℕ → ℕ → ℕ
at bs k = slice_index bs k

-- where the bytes of cell k begin: 31 cells of 16 bytes to a block of 512
abbrev pub slot : ℕ → ℕ
slot k = k / 31 * 512 + k % 31 * 16

-- the cell that the bytes from p on hold
abbrev pub cell_from : List ℕ → ℕ → Cell
cell_from bs p = record {
  symbol = record {
    bytes = packed (at bs p ∷ at bs (p + 1) ∷ at bs (p + 2) ∷ at bs (p + 3) ∷ at bs (p + 4) ∷ at bs (p + 5) ∷ at bs (p + 6) ∷ at bs (p + 7) ∷ []);
    len = at bs (p + 8);
  };
  fg = at bs (p + 9);
  bg = at bs (p + 10);
  modifiers = at bs (p + 11);
}

-- the cell k
abbrev pub cell_in : List ℕ → ℕ → Cell
cell_in bs k = cell_from bs (slot k)

-- the 16 bytes of a cell: 8 of its symbol, its length, its colours, its modifiers, four of 0
abbrev pub cell_bytes : Cell → List ℕ
cell_bytes c = unpacked 8 c.symbol.bytes ++ (c.symbol.len ∷ c.fg ∷ c.bg ∷ c.modifiers ∷ 0 ∷ 0 ∷ 0 ∷ 0 ∷ [])

-- the last 16 bytes of block b of a page of w by h: its number, the width, the height, eight of 0
abbrev pub tail_bytes : ℕ → ℕ → ℕ → List ℕ
tail_bytes b w h = unpacked 4 b ++ (unpacked 2 w ++ (unpacked 2 h ++ (0 ∷ 0 ∷ 0 ∷ 0 ∷ 0 ∷ 0 ∷ 0 ∷ 0 ∷ [])))

-- the 16 bytes of a cell that the page has not
abbrev pub no_bytes : List ℕ
no_bytes = 0 ∷ 0 ∷ 0 ∷ 0 ∷ 0 ∷ 0 ∷ 0 ∷ 0 ∷ 0 ∷ 0 ∷ 0 ∷ 0 ∷ 0 ∷ 0 ∷ 0 ∷ 0 ∷ []

-- bytes with 16 of them replaced from p on
abbrev pub written : List ℕ → ℕ → List ℕ → List ℕ
written bs p new = paste bs p new 16

-- bytes after a put on cell k
abbrev pub bytes_put : List ℕ → ℕ → Symbol → Style → List ℕ
bytes_put bs k s t = written bs (slot k) (cell_bytes (inked s t (tidy (cell_in bs k))))

-- whether a test holds of each number below n
unfoldable pub every : ℕ → (ℕ → Bool) → Bool
every zero test = true
every (suc n) test = every n test && test n

-- whether 16 bytes stand from p on
abbrev pub holds : List ℕ → ℕ → List ℕ → Bool
holds bs p new = every 16 (λ i. nat_eq (at bs (p + i)) (slice_index new i))
