-- How a table's cells are shared out among its columns. A list of widths has one number for each column, the leftmost first.
use Rattle.std.specs.Prelude.{◌≡◌, ℕ, zero, suc, ◌+◌, ◌-◌, ◌*◌, ◌<◌, ◌≤◌, max, Bool, cond, List, [], ◌∷◌, map, length, sum, nat_le, nat_lt, slice_index, slice_set}

-- The natural widths of a table: each at least 1; a table without columns counts as having one.
abbrev pub naturals : List ℕ → List ℕ
naturals [] = 1 ∷ []
naturals (n ∷ ns) = map (max 1) (n ∷ ns)

-- Every column has at least one cell.
abbrev pub Fed : List ℕ → Type 0
Fed ws = (i : ℕ) → i < length ws → 1 ≤ slice_index ws i

-- The cells that a page of width w leaves to n columns: three for each column and one more go to borders and padding.
abbrev pub budget : ℕ → ℕ → ℕ
budget w n = w - (3 * n + 1)

-- The place of the widest of the first n columns, the rightmost of equals.
abbrev pub widest : ℕ → List ℕ → ℕ
widest zero ws = 0
widest (suc n) ws = cond (nat_le (slice_index ws (widest n ws)) (slice_index ws n)) n (widest n ws)

-- One cell taken from the widest column, which never goes below 1.
abbrev pub lowered : List ℕ → List ℕ
lowered ws = slice_set ws (widest (length ws) ws) (max 1 (slice_index ws (widest (length ws) ws) - 1))

-- The widths after k cells have been asked for, one by one.
abbrev pub shaved : ℕ → List ℕ → List ℕ
shaved zero ws = ws
shaved (suc k) ws = lowered (shaved k ws)

-- The last column made wider by the slack.
abbrev pub stretched : ℕ → List ℕ → List ℕ
stretched slack ws = slice_set ws (length ws - 1) (slice_index ws (length ws - 1) + slack)

-- The final widths of columns with natural widths ns that have b cells together; a growing table is the open table of a streaming sheet.
abbrev pub shared : ℕ → Bool → List ℕ → List ℕ
shared b growing ns =
    cond (nat_lt b (sum ns)) (shaved (sum ns - b) ns) (cond growing (stretched (b - sum ns) ns) ns)

-- The final widths on a page of width w.
abbrev pub widths : ℕ → Bool → List ℕ → List ℕ
widths w growing ns = shared (budget w (length ns)) growing ns

-- The number of cells taken away: the natural total less the final widths, and none from a table that fits.
abbrev pub taken : ℕ → Bool → List ℕ → ℕ
taken w growing ns = cond (nat_lt (budget w (length ns)) (sum ns)) (sum ns - sum (widths w growing ns)) 0

-- A step in words: one cell goes from the widest column w, the rightmost of equals, if that column has more than one; else the widths stay as they are.
abbrev pub Lowers : List ℕ → Bool → List ℕ → Type 0
Lowers ws gone vs = (w : ℕ) × (w < length ws)
    × ((k : ℕ) → k < length ws → slice_index ws k ≤ slice_index ws w)
    × ((k : ℕ) → w < k → k < length ws → slice_index ws k < slice_index ws w)
    × (gone ≡ nat_lt 1 (slice_index ws w))
    × (vs ≡ cond gone (slice_set ws w (slice_index ws w - 1)) ws)
