-- Columns of one cell each.
use Rattle.std.proofs.Common.{List, ℕ, ◌<◌, ◌≤◌, get_or, take, sum, replicate, ⊎_elim, arith}
use Rattle.std.proofs.lemmas.List.{get_or-replicate, get_or_past, length-replicate, length-take, get_or-take}
use Rattle.std.proofs.lemmas.List.Sums.{sum_by-le}
use Rattle.std.proofs.lemmas.List.Elements.{All-from_get_or}
use Rattle.shares.specs.Shares.{Fed}
use Rattle.std.proofs.lemmas.Bool.{cases_lt}

pub ones_fed : (n i : ℕ) → i < n → 1 ≤ get_or (replicate n 1) i 0
ones_fed n i h = omega (arith, get_or-replicate {A = ℕ} n i 1 0 h)

pub ones_narrow : (n i : ℕ) → get_or (replicate n 1) i 0 ≤ 16711425
ones_narrow n i =
    ⊎_elim
    (λ h. omega (arith, get_or-replicate {A = ℕ} n i 1 0 h))
    (λ h. omega (arith, get_or_past {X = ℕ} (replicate n 1) i 0 (omega (arith, length-replicate {A = ℕ} n 1))))
    (cases_lt i n)

-- the columns in use, where each of the 32 has a cell and is narrow
pub taken_fed : (cells : List ℕ) (n : ℕ) → n ≤ 32 → ((i : ℕ) → i < 32 → 1 ≤ get_or cells i 0) → Fed (take n cells)
taken_fed cells n h fed i l =
    let k : i < n = omega (arith, length-take n cells) in
    omega (arith, get_or-take n cells i 0 k, fed i (omega arith))

pub taken_fits : (cells : List ℕ) (n : ℕ) → n ≤ 32 → ((i : ℕ) → get_or cells i 0 ≤ 16711425) → sum (take n cells) < 4294967296
taken_fits cells n h narrow =
    let most = sum_by-le (λ x. x) 16711425 (take n cells) (All-from_get_or (λ x. x ≤ 16711425) (take n cells) 0 (λ i l. omega (arith, get_or-take n cells i 0 (omega (arith, length-take n cells)), narrow i))) in
    omega (arith, length-take n cells)
