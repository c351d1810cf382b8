-- What is lent to be shared out, and what comes of it.
use Rattle.std.proofs.Common.{◌≡◌, ℕ, ◌<◌, ◌≤◌, max, Bool, List, length, get_or, take, Ok, sum, sym, ap, ◌∙◌, arith}
use Rattle.shares.specs.Shares.{naturals, budget, widths, Fed}
use Rattle.shares.proofs.Totals.{length-shared, length-naturals, sum-naturals, shared_most}
use Rattle.columns.specs.Layout.{slots, answered}
use Rattle.columns.proofs.Checks.{answered_few, answered_narrow}
use Rattle.columns.proofs.Slots.{take-slots}

module _ (ns : List ℕ) (ok : answered ns ≡ Ok tt) where
  pub naturals_few : (0 < length (naturals ns)) × (length (naturals ns) ≤ 32)
  naturals_few = let n = length-naturals ns in let m = answered_few ns ok in (omega arith, omega arith)

  pub naturals_fit : sum (naturals ns) < 4294967296
  naturals_fit = omega (arith, sum-naturals 100000 ns (omega arith) (answered_narrow ns ok), answered_few ns ok)

  -- the used slots of the natural widths
  pub lent : (n : ℕ) (arr : List ℕ) → n ≡ max (length ns) 1 → arr ≡ slots (naturals ns) → take n arr ≡ naturals ns
  lent n arr count held = ap (take n) held ∙ take-slots (naturals ns) n (length-naturals ns ∙ sym count)

-- final widths fit 16 bits
pub widths_small : (ns : List ℕ) → Fed ns → 0 < length ns → length ns ≤ 32 → (w : ℕ) (growing : Bool) → w < 65536 → (i : ℕ) → get_or (widths w growing ns) i 0 < 65536
widths_small ns fed some few w growing h i = omega (arith, shared_most (budget w (length ns)) growing ns fed some i)

-- as many final widths as natural ones
pub as_many : (ns : List ℕ) (w : ℕ) (growing : Bool) → length (widths w growing ns) ≡ length ns
as_many ns w growing = length-shared (budget w (length ns)) growing ns
