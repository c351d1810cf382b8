-- Lengths and sums of natural and final widths.
use Rattle.std.proofs.Common.{◌≡◌, ℕ, zero, suc, ◌+◌, ◌-◌, ◌*◌, ◌<◌, ◌≤◌, max, Bool, ltb, List, [], ◌∷◌, length, get_or, sum, refl, ⊎_elim, arith}
use Rattle.std.proofs.lemmas.List.{length-set, length-map, get_or-map, get_or_past}
use Rattle.std.proofs.lemmas.List.Sums.{sum_by-set, sum_by-le, sum-map, get_or-le-sum_by}
use Rattle.std.proofs.lemmas.List.Elements.{All-from_get_or}
use Rattle.std.proofs.lemmas.Bool.{cases_lt, cond_both, ltb-true, ltb-false}
use Rattle.shares.specs.Shares.{naturals, shared, Fed}
use Rattle.shares.proofs.Shaving.{length-shaved, sum-shaved}

pub length-naturals : (ns : List ℕ) → length (naturals ns) ≡ max (length ns) 1
length-naturals [] = refl
length-naturals (n ∷ ns) = omega (arith, length-map (n ∷ ns) (max 1))

-- every table has a column, and every column a cell
pub fed_naturals : (ns : List ℕ) → Fed (naturals ns)
fed_naturals [] zero h = omega arith
fed_naturals [] (suc i) h = absurd (omega arith)
fed_naturals (n ∷ ns) i h = omega (arith, get_or-map (max 1) (n ∷ ns) i 0 0 (omega (arith, length-map (n ∷ ns) (max 1))))

-- columns of at most m cells need at most m for each
pub sum-naturals : (m : ℕ) (ns : List ℕ) → 1 ≤ m → ((i : ℕ) → i < length ns → get_or ns i 0 ≤ m) → sum (naturals ns) ≤ max (length ns) 1 * m
sum-naturals m [] one most = omega arith
sum-naturals m (n ∷ ns) one most =
    let some : max (length (n ∷ ns)) 1 ≡ length (n ∷ ns) = omega arith in
    rw (some, sum-map) (sum_by-le (max 1) m (n ∷ ns) (All-from_get_or (λ x. max 1 x ≤ m) (n ∷ ns) 0 (λ i h. omega (arith, most i h))))

pub length-shared : (b : ℕ) (growing : Bool) (ns : List ℕ) → length (shared b growing ns) ≡ length ns
length-shared b growing ns =
    cond_both (ltb b (sum ns)) _ _ (λ ws. length ws ≡ length ns)
    (λ _. length-shaved (sum ns - b) ns)
    (λ _. cond_both growing _ _ (λ ws. length ws ≡ length ns) (λ _. length-set ns _ _) (λ _. refl))

-- the final widths are within the budget, or one for each column where it is smaller than that
pub sum-shared : (b : ℕ) (growing : Bool) (ns : List ℕ) → Fed ns → 0 < length ns → sum (shared b growing ns) ≤ max b (length ns)
sum-shared b growing ns fed some =
    cond_both (ltb b (sum ns)) _ _ (λ ws. sum ws ≤ max b (length ns))
    (λ e. omega (arith, sum-shaved (sum ns - b) ns fed some, ltb-true b (sum ns) e))
    (λ e. cond_both growing _ _ (λ ws. sum ws ≤ max b (length ns))
    (λ _. let last = length ns - 1 in omega (arith, ltb-false b (sum ns) e, sum_by-set (λ x. x) ns last (get_or ns last 0 + (b - sum ns)) 0 (omega arith)))
    (λ _. omega (arith, ltb-false b (sum ns) e)))

-- no column is wider than all together
pub width_le_sum : (ws : List ℕ) (i : ℕ) → get_or ws i 0 ≤ sum ws
width_le_sum ws i = ⊎_elim (λ l. get_or-le-sum_by (λ x. x) ws i 0 l) (λ l. omega (arith, get_or_past ws i 0 l)) (cases_lt i (length ws))

pub shared_most : (b : ℕ) (growing : Bool) (ns : List ℕ) → Fed ns → 0 < length ns → (i : ℕ) → get_or (shared b growing ns) i 0 ≤ max b (length ns)
shared_most b growing ns fed some i = omega (arith, width_le_sum (shared b growing ns) i, sum-shared b growing ns fed some)
