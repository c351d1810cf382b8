-- A wider page gives no column fewer cells.
use Rattle.std.proofs.Common.{◌≡◌, ℕ, zero, suc, ◌+◌, ◌-◌, ◌≤◌, max, Bool, true, false, cond, ltb, List, [], ◌∷◌, length, get_or, set, sum, refl, ap, ⊎_elim, add-zero, add-suc, zero-add, arith}
use Rattle.std.proofs.lemmas.List.{set-get_or, get_or_past}
use Rattle.std.proofs.lemmas.Bool.{cases_lt, ltb-true, ltb-false}
use Rattle.shares.specs.Shares.{budget, widest, lowered, shaved, stretched, shared, widths, Fed}
use Rattle.shares.proofs.Shaving.{widest_within, length-lowered, fed_shaved}

-- a place that is set to more makes no place less
set_mono : (ws : List ℕ) (i u v j : ℕ) → u ≤ v → get_or (set ws i u) j 0 ≤ get_or (set ws i v) j 0
set_mono [] i u v j h = omega arith
set_mono (x ∷ ws) zero u v zero h = h
set_mono (x ∷ ws) zero u v (suc j) h = omega arith
set_mono (x ∷ ws) (suc i) u v zero h = omega arith
set_mono (x ∷ ws) (suc i) u v (suc j) h = set_mono ws i u v j h

set_le : (ws : List ℕ) (i v j : ℕ) → v ≤ get_or ws i 0 → get_or (set ws i v) j 0 ≤ get_or ws j 0
set_le ws i v j h = omega (arith, set_mono ws i v (get_or ws i 0) j h, ap (λ (xs : List ℕ). get_or xs j 0) (set-get_or ws i 0))

set_ge : (ws : List ℕ) (i v j : ℕ) → get_or ws i 0 ≤ v → get_or ws j 0 ≤ get_or (set ws i v) j 0
set_ge ws i v j h = omega (arith, set_mono ws i (get_or ws i 0) v j h, ap (λ (xs : List ℕ). get_or xs j 0) (set-get_or ws i 0))

-- no column is wider after one step more
lowered_le : (ws : List ℕ) (j : ℕ) → Fed ws → get_or (lowered ws) j 0 ≤ get_or ws j 0
lowered_le ws j fed =
    let w = widest (length ws) ws in
    ⊎_elim
    (λ some. let one = fed w (widest_within (length ws) ws some) in set_le ws w (max 1 (get_or ws w 0 - 1)) j (omega arith))
    (λ none. omega (arith, get_or_past (lowered ws) j 0 (omega (arith, length-lowered ws))))
    (cases_lt 0 (length ws))

pub shaved_le : (k d : ℕ) (ws : List ℕ) (j : ℕ) → Fed ws → get_or (shaved (k + d) ws) j 0 ≤ get_or (shaved k ws) j 0
shaved_le k zero ws j fed = omega (arith, ap (λ n. get_or (shaved n ws) j 0) (add-zero k))
shaved_le k (suc d) ws j fed =
    omega (arith, ap (λ n. get_or (shaved n ws) j 0) (add-suc k d), lowered_le (shaved (k + d) ws) j (fed_shaved (k + d) ws fed), shaved_le k d ws j fed)

-- the widths that n cells give, where it is known whether they are too few
abbrev final : ℕ → List ℕ → Bool → Bool → List ℕ
final n ns few growing = cond few (shaved (sum ns - n) ns) (cond growing (stretched (n - sum ns) ns) ns)

shaved_natural : (k : ℕ) (ns : List ℕ) (j : ℕ) → Fed ns → get_or (shaved k ns) j 0 ≤ get_or ns j 0
shaved_natural k ns j fed = omega (arith, shaved_le 0 k ns j fed, ap (λ n. get_or (shaved n ns) j 0) (zero-add k))

stretched_natural : (s : ℕ) (ns : List ℕ) (j : ℕ) → get_or ns j 0 ≤ get_or (stretched s ns) j 0
stretched_natural s ns j = set_ge ns (length ns - 1) (get_or ns (length ns - 1) 0 + s) j (omega arith)

final_wider : (b c : ℕ) (ns : List ℕ) (j : ℕ) → Fed ns → b ≤ c → (x y g : Bool) → ltb b (sum ns) ≡ x → ltb c (sum ns) ≡ y → get_or (final b ns x g) j 0 ≤ get_or (final c ns y g) j 0
final_wider b c ns j fed h true true g p q =
    let few = ltb-true c (sum ns) q in
    let steps : (sum ns - c) + (c - b) ≡ sum ns - b = omega arith in
    omega (arith, shaved_le (sum ns - c) (c - b) ns j fed, ap (λ n. get_or (shaved n ns) j 0) steps)
final_wider b c ns j fed h true false true p q = omega (arith, shaved_natural (sum ns - b) ns j fed, stretched_natural (c - sum ns) ns j)
final_wider b c ns j fed h true false false p q = shaved_natural (sum ns - b) ns j fed
final_wider b c ns j fed h false true g p q = absurd (omega (arith, ltb-false b (sum ns) p, ltb-true c (sum ns) q))
final_wider b c ns j fed h false false true p q =
    let last = length ns - 1 in
    set_mono ns last (get_or ns last 0 + (b - sum ns)) (get_or ns last 0 + (c - sum ns)) j (omega arith)
final_wider b c ns j fed h false false false p q = omega arith

-- more cells to share out give no column fewer
pub shared_wider : (b c : ℕ) (growing : Bool) (ns : List ℕ) (j : ℕ) → Fed ns → b ≤ c → get_or (shared b growing ns) j 0 ≤ get_or (shared c growing ns) j 0
shared_wider b c growing ns j fed h = final_wider b c ns j fed h (ltb b (sum ns)) (ltb c (sum ns)) growing refl refl

pub widths_wider : (w v : ℕ) (growing : Bool) (ns : List ℕ) (j : ℕ) → Fed ns → w ≤ v → get_or (widths w growing ns) j 0 ≤ get_or (widths v growing ns) j 0
widths_wider w v growing ns j fed h = shared_wider (budget w (length ns)) (budget v (length ns)) growing ns j fed (omega arith)
