-- What cells taken one by one leave: lengths, the floor of 1, and the sum.
use Rattle.std.proofs.Common.{◌≡◌, ℕ, zero, suc, ◌+◌, ◌-◌, ◌<◌, ◌≤◌, max, Bool, true, false, cond, leb, ◌≢◌, List, [], ◌∷◌, length, get_or, set, sum, sym, refl, ap, ◌∙◌, subst, ⊎_elim, add-zero, add-suc, add-one, arith}
use Rattle.std.proofs.lemmas.List.{length-set, get_or-set_same, get_or-set_other, set-get_or, get_or_past}
use Rattle.std.proofs.lemmas.List.Sums.{sum_by-set, sum_by-cons, sum_by-le}
use Rattle.std.proofs.lemmas.List.Elements.{All-from_get_or}
use Rattle.std.proofs.lemmas.Bool.{cases_lt, cases_eq, cond_both, leb-true, leb-false, ltb-true, ltb-false, cases_order}
use Rattle.shares.specs.Shares.{widest, lowered, shaved, Fed, Lowers}

-- the widest of some columns is one of them
widest_below : (n : ℕ) (ws : List ℕ) → widest n ws ≤ n - 1
widest_below zero ws = omega arith
widest_below (suc n) ws =
    cond_both (leb (get_or ws (widest n ws) 0) (get_or ws n 0)) n (widest n ws) (λ x. x ≤ suc n - 1) (λ _. omega arith) (λ _. omega (arith, widest_below n ws))

pub widest_within : (n : ℕ) (ws : List ℕ) → 0 < n → widest n ws < n
widest_within n ws h = omega (arith, widest_below n ws)

-- none of them is wider
pub widest_most : (n : ℕ) (ws : List ℕ) (j : ℕ) → j < n → get_or ws j 0 ≤ get_or ws (widest n ws) 0
widest_most zero ws j h = omega arith
widest_most (suc n) ws j h =
    cond_both (leb (get_or ws (widest n ws) 0) (get_or ws n 0)) n (widest n ws) (λ x. get_or ws j 0 ≤ get_or ws x 0)
    (λ e. let w = leb-true (get_or ws (widest n ws) 0) (get_or ws n 0) e in before (λ l. omega (arith, w, widest_most n ws j l)) (λ l. rw l (omega arith)))
    (λ e. let w = leb-false (get_or ws (widest n ws) 0) (get_or ws n 0) e in before (λ l. widest_most n ws j l) (λ l. rw l (omega (arith, w))))
  where
    before : {P : Type 0} → (j < n → P) → (j ≡ n → P) → P
    before p q = ⊎_elim p (λ l. q (omega arith)) (cases_lt j n)

-- those to its right are narrower
pub widest_rightmost : (n : ℕ) (ws : List ℕ) (j : ℕ) → widest n ws < j → j < n → get_or ws j 0 < get_or ws (widest n ws) 0
widest_rightmost zero ws j h l = omega arith
widest_rightmost (suc n) ws j h l = right (leb (get_or ws (widest n ws) 0) (get_or ws n 0)) refl h (widest_rightmost n ws j)
  where
    right : (b : Bool) → leb (get_or ws (widest n ws) 0) (get_or ws n 0) ≡ b → cond b n (widest n ws) < j → (widest n ws < j → j < n → get_or ws j 0 < get_or ws (widest n ws) 0) → get_or ws j 0 < get_or ws (cond b n (widest n ws)) 0
    right true e k more = omega arith
    right false e k more =
        ⊎_elim (more k) (λ b. let i : j ≡ n = omega arith in rw i (leb-false (get_or ws (widest n ws) 0) (get_or ws n 0) e)) (cases_lt j n)

pub length-lowered : (ws : List ℕ) → length (lowered ws) ≡ length ws
length-lowered ws = length-set ws (widest (length ws) ws) (max 1 (get_or ws (widest (length ws) ws) 0 - 1))

pub length-shaved : (k : ℕ) (ws : List ℕ) → length (shaved k ws) ≡ length ws
length-shaved zero ws = refl
length-shaved (suc k) ws = length-lowered (shaved k ws) ∙ length-shaved k ws

-- a step takes from no column but the widest, and leaves that one at least 1
pub get_or-lowered_here : (ws : List ℕ) → 0 < length ws → get_or (lowered ws) (widest (length ws) ws) 0 ≡ max 1 (get_or ws (widest (length ws) ws) 0 - 1)
get_or-lowered_here ws h = get_or-set_same ws (widest (length ws) ws) _ 0 (widest_within (length ws) ws h)

pub get_or-lowered_other : (ws : List ℕ) (j : ℕ) → j ≢ widest (length ws) ws → get_or (lowered ws) j 0 ≡ get_or ws j 0
get_or-lowered_other ws j h = get_or-set_other ws (widest (length ws) ws) j _ 0 h

pub fed_lowered : (ws : List ℕ) → Fed ws → Fed (lowered ws)
fed_lowered ws fed i h =
    let l : i < length ws = omega (arith, length-lowered ws) in
    ⊎_elim
    (λ e. rw e (omega (arith, get_or-lowered_here ws (omega arith))))
    (λ e. omega (arith, get_or-lowered_other ws i e, fed i l))
    (cases_eq i (widest (length ws) ws))

pub fed_shaved : (k : ℕ) (ws : List ℕ) → Fed ws → Fed (shaved k ws)
fed_shaved zero ws fed = fed
fed_shaved (suc k) ws fed = fed_lowered (shaved k ws) (fed_shaved k ws fed)

-- a place that holds something is in the list
some_within : (ws : List ℕ) (i : ℕ) → 0 < get_or ws i 0 → i < length ws
some_within ws i h = ⊎_elim (λ l. l) (λ l. omega (arith, get_or_past ws i 0 l)) (cases_lt i (length ws))

-- a step takes one cell while the widest column has more than one
pub sum-lowered : (ws : List ℕ) → 1 < get_or ws (widest (length ws) ws) 0 → sum (lowered ws) + 1 ≡ sum ws
sum-lowered ws h =
    let i = widest (length ws) ws in
    let v = get_or ws i 0 in
    omega (arith, sum_by-set (λ x. x) ws i (max 1 (v - 1)) 0 (some_within ws i (omega arith)))

-- and none when it has just one
pub lowered_floor : (ws : List ℕ) → get_or ws (widest (length ws) ws) 0 ≡ 1 → lowered ws ≡ ws
lowered_floor ws h =
    let i = widest (length ws) ws in
    let e : max 1 (get_or ws i 0 - 1) ≡ get_or ws i 0 = omega arith in
    ap (set ws i) e ∙ set-get_or ws i 0

-- all later steps then leave the widths as they are
pub shaved_floor : (k d : ℕ) (ws : List ℕ) → get_or (shaved k ws) (widest (length (shaved k ws)) (shaved k ws)) 0 ≡ 1 → shaved (k + d) ws ≡ shaved k ws
shaved_floor k zero ws h = ap (λ n. shaved n ws) (add-zero k)
shaved_floor k (suc d) ws h =
    ap (λ n. shaved n ws) (add-suc k d) ∙ (ap lowered (shaved_floor k d ws h) ∙ lowered_floor (shaved k ws) h)

-- no more cells than columns: every column has just one
pub sum_fed : (ws : List ℕ) → Fed ws → length ws ≤ sum ws
sum_fed [] fed = omega arith
sum_fed (w ∷ ws) fed = omega (arith, sum_by-cons (λ x. x) w ws, fed 0 (omega arith), sum_fed ws (λ i h. fed (suc i) (omega arith)))

-- the widest column has one cell just when the columns have no cell to spare
pub spare : (ws : List ℕ) → 1 < get_or ws (widest (length ws) ws) 0 → Fed ws → length ws < sum ws
spare ws h fed = omega (arith, sum-lowered ws h, length-lowered ws, sum_fed (lowered ws) (fed_lowered ws fed))

pub spent : (ws : List ℕ) → get_or ws (widest (length ws) ws) 0 ≤ 1 → sum ws ≤ length ws
spent ws h =
    omega (arith, sum_by-le (λ x. x) 1 ws (All-from_get_or (λ x. x ≤ 1) ws 0 (λ i l. omega (arith, widest_most (length ws) ws i l))))

-- the total after k steps: one less for each, but never less than one for each column
pub sum-shaved : (k : ℕ) (ws : List ℕ) → Fed ws → 0 < length ws → sum (shaved k ws) ≡ max (sum ws - k) (length ws)
sum-shaved zero ws fed h = omega (arith, sum_fed ws fed)
sum-shaved (suc k) ws fed h =
    let vs = shaved k ws in
    let n = length-shaved k ws in
    let ok = fed_shaved k ws fed in
    let i = widest_within (length vs) vs (omega arith) in
    let before = sum-shaved k ws fed h in
    ⊎_elim
    (λ more. omega (arith, sum-lowered vs more, spare vs more ok, before, n))
    (λ one. let v = ok (widest (length vs) vs) i in omega (arith, ap sum (lowered_floor vs (omega arith)), spent vs one, sum_fed vs ok, before, n))
    (cases_lt 1 (get_or vs (widest (length vs) vs) 0))

-- a step in words is a step of the definition
widest-is : (ws : List ℕ) (w : ℕ) → w < length ws → ((k : ℕ) → k < length ws → get_or ws k 0 ≤ get_or ws w 0) → ((k : ℕ) → w < k → k < length ws → get_or ws k 0 < get_or ws w 0) → w ≡ widest (length ws) ws
widest-is ws w h most right =
    let v = widest (length ws) ws in
    let l = widest_within (length ws) ws (omega arith) in
    ⊎_elim (λ e. e)
    (⊎_elim
    (λ b. omega (arith, widest_most (length ws) ws w h, right v b l))
    (λ b. omega (arith, most v l, widest_rightmost (length ws) ws w b h)))
    (cases_order w v)

pub lowers_one : (ws vs : List ℕ) → Lowers ws true vs → (vs ≡ lowered ws) × (sum vs + 1 ≡ sum ws)
lowers_one ws vs (w, h, most, right, gone, after) =
    let place = widest-is ws w h most right in
    let more = ltb-true 1 (get_or ws w 0) (sym gone) in
    let one : get_or ws w 0 - 1 ≡ max 1 (get_or ws w 0 - 1) = omega arith in (
      after ∙ (ap (set ws w) one ∙ ap (λ i. set ws i (max 1 (get_or ws i 0 - 1))) place),
      ap (λ (xs : List ℕ). sum xs + 1) after ∙ omega (arith, sum_by-set (λ x. x) ws w (get_or ws w 0 - 1) 0 h),
    )

pub lowers_none : (ws vs : List ℕ) → Fed ws → Lowers ws false vs → (vs ≡ ws) × (get_or ws (widest (length ws) ws) 0 ≡ 1)
lowers_none ws vs fed (w, h, most, right, gone, after) =
    let place = widest-is ws w h most right in
    let low = ltb-false 1 (get_or ws w 0) (sym gone) in
    let one : get_or ws w 0 ≡ 1 = omega (arith, fed w h) in
    (after, ap (λ i. get_or ws i 0) (sym place) ∙ one)

-- a loop that takes cells one by one: one step more, and where there is none to take, all the steps that are left
pub shaved_step : (ws vs us : List ℕ) (k : ℕ) → vs ≡ shaved k ws → Lowers vs true us → us ≡ shaved (k + 1) ws
shaved_step ws vs us k now step = (lowers_one vs us step).0 ∙ (ap lowered now ∙ ap (λ n. shaved n ws) (sym (add-one k)))

pub shaved_stop : (ws vs us : List ℕ) (k n : ℕ) → Fed ws → vs ≡ shaved k ws → Lowers vs false us → k ≤ n → us ≡ shaved n ws
shaved_stop ws vs us k n fed now step le =
    let none = lowers_none vs us (subst Fed (sym now) (fed_shaved k ws fed)) step in
    let low = subst (λ (xs : List ℕ). get_or xs (widest (length xs) xs) 0 ≡ 1) now none.1 in
    let rest : k + (n - k) ≡ n = omega arith in
    none.0 ∙ (now ∙ (sym (shaved_floor k (n - k) ws low) ∙ ap (λ m. shaved m ws) rest))
