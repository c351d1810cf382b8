-- Cells taken one by one leave the columns balanced, and only one list of widths is balanced and has their sum.
use Rattle.std.proofs.Common.{◌≡◌, ℕ, zero, suc, ◌+◌, ◌<◌, ◌≤◌, ◌≢◌, ◌⊎◌, List, [], ◌∷◌, length, get_or, sum, sym, refl, ap, ◌∙◌, subst, inl, inr, ⊎_elim, arith}
use Rattle.std.proofs.lemmas.List.Sums.{sum_by-cons}
use Rattle.std.proofs.lemmas.Bool.{cases_lt, cases_eq}
use Rattle.shares.specs.Shares.{widest, lowered, shaved, Fed}
use Rattle.shares.proofs.Shaving.{widest_within, widest_most, widest_rightmost, length-shaved, get_or-lowered_here, get_or-lowered_other, lowered_floor, fed_shaved}

-- Of columns with natural widths ns, one that is narrower than its natural width is at most one cell narrower than any other, and narrower only than columns at its left.
abbrev pub Balanced : List ℕ → List ℕ → Type 0
Balanced ns ws = (i j : ℕ) → i < length ns → j < length ns → get_or ws i 0 < get_or ns i 0
    → (get_or ws j 0 ≤ get_or ws i 0 + 1) × (get_or ws i 0 < get_or ws j 0 → j < i)

module _ (ns ws : List ℕ) (long : length ws ≡ length ns) (more : 1 < get_or ws (widest (length ws) ws) 0) (old : Balanced ns ws) where
  -- the widest column has one cell less after a step, and any other as many as before
  here : (i : ℕ) → i < length ns → i ≡ widest (length ws) ws → get_or (lowered ws) i 0 + 1 ≡ get_or ws i 0
  here i h p =
      let at = get_or-lowered_here ws (omega arith) in
      omega (arith, at, ap (λ k. get_or (lowered ws) k 0) p, ap (λ k. get_or ws k 0) p)

  most : (i j : ℕ) → j < length ns → i ≡ widest (length ws) ws → get_or ws j 0 ≤ get_or ws i 0
  most i j h p = omega (arith, widest_most (length ws) ws j (omega arith), ap (λ k. get_or ws k 0) p)

  rightmost : (i j : ℕ) → j < length ns → i ≡ widest (length ws) ws → i < j → get_or ws j 0 < get_or ws i 0
  rightmost i j h p l = omega (arith, widest_rightmost (length ws) ws j (omega arith) (omega arith), ap (λ k. get_or ws k 0) p)

  step : (i j : ℕ) → i < length ns → j < length ns → get_or (lowered ws) i 0 < get_or ns i 0
      → (i ≡ widest (length ws) ws) ⊎ (i ≢ widest (length ws) ws) → (j ≡ widest (length ws) ws) ⊎ (j ≢ widest (length ws) ws)
      → (get_or (lowered ws) j 0 ≤ get_or (lowered ws) i 0 + 1) × (get_or (lowered ws) i 0 < get_or (lowered ws) j 0 → j < i)
  step i j hi hj low (inl p) (inl q) =
      let same = ap (λ k. get_or (lowered ws) k 0) (q ∙ sym p) in (omega (arith, same), λ l. omega (arith, same))
  step i j hi hj low (inl p) (inr q) =
      let a = here i hi p in
      let b = get_or-lowered_other ws j q in
      let m = most i j hj p in
      (omega (arith, a, b, m), λ l. ⊎_elim (λ k. k) (λ k. omega (arith, a, b, l, rightmost i j hj p (strict k))) (cases_lt j i))
    where
      strict : i ≤ j → i < j
      strict k = ⊎_elim (λ e. absurd (q (sym e ∙ p))) (λ ne. omega arith) (cases_eq i j)
  step i j hi hj low (inr p) (inl q) =
      let a = get_or-lowered_other ws i p in
      let b = here j hj q in
      let was = old i j hi hj (omega (arith, a, low)) in
      (omega (arith, a, b, was.0), λ l. was.1 (omega (arith, a, b, l)))
  step i j hi hj low (inr p) (inr q) =
      let a = get_or-lowered_other ws i p in
      let b = get_or-lowered_other ws j q in
      let was = old i j hi hj (omega (arith, a, low)) in
      (omega (arith, a, b, was.0), λ l. was.1 (omega (arith, a, b, l)))

  balanced_one : Balanced ns (lowered ws)
  balanced_one i j hi hj low = step i j hi hj low (cases_eq i (widest (length ws) ws)) (cases_eq j (widest (length ws) ws))

pub balanced_lowered : (ns ws : List ℕ) → length ws ≡ length ns → Fed ws → Balanced ns ws → Balanced ns (lowered ws)
balanced_lowered ns ws long fed old i j hi hj =
    let w = widest (length ws) ws in
    ⊎_elim
    (λ more. balanced_one ns ws long more old i j hi hj)
    (λ one.
    let v = fed w (widest_within (length ws) ws (omega arith)) in
    subst (Balanced ns) (sym (lowered_floor ws (omega arith))) old i j hi hj)
    (cases_lt 1 (get_or ws w 0))

-- cells taken one by one leave the columns balanced
pub balanced_shaved : (k : ℕ) (ns : List ℕ) → Fed ns → Balanced ns (shaved k ns)
balanced_shaved zero ns fed = λ i j hi hj low. absurd (omega arith)
balanced_shaved (suc k) ns fed = balanced_lowered ns (shaved k ns) (length-shaved k ns) (fed_shaved k ns fed) (balanced_shaved k ns fed)

-- of two lists, one has a smaller number somewhere, or none of its numbers is smaller
smaller_or_not : (xs ys : List ℕ) → length xs ≡ length ys → ((i : ℕ) × (i < length xs) × (get_or xs i 0 < get_or ys i 0)) ⊎ ((i : ℕ) → get_or ys i 0 ≤ get_or xs i 0)
smaller_or_not [] [] e = inr (λ i. omega arith)
smaller_or_not [] (y ∷ ys) e = absurd (omega arith)
smaller_or_not (x ∷ xs) [] e = absurd (omega arith)
smaller_or_not (x ∷ xs) (y ∷ ys) e =
    ⊎_elim
    (λ l. inl (0, omega arith, l))
    (λ l. ⊎_elim (λ found. inl (suc found.0, omega (arith, found.1), found.2)) (λ all. inr (place l all)) (smaller_or_not xs ys (omega arith)))
    (cases_lt x y)
  where
    place : y ≤ x → ((i : ℕ) → get_or ys i 0 ≤ get_or xs i 0) → (i : ℕ) → get_or (y ∷ ys) i 0 ≤ get_or (x ∷ xs) i 0
    place l all zero = l
    place l all (suc i) = all i

-- lists of one sum are equal where none of the first's numbers is smaller
same_from_sum : (xs ys : List ℕ) → length xs ≡ length ys → ((i : ℕ) → get_or ys i 0 ≤ get_or xs i 0) → sum xs ≤ sum ys → xs ≡ ys
same_from_sum [] [] e all h = refl
same_from_sum [] (y ∷ ys) e all h = absurd (omega arith)
same_from_sum (x ∷ xs) [] e all h = absurd (omega arith)
same_from_sum (x ∷ xs) (y ∷ ys) e all h =
    let sx = sum_by-cons (λ n. n) x xs in
    let sy = sum_by-cons (λ n. n) y ys in
    let head = all 0 in
    let rest = sum_le xs ys (omega arith) (λ i. all (suc i)) in
    let one : x ≡ y = omega arith in
    rw one (ap (λ (zs : List ℕ). y ∷ zs) (same_from_sum xs ys (omega arith) (λ i. all (suc i)) (omega arith)))
  where
    sum_le : (xs ys : List ℕ) → length xs ≡ length ys → ((i : ℕ) → get_or ys i 0 ≤ get_or xs i 0) → sum ys ≤ sum xs
    sum_le [] [] e all = omega arith
    sum_le [] (y ∷ ys) e all = absurd (omega arith)
    sum_le (x ∷ xs) [] e all = absurd (omega arith)
    sum_le (x ∷ xs) (y ∷ ys) e all =
        omega (arith, sum_by-cons (λ n. n) x xs, sum_by-cons (λ n. n) y ys, all 0, sum_le xs ys (omega arith) (λ i. all (suc i)))

-- Only one list of widths is balanced, has a given sum and gives no column more than its natural width.
pub balanced_unique : (ns xs ys : List ℕ) → length xs ≡ length ns → length ys ≡ length ns
    → ((i : ℕ) → get_or xs i 0 ≤ get_or ns i 0) → ((i : ℕ) → get_or ys i 0 ≤ get_or ns i 0)
    → Balanced ns xs → Balanced ns ys → sum xs ≡ sum ys → xs ≡ ys
balanced_unique ns xs ys lx ly nx ny bx by same =
    ⊎_elim
    (λ p. ⊎_elim (λ q. apart p.0 q.0 (omega (arith, p.1)) (omega (arith, q.1)) p.2 q.2) (λ all. sym (same_from_sum ys xs (omega arith) all (omega arith))) (smaller_or_not ys xs (omega arith)))
    (λ all. same_from_sum xs ys (omega arith) all (omega arith))
    (smaller_or_not xs ys (omega arith))
  where
    apart : (i j : ℕ) → i < length ns → j < length ns → get_or xs i 0 < get_or ys i 0 → get_or ys j 0 < get_or xs j 0 → xs ≡ ys
    apart i j hi hj p q =
        let a = bx i j hi hj (omega (arith, ny i)) in
        let b = by j i hj hi (omega (arith, nx j)) in
        let x = a.0 in
        let y = b.0 in
        let left = a.1 (omega arith) in
        let right = b.1 (omega arith) in
        absurd (omega arith)
