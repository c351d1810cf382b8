use Rattle.std.proofs.Common.{◌≡◌, ℕ, ◌+◌, ◌-◌, ◌<◌, ◌≤◌, Bool, true, false, cond, not, ◌&&◌, ◌||◌, eqb, ltb, sym, ap, ◌∙◌, ⊎_elim, arith}
use Rattle.std.proofs.lemmas.Bool.{and_right, cases_Bool, cases_lt, cond-true, cond-false, lt-ltb, le-ltb}
use Rattle.std.proofs.lemmas.Bool.Decides.{nat_tests}
use Rattle.page.specs.declared.cells.Cell.{Cell}
use Rattle.page.specs.Cells.{fresh}
use Rattle.page.specs.Surfaces.{patch}
use Rattle.page.specs.Layers.{pair_cell}

-- What a put through a layer makes of the pages below, from what its contract says of the layer: a page below
-- showed f and now shows g.

-- a window from the corner a, b on, through which v was put at x, y where ok
module _ (a b x y : ℕ) (f g : ℕ → ℕ → Cell) (ok : Bool) (v : Cell)
    (through : (i j : ℕ) → g (a + i) (b + j) ≡ cond ok (patch (λ c d. f (a + c) (b + d)) x y v i j) (f (a + i) (b + j)))
    (around : (i j : ℕ) → cond (ltb i a || ltb j b) (g i j) fresh ≡ cond (ltb i a || ltb j b) (f i j) fresh) where
  outside : (i j : ℕ) → (ltb i a || ltb j b) ≡ true → g i j ≡ cond ok (patch f (a + x) (b + y) v i j) (f i j)
  outside i j t =
      let same : g i j ≡ f i j = sym (cond-true (ltb i a || ltb j b) (g i j) fresh t) ∙ around i j ∙ cond-true (ltb i a || ltb j b) (f i j) fresh t in
      let off : patch f (a + x) (b + y) v i j ≡ f i j = cond-false (eqb i (a + x) && eqb j (b + y)) v (f i j) (grind (arith, nat_tests)) in
      ⊎_elim (λ p. same ∙ sym (cond-true ok (patch f (a + x) (b + y) v i j) (f i j) p ∙ off)) (λ p. same ∙ sym (cond-false ok (patch f (a + x) (b + y) v i j) (f i j) p)) (cases_Bool ok)

  within : (i j : ℕ) → (ltb i a || ltb j b) ≡ false → g i j ≡ cond ok (patch f (a + x) (b + y) v i j) (f i j)
  within i j t =
      let p : a + (i - a) ≡ i = grind (arith, nat_tests) in
      let q : b + (j - b) ≡ j = grind (arith, nat_tests) in
      let test : (eqb (i - a) x && eqb (j - b) y) ≡ (eqb i (a + x) && eqb j (b + y)) = grind (arith, nat_tests) in
      let at : f (a + (i - a)) (b + (j - b)) ≡ f i j = ap (λ n. f n (b + (j - b))) p ∙ ap (f i) q in
      sym (ap (λ n. g n (b + (j - b))) p ∙ ap (g i) q) ∙ through (i - a) (j - b)
      ∙ ap (λ c. cond ok (cond (eqb (i - a) x && eqb (j - b) y) v c) c) at
      ∙ ap (λ t. cond ok (cond t v (f i j)) (f i j)) test

  pub below_window : (i j : ℕ) → g i j ≡ cond ok (patch f (a + x) (b + y) v i j) (f i j)
  below_window i j = ⊎_elim (outside i j) (within i j) (cases_Bool (ltb i a || ltb j b))

-- two pages side by side, the left one w wide and showing f and then g, the right one h and then k, on which x, y was inked where ok
module _ (w x y : ℕ) (f g h k : ℕ → ℕ → Cell) (ok : Bool) (ink : Cell → Cell)
    (over : (i j : ℕ) → pair_cell w g k i j ≡ cond ok (patch (pair_cell w f h) x y (ink (pair_cell w f h x y)) i j) (pair_cell w f h i j))
    (past : (i j : ℕ) → g (w + i) j ≡ f (w + i) j) where
  abbrev v : Cell
  v = ink (pair_cell w f h x y)

  left_within : (i j : ℕ) → i < w → g i j ≡ cond (ok && ltb x w) (patch f x y v i j) (f i j)
  left_within i j l =
      let t = lt-ltb i w l in
      let e : g i j ≡ cond ok (cond (eqb i x && eqb j y) v (f i j)) (f i j) =
      sym (cond-true (ltb i w) (g i j) (k (i - w) j) t) ∙ over i j
      ∙ ap (λ c. cond ok (cond (eqb i x && eqb j y) v c) c) (cond-true (ltb i w) (f i j) (h (i - w) j) t) in
      grind (arith, nat_tests)

  left-past : (i j : ℕ) → w ≤ i → g i j ≡ cond (ok && ltb x w) (patch f x y v i j) (f i j)
  left-past i j l =
      let p : w + (i - w) ≡ i = omega arith in
      let e : g i j ≡ f i j = ap (λ n. g n j) (sym p) ∙ past (i - w) j ∙ ap (λ n. f n j) p in
      grind (arith, nat_tests)

  pub below_left : (i j : ℕ) → g i j ≡ cond (ok && ltb x w) (patch f x y (ink (f x y)) i j) (f i j)
  below_left i j =
      ⊎_elim (left_within i j) (left-past i j) (cases_lt i w)
      ∙ ⊎_elim
      (λ t. ap (λ c. cond (ok && ltb x w) (patch f x y (ink c) i j) (f i j)) (cond-true (ltb x w) (f x y) (h (x - w) y) t))
      (λ n. let off = and_right ok (ltb x w) n in
      cond-false (ok && ltb x w) (patch f x y v i j) (f i j) off ∙ sym (cond-false (ok && ltb x w) (patch f x y (ink (f x y)) i j) (f i j) off))
      (cases_Bool (ltb x w))

  right_cells : (i j : ℕ) → k i j ≡ cond (ok && not (ltb x w)) (patch h (x - w) y v i j) (h i j)
  right_cells i j =
      let p : w + i - w ≡ i = omega arith in
      let t : ltb (w + i) w ≡ false = le-ltb (w + i) w (omega arith) in
      let e : k i j ≡ cond ok (cond (eqb (w + i) x && eqb j y) v (h i j)) (h i j) =
      ap (λ n. k n j) (sym p) ∙ sym (cond-false (ltb (w + i) w) (g (w + i) j) (k (w + i - w) j) t) ∙ over (w + i) j
      ∙ ap (λ c. cond ok (cond (eqb (w + i) x && eqb j y) v c) c) (cond-false (ltb (w + i) w) (f (w + i) j) (h (w + i - w) j) t ∙ ap (λ n. h n j) p) in
      grind (arith, nat_tests)

  pub below_right : (i j : ℕ) → k i j ≡ cond (ok && not (ltb x w)) (patch h (x - w) y (ink (h (x - w) y)) i j) (h i j)
  below_right i j =
      right_cells i j
      ∙ ⊎_elim
      (λ t. let off = and_right ok (not (ltb x w)) (ap not t) in
      cond-false (ok && not (ltb x w)) (patch h (x - w) y v i j) (h i j) off ∙ sym (cond-false (ok && not (ltb x w)) (patch h (x - w) y (ink (h (x - w) y)) i j) (h i j) off))
      (λ n. ap (λ c. cond (ok && not (ltb x w)) (patch h (x - w) y (ink c) i j) (h i j)) (cond-false (ltb x w) (f x y) (h (x - w) y) n))
      (cases_Bool (ltb x w))
