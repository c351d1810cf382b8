use Rattle.std.proofs.Common.{◌≡◌, ℕ, ◌+◌, ◌*◌, ◌/◌, ◌%◌, ◌<◌, false, cond, ◌&&◌, eqb, ltb, sym, refl, ap, ◌∙◌, ⊎_elim, arith}
use Rattle.std.proofs.lemmas.Nat.{mul-add-lt, div-mul-add, mod-mul-add}
use Rattle.std.proofs.lemmas.Bool.{cases_eq, cases_Bool, ltb-true, and_parts, eq-eqb, ne_eqb, cond-true, cond-false, cond_both}
use Rattle.std.proofs.lemmas.Bool.Decides.{nat_tests}
use Rattle.page.specs.declared.cells.Cell.{Cell}
use Rattle.style.specs.declared.Style.{Style}
use Rattle.style.specs.declared.Symbol.{Symbol}
use Rattle.page.specs.Cells.{fresh, inked}
use Rattle.page.specs.Surfaces.{inside, patch, shown}

-- a place on the page is one of its cells
pub place_lt : (w h x y : ℕ) → x < w → y < h → y * w + x < w * h
place_lt w h x y p q = mul-add-lt y w x h q p

same_x : (w i j x y : ℕ) → i < w → x < w → j * w + i ≡ y * w + x → i ≡ x
same_x w i j x y p q e = sym (mod-mul-add j w i p) ∙ ap (λ n. n % w) e ∙ mod-mul-add y w x q

same_y : (w i j x y : ℕ) → i < w → x < w → j * w + i ≡ y * w + x → j ≡ y
same_y w i j x y p q e = sym (div-mul-add j w i p) ∙ ap (λ n. n / w) e ∙ div-mul-add y w x q

-- two places on the page are one cell only where they are one place
pub same_place : (w i j x y : ℕ) → i < w → x < w → eqb (j * w + i) (y * w + x) ≡ (eqb i x && eqb j y)
same_place w i j x y p q =
    ⊎_elim
    (λ e. let ex = same_x w i j x y p q e in let ey = same_y w i j x y p q e in
    eq-eqb (j * w + i) (y * w + x) e ∙ sym (grind (arith, nat_tests)))
    (λ ne. ne_eqb (j * w + i) (y * w + x) ne
    ∙ sym (⊎_elim
    (λ ex. ⊎_elim (λ ey. absurd (ne (ap (λ n. n * w + i) ey ∙ ap (λ n. y * w + n) ex))) (λ ny. grind (arith, nat_tests)) (cases_eq j y))
    (λ nx. grind (arith, nat_tests))
    (cases_eq i x)))
    (cases_eq (j * w + i) (y * w + x))

pub shown-inside : (w h x y : ℕ) (f : ℕ → Cell) → x < w → y < h → shown w h f x y ≡ f (y * w + x)
shown-inside w h x y f p q = cond-true (inside w h x y) (f (y * w + x)) fresh (grind (arith, nat_tests))

-- a change of one cell in its row is a change of one place on the page
pub shown-patched : (w h x y : ℕ) (f g : ℕ → Cell) (v : Cell) → x < w → y < h
    → ((k : ℕ) → k < w * h → g k ≡ cond (eqb k (y * w + x)) v (f k))
    → (i j : ℕ) → shown w h g i j ≡ patch (shown w h f) x y v i j
shown-patched w h x y f g v p q step i j =
    ⊎_elim
    (λ t. let iw : i < w = ltb-true i w (and_parts (ltb i w) (ltb j h) t).0 in
    let jh : j < h = ltb-true j h (and_parts (ltb i w) (ltb j h) t).1 in
    cond-true (inside w h i j) (g (j * w + i)) fresh t
    ∙ step (j * w + i) (place_lt w h i j iw jh)
    ∙ ap (λ b. cond b v (f (j * w + i))) (same_place w i j x y iw p)
    ∙ ap (λ c. cond (eqb i x && eqb j y) v c) (sym (cond-true (inside w h i j) (f (j * w + i)) fresh t)))
    (λ t. let off : (eqb i x && eqb j y) ≡ false = grind (arith, nat_tests) in
    cond-false (inside w h i j) (g (j * w + i)) fresh t
    ∙ sym (cond-false (eqb i x && eqb j y) v (shown w h f i j) off ∙ cond-false (inside w h i j) (f (j * w + i)) fresh t))
    (cases_Bool (inside w h i j))

-- the cells of a page after one of them is inked
pub shown-inked : (w h x y : ℕ) (f g : ℕ → Cell) (u : Cell) (s : Symbol) (t : Style) → x < w → y < h
    → u ≡ inked s t (f (y * w + x))
    → ((k : ℕ) → k < w * h → g k ≡ cond (eqb k (y * w + x)) u (f k))
    → (i j : ℕ) → shown w h g i j ≡ patch (shown w h f) x y (inked s t (shown w h f x y)) i j
shown-inked w h x y f g u s t p q e step i j =
    shown-patched w h x y f g u p q step i j
    ∙ ap (λ v. patch (shown w h f) x y v i j) (e ∙ ap (inked s t) (sym (shown-inside w h x y f p q)))

-- fresh cells are shown as fresh cells
pub shown-fresh : (w h : ℕ) (f : ℕ → Cell) → ((k : ℕ) → k < w * h → f k ≡ fresh) → (i j : ℕ) → shown w h f i j ≡ fresh
shown-fresh w h f each i j =
    cond_both (inside w h i j) (f (j * w + i)) fresh (λ c. c ≡ fresh)
    (λ t. each (j * w + i) (place_lt w h i j (ltb-true i w (and_parts (ltb i w) (ltb j h) t).0) (ltb-true j h (and_parts (ltb i w) (ltb j h) t).1)))
    (λ t. refl)
