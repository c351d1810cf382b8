use Rattle.std.proofs.Common.{◌≡◌, ℕ, zero, suc, ◌+◌, ◌<◌, Bool, true, false, ◌&&◌, eqb, List, length, get_or, sym, refl, ap, ◌∙◌, ⊎_elim, add-one, arith}
use Rattle.std.proofs.lemmas.Bool.{cases_eq, and_parts, and_from, and_left, and_right, eq-eqb, eqb-true}
use Rattle.std.proofs.lemmas.Bool.Decides.{Decides-eqb}
use Rattle.std.proofs.lemmas.List.{ext_get_or}
use Rattle.std.proofs.lemmas.Slice.Eq.{slice_eq-Decides}
use Rattle.std.specs.Cmp.Lexicographic.{pointwise}
use Rattle.shelf.specs.Bytes.{at, every, holds}

pub every-none : (t : ℕ → Bool) → every 0 t ≡ true
unfolding every
every-none t = refl

pub every_more : (n : ℕ) (t : ℕ → Bool) → every n t ≡ true → t n ≡ true → every (n + 1) t ≡ true
unfolding every
every_more n t a b = rw add-one (and_from (every n t) (t n) a b)

pub every-at : (n : ℕ) (t : ℕ → Bool) → every n t ≡ true → (k : ℕ) → k < n → t k ≡ true
unfolding every
every-at zero t e k l = absurd (omega arith)
every-at (suc n) t e k l =
    let p = and_parts (every n t) (t n) e in
    ⊎_elim (λ q. ap t q ∙ p.1) (λ q. every-at n t p.0 k (omega arith)) (cases_eq k n)

pub every_from : (n : ℕ) (t : ℕ → Bool) → ((k : ℕ) → k < n → t k ≡ true) → every n t ≡ true
unfolding every
every_from zero t f = refl
every_from (suc n) t f = and_from (every n t) (t n) (every_from n t (λ k l. f k (omega arith))) (f n (omega arith))

pub every_not : (n : ℕ) (t : ℕ → Bool) (k : ℕ) → k < n → t k ≡ false → every n t ≡ false
unfolding every
every_not zero t k l e = absurd (omega arith)
every_not (suc n) t k l e =
    ⊎_elim (λ q. and_right (every n t) (t n) (ap t (sym q) ∙ e)) (λ q. and_left (every n t) (t n) (every_not n t k (omega arith) e)) (cases_eq k n)

pub every_same : (n : ℕ) (t u : ℕ → Bool) → ((k : ℕ) → k < n → t k ≡ u k) → every n t ≡ every n u
unfolding every
every_same zero t u f = refl
every_same (suc n) t u f = ap (λ b. b && t n) (every_same n t u (λ k l. f k (omega arith))) ∙ ap (λ b. every n u && b) (f n (omega arith))

-- two tests of which each holds where the other does
pub both_hold : (a b : Bool) → (a ≡ true → b ≡ true) → (b ≡ true → a ≡ true) → a ≡ b
both_hold true b f g = sym (f refl)
both_hold false true f g = g refl
both_hold false false f g = refl

-- 16 bytes that are compared
pub holds-is : (xs ys : List ℕ) (r : Bool) → length xs ≡ 16 → length ys ≡ 16 → r ≡ pointwise eqb xs ys → r ≡ holds xs 0 ys
holds-is xs ys r m n e =
    let d = slice_eq-Decides Decides-eqb xs ys r e in
    both_hold r (holds xs 0 ys)
    (λ t. every_from 16 (λ j. eqb (at xs (0 + j)) (get_or ys j 0)) (λ j l.
    let z : 0 + j ≡ j = omega arith in
    eq-eqb (at xs (0 + j)) (get_or ys j 0) (ap (at xs) z ∙ ap (λ l. get_or l j 0) (d.0 t))))
    (λ h. d.1 (ext_get_or 0 xs ys (m ∙ sym n) (λ j l.
    let z : 0 + j ≡ j = omega arith in
    sym (ap (at xs) z) ∙ eqb-true (at xs (0 + j)) (get_or ys j 0) (every-at 16 (λ j. eqb (at xs (0 + j)) (get_or ys j 0)) h j (omega arith)))))
