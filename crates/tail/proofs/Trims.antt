-- What trimming leaves.
use Rattle.std.proofs.Common.{◌≡◌, ℕ, Bool, true, false, List, [], ◌∷◌, ◌++◌, refl, ap}
use Rattle.std.proofs.lemmas.Bool.{and_left, and_right}
use Rattle.tail.specs.Texts.{all, before}

module _ (p : ℕ → Bool) where
  all_stop : (xs ys : List ℕ) (c : ℕ) → p c ≡ false → all p (xs ++ (c ∷ ys)) ≡ false
  all_stop [] ys c e = and_left (p c) (all p ys) e
  all_stop (x ∷ xs) ys c e = and_right (p x) (all p (xs ++ (c ∷ ys))) (all_stop xs ys c e)

  pub before-all : (xs : List ℕ) → all p xs ≡ true → before p xs ≡ []
  before-all [] e = refl
  before-all (x ∷ xs) e = rw e refl

  -- an end that passes is left out, down to a character that fails
  pub before_end : (xs ys : List ℕ) (c : ℕ) → p c ≡ false → all p ys ≡ true → before p (xs ++ (c ∷ ys)) ≡ xs ++ (c ∷ [])
  before_end [] ys c e a = rw e (ap (λ l. c ∷ l) (before-all ys a))
  before_end (x ∷ xs) ys c e a = rw (and_right (p x) (all p (xs ++ (c ∷ ys))) (all_stop xs ys c e)) (ap (λ l. x ∷ l) (before_end xs ys c e a))
