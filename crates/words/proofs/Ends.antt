-- Laws of the byte that ends a line.
use Rattle.std.proofs.Common.{◌≡◌, ℕ, Bool, true, false, cond, eqb, List, [], ◌∷◌, ◌++◌, Some, None, Option, unwrap_or, sym, refl, ap, ◌∙◌, Bor, MatchOption}
use Rattle.std.proofs.lemmas.Bool.{eq-eqb, eqb-true, cond-true}
use Rattle.words.specs.Input.{without}

without-one : (c : ℕ) → without c (c ∷ []) ≡ []
without-one c = cond-true (eqb c c) [] (c ∷ []) (eq-eqb c c refl)

without_ends : (c : ℕ) (front : List ℕ) → without c (front ++ (c ∷ [])) ≡ front
without_ends c [] = without-one c
without_ends c (b ∷ []) = ap (λ (l : List ℕ). b ∷ l) (without-one c)
without_ends c (b ∷ d ∷ bs) = ap (λ (l : List ℕ). b ∷ l) (without_ends c (d ∷ bs))

one_left : (c b : ℕ) (t : Bool) → eqb b c ≡ t → ((front : List ℕ) → b ∷ [] ≡ front ++ (c ∷ []) → ⊥) → cond t [] (b ∷ []) ≡ b ∷ []
one_left c b true e h = absurd (h [] (ap (λ (n : ℕ). n ∷ []) (eqb-true b c e)))
one_left c b false e h = refl

without_other : (c : ℕ) (bs : List ℕ) → ((front : List ℕ) → bs ≡ front ++ (c ∷ []) → ⊥) → without c bs ≡ bs
without_other c [] h = refl
without_other c (b ∷ []) h = one_left c b (eqb b c) refl h
without_other c (b ∷ d ∷ bs) h = ap (λ (l : List ℕ). b ∷ l) (without_other c (d ∷ bs) (λ front e. h (b ∷ front) (ap (λ (l : List ℕ). b ∷ l) e)))

-- What is left where a last byte is taken off if it is there.
pub without_stripped : (c : ℕ) (bytes : Bor (List ℕ)) (r : Option (Bor (List ℕ))) → MatchOption r ((front : List ℕ) → bytes.now ≡ front ++ (c ∷ []) → ⊥) (λ x. bytes.now ≡ x.now ++ (c ∷ [])) → (unwrap_or r bytes).now ≡ without c bytes.now
without_stripped c bytes None h = sym (without_other c bytes.now h)
without_stripped c bytes (Some x) h = sym (ap (without c) h ∙ without_ends c x.now)
