-- How much of a source is UTF-8.
use Rattle.std.proofs.Common.{◌≡◌, ℕ, zero, suc, ◌<◌, ◌≤◌, true, false, List, take, IsUtf8, sym, ◌∙◌, subst, ⊎_elim, true≢false, arith}
use Rattle.std.specs.Str.{IsValidUpTo, is_utf8}
use Rattle.std.proofs.lemmas.Bool.{cases_Bool, cases_lt}
use Rattle.std.proofs.lemmas.Str.{IsUtf8-from_is_utf8, is_utf8-from_IsUtf8}
use Rattle.tail.specs.Cook.{valid_up_to}

pub utf8_no : (bs : List ℕ) → (IsUtf8 bs → ⊥) → is_utf8 bs ≡ false
utf8_no bs n = ⊎_elim (λ (t : is_utf8 bs ≡ true). absurd (n (IsUtf8-from_is_utf8 bs t))) (λ (f : is_utf8 bs ≡ false). f) (cases_Bool (is_utf8 bs))

-- the longest valid front, looked for from above
pub valid_from : (bs : List ℕ) (n : ℕ) → IsValidUpTo bs n → (k : ℕ) → n ≤ k → n ≡ valid_up_to k bs
valid_from bs n v zero h = omega arith
valid_from bs n v (suc k) h = ⊎_elim
    (λ (t : is_utf8 (take (suc k) bs) ≡ true).
    let e : n ≡ suc k = ⊎_elim (λ (g : n < suc k). absurd (v.longest (suc k) g (IsUtf8-from_is_utf8 (take (suc k) bs) t))) (λ (l : suc k ≤ n). let z : n ≡ suc k = omega arith in z) (cases_lt n (suc k)) in
    rw t e)
    (λ (f : is_utf8 (take (suc k) bs) ≡ false).
    let l : n ≤ k = ⊎_elim (λ (g : n < suc k). let z : n ≤ k = omega arith in z) (λ (g : suc k ≤ n). let e : n ≡ suc k = omega arith in absurd (true≢false (sym (is_utf8-from_IsUtf8 (take (suc k) bs) (subst (λ m. IsUtf8 (take m bs)) e v.front)) ∙ f))) (cases_lt n (suc k)) in
    rw f (valid_from bs n v k l))
    (cases_Bool (is_utf8 (take (suc k) bs)))
