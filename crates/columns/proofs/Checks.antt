-- The check of one column after another.
use Rattle.std.proofs.Common.{◌≡◌, ℕ, zero, suc, ◌+◌, ◌<◌, ◌≤◌, Bool, true, false, cond, ltb, List, [], ◌∷◌, length, get_or, Some, None, Option, Ok, Err, Result, sym, refl, ap, ◌∙◌, add-one, arith}
use Rattle.std.specs.List.{position_or_len, position_from}
use Rattle.std.proofs.lemmas.Iterator.Adapters.{position_from-zero}
use Rattle.std.proofs.lemmas.Bool.{ltb-false, le-ltb, cond-false}
use Rattle.columns.specs.declared.Refusal.{Refusal}
use Rattle.columns.specs.declared.Refusal.TheVariants.{TooManyColumns, TooWide}
use Rattle.columns.specs.Layout.{first_too_wide, answered}

-- what is answered where the first column that is too wide is this one, or none
abbrev pub told : Option ℕ → Result (Unit {0}) Refusal
told None = Ok tt
told (Some i) = Err (TooWide i)

first_too_wide-told : (i : ℕ) (ns : List ℕ) → first_too_wide i ns ≡ told (position_from (ltb 100000) i ns)
first_too_wide-told i [] = refl
first_too_wide-told i (n ∷ ns) =
    at (ltb 100000 n) (first_too_wide-told (suc i) ns ∙ ap (λ k. told (position_from (ltb 100000) k ns)) (sym (add-one i)))
  where
    at : (t : Bool) → first_too_wide (suc i) ns ≡ told (position_from (ltb 100000) (i + 1) ns)
        → cond t (Err (TooWide i)) (first_too_wide (suc i) ns) ≡ told (cond t (Some i) (position_from (ltb 100000) (i + 1) ns))
    at true more = refl
    at false more = more

pub answered_by : (ns : List ℕ) {r : Option ℕ} → length ns ≤ 32
    → r ≡ cond (ltb (position_or_len (ltb 100000) ns) (length ns)) (Some (position_or_len (ltb 100000) ns)) None → told r ≡ answered ns
answered_by ns few found =
    ap told (found ∙ position_from-zero (ltb 100000) ns)
    ∙ (sym (first_too_wide-told 0 ns) ∙ sym (cond-false (ltb 32 (length ns)) (Err TooManyColumns) (first_too_wide 0 ns) (le-ltb 32 (length ns) few)))

-- what an admitted question has
first_too_wide-none : (i : ℕ) (ns : List ℕ) → first_too_wide i ns ≡ Ok tt → (k : ℕ) → k < length ns → get_or ns k 0 ≤ 100000
first_too_wide-none i [] e k h = absurd (omega arith)
first_too_wide-none i (n ∷ ns) e k h = at k h (ltb 100000 n) refl e (first_too_wide-none (suc i) ns)
  where
    at : (k : ℕ) → k < length (n ∷ ns) → (b : Bool) → ltb 100000 n ≡ b → cond b (Err (TooWide i)) (first_too_wide (suc i) ns) ≡ Ok tt → (first_too_wide (suc i) ns ≡ Ok tt → (k : ℕ) → k < length ns → get_or ns k 0 ≤ 100000) → get_or (n ∷ ns) k 0 ≤ 100000
    at k h true t e more = let no : ◌≡◌ {A = ℕ} 0 1 = cc in omega arith
    at zero h false t e more = ltb-false 100000 n t
    at (suc k) h false t e more = more e k (omega arith)

pub answered_few : (ns : List ℕ) → answered ns ≡ Ok tt → length ns ≤ 32
answered_few ns e = few (ltb 32 (length ns)) refl e
  where
    few : (b : Bool) → ltb 32 (length ns) ≡ b → cond b (Err TooManyColumns) (first_too_wide 0 ns) ≡ Ok tt → length ns ≤ 32
    few true t e = let no : ◌≡◌ {A = ℕ} 0 1 = cc in omega arith
    few false t e = ltb-false 32 (length ns) t

pub answered_narrow : (ns : List ℕ) → answered ns ≡ Ok tt → (k : ℕ) → k < length ns → get_or ns k 0 ≤ 100000
answered_narrow ns e = first_too_wide-none 0 ns (sym (cond-false (ltb 32 (length ns)) (Err TooManyColumns) (first_too_wide 0 ns) (le-ltb 32 (length ns) (answered_few ns e))) ∙ e)
