-- How many pieces a text has between pipes that no backslash escapes.
use Rattle.std.proofs.Common.{◌≡◌, ℕ, suc, ◌+◌, ◌≤◌, Bool, true, false, cond, eqb, List, [], ◌∷◌, ◌++◌, length, Some, None, Option, MatchOption, IsUtf8, sym, refl, ap, ◌∙◌, arith}
use lib.Utf8.{encode}
use Rattle.std.specs.Str.{chars}
use Rattle.tail.proofs.Spelling.{decodes_none}
use Rattle.std.proofs.lemmas.Str.{chars_past_char, IsUtf8-past_char}
use Rattle.std.proofs.lemmas.Bool.{eq-eqb, ne_eqb}
use Rattle.tail.specs.Lines.{onto}
use Rattle.tail.specs.Entries.{pieces}

pub length-onto : (c : ℕ) (ls : List (List ℕ)) → length (onto c ls) ≡ length ls
length-onto c [] = refl
length-onto c (l ∷ ls) = refl

-- there is one piece at least, and one more than there are characters at most
pub pieces_bounds : (b : Bool) (cs : List ℕ) → (1 ≤ length (pieces b cs)) × (length (pieces b cs) ≤ length cs + 1)
pieces_bounds true [] = (omega arith, omega arith)
pieces_bounds false [] = (omega arith, omega arith)
pieces_bounds true (c ∷ cs) = let h = pieces_bounds false cs in rw length-onto (omega arith, omega arith)
pieces_bounds false (c ∷ cs) =
    let h = pieces_bounds false cs in
    let k = pieces_bounds (eqb c 92) cs in
    elim (eqb c 124) as (λ b. (1 ≤ length (cond b ([] ∷ pieces false cs) (onto c (pieces (eqb c 92) cs)))) × (length (cond b ([] ∷ pieces false cs) (onto c (pieces (eqb c 92) cs))) ≤ suc (length cs) + 1))
    [ true ↦ (omega arith, omega arith) | false ↦ rw length-onto (omega arith, omega arith) ]

-- one character of a text on, by what it is
module _ (s t : List ℕ) (c : ℕ) (u : IsUtf8 s) (e : s ≡ encode c ++ t) where
  first : chars s ≡ c ∷ chars t
  first = chars_past_char s t c u e

  pub count_pipe : c ≡ 124 → length (pieces false (chars s)) ≡ suc (length (pieces false (chars t)))
  count_pipe h = rw (first, h) refl

  count-plain : (c ≡ 124 → ⊥) → length (pieces false (chars s)) ≡ length (pieces (eqb c 92) (chars t))
  count-plain n = rw (first, ne_eqb c 124 n) (length-onto c (pieces (eqb c 92) (chars t)))

  pub count_other : (c ≡ 92 → ⊥) → (c ≡ 124 → ⊥) → length (pieces false (chars s)) ≡ length (pieces false (chars t))
  count_other m n = count-plain n ∙ ap (λ b. length (pieces b (chars t))) (ne_eqb c 92 m)

  count_backslash : c ≡ 92 → length (pieces false (chars s)) ≡ length (pieces true (chars t))
  count_backslash h = count-plain (λ q. omega arith) ∙ ap (λ b. length (pieces b (chars t))) (eq-eqb c 92 h)

-- a backslash, and the character behind it if there is one: what is left after i is left after k
pub count_escape : {S : Type 0} (rest : S → List ℕ) (i k : S) (s : List ℕ) (c : ℕ) (r : Option ℕ) → IsUtf8 s → s ≡ encode c ++ rest i → c ≡ 92 → MatchOption r ((length (rest i) ≡ 0) × (k ≡ i)) (λ x. rest i ≡ encode x ++ rest k) → IsUtf8 (rest k) × (length (pieces false (chars s)) ≡ length (pieces false (chars (rest k))))
count_escape rest i k s c None u e h n =
    let none = decodes_none (rest i) n.0 in
    rw n.1 (IsUtf8-past_char s (rest i) c u e, count_backslash s (rest i) c u e h ∙ (ap (λ l. length (pieces true l)) none ∙ sym (ap (λ l. length (pieces false l)) none)))
count_escape rest i k s c (Some x) u e h n =
    let v = IsUtf8-past_char s (rest i) c u e in
    (IsUtf8-past_char (rest i) (rest k) x v n, count_backslash s (rest i) c u e h ∙ (ap (λ l. length (pieces true l)) (chars_past_char (rest i) (rest k) x v n) ∙ length-onto x (pieces false (chars (rest k)))))
