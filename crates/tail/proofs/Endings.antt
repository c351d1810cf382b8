-- How many of a character stand at the end of a text.
use Rattle.std.proofs.Common.{◌≡◌, ℕ, suc, ◌+◌, ◌-◌, ◌<◌, true, false, cond, ◌&&◌, eqb, List, [], ◌∷◌, ◌++◌, length, drop, Some, None, IsUtf8, sym, refl, ap, ◌∙◌, subst, length-append, arith}
use Rattle.std.specs.Str.{IsCharBoundary, chars}
use Rattle.std.specs.Str.Pattern.{CutsSuffixes, IsFullyTrimmed, FindsCharSuffix}
use Rattle.std.proofs.lemmas.Bool.{eq-eqb, and_left, and_right}
use Rattle.std.proofs.lemmas.List.{append-nil, take-append-drop}
use lib.Utf8.{encode}
use Rattle.std.proofs.Math.Seq.{drop-length}
use Rattle.std.proofs.lemmas.Str.{encode_ascii, len_utf8_ascii, IsUtf8-take}
use Rattle.tail.specs.Texts.{all, is, at_end, ends_with}
use Rattle.tail.proofs.Ends.{chars_last, chars_not_last}

module _ (d : ℕ) where
  all-push : (cs : List ℕ) → all (is d) (cs ++ (d ∷ [])) ≡ all (is d) cs
  all-push [] = rw (eq-eqb d d refl) refl
  all-push (c ∷ cs) = ap (λ b. eqb c d && b) (all-push cs)

  at_end-push : (cs : List ℕ) → at_end (is d) (cs ++ (d ∷ [])) ≡ 1 + at_end (is d) cs
  at_end-push [] = rw (eq-eqb d d refl) refl
  at_end-push (c ∷ cs) = rw (all-push cs, at_end-push cs)
      (elim (eqb c d && all (is d) cs) as (λ b. cond b (suc (length (cs ++ (d ∷ [])))) (1 + at_end (is d) cs) ≡ 1 + cond b (suc (length cs)) (at_end (is d) cs)) [ true ↦ omega (arith, length-append cs (d ∷ [])) | false ↦ refl ])

  all-ends : (c : ℕ) (cs : List ℕ) → ends_with d (c ∷ cs) ≡ false → all (is d) (c ∷ cs) ≡ false
  all-ends c [] e = and_left (eqb c d) true e
  all-ends c (b ∷ cs) e = and_right (eqb c d) (all (is d) (b ∷ cs)) (all-ends b cs e)

  pub at_end-none : (cs : List ℕ) → ends_with d cs ≡ false → at_end (is d) cs ≡ 0
  at_end-none [] e = refl
  at_end-none (c ∷ []) e = rw e refl
  at_end-none (c ∷ b ∷ cs) e = rw (and_right (eqb c d) (all (is d) (b ∷ cs)) (all-ends b cs e)) (at_end-none (b ∷ cs) e)

  module _ (low : d < 128) where
    -- all of them are cut off
    pub ends_off : (s r ns : List ℕ) → IsUtf8 s → CutsSuffixes (FindsCharSuffix d) s ns r → IsUtf8 r × (length r + at_end (is d) (chars s) ≡ length s + at_end (is d) (chars r))
    ends_off s r [] u h = (subst IsUtf8 (sym h) u, ap (λ l. length l + at_end (is d) (chars s)) h ∙ ap (λ l. length s + at_end (is d) (chars l)) (sym h))
    ends_off s r (n ∷ ns) u (m, cut, at, e) =
        let before = ends_off s m ns u cut in
        let v : IsUtf8 r = subst IsUtf8 (sym e) (IsUtf8-take m (length m - n) before.0 (subst (λ k. IsCharBoundary m (length m - k)) (sym at.0) at.2)) in
        let f : m ≡ r ++ (d ∷ []) = sym (take-append-drop (length m - n) m) ∙ (ap (λ l. l ++ drop (length m - n) m) (sym e) ∙ ap (λ l. r ++ l) (at.1.split ∙ (ap (λ l. encode d ++ l) (drop-length m) ∙ (append-nil (encode d) ∙ encode_ascii d low)))) in
        (v, omega (arith, before.1, ap (at_end (is d)) (chars_last d low m r before.0 f), at_end-push (chars r), ap length f, length-append r (d ∷ [])))

    pub ends_gone : (r : List ℕ) → IsUtf8 r → IsFullyTrimmed (FindsCharSuffix d) r → ends_with d (chars r) ≡ false
    ends_gone r u (None, none, _) = chars_not_last d low r u (λ xs e. none xs (e ∙ ap (λ l. xs ++ l) (sym (encode_ascii d low))))
    ends_gone r u (Some n, at, e) = absurd (omega (arith, at.0, len_utf8_ascii d low, e))
