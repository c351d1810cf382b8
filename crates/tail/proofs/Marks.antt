-- Marks at the front of a text.
use Rattle.std.proofs.Common.{◌≡◌, ℕ, ◌+◌, ◌<◌, false, List, [], ◌∷◌, ◌++◌, length, drop, Some, None, IsUtf8, sym, refl, ap, ◌∙◌, subst, arith, lit<}
use Rattle.std.specs.List.{prefix_len}
use Rattle.std.specs.Str.{chars}
use Rattle.std.specs.Str.Pattern.{CutsPrefixes, IsFullyTrimmed, FindsCharPrefix}
use Rattle.std.proofs.lemmas.Str.{encode_ascii, len_utf8_ascii}
use Rattle.std.proofs.lemmas.Bool.{eq-eqb}
use Rattle.tail.specs.Texts.{is, past, starts_with}
use Rattle.tail.specs.Fences.{sign}
use Rattle.tail.specs.declared.fences.Mark.{Mark}
use Rattle.tail.specs.declared.fences.Mark.TheVariants.{Backtick, Tilde}
use Rattle.tail.proofs.Ends.{chars_first, chars_not_first}
use Rattle.tail.proofs.Spelling.{utf8_tail}

pub sign_low : (m : Mark) → sign m < 128
sign_low Backtick = lit< tt
sign_low Tilde = lit< tt

pub leading_none : (d : ℕ) (cs : List ℕ) → starts_with d cs ≡ false → prefix_len (is d) cs ≡ 0
leading_none d [] e = refl
leading_none d (c ∷ cs) e = rw e refl

pub past-none : (d : ℕ) (cs : List ℕ) → starts_with d cs ≡ false → past (is d) cs ≡ cs
past-none d [] e = refl
past-none d (c ∷ cs) e = rw e refl

-- one mark on
module _ (d : ℕ) (low : d < 128) (s t : List ℕ) (u : IsUtf8 s) (e : s ≡ d ∷ t) where
  pub mark_counts : prefix_len (is d) (chars s) ≡ 1 + prefix_len (is d) (chars t)
  mark_counts = rw (chars_first d low s t u e, eq-eqb d d refl) refl

  pub mark-past : past (is d) (chars s) ≡ past (is d) (chars t)
  mark-past = rw (chars_first d low s t u e, eq-eqb d d refl) refl

-- all of them
pub marks_off : (d : ℕ) (low : d < 128) (s r ns : List ℕ) → IsUtf8 s → CutsPrefixes (FindsCharPrefix d) s ns r → IsUtf8 r × (length r + prefix_len (is d) (chars s) ≡ length s + prefix_len (is d) (chars r)) × (past (is d) (chars r) ≡ past (is d) (chars s))
marks_off d low s r [] u h = (subst IsUtf8 (sym h) u, ap (λ l. length l + prefix_len (is d) (chars s)) h ∙ ap (λ l. length s + prefix_len (is d) (chars l)) (sym h), ap (λ l. past (is d) (chars l)) h)
marks_off d low s r (n ∷ ns) u (m, cut, at, e) =
    let before = marks_off d low s m ns u cut in
    let f : m ≡ d ∷ r = at.split ∙ (ap (λ l. l ++ drop n m) (encode_ascii d low) ∙ ap (λ l. d ∷ l) (sym e)) in
    (utf8_tail d m r low before.0 f, omega (arith, before.1, mark_counts d low m r before.0 f, ap length f), sym (mark-past d low m r before.0 f) ∙ before.2)

pub marks_gone : (d : ℕ) (low : d < 128) (r : List ℕ) → IsUtf8 r → IsFullyTrimmed (FindsCharPrefix d) r → starts_with d (chars r) ≡ false
marks_gone d low r u (None, none, _) = chars_not_first d low r u (λ xs e. none xs (e ∙ ap (λ l. l ++ xs) (sym (encode_ascii d low))))
marks_gone d low r u (Some n, at, e) = absurd (omega (arith, at.ends, len_utf8_ascii d low, e))
