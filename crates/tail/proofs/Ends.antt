-- A text's first and its last character, as std's `strip_prefix` and `strip_suffix` see them.
use Rattle.std.proofs.Common.{◌≡◌, ℕ, ◌%◌, ◌<◌, Bool, true, false, List, [], ◌∷◌, ◌++◌, Some, None, IsUtf8, Option, unwrap_or, sym, refl, ap, ◌∙◌, ⊎_elim, arith, lit<, Bor, MatchOption}
use lib.Utf8.{encode, encodes, low_scalar}
use Rattle.std.specs.Str.{chars}
use Rattle.std.proofs.lemmas.Bool.{cases_Bool, eq-eqb, ne_eqb, eqb-true}
use Rattle.std.proofs.lemmas.Str.{encodes-append, encodes-chars, chars_past_char, encode_ascii}
use Rattle.std.proofs.lemmas.List.{append-nil}
use Rattle.tail.specs.Entries.{without_last_pipe}
use Rattle.tail.specs.Texts.{is, at_end, starts_with, ends_with, front, without_first, without_last}
use Rattle.tail.proofs.Spelling.{decodes_push}

pub ends_with-push : (d : ℕ) (cs : List ℕ) → ends_with d (cs ++ (d ∷ [])) ≡ true
ends_with-push d [] = eq-eqb d d refl
ends_with-push d (c ∷ []) = eq-eqb d d refl
ends_with-push d (c ∷ b ∷ cs) = ends_with-push d (b ∷ cs)

pub front-push : (d : ℕ) (cs : List ℕ) → front (cs ++ (d ∷ [])) ≡ cs
front-push d [] = refl
front-push d (c ∷ []) = refl
front-push d (c ∷ b ∷ cs) = ap (λ l. c ∷ l) (front-push d (b ∷ cs))

pub front-append : (d : ℕ) (cs : List ℕ) → ends_with d cs ≡ true → cs ≡ front cs ++ (d ∷ [])
front-append d [] e = let z : ◌≡◌ {A = Bool} true false = sym e in cc
front-append d (c ∷ []) e = ap (λ x. x ∷ []) (eqb-true c d e)
front-append d (c ∷ b ∷ cs) e = ap (λ l. c ∷ l) (front-append d (b ∷ cs) e)

-- an ASCII character in front of a text
module _ (d : ℕ) (low : d < 128) where
  pub chars_first : (bs xs : List ℕ) → IsUtf8 bs → bs ≡ d ∷ xs → chars bs ≡ d ∷ chars xs
  chars_first bs xs u e = chars_past_char bs xs d u (e ∙ ap (λ l. l ++ xs) (sym (encode_ascii d low)))

  not_first : (bs cs : List ℕ) → encodes cs ≡ bs → ((xs : List ℕ) → bs ≡ d ∷ xs → ⊥) → starts_with d cs ≡ false
  not_first bs [] e never = refl
  not_first bs (c ∷ cs) e never = ne_eqb c d (λ q. never (encodes cs) (sym e ∙ (ap (λ x. encode x ++ encodes cs) q ∙ ap (λ l. l ++ encodes cs) (encode_ascii d low))))

  pub chars_not_first : (bs : List ℕ) → IsUtf8 bs → ((xs : List ℕ) → bs ≡ d ∷ xs → ⊥) → starts_with d (chars bs) ≡ false
  chars_not_first bs u never = not_first bs (chars bs) (encodes-chars bs u) never

  -- `strip_prefix` with `unwrap_or`
  pub prefix_or : (t : Bor (List ℕ)) (r : Option (Bor (List ℕ))) → IsUtf8 t.now → MatchOption r ((xs : List ℕ) → t.now ≡ d ∷ xs → ⊥) (λ x. t.now ≡ d ∷ x.now) → chars (unwrap_or r t).now ≡ without_first d (chars t.now)
  prefix_or t None u h = rw (chars_not_first t.now u h) refl
  prefix_or t (Some x) u h = rw (chars_first t.now x.now u h, eq-eqb d d refl) refl

  -- an ASCII character at the end
  pub chars_last : (bs xs : List ℕ) → IsUtf8 bs → bs ≡ xs ++ (d ∷ []) → chars bs ≡ chars xs ++ (d ∷ [])
  chars_last bs xs u e = decodes_push bs xs d u (low_scalar d (omega arith)) (e ∙ ap (λ l. xs ++ l) (sym (encode_ascii d low)))

  pub chars_not_last : (bs : List ℕ) → IsUtf8 bs → ((xs : List ℕ) → bs ≡ xs ++ (d ∷ []) → ⊥) → ends_with d (chars bs) ≡ false
  chars_not_last bs u never = ⊎_elim (λ e. absurd (never (encodes (front (chars bs)))
      (sym (encodes-chars bs u) ∙ (ap encodes (front-append d (chars bs) e) ∙ (encodes-append (front (chars bs)) (d ∷ []) ∙ ap (λ l. encodes (front (chars bs)) ++ l) (append-nil (encode d) ∙ encode_ascii d low)))))) (λ e. e) (cases_Bool (ends_with d (chars bs)))

-- `strip_suffix` with `unwrap_or`
pub suffix_or : (d : ℕ) → d < 128 → (t : Bor (List ℕ)) (r : Option (Bor (List ℕ))) → IsUtf8 t.now → MatchOption r ((f : List ℕ) → t.now ≡ f ++ (d ∷ []) → ⊥) (λ x. t.now ≡ x.now ++ (d ∷ [])) → chars (unwrap_or r t).now ≡ without_last d (chars t.now)
suffix_or d low t None u h = rw (chars_not_last d low t.now u h) refl
suffix_or d low t (Some x) u h = rw (chars_last d low t.now x.now u h, ends_with-push d (chars x.now), front-push d (chars x.now)) refl

-- a pipe at the end that is decoration, one that is not, and none
module _ (o : List ℕ) (u : IsUtf8 o) where
  pub pipe_off : (x : List ℕ) → o ≡ x ++ (124 ∷ []) → at_end (is 92) (chars x) % 2 ≡ 0 → without_last_pipe (chars o) ≡ chars x
  pipe_off x e even = rw (chars_last 124 (lit< tt) o x u e, ends_with-push 124 (chars x), front-push 124 (chars x), even) refl

  pub pipe_on : (x : List ℕ) → o ≡ x ++ (124 ∷ []) → (at_end (is 92) (chars x) % 2 ≡ 0 → ⊥) → without_last_pipe (chars o) ≡ chars o
  pipe_on x e odd = rw (chars_last 124 (lit< tt) o x u e, ends_with-push 124 (chars x), front-push 124 (chars x), ne_eqb (at_end (is 92) (chars x) % 2) 0 odd) refl

  pub pipe_none : ((x : List ℕ) → o ≡ x ++ (124 ∷ []) → ⊥) → without_last_pipe (chars o) ≡ chars o
  pipe_none never = rw (chars_not_last 124 (lit< tt) o u never) refl
