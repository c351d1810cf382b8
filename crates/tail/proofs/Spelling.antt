-- What std's text functions say of the characters of a text.
use Rattle.std.proofs.Common.{◌≡◌, ℕ, suc, ◌+◌, ◌<◌, ◌≤◌, Bool, true, false, cond, ◌&&◌, eqb, List, [], ◌∷◌, ◌++◌, length, take, drop, Some, None, IsUtf8, MatchBool, sym, refl, ap, ◌∙◌, subst, append_assoc, arith}
use lib.Utf8.{scalar, scalars, encode, encodes}
use Rattle.std.specs.Char.{is_whitespace}
use Rattle.std.specs.Str.{NonePass, IsCharBoundary, chars, skip_leading_whitespace, drop_trailing_whitespace, trim_start, trim_end, trim}
use Rattle.std.proofs.lemmas.List.{append-nil, take-append-drop, nil_from_length, take_at, length-append}
use Rattle.std.proofs.lemmas.Str.{encodes-append, chars_from_encodes, encodes-chars, scalars-chars, chars_past_char, chars-nil, IsCharBoundary-at_seam, IsUtf8-take, IsUtf8-drop, IsUtf8-past_char, IsUtf8-encode, encode_ascii, length-encode, len_utf8_bounds, length-le-encodes}
use Rattle.std.proofs.lemmas.Bool.{ne_eqb, eq-eqb, or_from, or_left, or_right, and_parts, cond_both}
use Rattle.std.specs.Str.Pattern.{FindsChar}
use Rattle.tail.specs.Texts.{all, any, is, past, before, trimmed}

-- a text that was cut in two: the characters of the front, written out as cs, and those of the rest
pub decodes_cut : (bs xs ys cs : List ℕ) → IsUtf8 bs → IsUtf8 ys → bs ≡ xs ++ ys → encodes cs ≡ xs → chars bs ≡ cs ++ chars ys
decodes_cut bs xs ys cs u v e f =
    sym (chars_from_encodes (cs ++ chars ys) bs u (encodes-append cs (chars ys) ∙ (ap (λ l. l ++ encodes (chars ys)) f ∙ (ap (λ l. xs ++ l) (encodes-chars ys v) ∙ sym e))))

-- the same with the rest written out
pub decodes_cut_back : (bs xs ys cs : List ℕ) → IsUtf8 bs → IsUtf8 xs → bs ≡ xs ++ ys → encodes cs ≡ ys → chars bs ≡ chars xs ++ cs
decodes_cut_back bs xs ys cs u v e f =
    sym (chars_from_encodes (chars xs ++ cs) bs u (encodes-append (chars xs) cs ∙ (ap (λ l. l ++ encodes cs) (encodes-chars xs v) ∙ (ap (λ l. xs ++ l) f ∙ sym e))))

-- a text that ends with the character c
pub utf8_front : (bs xs : List ℕ) (c : ℕ) → IsUtf8 bs → scalar c ≡ true → bs ≡ xs ++ encode c → IsUtf8 xs
utf8_front bs xs c u s e = subst IsUtf8 (ap (take (length xs)) e ∙ take_at xs (encode c) (length xs) refl) (IsUtf8-take bs (length xs) u (IsCharBoundary-at_seam bs xs (encode c) e (IsUtf8-encode c s)))

pub decodes_push : (bs xs : List ℕ) (c : ℕ) → IsUtf8 bs → scalar c ≡ true → bs ≡ xs ++ encode c → chars bs ≡ chars xs ++ (c ∷ [])
decodes_push bs xs c u s e = decodes_cut_back bs xs (encode c) (c ∷ []) u (utf8_front bs xs c u s e) e (append-nil (encode c))

-- what `trim_start` leaves
past-skip : (cs : List ℕ) → skip_leading_whitespace cs ≡ past is_whitespace cs
past-skip [] = refl
past-skip (c ∷ cs) = ap (λ l. cond (is_whitespace c) l (c ∷ cs)) (past-skip cs)

pub trim_start_chars : (bs r : List ℕ) → IsUtf8 r → r ≡ trim_start bs → chars r ≡ past is_whitespace (chars bs)
unfolding trim_start
trim_start_chars bs r v e = sym (chars_from_encodes (skip_leading_whitespace (chars bs)) r v (sym e)) ∙ past-skip (chars bs)

-- what `trim` leaves
before-empty : (p : ℕ → Bool) (cs : List ℕ) → eqb (length (before p cs)) 0 ≡ all p cs
before-empty p [] = refl
before-empty p (c ∷ cs) = elim (p c && all p cs) as (λ b. eqb (length (cond b [] (c ∷ before p cs))) 0 ≡ b) [ true ↦ refl | false ↦ ne_eqb (suc (length (before p cs))) 0 (λ q. omega arith) ]

before-drop : (cs : List ℕ) → drop_trailing_whitespace cs ≡ before is_whitespace cs
before-drop [] = refl
before-drop (c ∷ cs) = ap (λ l. cond (is_whitespace c && eqb (length l) 0) [] (c ∷ l)) (before-drop cs) ∙ ap (λ b. cond (is_whitespace c && b) [] (c ∷ before is_whitespace cs)) (before-empty is_whitespace cs)

scalars-skip : (cs : List ℕ) → scalars cs ≡ true → scalars (skip_leading_whitespace cs) ≡ true
scalars-skip [] e = refl
scalars-skip (c ∷ cs) e = cond_both (is_whitespace c) (skip_leading_whitespace cs) (c ∷ cs) (λ l. scalars l ≡ true) (λ _. scalars-skip cs (and_parts (scalar c) (scalars cs) e).1) (λ _. e)

utf8_skip : (bs : List ℕ) → IsUtf8 bs → IsUtf8 (trim_start bs)
unfolding trim_start
utf8_skip bs u = (skip_leading_whitespace (chars bs), (scalars-skip (chars bs) (scalars-chars bs u), refl))

pub trim_chars : (bs t : List ℕ) → IsUtf8 bs → IsUtf8 t → t ≡ trim bs → chars t ≡ trimmed (chars bs)
unfolding trim_end
trim_chars bs t u v e =
    sym (chars_from_encodes (drop_trailing_whitespace (chars (trim_start bs))) t v (sym e))
    ∙ (before-drop (chars (trim_start bs)) ∙ ap (before is_whitespace) (trim_start_chars bs (trim_start bs) (utf8_skip bs u) refl))

-- a character takes a byte at least
pub step_length : (s t : List ℕ) (c : ℕ) → s ≡ encode c ++ t → length t + 1 ≤ length s
step_length s t c e = omega (arith, ap length e, length-append (encode c) t, length-encode c, (len_utf8_bounds c).0)

pub decodes_none : (s : List ℕ) → length s ≡ 0 → chars s ≡ []
decodes_none s e = ap chars (nil_from_length s e) ∙ chars-nil

-- a text has no more characters than bytes
pub chars_fit : (bs : List ℕ) → IsUtf8 bs → length (chars bs) ≤ length bs
chars_fit bs u = omega (arith, length-le-encodes (chars bs), ap length (encodes-chars bs u))

-- a text without bytes has no characters, and one with bytes has some
same_none : (bs cs : List ℕ) → encodes cs ≡ bs → eqb (length bs) 0 ≡ eqb (length cs) 0
same_none bs [] e = ap (λ l. eqb (length l) 0) (sym e)
same_none bs (c ∷ cs) e = ne_eqb (length bs) 0 (λ q. omega (arith, step_length bs (encodes cs) c (sym e))) ∙ sym (ne_eqb (suc (length cs)) 0 (λ q. omega arith))

same_empty : (bs : List ℕ) → IsUtf8 bs → eqb (length bs) 0 ≡ eqb (length (chars bs)) 0
same_empty bs u = same_none bs (chars bs) (encodes-chars bs u)

any_none : (p : ℕ → Bool) (cs : List ℕ) → NonePass p cs → any p cs ≡ false
any_none p [] f = refl
any_none p (c ∷ cs) f = or_from (p c) (any p cs) f.0 (any_none p cs f.1)

pub any_some : (p : ℕ → Bool) (xs ys : List ℕ) (c : ℕ) → p c ≡ true → any p (xs ++ (c ∷ ys)) ≡ true
any_some p [] ys c t = or_left (p c) (any p ys) t
any_some p (x ∷ xs) ys c t = or_right (p x) (any p (xs ++ (c ∷ ys))) (any_some p xs ys c t)

-- the clause of `contains` at a character
pub contains_chars : (d : ℕ) (bs : List ℕ) (r : Bool) → IsUtf8 bs → MatchBool r ((i : ℕ) × (j : ℕ) × FindsChar d bs (Some (i, j)) × (i ≤ j) × (j ≤ length bs)) (FindsChar d bs None) → r ≡ any (is d) (chars bs)
contains_chars d bs false u h = sym (ap (any (is d)) (sym (chars_from_encodes h.0 bs u h.1)) ∙ any_none (is d) h.0 h.2)
contains_chars d bs true u h =
    let i = h.0 in
    let j = h.1 in
    let w = h.2.0 in
    let a = h.2.1 in
    let v = IsUtf8-drop bs j u (subst (IsCharBoundary bs) (sym a.ends) a.after) in
    let cut : bs ≡ (take i bs ++ encode d) ++ drop j bs = sym (take-append-drop i bs) ∙ (ap (λ l. take i bs ++ l) a.split ∙ sym (append_assoc (take i bs) (encode d) (drop j bs))) in
    let front : encodes (w.0 ++ (d ∷ [])) ≡ take i bs ++ encode d = encodes-append w.0 (d ∷ []) ∙ (ap (λ l. l ++ (encode d ++ [])) w.1 ∙ ap (λ l. take i bs ++ l) (append-nil (encode d))) in
    sym (ap (any (is d)) (decodes_cut bs (take i bs ++ encode d) (drop j bs) (w.0 ++ (d ∷ [])) u v cut front ∙ append_assoc w.0 (d ∷ []) (chars (drop j bs))) ∙ any_some (is d) w.0 (chars (drop j bs)) d (eq-eqb d d refl))

-- what follows an ASCII character is text
pub utf8_tail : (d : ℕ) (s t : List ℕ) → d < 128 → IsUtf8 s → s ≡ d ∷ t → IsUtf8 t
utf8_tail d s t low u e = IsUtf8-past_char s t d u (e ∙ ap (λ l. l ++ t) (sym (encode_ascii d low)))

pub encodes_push : (cs : List ℕ) (c : ℕ) → encodes (cs ++ (c ∷ [])) ≡ encodes cs ++ encode c
encodes_push cs c = encodes-append cs (c ∷ []) ∙ ap (λ l. encodes cs ++ l) (append-nil (encode c))

-- what `trim_start` leaves begins with the character x
pub first_char : (line t rest : List ℕ) (x : ℕ) → IsUtf8 t → t ≡ trim_start line → t ≡ encode x ++ rest → past is_whitespace (chars line) ≡ x ∷ chars rest
first_char line t rest x u e f = sym (trim_start_chars line t u e) ∙ chars_past_char t rest x u f

past-empty : (p : ℕ → Bool) (cs : List ℕ) → eqb (length (past p cs)) 0 ≡ all p cs
past-empty p [] = refl
past-empty p (c ∷ cs) = elim (p c) as (λ b. eqb (length (cond b (past p cs) (c ∷ cs))) 0 ≡ (b && all p cs)) [ true ↦ past-empty p cs | false ↦ ne_eqb (suc (length cs)) 0 (λ q. omega arith) ]

-- a text is blank if `trim_start` leaves nothing
pub blank_by : (bs r : List ℕ) (b x : Bool) → IsUtf8 r → r ≡ trim_start bs → b ≡ eqb (length r) 0 → b ≡ x → all is_whitespace (chars bs) ≡ x
blank_by bs r b x v h e f = sym (e ∙ (same_empty r v ∙ (ap (λ l. eqb (length l) 0) (trim_start_chars bs r v h) ∙ past-empty is_whitespace (chars bs)))) ∙ f

-- a text of the characters cs has none if it has no bytes
pub empty_by : (bs cs : List ℕ) (b x : Bool) → IsUtf8 bs → chars bs ≡ cs → b ≡ eqb (length bs) 0 → b ≡ x → eqb (length cs) 0 ≡ x
empty_by bs cs b x u e f g = sym (ap (λ l. eqb (length l) 0) e) ∙ (sym (f ∙ same_empty bs u) ∙ g)
