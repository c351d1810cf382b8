use Rattle.std.proofs.Common.{◌≡◌, ℕ, ◌+◌, ◌-◌, ◌<◌, ◌≤◌, Bool, true, List, [], ◌∷◌, ◌++◌, length, take, drop, get_or, IsUtf8, refl, sym, ap, subst, ◌∙◌, ◌↔◌, ⊎_elim, arith}
use lib.Utf8.{encode, encodes}
use Rattle.std.specs.Bool.{IsTrue}
use Rattle.std.specs.Char.{IsScalar, is_whitespace, is_not_whitespace}
use Rattle.std.specs.Str.{NonePass, IsCharBoundary, IsValidUpTo, IsTrimEnd, chars}
use Rattle.std.proofs.lemmas.Bool.{and_parts, and_from, both_ways, cases_lt, not-true, not-false}
use Rattle.std.proofs.lemmas.Bool.Decides.{same_from_decides}
use Rattle.std.proofs.lemmas.List.{append-nil, take-append-drop, take-take, length-take-le, length-drop, length-append, take_at, get_or-take, drop-append-le, drop_all}
use Rattle.std.proofs.lemmas.Str.{IsUtf8-append, IsUtf8-encode, IsUtf8-take, IsUtf8-drop, IsCharBoundary-from_drop, IsCharBoundary-from_take, IsCharBoundary-at_seam, chars-nil, chars-append, chars_past_char, chars_from_encodes, encodes-chars}
use Rattle.clusters.specs.Texts.{is_text}
use Rattle.clusters.proofs.Spelling.{text_decides}
use Rattle.blank.specs.Blanks.{all_white, is_blank}
use Rattle.blank.specs.Ends.{start_of, HoldsEnds, IsLongestEnd}
use Rattle.blank.proofs.Ends.{drop_in, holds_behind, holds_within}

pub blank-text : (bs : List ℕ) → is_blank bs ≡ true → is_text bs ≡ true
blank-text bs h = (and_parts (is_text bs) (all_white (chars bs)) h).0

blank-utf8 : (bs : List ℕ) → is_blank bs ≡ true → IsUtf8 bs
blank-utf8 bs h = (text_decides bs).0 (blank-text bs h)

blank-white : (bs : List ℕ) → is_blank bs ≡ true → all_white (chars bs) ≡ true
blank-white bs h = (and_parts (is_text bs) (all_white (chars bs)) h).1

blank_from : (bs : List ℕ) → IsUtf8 bs → all_white (chars bs) ≡ true → is_blank bs ≡ true
blank_from bs u w = and_from (is_text bs) (all_white (chars bs)) ((text_decides bs).1 u) w

-- where no character is dark, all are white
white_all : (cs : List ℕ) → NonePass is_not_whitespace cs → all_white cs ≡ true
white_all [] f = refl
white_all (c ∷ cs) f = and_from (is_whitespace c) (all_white cs) (not-false (is_whitespace c) f.0) (white_all cs f.1)

white_front : (cs ds : List ℕ) → all_white (cs ++ ds) ≡ true → all_white cs ≡ true
white_front [] ds h = refl
white_front (c ∷ cs) ds h =
    let p = and_parts (is_whitespace c) (all_white (cs ++ ds)) h in
    and_from (is_whitespace c) (all_white cs) p.0 (white_front cs ds p.1)

white_back : (cs ds : List ℕ) → all_white (cs ++ ds) ≡ true → all_white ds ≡ true
white_back [] ds h = h
white_back (c ∷ cs) ds h = white_back cs ds (and_parts (is_whitespace c) (all_white (cs ++ ds)) h).1

-- white space does not end with a dark character
not_dark : (cs : List ℕ) (c : ℕ) → all_white (cs ++ (c ∷ [])) ≡ true → is_not_whitespace c ≡ true → ⊥
not_dark cs c h d =
    let w = and_parts (is_whitespace c) true (white_back cs (c ∷ []) h) in
    both_ways (is_whitespace c) (not-true (is_whitespace c) d) w.0

-- a text up to where one of its ends begins is a text
text_before : (bs : List ℕ) (k v : ℕ) → k ≤ v → v ≤ length bs → IsUtf8 (take v bs) → IsUtf8 (drop k bs) → IsUtf8 (take k bs)
text_before bs k v l m t u =
    let b : IsCharBoundary bs k = IsCharBoundary-from_drop bs k (omega arith) u in
    let n : length (take v bs) ≡ v = length-take-le v bs m in
    let c : IsCharBoundary (take v bs) k = (omega arith, λ s h. let e = get_or-take v bs k 0 (omega arith) in omega (arith, b.1 (omega arith) (omega arith))) in
    subst IsUtf8 (take-take k v bs l) (IsUtf8-take (take v bs) k t c)

-- where bytes are no text, no end of them that begins at their fault or before it is one
pub text_behind : (bs : List ℕ) (v k : ℕ) → ¬ IsUtf8 bs → IsValidUpTo bs v → is_text (drop k bs) ≡ true → v + 1 ≤ k
text_behind bs v k n i h =
    let u = (text_decides (drop k bs)).0 h in
    let s = i.short in
    ⊎_elim (λ (l : v < k). omega arith) (λ (l : k ≤ v). absurd (n (subst IsUtf8 (take-append-drop k bs) (IsUtf8-append (take k bs) (drop k bs) (text_before bs k v l (omega arith) i.front u) u)))) (cases_lt v k)

-- the end of a list, in the second of its two parts if that has one
last_in : (xs ys fs : List ℕ) (c : ℕ) → 0 < length ys → xs ++ ys ≡ fs ++ (c ∷ []) → (es : List ℕ) × (ys ≡ es ++ (c ∷ []))
last_in [] ys fs c l e = (fs, e)
last_in (x ∷ xs) [] [] c l e = absurd (omega arith)
last_in (x ∷ xs) (y ∷ ys) [] c l e = absurd (let n = ap length e in let m = length-append xs (y ∷ ys) in omega arith)
last_in (x ∷ xs) ys (f ∷ fs) c l e = last_in xs ys fs c l (cc)

elim_chars : (cs bs : List ℕ) → encodes cs ≡ bs → 0 < length bs → 0 < length cs
elim_chars [] bs e l = absurd (let n : 0 ≡ length bs = ap length e in omega arith)
elim_chars (c ∷ cs) bs e l = omega arith

-- a text with bytes has characters
some_chars : (bs : List ℕ) → IsUtf8 bs → 0 < length bs → 0 < length (chars bs)
some_chars bs u l = elim_chars (chars bs) bs (encodes-chars bs u) l

-- a text that ends with a dark character ends with it from each of its places on
dark_from : (r front : List ℕ) (c k : ℕ) → IsUtf8 r → k < length r → IsUtf8 (drop k r) → r ≡ front ++ encode c → IsScalar c → (es : List ℕ) × (chars (drop k r) ≡ es ++ (c ∷ []))
dark_from r front c k u l v e s =
    let w = IsUtf8-encode c s in
    let f : IsUtf8 front = subst IsUtf8 (ap (take (length front)) e ∙ take_at front (encode c) (length front) refl) (IsUtf8-take r (length front) u (IsCharBoundary-at_seam r front (encode c) e w)) in
    let one : chars (encode c) ≡ c ∷ [] = chars_past_char (encode c) [] c w (sym (append-nil (encode c))) ∙ ap (λ l. c ∷ l) chars-nil in
    let right : chars r ≡ chars front ++ (c ∷ []) = ap chars e ∙ (chars-append front (encode c) f ∙ ap (λ l. chars front ++ l) one) in
    let t = IsUtf8-take r k u (IsCharBoundary-from_drop r k (omega arith) v) in
    let left : chars r ≡ chars (take k r) ++ chars (drop k r) = ap chars (sym (take-append-drop k r)) ∙ chars-append (take k r) (drop k r) t in
    last_in (chars (take k r)) (chars (drop k r)) (chars front) c (some_chars (drop k r) v (omega (arith, length-drop k r))) (sym left ∙ right)

white_before : (t r : List ℕ) (k : ℕ) → k < length r → IsUtf8 t → IsUtf8 r → IsTrimEnd t r → is_blank (drop k t) ≡ true → ⊥
white_before t r k l ut ur h b =
    let n = h.0 in
    let o = h.3 (omega arith) in
    let lr : length r ≡ n = h.4 in
    let bt : IsCharBoundary t k = IsCharBoundary-from_drop t k (omega arith) (blank-utf8 (drop k t) b) in
    let same : get_or r k 0 ≡ get_or t k 0 = ap (λ x. get_or x k 0) h.1 ∙ get_or-take n t k 0 (omega arith) in
    let br : IsCharBoundary r k = (omega arith, λ s g. omega (arith, bt.1 (omega arith) (omega arith))) in
    let v = IsUtf8-drop r k ur br in
    let d = dark_from r o.1 o.0 k ur l v o.3 o.4 in
    let whole : t ≡ r ++ drop n t = sym (take-append-drop n t) ∙ ap (λ x. x ++ drop n t) (sym h.1) in
    let parts : drop k t ≡ drop k r ++ drop n t = ap (drop k) whole ∙ drop-append-le k r (drop n t) (omega arith) in
    let e : chars (drop k t) ≡ chars (drop k r) ++ chars (drop n t) = ap chars parts ∙ chars-append (drop k r) (drop n t) v in
    let w = white_front (chars (drop k r)) (chars (drop n t)) (ap all_white (sym e) ∙ blank-white (drop k t) b) in
    not_dark d.0 o.0 (ap all_white (sym d.1) ∙ w) o.2

-- a blank end of a text does not begin before its white space
pub white_behind : (t r : List ℕ) (k : ℕ) → IsUtf8 t → IsUtf8 r → IsTrimEnd t r → is_blank (drop k t) ≡ true → length r ≤ k
white_behind t r k ut ur h b = ⊎_elim (λ (l : k < length r). absurd (white_before t r k l ut ur h b)) (λ (l : length r ≤ k). l) (cases_lt k (length r))

-- a text may be cut before the white space at its end
pub trimmed_seam : (t r : List ℕ) → IsUtf8 t → IsUtf8 r → IsTrimEnd t r → IsCharBoundary t (length r)
trimmed_seam t r ut ur h =
    let lr = h.4 in
    let e : take (length r) t ≡ r = ap (λ n. take n t) lr ∙ sym h.1 in
    IsCharBoundary-from_take t (length r) ut (omega arith) (subst IsUtf8 (sym e) ur)

-- the white space that is trimmed off is blank
pub trimmed_blank : (t r : List ℕ) → IsUtf8 t → IsUtf8 r → IsTrimEnd t r → is_blank (drop (length r) t) ≡ true
trimmed_blank t r ut ur h =
    let p = h.2 in
    let e : drop h.0 t ≡ drop (length r) t = ap (λ n. drop n t) (sym h.4) in
    let u = IsUtf8-drop t (length r) ut (trimmed_seam t r ut ur h) in
    blank_from (drop (length r) t) u (ap all_white (sym (chars_from_encodes p.0 (drop (length r) t) u (p.1 ∙ e))) ∙ white_all p.0 p.2)

-- of a blank text, what begins at a character is blank
blank_cut : (w : List ℕ) (j : ℕ) → is_blank w ≡ true → IsCharBoundary w j → is_blank (drop j w) ≡ true
blank_cut w j h b =
    let u = blank-utf8 w h in
    let e : chars w ≡ chars (take j w) ++ chars (drop j w) = ap chars (sym (take-append-drop j w)) ∙ chars-append (take j w) (drop j w) (IsUtf8-take w j u b) in
    blank_from (drop j w) (IsUtf8-drop w j u b) (white_back (chars (take j w)) (chars (drop j w)) (ap all_white (sym e) ∙ blank-white w h))

-- where in the blank end of the bytes the last n bytes begin
blank_place : (bs w : List ℕ) (i n : ℕ) → HoldsEnds is_blank bs w → n ≡ length bs - i → n ≤ length w → drop (length w - n) w ≡ drop i bs
blank_place bs w i n h m l =
    let s = h.short in
    ⊎_elim
    (λ (a : i < length bs). let e : length w - n ≡ i - start_of bs w = omega arith in ap (λ k. drop k w) e ∙ drop_in bs w (start_of bs w) i h.ends (omega arith))
    (λ (a : length bs ≤ i). drop_all (length w - n) w (omega arith) ∙ sym (drop_all i bs a))
    (cases_lt i (length bs))

-- where a character of a blank text begins, what is left is blank, and nowhere else
pub tail_at : (w : List ℕ) (n : ℕ) (b : Bool) → is_blank w ≡ true → IsTrue b ↔ IsCharBoundary w (length w - n) → b ≡ is_blank (drop (length w - n) w)
tail_at w n b h t =
    same_from_decides b (is_blank (drop (length w - n) w)) t (
      (λ g. IsCharBoundary-from_drop w (length w - n) (omega arith) (blank-utf8 (drop (length w - n) w) g)),
      (λ c. blank_cut w (length w - n) h c),
    )

-- what the last n bytes of the blank end are, the last n of all bytes are
pub blank_at : (bs w vs : List ℕ) (i n : ℕ) (b : Bool) → bs ≡ vs → IsLongestEnd is_blank bs w → n ≡ length bs - i → n ≤ length w → b ≡ is_blank (drop (length w - n) w) → b ≡ is_blank (drop i vs)
blank_at bs w vs i n b v h m l e = e ∙ (ap is_blank (blank_place bs w i n h.0 m l) ∙ ap (λ x. is_blank (drop i x)) v)

pub trimmed_holds : (t r : List ℕ) → IsUtf8 t → IsUtf8 r → IsTrimEnd t r → HoldsEnds is_blank t (drop (length r) t)
trimmed_holds t r ut ur h = holds_behind is_blank t (length r) (omega arith) (λ k b. white_behind t r k ut ur h b)

-- the ends that are text are held behind a fault
pub held_behind : (bs rest : List ℕ) (v n : ℕ) → rest ≡ drop (n + 1) bs → n ≡ v → ¬ IsUtf8 bs × IsValidUpTo bs v → HoldsEnds is_text bs rest
held_behind bs rest v n d e f =
    let s = f.1.short in
    rw (d, e) (holds_behind is_text bs (v + 1) (omega arith) (λ k t. text_behind bs v k f.0 f.1 t))

-- the ends that are text are held from fault to fault
pub held_on : (bs rest next : List ℕ) → HoldsEnds is_text bs rest → HoldsEnds is_text rest next → HoldsEnds is_text bs next
held_on bs rest next a b = holds_within is_text is_text bs rest next (λ s t. t) a b

pub held_text : (bs rest : List ℕ) → IsUtf8 rest → HoldsEnds is_text bs rest → IsLongestEnd is_text bs rest
held_text bs rest u h = (h, (text_decides rest).1 u)

pub blank_longest : (bs t w : List ℕ) → IsLongestEnd is_text bs t → IsLongestEnd is_blank t w → IsLongestEnd is_blank bs w
blank_longest bs t w a b = (holds_within is_text is_blank bs t w blank-text a.0 b.0, b.1)
