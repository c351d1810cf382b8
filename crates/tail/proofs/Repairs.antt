-- What a repair of characters is in bytes.
use Rattle.std.proofs.Common.{◌≡◌, ℕ, zero, suc, ◌+◌, ◌-◌, ◌≤◌, Bool, true, false, cond, not, eqb, List, [], ◌∷◌, ◌++◌, length, take, drop, Some, None, IsUtf8, Decides, MatchBool, sym, refl, ap, ◌∙◌, true≢false, append_assoc, arith, lit<}
use lib.Utf8.{encode, encodes}
use Rattle.std.specs.Str.Pattern.{RFindsChar, FindsCharSuffix}
use Rattle.std.specs.Str.{NonePass, IsCharBoundary, chars, bytes_eq}
use Rattle.std.proofs.lemmas.Slice.Eq.{bytes_eq-Decides}
use Rattle.std.proofs.lemmas.List.{append-nil, take-append-drop, take_at, length-append, length-take-le}
use Rattle.std.proofs.lemmas.Str.Pattern.{ends_char}
use Rattle.std.proofs.lemmas.Bool.{not_from_false, and_from}
use Rattle.std.proofs.lemmas.Str.{encodes-append, encodes-chars, chars_from_encodes, encode_ascii, IsUtf8-take, len_utf8_ascii}
use Rattle.std.proofs.lemmas.Bool.Decides.{same_from_decides, Decides-like}
use Rattle.tail.specs.Texts.{all, is, ends_with}
use Rattle.tail.specs.Entries.{dashes, delimiter_row}
use Rattle.tail.specs.Cook.{line_end, appended, replaced, without_last_line}
use Rattle.tail.proofs.Spelling.{decodes_cut_back}
use Rattle.tail.proofs.Trims.{before_end, before-all}
use Rattle.tail.proofs.Ends.{chars_last, chars_not_last, ends_with-push}

-- a text that is one pipe
pub lone_by : (t : List ℕ) (r : Bool) → IsUtf8 t → Decides r (t ≡ 124 ∷ []) → r ≡ bytes_eq (chars t) (124 ∷ [])
lone_by t r u h =
    let n = append-nil (encode 124) ∙ encode_ascii 124 (lit< tt) in
    same_from_decides r (bytes_eq (chars t) (124 ∷ []))
    (Decides-like r (λ e. sym (chars_from_encodes (124 ∷ []) t u (n ∙ sym e))) (λ e. sym (encodes-chars t u) ∙ (ap encodes e ∙ n)) h)
    (bytes_eq-Decides (chars t) (124 ∷ []))

-- the last line
abbrev no_feed : ℕ → Bool
no_feed c = not (is 10 c)

all_no_feed : (cs : List ℕ) → NonePass (λ d. eqb d 10) cs → all no_feed cs ≡ true
all_no_feed [] f = refl
all_no_feed (c ∷ cs) f = and_from (no_feed c) (all no_feed cs) (not_from_false (eqb c 10) f.0) (all_no_feed cs f.1)

module _ (bs : List ℕ) (u : IsUtf8 bs) where
  pub one_line : RFindsChar 10 bs None → encodes (without_last_line (chars bs)) ≡ []
  one_line h = ap encodes (ap without_last_line (sym (chars_from_encodes h.0 bs u h.1)) ∙ before-all no_feed h.0 (all_no_feed h.0 h.2))

  module _ (i j : ℕ) (h : RFindsChar 10 bs (Some (i, j))) (b : IsCharBoundary bs i) (c : IsCharBoundary bs j) where
    next_place : j ≡ i + 1
    next_place = omega (arith, h.1.ends, len_utf8_ascii 10 (lit< tt))

    lines_before : take j bs ≡ take i bs ++ (10 ∷ [])
    lines_before =
        let e : bs ≡ (take i bs ++ (10 ∷ [])) ++ drop j bs = sym (take-append-drop i bs) ∙ (ap (λ l. take i bs ++ l) (h.1.split ∙ ap (λ l. l ++ drop j bs) (encode_ascii 10 (lit< tt))) ∙ sym (append_assoc (take i bs) (10 ∷ []) (drop j bs))) in
        ap (take j) e ∙ take_at (take i bs ++ (10 ∷ [])) (drop j bs) j (omega (arith, length-append (take i bs) (10 ∷ []), length-take-le i bs b.0, next_place))

    pub last_lines : take (i + 1) bs ≡ encodes (without_last_line (chars bs))
    last_lines =
        let t = take j bs in
        let v = IsUtf8-take bs j u c in
        let d = decodes_cut_back bs t (drop j bs) h.0.0 u v (sym (take-append-drop j bs)) h.0.1 ∙ (ap (λ l. l ++ h.0.0) (chars_last 10 (lit< tt) t (take i bs) v lines_before) ∙ append_assoc (chars (take i bs)) (10 ∷ []) h.0.0) in
        let w = ap without_last_line d ∙ before_end no_feed (chars (take i bs)) h.0.0 10 refl (all_no_feed h.0.0 h.0.2) in
        ap (λ k. take k bs) (sym next_place) ∙ (sym (encodes-chars t v) ∙ ap encodes (chars_last 10 (lit< tt) t (take i bs) v lines_before ∙ sym w))

-- the trailing line feed
ended_by : (bs : List ℕ) (r : Bool) → IsUtf8 bs → (r ≡ true → bs ≡ take (length bs - 1) bs ++ (10 ∷ [])) × ((f : List ℕ) → bs ≡ f ++ (10 ∷ []) → r ≡ true) → r ≡ ends_with 10 (chars bs)
ended_by bs true u h =
    let x = take (length bs - 1) bs in
    sym (ap (ends_with 10) (chars_last 10 (lit< tt) bs x u (h.0 refl)) ∙ ends_with-push 10 (chars x))
ended_by bs false u h = sym (chars_not_last 10 (lit< tt) bs u (λ f e. true≢false (sym (h.1 f e))))

pub ended_chars : (bs : List ℕ) (r : Bool) → IsUtf8 bs → MatchBool r ((n : ℕ) × FindsCharSuffix 10 bs (Some n) × (n ≤ length bs) × IsCharBoundary bs (length bs - n)) (FindsCharSuffix 10 bs None) → r ≡ ends_with 10 (chars bs)
ended_chars bs r u h = ended_by bs r u (ends_char 10 bs r h (lit< tt))

-- a delimiter row is ASCII
encodes_dashes : (n : ℕ) → encodes (dashes n) ≡ dashes n
unfolding encode
encodes_dashes zero = refl
encodes_dashes (suc n) = ap (λ l. 45 ∷ 45 ∷ 45 ∷ 124 ∷ l) (encodes_dashes n)

pub encodes_row : (n : ℕ) → encodes (delimiter_row n) ≡ delimiter_row n
unfolding encode
encodes_row n = ap (λ l. 124 ∷ l) (encodes_dashes n)

encodes_end : (b : Bool) → encodes (cond b [] (10 ∷ [])) ≡ cond (not b) (10 ∷ []) []
unfolding encode
encodes_end true = refl
encodes_end false = refl

-- the repaired text in bytes
pub bytes_appended : (bs : List ℕ) (b : Bool) (n : ℕ) → IsUtf8 bs → b ≡ ends_with 10 (chars bs) → bs ++ (cond (not b) (10 ∷ []) [] ++ delimiter_row n) ≡ encodes (appended n (chars bs))
bytes_appended bs b n u e =
    let cs = chars bs in
    rw (encodes-append cs (line_end cs ++ delimiter_row n), encodes-append (line_end cs) (delimiter_row n), encodes-chars bs u, encodes_end (ends_with 10 cs), encodes_row n, e) refl

pub bytes_replaced : (bs kept : List ℕ) (n : ℕ) → kept ≡ encodes (without_last_line (chars bs)) → kept ++ delimiter_row n ≡ encodes (replaced n (chars bs))
bytes_replaced bs kept n e = rw (encodes-append (without_last_line (chars bs)) (delimiter_row n), encodes_row n, e) refl
