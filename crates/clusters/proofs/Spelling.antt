-- Text as code points: how many bytes the first cluster takes, and that it hides its control bytes.
use Rattle.std.proofs.Common.{◌≡◌, ℕ, zero, suc, ◌+◌, ◌-◌, ◌<◌, ◌≤◌, min, true, cond, ◌&&◌, leb, List, [], ◌∷◌, ◌++◌, length, get_or, take, drop, IsUtf8, Decides, sym, refl, ap, ◌∙◌, subst, ⊎_elim, append_assoc, arith, length-append, take-append-drop}
use native.Mathlib.Nat.{min-eq_right}
use lib.Utf8.{scalar, scalars, encode, encodes}
use Rattle.std.specs.Char.{len_utf8, is_ascii_control}
use Rattle.std.specs.List.{AllByRecursion as All}
use Rattle.std.specs.Str.{chars, bytes_eq}
use Rattle.std.proofs.lemmas.Bool.Decides.{nat_tests}
use Rattle.std.proofs.lemmas.Bool.{and_parts, and_from, cond_both, cases_lt, leb-true}
use Rattle.std.proofs.lemmas.Slice.Eq.{bytes_eq-Decides}
use Rattle.std.proofs.lemmas.List.{get_or-append_right, take_at, drop_at}
use Rattle.std.proofs.lemmas.Str.{chars-encodes, scalars-chars, encodes-chars, length-encode, inside_one, encodes-append, len_utf8_bounds}
use Rattle.clusters.specs.Widths.{is_control, is_mark, columns_of}
use Rattle.clusters.specs.Texts.{is_text}
use Rattle.clusters.specs.Cuts.{cut_off, cut, mark_bytes, point_first, utf8_first, HidesControls}
use Rattle.clusters.proofs.Cutting.{Onward, cut_all}

-- the test finds exactly the text
pub text_decides : (bs : List ℕ) → Decides (is_text bs) (IsUtf8 bs)
text_decides bs = (
  (λ t. let p = and_parts (scalars (chars bs)) (bytes_eq (encodes (chars bs)) bs) t in (chars bs, (p.0, (bytes_eq-Decides (encodes (chars bs)) bs).0 p.1))),
  (λ u. and_from (scalars (chars bs)) (bytes_eq (encodes (chars bs)) bs) (scalars-chars bs u) ((bytes_eq-Decides (encodes (chars bs)) bs).1 (encodes-chars bs u))),
)

-- a byte below 128 of some code points is one of them, so there is none among code points from 128 on
high_bytes : (cs : List ℕ) → All (λ c. 128 ≤ c) cs → (i : ℕ) → i < length (encodes cs) → 128 ≤ get_or (encodes cs) i 0
high_bytes [] a i h = absurd (omega arith)
high_bytes (c ∷ cs) a i h =
    let n = length-append (encode c) (encodes cs) in
    let rest = high_bytes cs a.1 (i - length (encode c)) in
    let own : i < length (encode c) → get_or (encode c ++ encodes cs) i 0 < 128 → c ≡ get_or (encode c ++ encodes cs) i 0 = inside_one c (encodes cs) (encode c ++ encodes cs) i refl in
    let later = get_or-append_right (encode c) (encodes cs) (length (encode c)) i 0 refl in
    grind (arith)

-- the marks that fit are some of the code points at the front, each from 128 on
pub record Front (room : ℕ) (cs : List ℕ) (n : ℕ) : Type 0 where
  pub count : ℕ
  pub long : n ≡ length (encodes (take count cs))
  pub high : All (λ c. 128 ≤ c) (take count cs)
  pub fits : n ≤ room

none_fit : (room : ℕ) (cs : List ℕ) → Front room cs 0
none_fit room cs = record { count = 0; long = refl; high = tt; fits = omega arith }

marks-front : (room : ℕ) (cs : List ℕ) → Front room cs (mark_bytes room cs)
marks-front room [] = none_fit room []
marks-front room (c ∷ cs) =
    cond_both (is_mark c && leb (len_utf8 c) room) (len_utf8 c + mark_bytes (room - len_utf8 c) cs) 0 (Front room (c ∷ cs))
    (λ yes.
    let p = and_parts (is_mark c) (leb (len_utf8 c) room) yes in
    let f = marks-front (room - len_utf8 c) cs in
    let w = leb-true (len_utf8 c) room p.1 in
    let big : 128 ≤ c = let m = p.0 in grind (arith, nat_tests) in
    let e = length-append (encode c) (encodes (take f.count cs)) in
    record { count = suc f.count; long = omega (arith, length-encode c, f.long); high = (big, f.high); fits = omega (arith, f.fits) })
    (λ _. none_fit room (c ∷ cs))

tail_front : (c : ℕ) (cs : List ℕ) → Front (8 - len_utf8 c) cs (cond (is_control c) 0 (mark_bytes (8 - len_utf8 c) cs))
tail_front c cs = cond_both (is_control c) 0 (mark_bytes (8 - len_utf8 c) cs) (Front (8 - len_utf8 c) cs) (λ _. none_fit (8 - len_utf8 c) cs) (λ _. marks-front (8 - len_utf8 c) cs)

scalars_drop : (k : ℕ) (cs : List ℕ) → scalars cs ≡ true → scalars (drop k cs) ≡ true
scalars_drop zero cs h = h
scalars_drop (suc k) [] h = refl
scalars_drop (suc k) (c ∷ cs) h = scalars_drop k cs (and_parts (scalar c) (scalars cs) h).1

-- the first cluster of a text: a code point, some marks, and what is left, which is text again
pub record Begun (s : List ℕ) : Type 0 where
  pub code : ℕ
  pub tail : List ℕ
  pub after : List ℕ
  pub high : All (λ c. 128 ≤ c) tail
  pub good : scalars after ≡ true
  pub length_is : (utf8_first s).len ≡ length (encodes (code ∷ tail))
  pub width_is : (utf8_first s).width ≡ columns_of code
  pub spells : s ≡ encodes (code ∷ tail) ++ encodes after

begun-at : (s : List ℕ) (c : ℕ) (cs : List ℕ) → scalars (c ∷ cs) ≡ true → encodes (c ∷ cs) ≡ s → Begun s
begun-at s c cs good e =
    let d : chars s ≡ c ∷ cs = ap chars (sym e) ∙ chars-encodes (c ∷ cs) good in
    let f = tail_front c cs in
    let k = f.count in
    let n = cond (is_control c) 0 (mark_bytes (8 - len_utf8 c) cs) in
    let split : encodes cs ≡ encodes (take k cs) ++ encodes (drop k cs) = ap encodes (sym (take-append-drop k cs)) ∙ encodes-append (take k cs) (drop k cs) in
    let spelled : s ≡ encodes (c ∷ take k cs) ++ encodes (drop k cs) =
    sym e ∙ ap (λ l. encode c ++ l) split ∙ sym (append_assoc (encode c) (encodes (take k cs)) (encodes (drop k cs))) in
    let all = ap length spelled ∙ length-append (encodes (c ∷ take k cs)) (encodes (drop k cs)) in
    let here : len_utf8 c + n ≡ length (encodes (c ∷ take k cs)) = omega (arith, length-append (encode c) (encodes (take k cs)), length-encode c, f.long) in
    let whole : min (length s) (len_utf8 c + n) ≡ len_utf8 c + n = min-eq_right (omega arith) in
    record {
      code = c;
      tail = take k cs;
      after = drop k cs;
      high = f.high;
      good = scalars_drop k cs (and_parts (scalar c) (scalars cs) good).1;
      length_is = ap (λ l. min (length s) (point_first l).len) d ∙ whole ∙ here;
      width_is = ap (λ l. (point_first l).width) d;
      spells = spelled;
    }

begun_by : (b : ℕ) (s cs : List ℕ) → scalars cs ≡ true → encodes cs ≡ b ∷ s → Begun (b ∷ s)
begun_by b s [] good e = absurd (let n = ap length e in omega arith)
begun_by b s (c ∷ cs) good e = begun-at (b ∷ s) c cs good e

pub text_begins : (b : ℕ) (s : List ℕ) → IsUtf8 (b ∷ s) → Begun (b ∷ s)
text_begins b s u = begun_by b s u.0 u.1.0 u.1.1

-- a control byte among a code point and marks is the code point itself, which takes no column
hides_at : (c : ℕ) (tail : List ℕ) → All (λ c. 128 ≤ c) tail → (i : ℕ) → i < length (encodes (c ∷ tail)) → is_ascii_control (get_or (encodes (c ∷ tail)) i 0) ≡ true → columns_of c ≡ 0
hides_at c tail a i h t =
    let x = get_or (encode c ++ encodes tail) i 0 in
    let n = length-append (encode c) (encodes tail) in
    let low : x < 128 = grind (arith, nat_tests) in
    ⊎_elim
    (λ l. let e : c ≡ x = inside_one c (encodes tail) (encode c ++ encodes tail) i refl l low in
    let q : is_ascii_control c ≡ true = ap is_ascii_control e ∙ t in
    grind (arith, nat_tests))
    (λ l. let e = get_or-append_right (encode c) (encodes tail) (length (encode c)) i 0 refl l in
    absurd (omega (arith, high_bytes tail a (i - length (encode c)) (omega arith))))
    (cases_lt i (length (encode c)))

hides_begun : (s : List ℕ) → Begun s → HidesControls (cut_off (utf8_first s) s)
hides_begun s g i h t =
    let bytes : take (utf8_first s).len s ≡ encodes (g.code ∷ g.tail) =
    ap (λ n. take n s) g.length_is ∙ ap (take (length (encodes (g.code ∷ g.tail)))) g.spells ∙ take_at (encodes (g.code ∷ g.tail)) (encodes g.after) (length (encodes (g.code ∷ g.tail))) refl in
    g.width_is ∙ hides_at g.code g.tail g.high i (subst (λ l. i < length l) bytes h) (ap (λ l. is_ascii_control (get_or l i 0)) (sym bytes) ∙ t)

left-begun : (s : List ℕ) → Begun s → IsUtf8 (drop (utf8_first s).len s)
left-begun s g =
    let rest : drop (utf8_first s).len s ≡ encodes g.after =
    ap (λ n. drop n s) g.length_is ∙ ap (drop (length (encodes (g.code ∷ g.tail)))) g.spells ∙ drop_at (encodes (g.code ∷ g.tail)) (encodes g.after) (length (encodes (g.code ∷ g.tail))) refl in
    (g.after, (g.good, sym rest))

columns_most : (c : ℕ) → columns_of c ≤ 2
columns_most c = grind (arith, nat_tests)

-- the first cluster of any code points has 1 to 8 bytes and a width of 0 to 2
first_sizes : (cs : List ℕ) → (1 ≤ (point_first cs).len) × ((point_first cs).len ≤ 8) × ((point_first cs).width ≤ 2)
first_sizes [] = (omega arith, omega arith, omega arith)
first_sizes (c ∷ cs) =
    let w = len_utf8_bounds c in
    let f = (tail_front c cs).fits in
    let n = cond (is_control c) 0 (mark_bytes (8 - len_utf8 c) cs) in
    let columns : columns_of c ≤ 2 = columns_most c in
    (omega arith, omega arith, columns)

-- the laws of the UTF-8 ruler
pub utf8_onward : Onward utf8_first
utf8_onward b s =
    let n = first_sizes (chars (b ∷ s)) in
    (omega arith, omega arith)

pub utf8_small : (s : List ℕ) → ((utf8_first s).len ≤ 8) × ((utf8_first s).width ≤ 2)
utf8_small s = let n = first_sizes (chars s) in (omega arith, n.2)

pub utf8_hides : (s : List ℕ) → is_text s ≡ true → All HidesControls (cut utf8_first s)
utf8_hides s t = cut_all utf8_first utf8_onward IsUtf8 HidesControls (λ b s u. (hides_begun (b ∷ s) (text_begins b s u), left-begun (b ∷ s) (text_begins b s u))) 0 s ((text_decides s).0 t)
