-- Writing one text behind another.
use Rattle.std.proofs.Common.{◌≡◌, ℕ, zero, suc, ◌+◌, ◌-◌, ◌*◌, ◌<◌, ◌≤◌, cond, true, false, List, [], ◌∷◌, ◌++◌, length, take, drop, set, get_or, sym, refl, ap, ◌∙◌, append_assoc, add-one, nat_eq, ◌%◌, arith}
use borrow.Rule.Slice.PartMut.{put_mid}
use Rattle.std.proofs.Math.ListN.{drop_of_length-le}
use Rattle.std.proofs.lemmas.List.{append-nil, length-append, take_at, take_all, drop_at, drop_more, drop-drop, set_at}
use Rattle.std.proofs.lemmas.List.FromFn.{fill_by_all}
use Rattle.tail.specs.Entries.{dashes, delimiter_row}
use Rattle.tail.specs.Patches.{patched, size}
use Rattle.tail.specs.declared.patch.Patch.{Patch}

length-dashes : (n : ℕ) → length (dashes n) ≡ 4 * n
length-dashes zero = refl
length-dashes (suc n) = omega (arith, length-dashes n)

pub length_row : (n : ℕ) → length (delimiter_row n) ≡ 1 + 4 * n
length_row n = omega (arith, length-dashes n)

pub length-patched : (p : Patch) → length (patched p) ≡ size p
length-patched p = elim p.line_feed as (λ b. length (p.kept.now ++ (cond b (10 ∷ []) [] ++ delimiter_row p.cols)) ≡ length p.kept.now + cond b 1 0 + (1 + 4 * p.cols)) [
  | true ↦ omega (arith, length_row p.cols, length-append p.kept.now (10 ∷ delimiter_row p.cols))
  | false ↦ omega (arith, length_row p.cols, length-append p.kept.now (delimiter_row p.cols))
]

-- y in place of the k bytes behind s
put-behind : (s rest x y : List ℕ) (at k : ℕ) → x ≡ s ++ rest → at ≡ length s → put_mid at k x y ≡ s ++ (y ++ drop k rest)
put-behind s rest x y at k e a =
    ap (λ l. l ++ (y ++ drop k (drop at x))) (ap (take at) e ∙ take_at s rest at (sym a)) ∙ ap (λ l. s ++ (y ++ drop k l)) (ap (drop at) e ∙ drop_at s rest at (sym a))

-- what stands at each place of a row
abbrev pub row_byte : ℕ → ℕ
row_byte j = cond (nat_eq (j % 4) 0) 124 45

dash_at : (n i : ℕ) → i < 4 * n → get_or (dashes n) i 0 ≡ row_byte (i + 1)
dash_at zero i h = absurd (omega arith)
dash_at (suc n) zero h = refl
dash_at (suc n) (suc zero) h = refl
dash_at (suc n) (suc (suc zero)) h = refl
dash_at (suc n) (suc (suc (suc zero))) h = refl
dash_at (suc n) (suc (suc (suc (suc i)))) h =
    let turn : (i + 1) % 4 ≡ (suc (suc (suc (suc i))) + 1) % 4 = omega arith in
    dash_at n i (omega arith) ∙ ap (λ r. cond (nat_eq r 0) 124 45) turn

row_at : (n i : ℕ) → i < 1 + 4 * n → get_or (delimiter_row n) i 0 ≡ row_byte i
row_at n zero h = refl
row_at n (suc i) h = dash_at n i (omega arith) ∙ ap row_byte (add-one i)

-- a whole row, told byte by byte
pub row_by : (xs : List ℕ) (n : ℕ) → length xs ≡ 1 + 4 * n → ((k : ℕ) → k < 1 + 4 * n → get_or xs k 0 ≡ row_byte k) → xs ≡ delimiter_row n
row_by xs n e each = fill_by_all row_byte xs (1 + 4 * n) 0 e each ∙ sym (fill_by_all row_byte (delimiter_row n) (1 + 4 * n) 0 (length_row n) (row_at n))

-- a row behind s, up to the end of the output
module _ (s rest x z row : List ℕ) (at m : ℕ) (e : x ≡ s ++ rest) (a : at ≡ length s) where
  pub row_behind : z ≡ row ++ drop m (take (length x - at) (drop at x)) → put_mid at (length x - at) x z ≡ s ++ (row ++ drop m rest)
  row_behind h =
      let k = length x - at in
      let n : length rest ≤ length x - at = omega (arith, ap length e, length-append s rest) in
      let d = ap (drop at) e ∙ drop_at s rest at (sym a) in
      put-behind s rest x z at k e a ∙ ap (λ l. s ++ l) (ap (λ l. z ++ l) (drop_of_length-le rest n) ∙ (append-nil z ∙ (h ∙ ap (λ l. row ++ drop m l) (ap (take k) d ∙ take_all k rest n))))

-- a line feed behind s
pub fed : (s out : List ℕ) → length s < length out → set (s ++ drop (length s) out) (length s) 10 ≡ (s ++ (10 ∷ [])) ++ drop (length s + 1) out
fed s out h =
    ap (λ l. set (s ++ l) (length s) 10) (drop_more out (length s) 0 h) ∙ (set_at s (get_or out (length s) 0) (drop (length s + 1) out) 10 (length s) refl ∙ sym (append_assoc s (10 ∷ []) (drop (length s + 1) out)))

-- two texts, and the output behind them
pub all_two : (s row out : List ℕ) (i m n : ℕ) → n ≡ i + m → s ++ (row ++ drop m (drop i out)) ≡ (s ++ row) ++ drop n out
all_two s row out i m n e = sym (append_assoc s row (drop m (drop i out))) ∙ ap (λ l. (s ++ row) ++ l) (drop-drop m i out ∙ ap (λ k. drop k out) (sym e))
