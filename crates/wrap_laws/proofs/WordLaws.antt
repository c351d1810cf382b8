use Rattle.std.proofs.Common.{◌≡◌, ℕ, zero, suc, ◌+◌, ◌-◌, ◌<◌, ◌≤◌, true, false, List, [], ◌∷◌, length, take, drop, Some, None, Option, sym, ap, ◌∙◌, ⊎_elim, arith}
use Rattle.std.proofs.lemmas.Bool.Decides.{nat_tests}
use Rattle.std.proofs.lemmas.Bool.{cases_lt, cases_Bool, both_ways}
use Rattle.glyphs.specs.declared.Glyph.{Glyph}
use Rattle.wrap_laws.specs.Breaks.{columns, space_at, rows_by}
use Rattle.wrap_laws.specs.Rules.{first_misfit, past_spaces, worded, last_break, IsLastBreak, NoBreak, broken_at, word_break_at, word_break}
use Rattle.wrap_laws.proofs.Fitting.{misfit_no_earlier, misfit_no_later_than_end, misfit_further_on, misfit_columns}
use Rattle.wrap_laws.proofs.RowCounts.{fewer_rows}
use Rattle.wrap_laws.proofs.BreakPlaces.{past-all_spaces, past_stops, past_within, past_further_on, worded_wider, none_breaks, some_breaks, found, last_break_some, last_break_none}

pub when_all_fit : (line : List Glyph) (s i : ℕ) → length line ≤ i → word_break_at line s i ≡ (i, i)
when_all_fit line s i h = grind (arith, nat_tests)

pub when_at-space : (line : List Glyph) (s i : ℕ) → i < length line → space_at line i ≡ true → word_break_at line s i ≡ (i, past_spaces line i)
when_at-space line s i h y = grind (arith, nat_tests)

pub when_at_glyph : (line : List Glyph) (s i : ℕ) → i < length line → space_at line i ≡ false → word_break_at line s i ≡ broken_at i (last_break line s i)
when_at_glyph line s i h n = grind (arith, nat_tests)

-- The four ways in which a row of the word rule ends.
data Ending (line : List Glyph) (s i : ℕ) : Type 0 where
  all_fit : length line ≤ i → word_break_at line s i ≡ (i, i) → Ending line s i
  at_space : i < length line → space_at line i ≡ true → word_break_at line s i ≡ (i, past_spaces line i) → Ending line s i
  at_break : (k : ℕ) → i < length line → space_at line i ≡ false → IsLastBreak line s i k → word_break_at line s i ≡ (k, k + 1) → Ending line s i
  at_misfit : i < length line → space_at line i ≡ false → last_break line s i ≡ None → word_break_at line s i ≡ (i, i) → Ending line s i

ending : (line : List Glyph) (s i : ℕ) → Ending line s i
ending line s i =
    ⊎_elim
    (λ l. ⊎_elim
    (λ y. at_space l y (when_at-space line s i l y))
    (λ n. ⊎_elim
    (λ e. at_misfit l n e (when_at_glyph line s i l n ∙ ap (broken_at i) e))
    (λ p. at_break p.0 l n (some_breaks line s i p.0 p.1) (when_at_glyph line s i l n ∙ ap (broken_at i) p.1))
    (found (last_break line s i)))
    (cases_Bool (space_at line i)))
    (λ l. all_fit l (when_all_fit line s i l))
    (cases_lt i (length line))

end : {r p : ℕ × ℕ} → r ≡ p → r.0 ≡ p.0
end e = ap (λ (q : ℕ × ℕ). q.0) e

next : {r p : ℕ × ℕ} → r ≡ p → r.1 ≡ p.1
next e = ap (λ (q : ℕ × ℕ). q.1) e

-- The next start lies behind the row's, at most at the line's end.
module _ (line : List Glyph) (s i : ℕ) (in_row : s < i) (in-line : i ≤ length line) where
  onward_by : Ending line s i → (s < (word_break_at line s i).1) × ((word_break_at line s i).1 ≤ length line)
  onward_by (all_fit l e) = (omega (arith, next e), omega (arith, next e))
  onward_by (at_space l y e) = (omega (arith, next e, past_further_on line i l y), omega (arith, next e, past_within line i in-line))
  onward_by (at_break k l n b e) = let p = b.word in (omega (arith, next e, p.1, p.2), omega (arith, next e, b.before))
  onward_by (at_misfit l n o e) = (omega (arith, next e), omega (arith, next e))

  ordered_by : Ending line s i → (s ≤ (word_break_at line s i).0) × ((word_break_at line s i).0 ≤ (word_break_at line s i).1)
  ordered_by (all_fit l e) = (omega (arith, end e), omega (arith, next e, end e))
  ordered_by (at_space l y e) = (omega (arith, end e), omega (arith, next e, end e))
  ordered_by (at_break k l n b e) = let p = b.word in (omega (arith, end e, p.1, p.2), omega (arith, next e, end e))
  ordered_by (at_misfit l n o e) = (omega (arith, end e), omega (arith, next e, end e))

  -- A row ends no later than its first misfit.
  within_by : Ending line s i → (word_break_at line s i).0 ≤ i
  within_by (all_fit l e) = omega (arith, end e)
  within_by (at_space l y e) = omega (arith, end e)
  within_by (at_break k l n b e) = omega (arith, end e, b.before)
  within_by (at_misfit l n o e) = omega (arith, end e)

  spaces_by : Ending line s i → (k : ℕ) → (word_break_at line s i).0 ≤ k → k < (word_break_at line s i).1 → space_at line k ≡ true
  spaces_by (all_fit l e) k lo hi = absurd (omega (arith, next e, end e))
  spaces_by (at_space l y e) k lo hi = past-all_spaces line i k (omega (arith, end e)) (omega (arith, next e))
  spaces_by (at_break j l n b e) k lo hi = let is : k ≡ j = omega (arith, next e, end e) in ap (space_at line) is ∙ b.space
  spaces_by (at_misfit l n o e) k lo hi = absurd (omega (arith, next e, end e))

past_no_earlier : (line : List Glyph) (i j : ℕ) → i ≤ j → i ≤ length line → past_spaces line i ≤ past_spaces line j
past_no_earlier line i j h k =
    let w = past_within line i k in
    let stops = past_stops line j in
    let all = past-all_spaces line i (past_spaces line j) in
    grind (arith, nat_tests)

-- A non-space at or after i is past the spaces from i on.
past_upto : (line : List Glyph) (i j : ℕ) → i ≤ j → space_at line j ≡ false → past_spaces line i ≤ j
past_upto line i j h n = let all = past-all_spaces line i j h in grind (arith, nat_tests)

-- Of two rows, the one that starts no earlier and has its first misfit no earlier has its next start no earlier.
module _ (line : List Glyph) (s t i j : ℕ) (later : s ≤ t) (further : i ≤ j) (in_row : s < i) (in-line : j ≤ length line) where
  -- Past the spaces from i on no space is left before a non-space j.
  breaks_past : (k : ℕ) → i < length line → space_at line i ≡ true → space_at line j ≡ false → IsLastBreak line t j k → past_spaces line i ≤ k + 1
  breaks_past k l y n b =
      let p = past_spaces line i in
      let up = past_further_on line i l y in
      let upto = past_upto line i j further n in
      ⊎_elim
      (λ low. absurd (both_ways (space_at line (p - 1)) (b.last (p - 1) (omega arith) (omega arith)) (past-all_spaces line i (p - 1) (omega arith) (omega arith))))
      (λ high. high)
      (cases_lt (k + 1) p)

  breaks_no_earlier : (k m : ℕ) → IsLastBreak line s i k → IsLastBreak line t j m → k ≤ m
  breaks_no_earlier k m a b =
      ⊎_elim
      (λ l. absurd (both_ways (space_at line k) (b.last k l (omega (arith, a.before))) a.space))
      (λ l. l)
      (cases_lt m k)

  -- Where no place of the first row breaks it, none of the second before i does.
  breaks_past_unbroken : (m : ℕ) → last_break line s i ≡ None → IsLastBreak line t j m → i ≤ m + 1
  breaks_past_unbroken m o b =
      ⊎_elim
      (λ l. absurd (both_ways (worded line s m) (none_breaks line s i m o (omega arith) b.space) (worded_wider line s t m m later (omega arith) b.word)))
      (λ l. l)
      (cases_lt (m + 1) i)

  next_by : Ending line s i → Ending line t j → (word_break_at line s i).1 ≤ (word_break_at line t j).1
  next_by a (all_fit l e) = omega (arith, next e, (onward_by line s i in_row (omega arith) a).1)
  next_by (all_fit l d) (at_space m y e) = absurd (omega arith)
  next_by (at_space l x d) (at_space m y e) = omega (arith, next d, next e, past_no_earlier line i j further (omega arith))
  next_by (at_break k l n b d) (at_space m y e) = omega (arith, next d, next e, b.before)
  next_by (at_misfit l n o d) (at_space m y e) = omega (arith, next d, next e)
  next_by (all_fit l d) (at_break m q u c e) = absurd (omega arith)
  next_by (at_space l x d) (at_break m q u c e) = omega (arith, next d, next e, breaks_past m l x u c)
  next_by (at_break k l n b d) (at_break m q u c e) = omega (arith, next d, next e, breaks_no_earlier k m b c)
  next_by (at_misfit l n o d) (at_break m q u c e) = omega (arith, next d, next e, breaks_past_unbroken m o c)
  next_by (all_fit l d) (at_misfit m n o e) = absurd (omega arith)
  next_by (at_space l x d) (at_misfit m n o e) = omega (arith, next d, next e, past_upto line i j further n)
  next_by (at_break k l n b d) (at_misfit m u o e) = omega (arith, next d, next e, b.before)
  next_by (at_misfit l n o d) (at_misfit m q r e) = omega (arith, next d, next e)

pub word_ordered : (line : List Glyph) (w s : ℕ) → s < length line → (s ≤ (word_break line w s).0) × ((word_break line w s).0 ≤ (word_break line w s).1)
word_ordered line w s h =
    let i = first_misfit line w s in
    ordered_by line s i (misfit_further_on line w s h) (misfit_no_later_than_end line w s (omega arith)) (ending line s i)

pub word_onward : (line : List Glyph) (w s : ℕ) → s < length line → (s < (word_break line w s).1) × ((word_break line w s).1 ≤ length line)
word_onward line w s h =
    let i = first_misfit line w s in
    onward_by line s i (misfit_further_on line w s h) (misfit_no_later_than_end line w s (omega arith)) (ending line s i)

columns_upto : (w : ℕ) (gs : List Glyph) (m n : ℕ) → m ≤ n → columns w (take m gs) ≤ columns w (take n gs)
columns_upto w gs zero n h = omega arith
columns_upto w gs (suc m) zero h = absurd (omega arith)
columns_upto w [] (suc m) (suc n) h = omega arith
columns_upto w (g ∷ gs) (suc m) (suc n) h = omega (arith, columns_upto w gs m n (omega arith))

pub word_narrow : (line : List Glyph) (w s : ℕ) → s < length line → columns w (take ((word_break line w s).0 - s) (drop s line)) ≤ w
word_narrow line w s h =
    let i = first_misfit line w s in
    let low = within_by line s i (misfit_further_on line w s h) (misfit_no_later_than_end line w s (omega arith)) (ending line s i) in
    let short : (word_break line w s).0 - s ≤ i - s = omega arith in
    omega (arith, columns_upto w (drop s line) ((word_break line w s).0 - s) (i - s) short, misfit_columns line w s)

pub word_spaces : (line : List Glyph) (w s k : ℕ) → s < length line → (word_break line w s).0 ≤ k → k < (word_break line w s).1 → space_at line k ≡ true
word_spaces line w s k h lo hi =
    let i = first_misfit line w s in
    spaces_by line s i (misfit_further_on line w s h) (misfit_no_later_than_end line w s (omega arith)) (ending line s i) k lo hi

pub word_fewer : (line : List Glyph) (w : ℕ) → 1 ≤ w → rows_by word_break line (w + 1) ≤ rows_by word_break line w
word_fewer line w h =
    fewer_rows word_break line w
    (λ s t k l. let i = first_misfit line w s in let j = first_misfit line (w + 1) t in
    next_by line s t i j k (misfit_no_earlier line w s t h k) (misfit_further_on line w s (omega arith)) (misfit_no_later_than_end line (w + 1) t (omega arith))
    (ending line s i) (ending line t j))

-- A row whose first misfit i is no space, by the search for its break place.
module _ (line : List Glyph) (w s i : ℕ) (is : i ≡ first_misfit line w s) (in-line : i < length line) (no-space : space_at line i ≡ false) where
  at_place : (o : Option ℕ) → last_break line s i ≡ o → broken_at i o ≡ word_break line w s
  at_place o e = ap (broken_at i) (sym e) ∙ sym (when_at_glyph line s i in-line no-space) ∙ ap (word_break_at line s) is

  pub word_breaks_at : (k : ℕ) → IsLastBreak line s i k → ◌≡◌ {A = ℕ × ℕ} (k, k + 1) (word_break line w s)
  word_breaks_at k b = at_place (Some k) (last_break_some line s i k b)

  pub word_unbroken : NoBreak line s i → ◌≡◌ {A = ℕ × ℕ} (i, i) (word_break line w s)
  word_unbroken b = at_place None (last_break_none line s i b)
