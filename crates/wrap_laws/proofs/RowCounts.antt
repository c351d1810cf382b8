use Rattle.std.proofs.Common.{◌≡◌, ℕ, zero, suc, ◌+◌, ◌-◌, ◌<◌, ◌≤◌, ltb, List, [], ◌∷◌, length, refl, ap, ◌∙◌, arith}
use Rattle.std.proofs.lemmas.Bool.Decides.{nat_tests}
use Rattle.std.proofs.lemmas.Bool.{cond-true, lt-ltb}
use Rattle.glyphs.specs.declared.Glyph.{Glyph}
use Rattle.wrap_laws.specs.Breaks.{Breaks, Breaking, rows_from, rows_by, places_from, places, rows, WiderNoMoreRows}

-- However many rows are asked for, if there is one for each glyph that is left, all come.
enough : (b : Breaking) (line : List Glyph) (w m n s : ℕ) → length line ≤ s + m → length line ≤ s + n → places_from b.breaks line w m s ≡ places_from b.breaks line w n s
enough b line w zero zero s h k = refl
enough b line w zero (suc n) s h k = grind (arith, nat_tests)
enough b line w (suc m) zero s h k = grind (arith, nat_tests)
enough b line w (suc m) (suc n) s h k =
    let next = (b.breaks line w s).1 in
    let on : s < length line → s < next = λ l. (b.onward line w s l).0 in
    let rest : s < length line → places_from b.breaks line w m next ≡ places_from b.breaks line w n next = λ l. let o = on l in enough b line w m n next (omega arith) (omega arith) in
    grind (arith, nat_tests)

pub places_step : (b : Breaking) (line : List Glyph) (w s : ℕ) → s < length line → places b line w s ≡ (s, (b.breaks line w s).0) ∷ places b line w (b.breaks line w s).1
places_step b line w s h =
    let on = b.onward line w s h in
    let next = (b.breaks line w s).1 in
    let left : length line - s ≡ suc (length line - s - 1) = omega arith in
    ap (λ n. places_from b.breaks line w n s) left
    ∙ cond-true (ltb s (length line)) _ _ (lt-ltb s (length line) h)
    ∙ ap (λ r. (s, (b.breaks line w s).0) ∷ r) (enough b line w (length line - s - 1) (length line - next) next (omega arith) (omega arith))

pub places_end : (b : Breaking) (line : List Glyph) (w s : ℕ) → length line ≤ s → places b line w s ≡ []
places_end b line w s h = let none : length line - s ≡ 0 = omega arith in ap (λ n. places_from b.breaks line w n s) none

places_counted : (b : Breaks) (line : List Glyph) (w n s : ℕ) → length (places_from b line w n s) ≡ rows_from b line w n s
places_counted b line w zero s = refl
places_counted b line w (suc n) s = let rest = places_counted b line w n (b line w s).1 in grind (arith, nat_tests)

rows_at_most : (b : Breaks) (line : List Glyph) (w n s : ℕ) → rows_from b line w n s ≤ n
rows_at_most b line w zero s = omega arith
rows_at_most b line w (suc n) s = let rest = rows_at_most b line w n (b line w s).1 in grind (arith, nat_tests)

-- As many rows as are counted, and no more than there are glyphs.
pub row_counts : (b : Breaking) (line : List Glyph) (w : ℕ) → (length (places b line w 0) ≡ rows_from b.breaks line w (length line) 0) × (length (places b line w 0) ≤ length line)
row_counts b line w =
    let e : length line - 0 ≡ length line = omega arith in
    let c = places_counted b.breaks line w (length line - 0) 0 ∙ ap (λ n. rows_from b.breaks line w n 0) e in
    (c, omega (arith, c, rows_at_most b.breaks line w (length line) 0))

-- A rule whose next start is no earlier where the row starts no earlier and has one more column gives no more rows with one more column.
module _ (b : Breaks) (line : List Glyph) (w : ℕ) (no-earlier : (s t : ℕ) → s ≤ t → t < length line → (b line w s).1 ≤ (b line (w + 1) t).1) where
  from : (n s t : ℕ) → s ≤ t → rows_from b line (w + 1) n t ≤ rows_from b line w n s
  from zero s t h = omega arith
  from (suc n) s t h =
      let rest : t < length line → rows_from b line (w + 1) n (b line (w + 1) t).1 ≤ rows_from b line w n (b line w s).1 = λ l. from n (b line w s).1 (b line (w + 1) t).1 (no-earlier s t h l) in
      grind (arith, nat_tests)

  pub fewer_rows : rows_by b line (w + 1) ≤ rows_by b line w
  fewer_rows = omega (arith, from (length line) 0 0 (omega arith))

-- d more columns give no more rows.
more_columns : (b : Breaking) (line : List Glyph) (v d : ℕ) → 1 ≤ v → rows b line (v + d) ≤ rows b line v
more_columns b line v zero h = let e : v + 0 ≡ v = omega arith in omega (arith, ap (rows b line) e)
more_columns b line v (suc d) h =
    let e : v + suc d ≡ v + d + 1 = omega arith in
    let k : 1 ≤ v + d = omega arith in
    omega (arith, ap (rows b line) e, b.fewer line (v + d) k, more_columns b line v d h)

pub wider_no_more_rows : (b : Breaking) → WiderNoMoreRows b
wider_no_more_rows b line v w h k =
    let e : v + (w - v) ≡ w = omega arith in
    omega (arith, ap (rows b line) e, more_columns b line v (w - v) h)
