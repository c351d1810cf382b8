-- A paint stays in its area and in the rows that the height counts, and a taller area shows the same.
use Rattle.std.proofs.Common.{◌≡◌, ℕ, ◌+◌, ◌-◌, ◌<◌, ◌≤◌, ◌⊎◌, Bool, true, false, cond, eqb, ◌&&◌, List, [], ◌∷◌, ◌++◌, length, Some, None, refl, sym, ap, ◌∙◌, inl, inr, ⊎_elim, arith}
use Rattle.std.specs.List.{AllByRecursion}
use Rattle.std.proofs.lemmas.Bool.{cases_Bool, cases_lt, cond-true, cond-false, eqb-true, and_parts, false_from_ne_true}
use Rattle.std.proofs.lemmas.Bool.Decides.{nat_tests}
use Rattle.wrap_laws.specs.Breaks.{Breaking}
use Rattle.page.specs.declared.cells.Cell.{Cell}
use Rattle.drawings.specs.declared.Area.{Area}
use Rattle.style.specs.declared.Style.{Style}
use Rattle.style.specs.Styles.{known_colours}
use Rattle.style.specs.Symbols.{symbol_of}
use Rattle.page.specs.Cells.{inked}
use Rattle.shares.specs.Shares.{budget}
use Rattle.shares.proofs.Totals.{length-naturals, length-shared}
use Rattle.records.specs.declared.kinds.Info.{Info}
use Rattle.blocks.specs.Pieces.{Line, Piece, table}
use Rattle.layout_laws.specs.Layouts.{widest_entries, natural_widths, final_widths, block_rows}
use Rattle.drawings.specs.Strokes.{Stroke, stroke}
use Rattle.drawings.specs.Tables.{upper, rule_strokes, below_rule}
use Rattle.drawings.specs.Drawings.{blocks_strokes, drawing}
use Rattle.drawings.specs.Pages.{on_page, in_area, stroke_at, drawn_on, painted}
use Rattle.drawings.proofs.Painted.{taller_shows_the_same}
use Rattle.drawing_laws.proofs.Heights.{strokes_low}
use Rattle.page.specs.Surfaces.{Page}
use Rattle.markdown.specs.Sheets.{Sheet, Limits}
use Rattle.markdown.specs.Tables.{height_of}
use Rattle.markdown.specs.Pictures.{picture}
use Rattle.markdown.specs.Outcomes.{admitted, refused}
use Rattle.markdown.specs.Replies.{PageAfter, render_verdict}
use Rattle.markdown.specs.Laws.{LiesIn, PaintsInPlace}

-- no stroke stands below
none_below : (h x y : ℕ) (ps : List Stroke) → AllByRecursion (λ (p : Stroke). p.y < h) ps → h ≤ y → stroke_at ps x y ≡ None
none_below h x y [] low le = refl
none_below h x y (p ∷ ps) low le =
    let off : eqb p.x x && eqb p.y y ≡ false =
    false_from_ne_true (eqb p.x x && eqb p.y y) (λ e. let same = eqb-true p.y y (and_parts (eqb p.x x) (eqb p.y y) e).1 in absurd (omega (arith, low.0, same))) in
    cond-false (eqb p.x x && eqb p.y y) (Some p) (stroke_at ps x y) off ∙ none_below h x y ps low.1 le

lies_in : (a : Area) (i j : ℕ) → in_area a i j ≡ true → LiesIn a i j
lies_in a i j e = record { left = grind (arith, nat_tests); right = grind (arith, nat_tests); top = grind (arith, nat_tests); bottom = grind (arith, nat_tests) }

is_in : (a : Area) (i j : ℕ) → LiesIn a i j → in_area a i j ≡ true
is_in a i j l = let x = l.left in let y = l.right in let z = l.top in let w = l.bottom in grind (arith, nat_tests)

-- a cell that a drawing changes lies in the area, above the rows that the height counts
touched : (b : Breaking) (a : Area) (s : Sheet) (f : ℕ → ℕ → Cell) (i j : ℕ) →
    (LiesIn a i j × (j < a.y + height_of b a.width s)) ⊎ (painted a (picture b a.width s) f i j ≡ f i j)
touched b a s f i j =
    let ps = picture b a.width s in
    let h = height_of b a.width s in
    ⊎_elim
    (λ yes.
    let l = lies_in a i j yes in
    let some : 1 ≤ a.width = omega (arith, l.left, l.right) in
    ⊎_elim
    (λ above. inl (l, above))
    (λ below. inr (
    cond-true (in_area a i j) (drawn_on (stroke_at ps (i - a.x) (j - a.y)) (f i j)) (f i j) yes
    ∙ ap (λ o. drawn_on o (f i j)) (none_below h (i - a.x) (j - a.y) ps (strokes_low b a.width s.streaming s.border s.blocks some) (omega (arith, below, l.top)))))
    (cases_lt j (a.y + h)))
    (λ no. inr (cond-false (in_area a i j) (drawn_on (stroke_at ps (i - a.x) (j - a.y)) (f i j)) (f i j) no))
    (cases_Bool (in_area a i j))

inside_at : (b : Breaking) (a : Area) (s : Sheet) (c : Bool) (f g : ℕ → ℕ → Cell) (h i j : ℕ) → g i j ≡ cond c (painted a (picture b a.width s) f i j) (f i j) → h ≡ height_of b a.width s →
    (LiesIn a i j × (j < a.y + h)) ⊎ (g i j ≡ f i j)
inside_at b a s true f g h i j e k = ⊎_elim (λ y. inl (y.0, omega (arith, y.1, k))) (λ n. inr (e ∙ n)) (touched b a s f i j)
inside_at b a s false f g h i j e k = inr e

-- an admitted area lies on the page
lies_on : (a : Area) (w h : ℕ) → admitted ≡ render_verdict a w h → on_page a w h ≡ true
lies_on a w h e = by (on_page a w h) e
  where
    by : (c : Bool) → admitted ≡ cond c admitted (refused 5 []) → c ≡ true
    by true e = refl
    by false e = absurd (cc)

within : (a : Area) (w h i j : ℕ) → on_page a w h ≡ true → LiesIn a i j → (i < w) × (j < h)
within a w h i j e l = let x = l.left in let y = l.right in let z = l.top in let v = l.bottom in (grind (arith, nat_tests), grind (arith, nat_tests))

-- a cell after an admitted paint
after : (b : Breaking) (a : Area) (s : Sheet) (p q : Page) (i j : ℕ) → on_page a p.wide p.high ≡ true → PageAfter b a s p q → q.cell i j ≡ painted a (picture b a.width s) p.cell i j
after b a s p q i j on f = f.cells i j ∙ cond-true (on_page a p.wide p.high) (painted a (picture b a.width s) p.cell i j) (p.cell i j) on

-- the first stroke of a sheet that begins with a table
some_width : (w : ℕ) (growing : Bool) (rows : List (List Line)) → 0 < length (final_widths w growing rows)
some_width w growing rows =
    let ns = natural_widths rows in omega (arith, length-shared (budget w (length ns)) growing ns, length-naturals (widest_entries rows))

corner_stroke : (b : Breaking) (w : ℕ) (streaming : Bool) (t : Style) (i : Info) (rows : List (List Line)) (ps : List Piece) →
    stroke_at (drawing b w streaming t (table i rows ∷ ps)) 0 0 ≡ Some (stroke 0 0 upper.left t)
corner_stroke b w streaming t i rows ps = by (final_widths w (streaming && i.open) rows) (some_width w (streaming && i.open) rows)
  where
    by : (ws : List ℕ) → 0 < length ws →
        stroke_at ((rule_strokes t upper 0 ws ++ below_rule b t i.alignments ws (0 + 1) rows) ++ blocks_strokes b w streaming t (0 + block_rows b w streaming (table i rows) + 1) ps) 0 0 ≡ Some (stroke 0 0 upper.left t)
    by [] h = absurd (omega (arith, h))
    by (v ∷ ws) h = refl

-- and it is put where the border's colours exist
corner_put : (t : Style) (c : Cell) → known_colours t ≡ true → drawn_on (Some (stroke 0 0 upper.left t)) c ≡ inked (symbol_of upper.left) t c
corner_put t c known = cond-true (known_colours t) (inked (symbol_of upper.left) t c) c known

no_way : (n : ℕ) → n - n ≡ 0
no_way n = omega arith

corner_cell : (b : Breaking) (a : Area) (s : Sheet) (f : ℕ → ℕ → Cell) (i : Info) (rows : List (List Line)) (ps : List Piece) → s.blocks ≡ table i rows ∷ ps → known_colours s.border ≡ true → 1 ≤ a.width → 1 ≤ a.height →
    painted a (picture b a.width s) f a.x a.y ≡ inked (symbol_of upper.left) s.border (f a.x a.y)
corner_cell b a s f i rows ps blocks known wide high =
    let here : LiesIn a a.x a.y = record { left = omega arith; right = omega (arith, wide); top = omega arith; bottom = omega (arith, high) } in
    let c = f a.x a.y in
    let ss = picture b a.width s in
    cond-true (in_area a a.x a.y) (drawn_on (stroke_at ss (a.x - a.x) (a.y - a.y)) c) c (is_in a a.x a.y here)
    ∙ (ap (λ x. drawn_on (stroke_at ss x (a.y - a.y)) c) (no_way a.x)
    ∙ (ap (λ y. drawn_on (stroke_at ss 0 y) c) (no_way a.y)
    ∙ (ap (λ qs. drawn_on (stroke_at (drawing b a.width s.streaming s.border qs) 0 0) c) blocks
    ∙ (ap (λ o. drawn_on o c) (corner_stroke b a.width s.streaming s.border i rows ps)
    ∙ corner_put s.border c known))))

pub paints_in_place : (limits : Limits) (s : Sheet) → PaintsInPlace limits s
paints_in_place limits s =
    record {
      inside = λ b a p q r h i j paint high. inside_at b a s (on_page a p.wide p.high) p.cell q.cell h i j (paint.1.cells i j) high;
      alike = λ b a c p q p' q' i j ex ey ew eh copies one two here.
          let on = lies_on a p.wide p.high one.0 in
          let at = within a p.wide p.high i j on here in
          after b a s p q i j on one.1
          ∙ sym (taller_shows_the_same (picture b a.width s) a c p.cell i j ex ey ew eh (is_in a i j here))
          ∙ (ap (λ w. painted c (picture b w s) p.cell i j) ew
          ∙ (ap (λ d. cond (in_area c i j) (drawn_on (stroke_at (picture b c.width s) (i - c.x) (j - c.y)) d) d) (copies.cells i j at.0 at.1)
          ∙ sym (after b c s p' q' i j (lies_on c p'.wide p'.high two.0) two.1)));
      corner = λ b a p q i rows ps blocks known wide high one.
          after b a s p q a.x a.y (lies_on a p.wide p.high one.0) one.1 ∙ corner_cell b a s p.cell i rows ps blocks known wide high;
    }
