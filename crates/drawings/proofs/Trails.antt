-- How strokes through a frame add up, and which of them change nothing.
use Rattle.std.proofs.Common.{◌≡◌, ℕ, ◌+◌, ◌<◌, Bool, true, false, cond, ◌&&◌, eqb, List, [], ◌∷◌, ◌++◌, length, min, max, is_ok, Result, Some, None, Option, refl, sym, ap, subst, ◌∙◌, ⊎_elim, arith}
use Rattle.std.specs.List.{AllByRecursion}
use Rattle.std.proofs.lemmas.Bool.{cases_Bool, cond-true, cond-false, cond_both, true≢false}
use Rattle.std.proofs.lemmas.Bool.Decides.{nat_tests}
use Rattle.std.proofs.lemmas.List.Sums.{fold-append}
use Rattle.style.specs.declared.Style.{Style}
use Rattle.style.specs.Symbols.{symbol_of}
use Rattle.page.specs.declared.cells.Cell.{Cell}
use Rattle.page.specs.declared.refusals.Refusal.{Refusal}
use Rattle.page.specs.Cells.{inked}
use Rattle.page.specs.Refusals.{put_answer}
use Rattle.page.specs.Surfaces.{Page, Put, inside, patch}
use Rattle.drawings.specs.Strokes.{Stroke, stroke}
use Rattle.drawings.specs.Pages.{stroked, taken}
use Rattle.drawings.proofs.Lists.{Lies, Unseen}
use Rattle.drawings.specs.Frames.{Frame, Drawn, bounded, placed, lands, trail}

-- A frame with the bounds cut to the columns from x up to v and the rows from y up to z.
abbrev pub cut_to : ℕ → ℕ → ℕ → ℕ → Frame → Frame
cut_to x v y z f = record { x = f.x; y = f.y; left = max f.left x; top = max f.top y; right = min f.right v; bottom = min f.bottom z }

trail_unseen : (f : Frame) (w h i j : ℕ) (c : Cell) (ps : List Stroke) → Unseen f ps → trail f w h i j c ps ≡ c
trail_unseen f w h i j c [] u = refl
trail_unseen f w h i j c (p ∷ ps) u =
    let e : lands f w h i j p ≡ false = grind (arith, nat_tests, u.0) in
    ap (λ b. trail f w h i j (cond b (stroked p c) c) ps) e ∙ trail_unseen f w h i j c ps u.1

same_lands : (f : Frame) (w h i j : ℕ) (x v y z : ℕ) (p : Stroke) → Lies x v y z p → lands (cut_to x v y z f) w h i j p ≡ lands f w h i j p
same_lands f w h i j x v y z p l =
    let e : bounded (cut_to x v y z f) p.x p.y ≡ bounded f p.x p.y = grind (arith, nat_tests, l.from_x, l.to_x, l.from_y, l.to_y) in
    ap (λ b. inside w h i j && (b && (eqb (f.x + p.x) i && eqb (f.y + p.y) j))) e

trail_cut : (f : Frame) (w h i j : ℕ) (x v y z : ℕ) (c : Cell) (ps : List Stroke) → AllByRecursion (Lies x v y z) ps → trail (cut_to x v y z f) w h i j c ps ≡ trail f w h i j c ps
trail_cut f w h i j x v y z c [] l = refl
trail_cut f w h i j x v y z c (p ∷ ps) l =
    ap (λ b. trail (cut_to x v y z f) w h i j (cond b (stroked p c) c) ps) (same_lands f w h i j x v y z p l.0)
    ∙ trail_cut f w h i j x v y z (cond (lands f w h i j p) (stroked p c) c) ps l.1

put_ok : (on : Bool) (n : ℕ) (t : Style) (p : Stroke) (r : Result (Unit {0}) Refusal) → p.style ≡ t → length p.symbol ≡ n → r ≡ put_answer on n t tt → is_ok r ≡ (on && taken p)
put_ok on n t p r a b e = grind (arith, nat_tests)

left_alone : (a b : Bool) (d c : Cell) → (a && b) ≡ false → cond a (cond b d c) c ≡ c
left_alone true true d c e = absurd (true≢false e)
left_alone true false d c e = refl
left_alone false b d c e = refl

-- A cell after a put within the bounds, as one on which the stroke lands or does not.
put_lands : (f : Frame) (w h x y a b i j : ℕ) (bs : List ℕ) (t : Style) (c : ℕ → ℕ → Cell) (ok : Bool) → w < 65536 → h < 65536 → bounded f x y ≡ true → a ≡ min 65535 (f.x + x) → b ≡ min 65535 (f.y + y) → ok ≡ (inside w h a b && taken (stroke x y bs t)) → cond ok (patch c a b (inked (symbol_of bs) t (c a b)) i j) (c i j) ≡ cond (lands f w h i j (stroke x y bs t)) (stroked (stroke x y bs t) (c i j)) (c i j)
put_lands f w h x y a b i j bs t c ok wide high on e g k =
    let p = stroke x y bs t in
    ⊎_elim
    (λ yes.
    let in_i : i ≡ a = grind (arith, nat_tests) in
    let in_j : j ≡ b = grind (arith, nat_tests) in
    let here : (eqb i a && eqb j b) ≡ true = grind (arith, nat_tests) in
    let admitted : ok ≡ taken p = grind (arith, nat_tests) in
    ap (λ v. cond ok v (c i j)) (cond-true (eqb i a && eqb j b) (inked (symbol_of bs) t (c a b)) (c i j) here)
    ∙ ap (λ v. cond v (inked (symbol_of bs) t (c a b)) (c i j)) admitted
    ∙ ap (λ v. cond (taken p) (inked (symbol_of bs) t (c v b)) (c i j)) (sym in_i)
    ∙ ap (λ v. cond (taken p) (inked (symbol_of bs) t (c i v)) (c i j)) (sym in_j)
    ∙ sym (cond-true (lands f w h i j p) (stroked p (c i j)) (c i j) yes))
    (λ no.
    let away : (ok && (eqb i a && eqb j b)) ≡ false = grind (arith, nat_tests) in
    left_alone ok (eqb i a && eqb j b) (inked (symbol_of bs) t (c a b)) (c i j) away
    ∙ sym (cond-false (lands f w h i j p) (stroked p (c i j)) (c i j) no))
    (cases_Bool (lands f w h i j p))

column_of : Option (ℕ × ℕ) → ℕ
column_of None = 0
column_of (Some p) = p.0

row_of : Option (ℕ × ℕ) → ℕ
row_of None = 0
row_of (Some p) = p.1

place_on : (f : Frame) (x y a b : ℕ) → placed f x y ≡ Some (a, b) → (bounded f x y ≡ true) × (a ≡ min 65535 (f.x + x)) × (b ≡ min 65535 (f.y + y))
unfolding column_of row_of
place_on f x y a b e =
    ⊎_elim
    (λ yes.
    let q = sym (cond-true (bounded f x y) (Some (min 65535 (f.x + x), min 65535 (f.y + y))) None yes) ∙ e in
    (yes, sym (ap column_of q), sym (ap row_of q)))
    (λ no. let q = sym (cond-false (bounded f x y) (Some (min 65535 (f.x + x), min 65535 (f.y + y))) None no) ∙ e in absurd (cc))
    (cases_Bool (bounded f x y))

module _ {A : Type 0} (shows : A → Page) (held : A → List ℕ) (rest : A → List ℕ → ℕ → ℕ → Cell) (lawful : A → Type 0) where
  -- Nothing is drawn.
  pub drawn-none : (f : Frame) (s : A) → Drawn shows held rest lawful f [] s s
  drawn-none f s = record { cells = λ i j. refl; as_wide = refl; as_high = refl; kept = refl; hidden = λ p i j. refl; still = λ l. l }

  -- What is unseen is drawn by doing nothing.
  pub drawn-unseen : (f : Frame) (ps : List Stroke) (s : A) → Unseen f ps → Drawn shows held rest lawful f ps s s
  drawn-unseen f ps s u =
      record {
        cells = λ i j. sym (trail_unseen f (shows s).wide (shows s).high i j ((shows s).cell i j) ps u);
        as_wide = refl;
        as_high = refl;
        kept = refl;
        hidden = λ p i j. refl;
        still = λ l. l;
      }

  -- A stroke that no page takes is drawn by doing nothing.
  pub drawn-untaken : (f : Frame) (p : Stroke) (s : A) → taken p ≡ false → Drawn shows held rest lawful f (p ∷ []) s s
  drawn-untaken f p s e =
      record {
        cells = λ i j.
            let c = (shows s).cell i j in
            let b = lands f (shows s).wide (shows s).high i j p in
            sym (ap (λ v. cond b (cond v (inked (symbol_of p.symbol) p.style c) c) c) e ∙ cond_both b c c (λ v. v ≡ c) (λ _. refl) (λ _. refl));
        as_wide = refl;
        as_high = refl;
        kept = refl;
        hidden = λ p i j. refl;
        still = λ l. l;
      }

  -- Some strokes and then others.
  pub drawn-append : (f : Frame) (ps qs : List Stroke) (s t u : A) → Drawn shows held rest lawful f ps s t → Drawn shows held rest lawful f qs t u → Drawn shows held rest lawful f (ps ++ qs) s u
  drawn-append f ps qs s t u d e =
      record {
        cells = λ i j.
            e.cells i j
            ∙ ap (λ w. trail f w (shows t).high i j ((shows t).cell i j) qs) d.as_wide
            ∙ ap (λ h. trail f (shows s).wide h i j ((shows t).cell i j) qs) d.as_high
            ∙ ap (λ c. trail f (shows s).wide (shows s).high i j c qs) (d.cells i j)
            ∙ sym (fold-append (λ c p. cond (lands f (shows s).wide (shows s).high i j p) (stroked p c) c) ((shows s).cell i j) ps qs);
        as_wide = e.as_wide ∙ d.as_wide;
        as_high = e.as_high ∙ d.as_high;
        kept = e.kept ∙ d.kept;
        hidden = λ p i j. e.hidden p i j ∙ d.hidden p i j;
        still = λ l. e.still (d.still l);
      }

  -- Where strokes lie in a part of the frame, it does not matter whether the frame is cut to that.
  pub drawn-cut : (f : Frame) (x v y z : ℕ) (ps : List Stroke) (s t : A) → AllByRecursion (Lies x v y z) ps → Drawn shows held rest lawful (cut_to x v y z f) ps s t → Drawn shows held rest lawful f ps s t
  drawn-cut f x v y z ps s t l d =
      record {
        cells = λ i j. d.cells i j ∙ trail_cut f (shows s).wide (shows s).high i j x v y z ((shows s).cell i j) ps l;
        as_wide = d.as_wide;
        as_high = d.as_high;
        kept = d.kept;
        hidden = d.hidden;
        still = d.still;
      }

  -- A put within the bounds draws its stroke.
  pub drawn-put : (f : Frame) (x y a b : ℕ) (bs : List ℕ) (t : Style) (s u : A) (r : Result (Unit {0}) Refusal) → placed f x y ≡ Some (a, b) → Put shows held rest lawful a b bs t s u r → Drawn shows held rest lawful f (stroke x y bs t ∷ []) s u
  drawn-put f x y a b bs t s u r e p =
      let o = place_on f x y a b e in
      record {
        cells = λ i j.
            p.cells i j
            ∙ put_lands f (shows s).wide (shows s).high x y a b i j bs t (shows s).cell (is_ok r) (shows s).narrow (shows s).short o.0 o.1 o.2
            (put_ok (inside (shows s).wide (shows s).high a b) (length bs) t (stroke x y bs t) r refl refl p.value);
        as_wide = p.as_wide;
        as_high = p.as_high;
        kept = p.kept;
        hidden = p.hidden;
        still = p.still;
      }

  -- Whatever draws some strokes from s on will have drawn those of the whole from the start on.
  abbrev pub Onward : Frame → List Stroke → A → List Stroke → A → Type 0
  Onward f whole start ps s = (u : A) → Drawn shows held rest lawful f ps s u → Drawn shows held rest lawful f whole start u

  pub onward-start : (f : Frame) (ps : List Stroke) (s : A) → Onward f ps s ps s
  onward-start f ps s u d = d

  -- After some of the strokes the others are left.
  pub onward-more : (f : Frame) (whole rest_of ps qs : List Stroke) (start s t : A) → rest_of ≡ ps ++ qs → Onward f whole start rest_of s → Drawn shows held rest lawful f ps s t → Onward f whole start qs t
  onward-more f whole rest_of ps qs start s t e o d u k =
      let P : List Stroke → Type 0 = λ q. Drawn shows held rest lawful f q s u in
      o u (subst P (sym e) (drawn-append f ps qs s t u d k))

  -- Where no stroke is left, or none that is seen, all are drawn.
  pub onward-end : (f : Frame) (whole ps : List Stroke) (start s : A) → Onward f whole start ps s → ps ≡ [] → Drawn shows held rest lawful f whole start s
  onward-end f whole ps start s o e =
      let P : List Stroke → Type 0 = λ q. Drawn shows held rest lawful f q s s in
      o s (subst P (sym e) (drawn-none f s))

  pub onward-unseen : (f : Frame) (whole ps : List Stroke) (start s : A) → Onward f whole start ps s → Unseen f ps → Drawn shows held rest lawful f whole start s
  onward-unseen f whole ps start s o u = o s (drawn-unseen f ps s u)

  pub onward-same : (f : Frame) (whole ps qs : List Stroke) (start s : A) → Onward f whole start ps s → ps ≡ qs → Onward f whole start qs s
  onward-same f whole ps qs start s o e =
      let P : List Stroke → Type 0 = λ q. Onward f whole start q s in
      subst P e o
