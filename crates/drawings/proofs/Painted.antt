-- Strokes that stand apart, drawn one after another through the frame of an area, make the page that a paint makes.
use Rattle.std.proofs.Common.{◌≤◌, ◌≡◌, ℕ, ◌-◌, Bool, true, false, cond, ◌&&◌, eqb, List, [], ◌∷◌, Some, refl, sym, ap, ◌∙◌, ◌⊎◌, ⊎_elim, arith}
use Rattle.std.specs.List.{AllByRecursion}
use Rattle.std.proofs.lemmas.Bool.{cases_Bool, cond-true, cond-false, eqb-true, and_parts, false_from_ne_true}
use Rattle.std.proofs.lemmas.Bool.Decides.{nat_tests}
use Rattle.page.specs.declared.cells.Cell.{Cell}
use Rattle.page.specs.Surfaces.{Page}
use Rattle.drawings.specs.declared.Area.{Area}
use Rattle.drawings.specs.Strokes.{Stroke}
use Rattle.drawings.specs.Pages.{Elsewhere, Apart, on_page, in_area, stroke_at, stroked, drawn_on, painted, Paint}
use Rattle.drawings.specs.Frames.{Frame, Drawn, frame_in, lands, trail}

-- Whether a stroke stands at a place.
abbrev at : ℕ → ℕ → Stroke → Bool
at x y p = eqb p.x x && eqb p.y y

trail_off : (f : Frame) (w h i j : ℕ) (c : Cell) (ps : List Stroke) → ((p : Stroke) → lands f w h i j p ≡ false) → trail f w h i j c ps ≡ c
trail_off f w h i j c [] off = refl
trail_off f w h i j c (p ∷ ps) off = ap (λ b. trail f w h i j (cond b (stroked p c) c) ps) (off p) ∙ trail_off f w h i j c ps off

-- Once the stroke at the place is drawn, no other changes the cell.
trail_rest : (f : Frame) (w h i j x y : ℕ) (c : Cell) (p : Stroke) (ps : List Stroke) → ((q : Stroke) → lands f w h i j q ≡ at x y q) → at x y p ≡ true → AllByRecursion (Elsewhere p) ps → trail f w h i j c ps ≡ c
trail_rest f w h i j x y c p [] same here away = refl
trail_rest f w h i j x y c p (q ∷ ps) same here away =
    let parts = and_parts (eqb p.x x) (eqb p.y y) here in
    let px = eqb-true p.x x parts.0 in
    let py = eqb-true p.y y parts.1 in
    let not_here : at x y q ≡ false =
    false_from_ne_true (at x y q)
    (λ e. let more = and_parts (eqb q.x x) (eqb q.y y) e in
    away.0 (px ∙ sym (eqb-true q.x x more.0)) (py ∙ sym (eqb-true q.y y more.1))) in
    ap (λ b. trail f w h i j (cond b (stroked q c) c) ps) (same q ∙ not_here) ∙ trail_rest f w h i j x y c p ps same here away.1

trail_at : (f : Frame) (w h i j x y : ℕ) (c : Cell) (ps : List Stroke) → ((q : Stroke) → lands f w h i j q ≡ at x y q) → Apart ps → trail f w h i j c ps ≡ drawn_on (stroke_at ps x y) c
trail_at f w h i j x y c [] same apart = refl
trail_at f w h i j x y c (p ∷ ps) same apart =
    ap (λ b. trail f w h i j (cond b (stroked p c) c) ps) (same p)
    ∙ ⊎_elim
    (λ yes.
    ap (λ b. trail f w h i j (cond b (stroked p c) c) ps) yes
    ∙ trail_rest f w h i j x y (stroked p c) p ps same yes apart.0
    ∙ sym (ap (λ o. drawn_on o c) (cond-true (at x y p) (Some p) (stroke_at ps x y) yes)))
    (λ no.
    ap (λ b. trail f w h i j (cond b (stroked p c) c) ps) no
    ∙ trail_at f w h i j x y c ps same apart.1
    ∙ sym (ap (λ o. drawn_on o c) (cond-false (at x y p) (Some p) (stroke_at ps x y) no)))
    (cases_Bool (at x y p))

-- A stroke lands on a cell of the area exactly if it stands at its place, counted from the corner.
lands_at : (a : Area) (w h i j : ℕ) (p : Stroke) → on_page a w h ≡ true → in_area a i j ≡ true → lands (frame_in a) w h i j p ≡ at (i - a.x) (j - a.y) p
lands_at a w h i j p on here =
    ⊎_elim
    (λ yes. let lands_here : lands (frame_in a) w h i j p ≡ true = grind (arith, nat_tests) in lands_here ∙ sym yes)
    (λ no. let lands_off : lands (frame_in a) w h i j p ≡ false = grind (arith, nat_tests) in lands_off ∙ sym no)
    (cases_Bool (at (i - a.x) (j - a.y) p))

-- No stroke lands outside the area.
lands_off : (a : Area) (w h i j : ℕ) (p : Stroke) → in_area a i j ≡ false → lands (frame_in a) w h i j p ≡ false
lands_off a w h i j p off = grind (arith, nat_tests)

trail_painted : (a : Area) (w h i j : ℕ) (f : ℕ → ℕ → Cell) (ps : List Stroke) → on_page a w h ≡ true → Apart ps → trail (frame_in a) w h i j (f i j) ps ≡ painted a ps f i j
trail_painted a w h i j f ps on apart =
    let x = i - a.x in
    let y = j - a.y in
    ⊎_elim
    (λ yes.
    trail_at (frame_in a) w h i j x y (f i j) ps (λ p. lands_at a w h i j p on yes) apart
    ∙ sym (cond-true (in_area a i j) (drawn_on (stroke_at ps x y) (f i j)) (f i j) yes))
    (λ no.
    trail_off (frame_in a) w h i j (f i j) ps (λ p. lands_off a w h i j p no)
    ∙ sym (cond-false (in_area a i j) (drawn_on (stroke_at ps x y) (f i j)) (f i j) no))
    (cases_Bool (in_area a i j))

no_cell : (a : Area) (i j : ℕ) → (a.width ≡ 0) ⊎ (a.height ≡ 0) → in_area a i j ≡ false
no_cell a i j e = ⊎_elim (λ z. grind (arith, nat_tests)) (λ z. grind (arith, nat_tests)) e

pub paint-drawn : {A : Type 0} (shows : A → Page) (held : A → List ℕ) (rest : A → List ℕ → ℕ → ℕ → Cell) (lawful : A → Type 0) (a : Area) (ps : List Stroke) (s t : A) → on_page a (shows s).wide (shows s).high ≡ true → Apart ps → Drawn shows held rest lawful (frame_in a) ps s t → Paint shows held rest lawful a ps s t
paint-drawn shows held rest lawful a ps s t on apart d =
    record {
      cells = λ i j. d.cells i j ∙ trail_painted a (shows s).wide (shows s).high i j (shows s).cell ps on apart;
      as_wide = d.as_wide;
      as_high = d.as_high;
      kept = d.kept;
      hidden = d.hidden;
      still = d.still;
    }

-- An area without a cell shows nothing.
pub paint-empty : {A : Type 0} (shows : A → Page) (held : A → List ℕ) (rest : A → List ℕ → ℕ → ℕ → Cell) (lawful : A → Type 0) (a : Area) (ps : List Stroke) (s : A) → (a.width ≡ 0) ⊎ (a.height ≡ 0) → Paint shows held rest lawful a ps s s
paint-empty shows held rest lawful a ps s e =
    record {
      cells = λ i j.
          let c = (shows s).cell i j in
          let off : in_area a i j ≡ false = no_cell a i j e in
          sym (cond-false (in_area a i j) (drawn_on (stroke_at ps (i - a.x) (j - a.y)) c) c off);
      as_wide = refl;
      as_high = refl;
      kept = refl;
      hidden = λ p i j. refl;
      still = λ l. l;
    }

-- Of two areas that differ in height alone the taller one shows the same in the rows of the other.
abbrev pub TallerShowsTheSame : List Stroke → Type 0
TallerShowsTheSame ps = (a c : Area) (f : ℕ → ℕ → Cell) (i j : ℕ) → a.x ≡ c.x → a.y ≡ c.y → a.width ≡ c.width → a.height ≤ c.height → in_area a i j ≡ true → painted c ps f i j ≡ painted a ps f i j

pub taller_shows_the_same : (ps : List Stroke) → TallerShowsTheSame ps
taller_shows_the_same ps a c f i j ex ey ew eh here =
    let there : in_area c i j ≡ true = grind (arith, nat_tests) in
    cond-true (in_area c i j) (drawn_on (stroke_at ps (i - c.x) (j - c.y)) (f i j)) (f i j) there
    ∙ ap (λ x. drawn_on (stroke_at ps (i - x) (j - c.y)) (f i j)) (sym ex)
    ∙ ap (λ y. drawn_on (stroke_at ps (i - a.x) (j - y)) (f i j)) (sym ey)
    ∙ sym (cond-true (in_area a i j) (drawn_on (stroke_at ps (i - a.x) (j - a.y)) (f i j)) (f i j) here)
