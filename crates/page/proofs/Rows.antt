use Rattle.std.proofs.Common.{◌≡◌, ℕ, ◌+◌, ◌*◌, ◌<◌, true, cond, eqb, List, length, get_or, Some, None, Ok, sym, ap, ◌∙◌, subst, ⊎_elim, arith}
use Rattle.std.proofs.lemmas.Bool.{cases_Bool, cond_both}
use Rattle.std.proofs.lemmas.Bool.Decides.{nat_tests}
use Rattle.style.specs.declared.Style.{Style}
use Rattle.style.specs.declared.Symbol.{Symbol}
use Rattle.style.specs.Symbols.{symbol_of}
use Rattle.page.specs.declared.cells.Cell.{Cell}
use Rattle.page.specs.Cells.{fresh, inked, sound, tidy}
use Rattle.page.specs.Refusals.{put_answer, put_told}
use Rattle.page.specs.Surfaces.{Page, Put, read_at, inside, patch, shown}
use Rattle.page.specs.Laws.{tidy-sound}
use Rattle.page.specs.Rows.{fits, rows_page}
use Rattle.page.proofs.Places.{place_lt, shown-inked, shown-fresh}
use Rattle.page.proofs.Puts.{Admitted, fitting}
use Rattle.page.proofs.Sounds.{tidy_same, inked-sound}

-- what is known of a place x, y on a page in memory, and of k, its place in its row
pub record Placed (w h n m x y k : ℕ) : Type 0 where
  pub fit : fits w h n m ≡ true
  pub lent : m ≡ n
  pub on_x : x < w
  pub on_y : y < h
  pub at : k ≡ y * w + x
  pub place : k < w * h

-- a and b are the sides that the page shows
pub placed : (w h n m a b x y k : ℕ) → a ≡ cond (fits w h n m) w 0 → b ≡ cond (fits w h n m) h 0 → inside a b x y ≡ true → k ≡ y * a + x → Placed w h n m x y k
placed w h n m a b x y k wide high on at =
    let f : fits w h n m ≡ true = grind (arith, nat_tests) in
    let e : a ≡ w = grind (arith, nat_tests) in
    let p : x < w = grind (arith, nat_tests) in
    let q : y < h = grind (arith, nat_tests) in
    let is : k ≡ y * w + x = at ∙ ap (λ c. y * c + x) e in
    record { fit = f; lent = (fitting w h n m f).0; on_x = p; on_y = q; at = is; place = omega (arith, place_lt w h x y p q) }

-- what is read at such a place
module _ (w h n m a b x y k : ℕ) (f : ℕ → Cell) (wide : a ≡ cond (fits w h n m) w 0) (high : b ≡ cond (fits w h n m) h 0) (on : inside a b x y ≡ true) (at : k ≡ y * a + x) where
  within : inside (cond (fits w h n m) w 0) (cond (fits w h n m) h 0) x y ≡ true
  within = ap (λ q. inside q (cond (fits w h n m) h 0) x y) (sym wide) ∙ ap (λ q. inside a q x y) (sym high) ∙ on

  is_read : read_at (rows_page w h n m f) x y ≡ Some (tidy (f k))
  is_read =
      ap (λ t. cond t (Some ((rows_page w h n m f).cell x y)) None) within
      ∙ ap (λ t. Some (cond t (tidy (f (y * cond (fits w h n m) w 0 + x))) fresh)) within
      ∙ ap (λ q. Some (tidy (f q))) (ap (λ q. y * q + x) (sym wide) ∙ sym at)

  pub read_row : (r : Cell) → read_at (rows_page w h n m f) x y ≡ Some r → r ≡ tidy (f k)
  read_row r e = let i = is_read in cc

-- A put that is admitted on a page in memory, which shows the sides a and b: the cells were f, of which r is read and is inked to v.
module _ (w h n m a b x y k : ℕ) (bs : List ℕ) (t : Style) (u : Symbol) (f : ℕ → Cell) (r v : Cell)
    (wide : a ≡ cond (fits w h n m) w 0) (high : b ≡ cond (fits w h n m) h 0) (at : k ≡ y * a + x)
    (bytes : (i : ℕ) → get_or bs i 0 < 256)
    (ok : Admitted (inside a b x y) bs t u)
    (read : read_at (rows_page w h n m f) x y ≡ Some r)
    (made : v ≡ inked u t r) where
  on : Placed w h n m x y k
  on = placed w h n m a b x y k wide high ok.on at

  made_of_row : v ≡ inked (symbol_of bs) t (tidy (f k))
  made_of_row = made ∙ ap (λ s. inked s t r) ok.symbol ∙ ap (λ d. inked (symbol_of bs) t d) (read_row w h n m a b x y k f wide high ok.on at r read)

  pub made_of : v ≡ inked (symbol_of bs) t (tidy (f (y * w + x)))
  made_of = made_of_row ∙ ap (λ q. inked (symbol_of bs) t (tidy (f q))) on.at

  rows-sound : sound v ≡ true
  rows-sound = ap sound made_of_row ∙ inked-sound bs t (tidy (f k)) bytes ok.short ok.front ok.back (tidy-sound (f k))

  -- and are g now
  module _ (g : ℕ → Cell) (step : sound v ≡ true → (q : ℕ) → q < w * h → g q ≡ cond (eqb q k) v (f q)) where
    tidied : (q : ℕ) → q < w * h → tidy (g q) ≡ cond (eqb q (y * w + x)) v (tidy (f q))
    tidied q l =
        ap tidy (step rows-sound q l)
        ∙ cond_both (eqb q k) v (f q) (λ c. tidy c ≡ cond (eqb q k) v (tidy (f q)))
        (λ e. tidy_same v rows-sound ∙ sym (ap (λ b. cond b v (tidy (f q))) e))
        (λ e. sym (ap (λ b. cond b v (tidy (f q))) e))
        ∙ ap (λ i. cond (eqb q i) v (tidy (f q))) on.at

    rows_cells : (i j : ℕ) → (rows_page w h n m g).cell i j ≡ patch (rows_page w h n m f).cell x y (inked (symbol_of bs) t ((rows_page w h n m f).cell x y)) i j
    rows_cells i j =
        let e : fits w h n m ≡ true = on.fit in
        ap (λ b. shown (cond b w 0) (cond b h 0) (λ k. tidy (g k)) i j) e
        ∙ shown-inked w h x y (λ k. tidy (f k)) (λ k. tidy (g k)) v (symbol_of bs) t on.on_x on.on_y made_of tidied i j
        ∙ sym (ap (λ b. patch (shown (cond b w 0) (cond b h 0) (λ k. tidy (f k))) x y (inked (symbol_of bs) t (shown (cond b w 0) (cond b h 0) (λ k. tidy (f k)) x y)) i j) e)

    -- s is the surface before and s' the one after
    module _ {A : Type 0} (shows : A → Page) (held : A → List ℕ) (rest : A → List ℕ → ℕ → ℕ → Cell) (lawful : A → Type 0) (s s' : A)
        (before : shows s ≡ rows_page w h n m f) (after : shows s' ≡ rows_page w h n m g) where
      told_sides : (inside a b x y) ≡ inside (shows s).wide (shows s).high x y
      told_sides = ap (λ q. inside q b x y) wide ∙ ap (λ q. inside (cond (fits w h n m) w 0) q x y) high ∙ ap (λ p. inside p.wide p.high x y) (sym before)

      pub rows_put : held s' ≡ held s → ((p : List ℕ) (i j : ℕ) → rest s' p i j ≡ rest s p i j) → (sound v ≡ true → lawful s → lawful s') → Put shows held rest lawful x y bs t s s' (Ok tt)
      rows_put kept hidden still =
          record {
            value = ok.value ∙ ap (λ q. put_answer q (length bs) t tt) told_sides;
            numbers = ok.numbers ∙ ap (λ q. put_told q (length bs) t) told_sides;
            cells = λ i j. ap (λ p. p.cell i j) after ∙ rows_cells i j ∙ ap (λ p. patch p.cell x y (inked (symbol_of bs) t (p.cell x y)) i j) (sym before);
            as_wide = ap (λ p. p.wide) after ∙ ap (λ p. p.wide) (sym before);
            as_high = ap (λ p. p.high) after ∙ ap (λ p. p.high) (sym before);
            kept = kept;
            hidden = hidden;
            still = still rows-sound;
          }

-- a page in memory whose cells are all fresh, or that has no place, shows fresh cells
pub rows-fresh : (w h n m : ℕ) (f : ℕ → Cell) → (fits w h n m ≡ true → (k : ℕ) → k < w * h → f k ≡ fresh) → (i j : ℕ) → (rows_page w h n m f).cell i j ≡ fresh
rows-fresh w h n m f each =
    shown-fresh (cond (fits w h n m) w 0) (cond (fits w h n m) h 0) (λ k. tidy (f k))
    (λ k l. ⊎_elim
    (λ fit. let lt : k < w * h = subst (λ b. k < cond b w 0 * cond b h 0) fit l in ap tidy (each fit k lt))
    (λ none. let lt : k < 0 * 0 = subst (λ b. k < cond b w 0 * cond b h 0) none l in absurd (omega arith))
    (cases_Bool (fits w h n m)))
