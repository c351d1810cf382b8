-- What the definitions of pages need to know: sides fit 16 bits, and what is shown is sound.
use Rattle.std.specs.Prelude.{◌≡◌, ℕ, ◌+◌, ◌*◌, ◌≤◌, Bool, true, false, cond, ◌&&◌, is_ok, Err, Result, nat_lt, refl}
use Rattle.std.proofs.Common.{arith}
use Rattle.std.proofs.lemmas.Bool.{and_parts, ltb-true, cond_both}
use Rattle.page.specs.declared.cells.Cell.{Cell}
use Rattle.page.specs.declared.refusals.Refusal.{Refusal}
use Rattle.page.specs.declared.refusals.Refusal.TheVariants.{Outside}
use Rattle.page.specs.Cells.{fresh, sound, tidy}
use Rattle.page.specs.Refusals.{sides, memory_answer}
use Rattle.page.specs.Surfaces.{inside, shown}

-- what is shown of a record is sound
pub tidy-sound : (c : Cell) → sound (tidy c) ≡ true
tidy-sound c = cond_both (sound c) c fresh (λ d. sound d ≡ true) (λ e. e) (λ _. refl)

-- sound cells are shown as sound cells
pub shown-sound : (w h : ℕ) (f : ℕ → Cell) → ((k : ℕ) → sound (f k) ≡ true) → (i j : ℕ) → sound (shown w h f i j) ≡ true
shown-sound w h f each i j = cond_both (inside w h i j) (f (j * w + i)) fresh (λ c. sound c ≡ true) (λ t. each (j * w + i)) (λ t. refl)

side_le : (s : Bool) (r : Result (Unit {0}) Refusal) (k : ℕ) → (s ≡ true → k ≤ 1024) → cond (is_ok (cond s r (Err Outside))) k 0 ≤ 1024
side_le true r k f = cond_both (is_ok r) k 0 (λ a. a ≤ 1024) (λ _. f refl) (λ _. omega arith)
side_le false r k f = omega arith

-- a page that is made has sides of at most 1,024
pub wide_le : (w h n m : ℕ) → cond (is_ok (memory_answer w h n m)) w 0 ≤ 1024
wide_le w h n m =
    side_le (sides w h) _ w
    (λ e. let a = and_parts (nat_lt 0 w && nat_lt w 1025) (nat_lt 0 h && nat_lt h 1025) e in
    omega (arith, ltb-true w 1025 (and_parts (nat_lt 0 w) (nat_lt w 1025) a.0).1))

pub high_le : (w h n m : ℕ) → cond (is_ok (memory_answer w h n m)) h 0 ≤ 1024
high_le w h n m =
    side_le (sides w h) _ h
    (λ e. let a = and_parts (nat_lt 0 w && nat_lt w 1025) (nat_lt 0 h && nat_lt h 1025) e in
    omega (arith, ltb-true h 1025 (and_parts (nat_lt 0 h) (nat_lt h 1025) a.1).1))
