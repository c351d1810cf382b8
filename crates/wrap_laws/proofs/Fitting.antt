use Rattle.std.proofs.Common.{◌≡◌, ℕ, zero, suc, ◌+◌, ◌-◌, ◌<◌, ◌≤◌, leb, List, [], ◌∷◌, length, get_or, take, drop, ap, ◌∙◌, arith, length-drop, drop-cons, drop-drop}
use Rattle.std.proofs.lemmas.Bool.Decides.{nat_tests}
use Rattle.std.proofs.lemmas.Bool.{cond-true, le-leb}
use Rattle.glyphs.specs.declared.Glyph.{Glyph}
use Rattle.wrap_laws.specs.Breaks.{no_glyph, counted, columns}
use Rattle.wrap_laws.specs.Rules.{fitting, first_misfit}

fits-one_more : (w room : ℕ) (g : Glyph) (gs : List Glyph) → counted w g ≤ room → fitting w room (g ∷ gs) ≡ suc (fitting w (room - counted w g) gs)
fits-one_more w room g gs h = cond-true (leb (counted w g) room) _ _ (le-leb (counted w g) room h)

-- No more glyphs fit than there are.
fitting_le_length : (w room : ℕ) (gs : List Glyph) → fitting w room gs ≤ length gs
fitting_le_length w room [] = omega arith
fitting_le_length w room (g ∷ gs) = let rest = fitting_le_length w (room - counted w g) gs in grind (arith, nat_tests)

-- What fits does not exceed the room.
fitting-columns : (w room : ℕ) (gs : List Glyph) → columns w (take (fitting w room gs) gs) ≤ room
fitting-columns w room [] = omega arith
fitting-columns w room (g ∷ gs) = let rest = fitting-columns w (room - counted w g) gs in grind (arith, nat_tests)

more_room : (w r t : ℕ) (gs : List Glyph) → r ≤ t → fitting w r gs ≤ fitting w t gs
more_room w r t [] h = omega arith
more_room w r t (g ∷ gs) h = let rest = more_room w (r - counted w g) (t - counted w g) gs (omega arith) in grind (arith, nat_tests)

-- A row that starts later, with no less room, reaches no less far.
later_start : (w r t : ℕ) (gs : List Glyph) (d : ℕ) → r ≤ t → fitting w r gs ≤ d + fitting w t (drop d gs)
later_start w r t gs zero h = omega (arith, more_room w r t gs h)
later_start w r t [] (suc d) h = omega arith
later_start w r t (g ∷ gs) (suc d) h = let rest = later_start w (r - counted w g) t gs d (omega arith) in grind (arith, nat_tests)

-- A full row takes only glyphs of width 0, whatever its width from 1 up.
full_row : (w : ℕ) (gs : List Glyph) → 1 ≤ w → fitting w 0 gs ≤ fitting (w + 1) 0 gs
full_row w [] h = omega arith
full_row w (g ∷ gs) h = let rest = full_row w gs h in grind (arith, nat_tests)

-- One more column, one more of room: no fewer glyphs fit, though a glyph wider than w counts one more too.
one_more_column : (w r : ℕ) (gs : List Glyph) → 1 ≤ w → r ≤ w → fitting w r gs ≤ fitting (w + 1) (r + 1) gs
one_more_column w r [] h q = omega arith
one_more_column w r (g ∷ gs) h q =
    let full = full_row w gs h in
    let rest = one_more_column w (r - counted w g) gs h (omega arith) in
    grind (arith, nat_tests)

-- The first misfit of a row that starts no earlier and has one more column is no earlier.
pub misfit_no_earlier : (line : List Glyph) (w s t : ℕ) → 1 ≤ w → s ≤ t → first_misfit line w s ≤ first_misfit line (w + 1) t
misfit_no_earlier line w s t h k =
    let e : drop (t - s) (drop s line) ≡ drop t line = drop-drop (t - s) s line ∙ ap (λ n. drop n line) (omega arith) in
    let a = one_more_column w w (drop s line) h (omega arith) in
    let b = later_start (w + 1) (w + 1) (w + 1) (drop s line) (t - s) (omega arith) in
    omega (arith, ap (fitting (w + 1) (w + 1)) e)

pub misfit_no_later_than_end : (line : List Glyph) (w s : ℕ) → s ≤ length line → first_misfit line w s ≤ length line
misfit_no_later_than_end line w s h = omega (arith, fitting_le_length w w (drop s line), length-drop s line)

-- A glyph counts at most w, so the first one fits.
pub misfit_further_on : (line : List Glyph) (w s : ℕ) → s < length line → s < first_misfit line w s
misfit_further_on line w s h =
    let k : counted w (get_or line s no_glyph) ≤ w = omega arith in
    omega (arith, ap (fitting w w) (drop-cons line s no_glyph h), fits-one_more w w (get_or line s no_glyph) (drop (suc s) line) k)

pub misfit_columns : (line : List Glyph) (w s : ℕ) → columns w (take (first_misfit line w s - s) (drop s line)) ≤ w
misfit_columns line w s =
    let e : first_misfit line w s - s ≡ fitting w w (drop s line) = omega arith in
    rw e (fitting-columns w w (drop s line))
