-- What is left of a row after a glyph, and the bytes of a symbol as they are put.
use Rattle.std.proofs.Common.{◌≡◌, ℕ, zero, suc, ◌+◌, ◌-◌, ◌/◌, ◌%◌, ◌<◌, ◌≤◌, List, ◌∷◌, ◌++◌, length, get_or, take, drop, leb, false, refl, sym, ap, ◌∙◌, arith}
use Rattle.std.specs.List.{slice_range}
use Rattle.std.proofs.lemmas.Bool.{and_left, lt-leb}
use Rattle.std.proofs.lemmas.List.{at_drop_more}
use Rattle.style.specs.declared.Style.{Style}
use Rattle.style.specs.declared.Symbol.{Symbol}
use Rattle.style.specs.Symbols.{unpacked, bytes_of}
use Rattle.style.specs.Styles.{known_colours}
use Rattle.glyphs.specs.declared.Glyph.{Glyph}
use Rattle.wrap_laws.specs.Breaks.{no_glyph, counted}
use Rattle.drawings.specs.Strokes.{stroke, glyph_strokes, row_strokes}
use Rattle.drawings.specs.Pages.{taken}
use Rattle.drawings.proofs.Taken.{length_unpacked}

-- After a glyph that counts n cells the others of its row are left.
pub row_step : (w x y k n : ℕ) (gs : List Glyph) → k < length gs → n ≡ counted w (get_or gs k no_glyph) → row_strokes w x y (drop k gs) ≡ glyph_strokes w x y (get_or gs k no_glyph) ++ row_strokes w (x + n) y (drop (k + 1) gs)
row_step w x y k n gs h e =
    at_drop_more (row_strokes w x y) gs k no_glyph h
    ∙ ap (λ m. glyph_strokes w x y (get_or gs k no_glyph) ++ row_strokes w (x + m) y (drop (k + 1) gs)) (sym e)

take_unpacked : (m n v : ℕ) → m ≤ n → take m (unpacked n v) ≡ unpacked m v
take_unpacked zero n v h = refl
take_unpacked (suc m) zero v h = absurd (omega arith)
take_unpacked (suc m) (suc n) v h = ap (λ l. v % 256 ∷ l) (take_unpacked m n (v / 256) (omega arith))

-- The first bytes of a symbol's number are the symbol.
pub front_bytes : (s : Symbol) (n : ℕ) → n ≡ s.len → n ≤ 8 → slice_range (unpacked 8 s.bytes) 0 n ≡ bytes_of s
front_bytes s n e h =
    let z : n - 0 ≡ n = omega arith in
    ap (λ m. take m (unpacked 8 s.bytes)) z ∙ take_unpacked n 8 s.bytes h ∙ ap (λ m. unpacked m s.bytes) e

-- A symbol of more than 8 bytes is taken by no page.
pub long_untaken : (x y : ℕ) (s : Symbol) (t : Style) → 8 < s.len → taken (stroke x y (bytes_of s) t) ≡ false
long_untaken x y s t h =
    and_left (leb (length (bytes_of s)) 8) (known_colours t) (lt-leb (length (bytes_of s)) 8 (omega (arith, length_unpacked s.len s.bytes)))
