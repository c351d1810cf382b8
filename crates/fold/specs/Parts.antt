-- Text as acts.
use Rattle.std.specs.Prelude.{ℕ, Bool, cond, List, [], ◌∷◌, ◌++◌, map, ◌==◌}
use Rattle.style.specs.declared.Style.{Style}
use Rattle.glyphs.specs.Rulings.{Ruling}
use Rattle.glyphs.specs.declared.Glyph.{Glyph}
use Rattle.glyphs.specs.Glyphs.{space, sanitized}
use Rattle.records.specs.Acts.{Act, put, end_line}

-- Glyphs, one after the other.
abbrev pub puts : List Glyph → List Act
puts gs = map put gs

-- What is measured by itself.
abbrev pub measured : Ruling → Style → List ℕ → List Act
measured r t s = puts (sanitized r t s)

-- A part of a text between line feeds: an empty one puts nothing; in a code block two spaces go before it.
abbrev pub part : Ruling → Style → Bool → List ℕ → List Act
part r t code [] = []
part r t code (b ∷ bs) = cond code (put (space t) ∷ put (space t) ∷ measured r t (b ∷ bs)) (measured r t (b ∷ bs))

-- The parts of a text, each by P, and at each line feed between them the line ends; `so` is the part read so far.
abbrev pub spread : (List ℕ → List Act) → List ℕ → List ℕ → List Act
spread P so [] = P so
spread P so (b ∷ bs) = cond (b == 10) (P so ++ (end_line ∷ spread P [] bs)) (spread P (so ++ (b ∷ [])) bs)
