-- Clusters as glyphs.
use Rattle.std.specs.Prelude.{◌≡◌, ℕ, ◌+◌, ◌-◌, ◌<◌, ◌≤◌, Bool, false, cond, ◌&&◌, List, [], ◌∷◌, ◌++◌, length, take, drop, ◌==◌, slice_index}
use Rattle.std.specs.Char.{is_ascii_control}
use Rattle.std.specs.List.{flat_map}
use Rattle.style.specs.declared.Style.{Style}
use Rattle.style.specs.Symbols.{symbol_of, bytes_of}
use Rattle.clusters.specs.Cuts.{Cut, cut}
use Rattle.glyphs.specs.Rulings.{Ruling}
use Rattle.glyphs.specs.declared.Glyph.{Glyph}

-- A glyph of these bytes.
abbrev pub glyph_of : List ℕ → ℕ → Style → Glyph
glyph_of bs w t = record { symbol = symbol_of bs; width = w; style = t }

-- A space is the single byte 32.
abbrev pub is_space : Glyph → Bool
is_space g = g.symbol.len == 1 && g.symbol.bytes == 32

-- TAB alone is the single byte 9.
abbrev pub is_tab : List ℕ → Bool
is_tab bs = length bs == 1 && slice_index bs 0 == 9

-- The space that stands for a part of a TAB.
abbrev pub space : Style → Glyph
space t = glyph_of (32 ∷ []) 1 t

-- U+FFFD, which stands for a cluster of no width.
abbrev pub replacement : Style → Glyph
replacement t = glyph_of (0xEF ∷ 0xBF ∷ 0xBD ∷ []) 1 t

-- The glyphs of a cluster: four spaces for TAB alone, U+FFFD for any other cluster of width 0, else the cluster itself.
abbrev pub shown : Style → Cut → List Glyph
shown t c = cond (is_tab c.bytes) (space t ∷ space t ∷ space t ∷ space t ∷ []) (cond (c.width == 0) (replacement t ∷ []) (glyph_of c.bytes c.width t ∷ []))

-- The glyphs of a string under a ruler, in the style in force.
abbrev pub sanitized : Ruling → Style → List ℕ → List Glyph
sanitized m t s = flat_map (shown t) (cut m.first s)

-- A glyph of 1 to 8 bytes that takes one or two columns.
abbrev pub Sized : Glyph → Type 0
Sized g = (1 ≤ g.symbol.len) × (g.symbol.len ≤ 8) × (1 ≤ g.width) × (g.width ≤ 2)

-- A glyph that holds no byte from 0 to 31 and no 127.
abbrev pub Clean : Glyph → Type 0
Clean g = (i : ℕ) → i < length (bytes_of g.symbol) → is_ascii_control (slice_index (bytes_of g.symbol) i) ≡ false

-- Some glyphs with others written over them from place i on, as many as there are places for.
abbrev pub overwritten : List Glyph → ℕ → List Glyph → List Glyph
overwritten gs i xs = take i gs ++ (take (length gs - i) xs ++ drop (i + length xs) gs)
