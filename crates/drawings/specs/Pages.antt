-- The page after a paint.
use Rattle.std.specs.Prelude.{◌≡◌, ℕ, ◌+◌, ◌-◌, ◌≤◌, Bool, true, cond, ◌&&◌, List, [], ◌∷◌, length, Option, Some, None, ◌==◌, nat_le, nat_lt}
use Rattle.std.specs.List.{find, AllByRecursion}
use Rattle.style.specs.declared.Style.{Style}
use Rattle.style.specs.Styles.{known_colours}
use Rattle.style.specs.Symbols.{symbol_of}
use Rattle.page.specs.declared.cells.Cell.{Cell}
use Rattle.page.specs.Cells.{inked}
use Rattle.page.specs.Surfaces.{Page}
use Rattle.glyphs.specs.declared.Glyph.{Glyph}
use Rattle.blocks.specs.Pieces.{Piece, text, table}
use Rattle.drawings.specs.declared.Area.{Area}
use Rattle.drawings.specs.Strokes.{Stroke}

-- Whether an area lies on a page of w by h.
abbrev pub on_page : Area → ℕ → ℕ → Bool
on_page a w h = nat_le (a.x + a.width) w && nat_le (a.y + a.height) h

-- Whether a place of the page lies in an area.
abbrev pub in_area : Area → ℕ → ℕ → Bool
in_area a i j = (nat_le a.x i && nat_lt i (a.x + a.width)) && (nat_le a.y j && nat_lt j (a.y + a.height))

-- The stroke that a drawing has at a place.
abbrev pub stroke_at : List Stroke → ℕ → ℕ → Option Stroke
stroke_at ps x y = find (λ p. p.x == x && p.y == y) ps

-- Two strokes stand at different places.
abbrev pub Elsewhere : Stroke → Stroke → Type 0
Elsewhere p q = p.x ≡ q.x → p.y ≡ q.y → ⊥

-- No two strokes of a list share a place, so that it does not matter in which order they are drawn.
abbrev pub Apart : List Stroke → Type 0
Apart [] = Unit {0}
Apart (p ∷ ps) = AllByRecursion (Elsewhere p) ps × Apart ps

-- Whether a page takes a stroke: a symbol of at most 8 bytes, in colours that exist.
abbrev pub taken : Stroke → Bool
taken p = nat_le (length p.symbol) 8 && known_colours p.style

-- Whether a glyph can be put: a symbol of at most 8 bytes, in colours that exist.
abbrev pub GlyphTaken : Glyph → Type 0
GlyphTaken g = (g.symbol.len ≤ 8) × (known_colours g.style ≡ true)

-- Whether every glyph of a block can be put.
abbrev pub PieceTaken : Piece → Type 0
PieceTaken (text ls) = AllByRecursion (λ l. AllByRecursion GlyphTaken l) ls
PieceTaken (table i rs) = AllByRecursion (λ r. AllByRecursion (λ l. AllByRecursion GlyphTaken l) r) rs

-- Where the glyphs of all blocks can be put, and so can the border's style, a page takes every stroke.
abbrev pub EachTaken : Style → List Piece → List Stroke → Type 0
EachTaken t ks ps = known_colours t ≡ true → AllByRecursion PieceTaken ks → AllByRecursion (λ p. taken p ≡ true) ps

-- A cell with a stroke on it; one that no page takes leaves the cell as it is.
abbrev pub stroked : Stroke → Cell → Cell
stroked p c = cond (taken p) (inked (symbol_of p.symbol) p.style c) c

-- A cell with the stroke on it that a drawing has there, if it has one.
abbrev pub drawn_on : Option Stroke → Cell → Cell
drawn_on None c = c
drawn_on (Some p) c = stroked p c

-- The cells of a page after a drawing was painted into an area: what lies outside the area stays as it is.
abbrev pub painted : Area → List Stroke → (ℕ → ℕ → Cell) → ℕ → ℕ → Cell
painted a ps f i j = cond (in_area a i j) (drawn_on (stroke_at ps (i - a.x) (j - a.y)) (f i j)) (f i j)

-- What a paint of a drawing into an area makes of a surface s: it leaves t.
pub record Paint {A : Type 0} (shows : A → Page) (held : A → List ℕ) (rest : A → List ℕ → ℕ → ℕ → Cell) (lawful : A → Type 0) (a : Area) (ps : List Stroke) (s t : A) : Type 0 where
  pub cells : (i j : ℕ) → (shows t).cell i j ≡ painted a ps (shows s).cell i j
  pub as_wide : (shows t).wide ≡ (shows s).wide
  pub as_high : (shows t).high ≡ (shows s).high
  pub kept : held t ≡ held s
  pub hidden : (p : List ℕ) (i j : ℕ) → rest t p i j ≡ rest s p i j
  pub still : lawful s → lawful t
