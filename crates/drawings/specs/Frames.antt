-- What strokes make of a page through a frame: those within the frame's bounds are drawn, one after another.
use Rattle.std.specs.Prelude.{◌≡◌, ℕ, ◌+◌, min, Bool, cond, ◌&&◌, List, fold, Option, Some, None, ◌==◌, nat_le, nat_lt}
use Rattle.page.specs.declared.cells.Cell.{Cell}
use Rattle.page.specs.Surfaces.{Page, inside}
use Rattle.drawings.specs.declared.Area.{Area}
use Rattle.drawings.specs.Strokes.{Stroke}
use Rattle.drawings.specs.Pages.{stroked}

-- Where on the page a sheet's corner lies, and the bounds in which strokes are drawn, counted from that corner.
pub record Frame : Type 0 where
  pub x : ℕ
  pub y : ℕ
  pub left : ℕ
  pub top : ℕ
  pub right : ℕ
  pub bottom : ℕ

-- The frame that an area is: the sheet's corner is the area's, and the bounds are its sides.
abbrev pub frame_in : Area → Frame
frame_in a = record { x = a.x; y = a.y; left = 0; top = 0; right = a.width; bottom = a.height }

-- Whether a place lies within the bounds.
abbrev pub bounded : Frame → ℕ → ℕ → Bool
bounded f x y = (nat_le f.left x && nat_lt x f.right) && (nat_le f.top y && nat_lt y f.bottom)

-- Where on the page a place lies, if it lies within the bounds; no page has a place past 65,534.
abbrev pub placed : Frame → ℕ → ℕ → Option (ℕ × ℕ)
placed f x y = cond (bounded f x y) (Some (min 65535 (f.x + x), min 65535 (f.y + y))) None

-- Whether a stroke is drawn at a place of a page of w by h.
abbrev pub lands : Frame → ℕ → ℕ → ℕ → ℕ → Stroke → Bool
lands f w h i j p = inside w h i j && (bounded f p.x p.y && (f.x + p.x == i && f.y + p.y == j))

-- What strokes make of the cell at a place.
abbrev pub trail : Frame → ℕ → ℕ → ℕ → ℕ → Cell → List Stroke → Cell
trail f w h i j c ps = fold (λ d p. cond (lands f w h i j p) (stroked p d) d) c ps

-- What strokes through a frame make of a surface s: they leave t.
pub record Drawn {A : Type 0} (shows : A → Page) (held : A → List ℕ) (rest : A → List ℕ → ℕ → ℕ → Cell) (lawful : A → Type 0) (f : Frame) (ps : List Stroke) (s t : A) : Type 0 where
  pub cells : (i j : ℕ) → (shows t).cell i j ≡ trail f (shows s).wide (shows s).high i j ((shows s).cell i j) ps
  pub as_wide : (shows t).wide ≡ (shows s).wide
  pub as_high : (shows t).high ≡ (shows s).high
  pub kept : held t ≡ held s
  pub hidden : (p : List ℕ) (i j : ℕ) → rest t p i j ≡ rest s p i j
  pub still : lawful s → lawful t
