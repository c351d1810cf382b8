use Rattle.std.specs.Prelude.{◌≡◌, ℕ, ◌+◌, ◌*◌, ◌<◌, Bool, true, cond, ◌&&◌, List, length, is_ok, Some, None, Option, Result, ◌==◌, nat_lt}
use Rattle.style.specs.declared.Style.{Style}
use Rattle.style.specs.Symbols.{symbol_of}
use Rattle.page.specs.declared.cells.Cell.{Cell}
use Rattle.page.specs.declared.refusals.Refusal.{Refusal}
use Rattle.page.specs.Cells.{fresh, sound, inked}
use Rattle.page.specs.Refusals.{told, put_answer, put_told}

-- the whole meaning of a surface: a width and a height that fit 16 bits, and sound cells
pub record Page : Type 0 where
  pub wide : ℕ
  pub high : ℕ
  pub cell : ℕ → ℕ → Cell
  pub narrow : wide < 65536
  pub short : high < 65536
  pub tidy : (i j : ℕ) → sound (cell i j) ≡ true

-- whether the place x, y lies on a page of w by h
abbrev pub inside : ℕ → ℕ → ℕ → ℕ → Bool
inside w h x y = nat_lt x w && nat_lt y h

-- the answer of a read: the cell, or none outside
abbrev pub read_at : Page → ℕ → ℕ → Option Cell
read_at p x y = cond (inside p.wide p.high x y) (Some (p.cell x y)) None

-- the cells of a page with the one at x, y replaced
abbrev pub patch : (ℕ → ℕ → Cell) → ℕ → ℕ → Cell → ℕ → ℕ → Cell
patch f x y c i j = cond (i == x && j == y) c (f i j)

-- the cells of a page of w by h that lie row by row: fresh outside
abbrev pub shown : ℕ → ℕ → (ℕ → Cell) → ℕ → ℕ → Cell
shown w h f i j = cond (inside w h i j) (f (j * w + i)) fresh

-- what a put at x, y makes of a surface s: it leaves t and answers r
pub record Put {A : Type 0} (shows : A → Page) (held : A → List ℕ) (rest : A → List ℕ → ℕ → ℕ → Cell) (lawful : A → Type 0) (x y : ℕ) (symbol : List ℕ) (style : Style) (s t : A) (r : Result (Unit {0}) Refusal) : Type 0 where
  pub value : r ≡ put_answer (inside (shows s).wide (shows s).high x y) (length symbol) style tt
  pub numbers : told r ≡ put_told (inside (shows s).wide (shows s).high x y) (length symbol) style
  pub cells : (i j : ℕ) → (shows t).cell i j ≡ cond (is_ok r) (patch (shows s).cell x y (inked (symbol_of symbol) style ((shows s).cell x y)) i j) ((shows s).cell i j)
  pub as_wide : (shows t).wide ≡ (shows s).wide
  pub as_high : (shows t).high ≡ (shows s).high
  pub kept : held t ≡ held s
  pub hidden : (p : List ℕ) (i j : ℕ) → rest t p i j ≡ rest s p i j
  pub still : lawful s → lawful t
