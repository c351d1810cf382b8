use Rattle.std.specs.Prelude.{◌≡◌, ℕ, ◌+◌, ◌*◌, ◌<◌, true, List, [], ◌∷◌, length}
use Rattle.page.specs.declared.cells.Cell.{Cell}
use Rattle.page.specs.Cells.{sound}
use Rattle.page.specs.Rows.{rows_page}
use Rattle.page.specs.Surfaces.{Page}
use Rattle.grid.specs.declared.Grid.{Grid}
use Rattle.grid.specs.Memory.{cell_at}

-- its lent cells, row by row
abbrev pub grid_shows : Grid → Page
grid_shows g = rows_page g.width g.height (g.width * g.height) (length g.cells.now) (cell_at g.cells.now)

-- which memory it is, and its sides
abbrev pub grid_held : Grid → List ℕ
grid_held g = g.cells.ghost_name ∷ length g.cells.now ∷ g.width ∷ g.height ∷ []

-- the lent cells past those of the page
abbrev pub grid_rest : Grid → List ℕ → ℕ → ℕ → Cell
grid_rest g p i j = cell_at g.cells.now (g.width * g.height + i)

-- each of its records is a cell
abbrev pub GridLawful : Grid → Type 0
GridLawful g = (k : ℕ) → k < g.width * g.height → sound (cell_at g.cells.now k) ≡ true
