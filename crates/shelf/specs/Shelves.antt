use Rattle.std.specs.Prelude.{ℕ, List, [], ◌∷◌, length}
use Rattle.page.specs.declared.cells.Cell.{Cell}
use Rattle.page.specs.Cells.{no_cell}
use Rattle.page.specs.Rows.{rows_page}
use Rattle.page.specs.Surfaces.{Page}
use Rattle.shelf.specs.declared.Shelf.{Shelf}
use Rattle.shelf.specs.Bytes.{cell_in}
use Rattle.shelf.specs.Blocks.{shelf_length, Lawful}

-- the cells in its bytes, row by row
abbrev pub shelf_shows : Shelf → Page
shelf_shows g = rows_page g.width g.height (shelf_length g.width g.height) (length g.bytes.now) (cell_in g.bytes.now)

-- which memory it is, and its sides
abbrev pub shelf_held : Shelf → List ℕ
shelf_held g = g.bytes.ghost_name ∷ length g.bytes.now ∷ g.width ∷ g.height ∷ []

-- a shelf hides no cell
abbrev pub shelf_rest : Shelf → List ℕ → ℕ → ℕ → Cell
shelf_rest g p i j = no_cell

-- all its blocks are lawful
abbrev pub ShelfLawful : Shelf → Type 0
ShelfLawful g = Lawful g.bytes.now g.width g.height
