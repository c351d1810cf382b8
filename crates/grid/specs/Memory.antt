use Rattle.std.specs.Prelude.{ℕ, List, slice_index_or, slice_set}
use Rattle.style.specs.declared.Style.{Style}
use Rattle.style.specs.declared.Symbol.{Symbol}
use Rattle.page.specs.declared.cells.Cell.{Cell}
use Rattle.page.specs.Cells.{no_cell, inked, tidy}

-- the record at k of lent cells
abbrev pub cell_at : List Cell → ℕ → Cell
cell_at cells k = slice_index_or cells k no_cell

-- lent cells after a put on the cell at k
abbrev pub cell_put : List Cell → ℕ → Symbol → Style → List Cell
cell_put cells k s t = slice_set cells k (inked s t (tidy (cell_at cells k)))
