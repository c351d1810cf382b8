-- What stands at the front of the lent memory.
use Rattle.std.specs.Prelude.{◌≡◌, List, [], ◌∷◌, ◌++◌, map, length, take}
use Rattle.std.specs.List.{AllZip}
use Rattle.glyphs.specs.declared.Glyph.{Glyph}
use Rattle.records.specs.declared.kinds.Span.{Span}
use Rattle.records.specs.declared.kinds.Row.{Row}
use Rattle.records.specs.Acts.{Act, put, end_line, begin_table, end_entry, end_head, end_row, end_table}
use Rattle.records.specs.Memory.{Memory, spanned}
use Rattle.blocks.specs.Pieces.{Line, Piece, text, table, settled}
use Rattle.blocks.specs.Reads.{blocks_of}

-- The glyphs that acts put, in their order.
abbrev pub glyphs_put : List Act → List Glyph
glyphs_put [] = []
glyphs_put (put g ∷ acts) = g ∷ glyphs_put acts
glyphs_put (end_line ∷ acts) = glyphs_put acts
glyphs_put (begin_table i ∷ acts) = glyphs_put acts
glyphs_put (end_entry ∷ acts) = glyphs_put acts
glyphs_put (end_head ∷ acts) = glyphs_put acts
glyphs_put (end_row ∷ acts) = glyphs_put acts
glyphs_put (end_table ∷ acts) = glyphs_put acts

-- The lines of the stretches of text among these, one stretch behind the other.
abbrev pub lines_over : List Piece → List Line
lines_over [] = []
lines_over (text ls ∷ ps) = ls ++ lines_over ps
lines_over (table i rs ∷ ps) = lines_over ps

-- The rows of the tables among these, one table behind the other, each row a list of entries.
abbrev pub rows_over : List Piece → List (List Line)
rows_over [] = []
rows_over (text ls ∷ ps) = rows_over ps
rows_over (table i rs ∷ ps) = rs ++ rows_over ps

-- A row record says this row: its first entries are those of the row; behind them it has room for more.
abbrev pub SaysRow : List Glyph → Row → List Line → Type 0
SaysRow gs r row = take (length row) (map (spanned gs) r.entries) ≡ row

-- The memory with other records beyond those that are in use.
abbrev pub beyond : Memory → List Glyph → List Span → List Row → Memory
beyond m gs ls rs =
    record m {
      glyphs = take m.used.glyphs m.glyphs ++ gs;
      lines = take m.used.lines m.lines ++ ls;
      rows = take m.used.rows m.rows ++ rs;
    }

-- The records in use are the front of the memory: these glyphs, the lines of these untrimmed stretches of text
-- and the rows of these tables, each in their order.
pub record Front (m : Memory) (gs : List Glyph) (ps : List Piece) : Type 0 where
  pub glyphs : take m.used.glyphs m.glyphs ≡ gs
  pub lines : map (spanned m.glyphs) (take m.used.lines m.lines) ≡ lines_over ps
  pub rows : AllZip (SaysRow m.glyphs) (take m.used.rows m.rows) (rows_over ps)
  -- and they alone say what the blocks are, whatever lies beyond them
  pub alone : (xs : List Glyph) (ls : List Span) (rs : List Row) → blocks_of (beyond m xs ls rs) ≡ settled ps
