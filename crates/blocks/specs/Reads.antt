-- What the records of a sheet say.
use Rattle.std.specs.Prelude.{ℕ, ◌<◌, ◌≤◌, List, map, length, take}
use Rattle.glyphs.specs.declared.Glyph.{Glyph}
use Rattle.records.specs.declared.kinds.Span.{Span}
use Rattle.records.specs.declared.kinds.Row.{Row}
use Rattle.records.specs.declared.kinds.Block.{Block}
use Rattle.records.specs.declared.kinds.Block.TheVariants.{Text, Table}
use Rattle.records.specs.Memory.{Memory, spanned}
use Rattle.blocks.specs.Pieces.{Line, Piece, text, table}

-- The entries of a row of n columns.
abbrev pub entries_of : List Glyph → ℕ → Row → List Line
entries_of gs n r = take n (map (spanned gs) r.entries)

-- The block that a tag stands for.
abbrev pub piece_of : List Glyph → List Span → List Row → Block → Piece
piece_of gs ls rs (Text s) = text (map (spanned gs) (spanned ls s))
piece_of gs ls rs (Table i s) = table i (map (entries_of gs i.columns) (spanned rs s))

-- The blocks that the records hold.
abbrev pub blocks_of : Memory → List Piece
blocks_of m = map (piece_of m.glyphs m.lines m.rows) (take m.used.blocks m.blocks)

-- What is in use is inside the memory, and below the number at which counts stop.
pub record Fits (m : Memory) : Type 0 where
  pub glyphs : (m.used.glyphs ≤ length m.glyphs) × (m.used.glyphs < 65535)
  pub lines : (m.used.lines ≤ length m.lines) × (m.used.lines < 65535)
  pub rows : (m.used.rows ≤ length m.rows) × (m.used.rows < 65535)
  pub blocks : (m.used.blocks ≤ length m.blocks) × (m.used.blocks < 65535)
