use Rattle.glyphs.specs.declared.Glyph.{Glyph}
use Rattle.records.specs.declared.kinds.Info.{Info}

-- What an event can do to a sheet that is being written.
pub data Act : Type 0 where
  -- a glyph at the end of the open line, or of the open entry
  put : Glyph → Act
  -- the open line ends, and the next one is open
  end_line : Act
  -- the text so far becomes a block, and a table begins
  begin_table : Info → Act
  -- what stands in the open entry is the next entry of the row
  end_entry : Act
  -- the row is the table's header
  end_head : Act
  -- the row is the table's next row
  end_row : Act
  -- the table becomes a block
  end_table : Act
