use Rattle.std.specs.Prelude.{ℕ, ◌+◌, ◌-◌, Bool, true, false, cond, List, take, drop, replicate, fold, nat_lt, slice_set, Option, Some, None}
use Rattle.glyphs.specs.declared.Glyph.{Glyph}
use Rattle.records.specs.declared.kinds.Span.{Span}
use Rattle.records.specs.declared.kinds.Row.{Row}
use Rattle.records.specs.declared.kinds.Info.{Info}
use Rattle.records.specs.declared.kinds.Block.{Block}
use Rattle.records.specs.declared.kinds.Block.TheVariants.{Text, Table}
use Rattle.records.specs.declared.kinds.Used.{Used}
use Rattle.records.specs.declared.kinds.Stretch.{Stretch}
use Rattle.records.specs.declared.kinds.TableAcc.{TableAcc}
use Rattle.records.specs.Acts.{Act, put, end_line, begin_table, end_entry, end_head, end_row, end_table}

-- The records of a sheet as lists.
pub record Memory : Type 0 where
  pub glyphs : List Glyph
  pub lines : List Span
  pub rows : List Row
  pub blocks : List Block
  pub used : Used
  pub text : Stretch
  pub table : TableAcc

-- One more; counts stop at 65535, which is above every limit.
abbrev pub up : ℕ → ℕ
up n = cond (nat_lt n 65535) (n + 1) n

-- The records from a up to b.
abbrev pub span : ℕ → ℕ → Span
span a b = record { start = a; len = b - a }

-- The records that a span marks.
abbrev pub spanned : {X : Type 0} → List X → Span → List X
spanned xs s = take s.len (drop s.start xs)

abbrev pub blank_row : Row
blank_row = record { entries = replicate 32 (record { start = 0; len = 0 }) }

-- The row with one more entry; a row has room for 32.
abbrev pub entered : Row → ℕ → Span → Row
entered r n s = record { entries = slice_set r.entries n s }

abbrev pub used : ℕ → ℕ → ℕ → ℕ → ℕ → Used
used g l r t b = record { glyphs = g; lines = l; rows = r; tables = t; blocks = b }

abbrev pub stretch : ℕ → Bool → ℕ → Bool → ℕ → Stretch
stretch f b s m u = record { from = f; bare = b; first = s; more = m; full = u }

abbrev pub table_acc : Option Info → ℕ → Row → ℕ → TableAcc
table_acc i h r n = record { info = i; head = h; row = r; entries = n }

abbrev pub unused : Used
unused = used 0 0 0 0 0

abbrev pub clean : Stretch
clean = stretch 0 true 0 false 0

abbrev pub no_table : TableAcc
no_table = table_acc None 0 blank_row 0

-- Lent memory of which nothing is in use.
abbrev pub blank : List Glyph → List Span → List Row → Memory
blank gs ls rs = record { glyphs = gs; lines = ls; rows = rs; blocks = replicate 511 (Text (record { start = 0; len = 0 })); used = unused; text = clean; table = no_table }

-- One more block.
abbrev pub added : Memory → Block → Memory
added m b = record {
  glyphs = m.glyphs;
  lines = m.lines;
  rows = m.rows;
  blocks = slice_set m.blocks m.used.blocks b;
  used = used m.used.glyphs m.used.lines m.used.rows m.used.tables (up m.used.blocks);
  text = m.text;
  table = m.table;
}

-- The open line has ended.
abbrev pub lined : Memory → Memory
lined m = record {
  glyphs = m.glyphs;
  lines = slice_set m.lines m.used.lines (span m.text.from m.used.glyphs);
  rows = m.rows;
  blocks = m.blocks;
  used = used m.used.glyphs (up m.used.lines) m.used.rows m.used.tables m.used.blocks;
  text = stretch m.used.glyphs true m.text.first true (cond m.text.bare m.text.full (up m.used.lines));
  table = m.table;
}

-- The lines of the stretch, without the empty ones at its end, are a block; none if none is left.
abbrev pub texted : Memory → Memory
texted m = cond (nat_lt m.text.first m.text.full) (added m (Text (span m.text.first m.text.full))) m

-- A new stretch begins.
abbrev pub fresh : Memory → Memory
fresh m = record {
  glyphs = m.glyphs;
  lines = m.lines;
  rows = m.rows;
  blocks = m.blocks;
  used = m.used;
  text = stretch m.text.from m.text.bare m.used.lines false m.used.lines;
  table = m.table;
}

-- The text so far is a block, and a new stretch begins.
abbrev pub flushed : Memory → Memory
flushed m = fresh (texted (lined m))

-- The memory with a row written at a place, so many rows in use, and what the table is then.
abbrev pub rowed : Memory → ℕ → Row → ℕ → ℕ → TableAcc → Memory
rowed m at r n t acc = record {
  glyphs = m.glyphs;
  lines = m.lines;
  rows = slice_set m.rows at r;
  blocks = m.blocks;
  used = used m.used.glyphs m.used.lines n t m.used.blocks;
  text = m.text;
  table = acc;
}

-- A table has begun: its header row is there, of empty entries.
abbrev pub begun : Memory → Info → Memory
begun m i = rowed m m.used.rows blank_row (up m.used.rows) (up m.used.tables) (table_acc (Some i) m.used.rows blank_row 0)

-- The table is no more under way.
abbrev pub closed : Memory → Memory
closed m = record {
  glyphs = m.glyphs;
  lines = m.lines;
  rows = m.rows;
  blocks = m.blocks;
  used = m.used;
  text = m.text;
  table = table_acc None m.used.rows m.table.row m.table.entries;
}

-- The end of a table that was told this, if one was begun.
abbrev pub ended : Option Info → Memory → Memory
ended None m = m
ended (Some i) m = closed (added m (Table i (span m.table.head m.used.rows)))

-- What an act does to the records. A place past the end of a list is not written.
abbrev pub act : Memory → Act → Memory
act m (put g) = record {
  glyphs = slice_set m.glyphs m.used.glyphs g;
  lines = m.lines;
  rows = m.rows;
  blocks = m.blocks;
  used = used (up m.used.glyphs) m.used.lines m.used.rows m.used.tables m.used.blocks;
  text = stretch m.text.from false m.text.first m.text.more m.text.full;
  table = m.table;
}
act m end_line = lined m
act m (begin_table i) = begun (flushed m) i
act m end_entry = record {
  glyphs = m.glyphs;
  lines = m.lines;
  rows = m.rows;
  blocks = m.blocks;
  used = m.used;
  text = stretch m.used.glyphs true m.text.first m.text.more m.text.full;
  table = table_acc m.table.info m.table.head (entered m.table.row m.table.entries (span m.text.from m.used.glyphs)) (up m.table.entries);
}
act m end_head = rowed m m.table.head m.table.row m.used.rows m.used.tables (table_acc m.table.info m.table.head blank_row 0)
act m end_row = rowed m m.used.rows m.table.row (up m.used.rows) m.used.tables (table_acc m.table.info m.table.head blank_row 0)
act m end_table = ended m.table.info m

abbrev pub acted : Memory → List Act → Memory
acted m xs = fold act m xs
