use Rattle.std.specs.Prelude.{◌≡◌, ℕ, ◌≤◌, min, List, length}
use Rattle.glyphs.specs.declared.Glyph.{Glyph}
use Rattle.records.specs.declared.kinds.Span.{Span}
use Rattle.records.specs.declared.kinds.Row.{Row}
use Rattle.records.specs.Acts.{Act}
use Rattle.records.specs.Memory.{acted, blank, flushed}
use Rattle.blocks.specs.Drafts.{drawn, clean, flush, finished}
use Rattle.blocks.specs.Reads.{blocks_of}
use Rattle.blocks.specs.Fronts.{glyphs_put, rows_over, Front}
use Rattle.blocks.specs.Needs.{Needs, tallied}

-- The records needed are no more than the memory has, and within the limits.
pub record Within (n : Needs) (g l r : ℕ) : Type 0 where
  pub glyphs : n.glyphs ≤ min g 50000
  pub lines : n.lines ≤ min l 4096
  pub rows : n.rows ≤ min r 4096
  pub tables : n.tables ≤ 255

-- Where the records suffice, the blocks read from memory after any acts are those of the lists.
abbrev pub MemoryShowsDraft : Type 0
MemoryShowsDraft = (gs : List Glyph) (ls : List Span) (rs : List Row) (xs : List Act) → Within (tallied xs) (length gs) (length ls) (length rs) → blocks_of (flushed (acted (blank gs ls rs) xs)) ≡ finished (drawn clean xs)

-- And the records in use are the front of the memory, where every row that the acts count is in a table that ended.
abbrev pub FrontShowsDraft : Type 0
FrontShowsDraft = (gs : List Glyph) (ls : List Span) (rs : List Row) (xs : List Act) → Within (tallied xs) (length gs) (length ls) (length rs) →
    (tallied xs).rows ≡ length (rows_over (flush (drawn clean xs)).pieces) →
    Front (flushed (acted (blank gs ls rs) xs)) (glyphs_put xs) (flush (drawn clean xs)).pieces
