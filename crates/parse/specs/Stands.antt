use Rattle.std.specs.Prelude.{◌≡◌, ℕ, min, List, length}
use Rattle.glyphs.specs.declared.Glyph.{Glyph}
use Rattle.glyphs.specs.Rulings.{Ruling}
use Rattle.events.specs.declared.event.Event.{Event}
use Rattle.events.specs.declared.styles.MarkdownStyles.{MarkdownStyles}
use Rattle.records.specs.declared.kinds.Span.{Span}
use Rattle.records.specs.declared.kinds.Row.{Row}
use Rattle.records.specs.Memory.{Memory, blank, flushed}
use Rattle.blocks.specs.Drafts.{flush, finished}
use Rattle.blocks.specs.Reads.{blocks_of}
use Rattle.blocks.specs.Fronts.{glyphs_put, rows_over, Front}
use Rattle.blocks.specs.Needs.{Needs}
use Rattle.blocks.specs.Stands.{Within}
use Rattle.fold.specs.Steps.{ran}
use Rattle.parse.specs.Sketches.{written, needed, unwritten, programmed}

-- The records after all events and the last flush.
abbrev pub filled : Ruling → MarkdownStyles → List ℕ → List ℕ → List Event → List Glyph → List Span → List Row → Memory
filled r y text source es gs ls rs = flushed (ran r y text source es (blank gs ls rs))

-- Where the records suffice, the fold leaves the blocks of the lists in memory.
abbrev pub FoldShows : Type 0
FoldShows = (r : Ruling) (y : MarkdownStyles) (text source : List ℕ) (es : List Event) (gs : List Glyph) (ls : List Span) (rs : List Row) →
    Within (needed r y text source es) (length gs) (length ls) (length rs) → blocks_of (filled r y text source es gs ls rs) ≡ finished (written r y text source es).draft

-- And the records in use are the front of the memory, the glyphs in the order of the events, where every row that
-- is counted is in a table that ended.
abbrev pub FoldShowsFront : Type 0
FoldShowsFront = (r : Ruling) (y : MarkdownStyles) (text source : List ℕ) (es : List Event) (gs : List Glyph) (ls : List Span) (rs : List Row) →
    Within (needed r y text source es) (length gs) (length ls) (length rs) →
    (needed r y text source es).rows ≡ length (rows_over (flush (written r y text source es).draft).pieces) →
    Front (filled r y text source es gs ls rs) (glyphs_put (programmed r y text source (unwritten y) es)) (flush (written r y text source es).draft).pieces

-- The counts after a fold, up to where they stop.
pub record Counted (m : Memory) (n : Needs) (g l r : ℕ) : Type 0 where
  pub glyphs : m.used.glyphs ≡ min 65535 n.glyphs
  pub lines : m.used.lines ≡ min 65535 n.lines
  pub rows : m.used.rows ≡ min 65535 n.rows
  pub tables : m.used.tables ≡ min 65535 n.tables
  pub glyphs_room : length m.glyphs ≡ g
  pub lines_room : length m.lines ≡ l
  pub rows_room : length m.rows ≡ r

-- A fold counts what its events need, in whatever memory, and lent memory keeps its length.
abbrev pub FoldCounts : Type 0
FoldCounts = (r : Ruling) (y : MarkdownStyles) (text source : List ℕ) (es : List Event) (gs : List Glyph) (ls : List Span) (rs : List Row) →
    Counted (filled r y text source es gs ls rs) (needed r y text source es) (length gs) (length ls) (length rs)
