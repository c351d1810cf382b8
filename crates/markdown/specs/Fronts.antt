-- What stands in the memory that a sheet is lent.
use Rattle.std.specs.Prelude.{◌≡◌, if◌then◌else◌, List, []}
use Rattle.glyphs.specs.declared.Glyph.{Glyph}
use Rattle.records.specs.Memory.{Memory}
use Rattle.blocks.specs.Pieces.{Piece}
use Rattle.blocks.specs.Drafts.{flush}
use Rattle.blocks.specs.Needs.{needs}
use Rattle.blocks.specs.Fronts.{glyphs_put, Front}
use Rattle.parse.specs.Sketches.{none, programmed, unwritten, written}
use Rattle.markdown.specs.Sheets.{Lent, lent_in, count_of}
use Rattle.markdown.specs.Calls.{Load, records_of}

-- The glyphs of a load, in the order of its events; an empty source gives none.
abbrev pub glyphs_in : Load → List Glyph
glyphs_in l =
    if none l.source then []
    else glyphs_put (programmed l.ruling l.styles l.text l.source (unwritten l.styles) l.events)

-- The stretches of text of a load, untrimmed, and its tables, in their order; an empty source gives none.
abbrev pub stretches_in : Load → List Piece
stretches_in l =
    if none l.source then []
    else (flush (written l.ruling l.styles l.text l.source l.events).draft).pieces

-- The records of a load stand at the front of the memory.
pub record StandsInFront (l : Load) (m : Memory) : Type 0 where
  -- as many as it needs, and with an empty source none
  pub counts : count_of m ≡ records_of l
  -- its glyphs, its lines and the rows of its tables, each in their order; and the counted records alone say what
  -- its blocks are, so that what lies beyond them is free
  pub front : Front m (glyphs_in l) (stretches_in l)

-- No record is in use, and the memory is as it was lent.
pub record IsUntouched (t : Lent) (m : Memory) : Type 0 where
  pub lent : lent_in m ≡ t
  pub counts : count_of m ≡ needs 0 0 0 0
