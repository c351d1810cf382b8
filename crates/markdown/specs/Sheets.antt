-- What a sheet holds.
use Rattle.std.specs.Prelude.{ℕ, Bool, false, cond, List, [], length, Ok, Err, Result}
use Rattle.style.specs.declared.Style.{Style}
use Rattle.glyphs.specs.Rulings.{Ruling}
use Rattle.glyphs.specs.declared.Glyph.{Glyph}
use Rattle.events.specs.declared.event.Event.{Event}
use Rattle.events.specs.declared.styles.MarkdownStyles.{MarkdownStyles}
use Rattle.events.specs.declared.refusal.Refusal.{Refusal}
use Rattle.events.specs.Styles.{defaults}
use Rattle.records.specs.declared.kinds.Span.{Span}
use Rattle.records.specs.declared.kinds.Row.{Row}
use Rattle.records.specs.Memory.{Memory, blank}
use Rattle.blocks.specs.Pieces.{Piece}
use Rattle.blocks.specs.Needs.{Needs, needs}
use Rattle.parse.specs.Sketches.{none, needed}
use Rattle.parse.specs.Stands.{filled}

-- The blocks, the style of table borders, and whether the source is still arriving.
pub record Sheet : Type 0 where
  pub blocks : List Piece
  pub border : Style
  pub streaming : Bool

abbrev pub sheet : List Piece → Style → Bool → Sheet
sheet ps s b = record { blocks = ps; border = s; streaming = b }

-- The memory that a sheet is lent.
pub record Lent : Type 0 where
  pub glyphs : List Glyph
  pub lines : List Span
  pub rows : List Row

abbrev pub lent_of : List Glyph → List Span → List Row → Lent
lent_of gs ls rs = record { glyphs = gs; lines = ls; rows = rs }

abbrev pub lent_in : Memory → Lent
lent_in m = lent_of m.glyphs m.lines m.rows

-- The limits of a sheet: for how many glyphs, lines and table rows its memory has places. A load holds itself to no more than 50,000, 4,096 and 4,096 of them.
pub record Limits : Type 0 where
  pub glyphs : ℕ
  pub lines : ℕ
  pub rows : ℕ

abbrev pub limits_by : Lent → Limits
limits_by t = record { glyphs = length t.glyphs; lines = length t.lines; rows = length t.rows }

abbrev pub limits_in : Memory → Limits
limits_in m = limits_by (lent_in m)

-- What is new after an admitted load, and what stays after a refused one.
abbrev pub on_ok : {X : Type 0} → Result (Unit {0}) Refusal → X → X → X
on_ok (Ok u) x y = x
on_ok (Err e) x y = y

-- A sheet as it begins.
abbrev pub empty_sheet : Sheet
empty_sheet = sheet [] defaults.table_border false

-- How many glyphs, lines, rows and tables are in use. What the lent memory holds beyond them is open.
abbrev pub count_of : Memory → Needs
count_of m = needs m.used.glyphs m.used.lines m.used.rows m.used.tables

-- What an admitted load uses: what its events need, and nothing with an empty source.
abbrev pub in_use : Ruling → MarkdownStyles → List ℕ → List ℕ → List Event → Needs
in_use r y text source es = cond (none source) (needs 0 0 0 0) (needed r y text source es)

-- A switch changes nothing but whether the source is still arriving.
abbrev pub switched : Bool → Sheet → Sheet
switched on s = sheet s.blocks s.border on

-- The records after an admitted load: an empty source leaves none in use.
abbrev pub refilled : Ruling → MarkdownStyles → List ℕ → List ℕ → List Event → List Glyph → List Span → List Row → Memory
refilled r y text source es gs ls rs = cond (none source) (blank gs ls rs) (filled r y text source es gs ls rs)
