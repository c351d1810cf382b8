-- What a sheet can be asked.
use Rattle.std.specs.Prelude.{ℕ, Bool, List, Result}
use Rattle.glyphs.specs.Rulings.{Ruling}
use Rattle.wrap_laws.specs.Breaks.{Breaking}
use Rattle.page.specs.Surfaces.{Page}
use Rattle.events.specs.declared.event.Event.{Event}
use Rattle.events.specs.declared.styles.MarkdownStyles.{MarkdownStyles}
use Rattle.events.specs.declared.refusal.Refusal.{Refusal}
use Rattle.blocks.specs.Pieces.{Piece}
use Rattle.blocks.specs.Needs.{Needs}
use Rattle.drawings.specs.declared.Area.{Area}
use Rattle.parse.specs.Sketches.{parsed}
use Rattle.markdown.specs.declared.tables.TableLayout.{TableLayout}
use Rattle.markdown.specs.Answers.{answered}
use Rattle.markdown.specs.Sheets.{Sheet, sheet, Limits, on_ok, in_use}

-- What a load is given: a ruler by its meaning, styles, text, source and events.
pub record Load : Type 0 where
  pub ruling : Ruling
  pub styles : MarkdownStyles
  pub text : List ℕ
  pub source : List ℕ
  pub events : List Event

abbrev pub load_of : Ruling → MarkdownStyles → List ℕ → List ℕ → List Event → Load
load_of r y t o es = record { ruling = r; styles = y; text = t; source = o; events = es }

-- The answer of a load within limits; the blocks that it gives if it is admitted, and how many records stand then: none with an empty source.
abbrev pub load_answer : Limits → Load → Result (Unit {0}) Refusal
load_answer limits l =
    answered l.ruling l.styles l.text l.source l.events limits.glyphs limits.lines limits.rows

abbrev pub blocks_in : Load → List Piece
blocks_in l = parsed l.ruling l.styles l.text l.source l.events

abbrev pub records_of : Load → Needs
records_of l = in_use l.ruling l.styles l.text l.source l.events

-- What a sheet holds after a load: an admitted one replaces the blocks and the border by its own; a refused one changes nothing.
abbrev pub loaded : Result (Unit {0}) Refusal → Load → Sheet → Sheet
loaded q l s = sheet (on_ok q (blocks_in l) s.blocks) (on_ok q l.styles.table_border s.border) s.streaming

-- A call of a sheet; rulers, breaking rules and pages are what they mean.
pub data Call : Type 0 where
  -- a load
  load : Load → Call
  -- streaming is switched on or off
  switch : Bool → Call
  -- how is the table of this number laid out on a page of this width? A place is lent for the layout.
  question : Breaking → ℕ → ℕ → TableLayout → Call
  -- how many rows does the sheet take on a page of this width?
  height : Breaking → ℕ → Call
  -- a paint into an area of a page
  paint : Breaking → Area → Page → Call
