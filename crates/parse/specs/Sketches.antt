-- The blocks of an event list, as lists.
use Rattle.std.specs.Prelude.{ℕ, Bool, true, false, cond, not, List, [], ◌∷◌, ◌++◌, fold}
use Rattle.style.specs.declared.Style.{Style}
use Rattle.glyphs.specs.Rulings.{Ruling}
use Rattle.events.specs.declared.event.Event.{Event}
use Rattle.events.specs.declared.styles.MarkdownStyles.{MarkdownStyles}
use Rattle.events.specs.Cursors.{bytes_of}
use Rattle.records.specs.Acts.{Act}
use Rattle.blocks.specs.Pieces.{Piece}
use Rattle.blocks.specs.Drafts.{Draft, drawn, clean, finished}
use Rattle.blocks.specs.Needs.{Needs, tallied}
use Rattle.fold.specs.declared.mode.Mode.{Mode}
use Rattle.fold.specs.declared.mode.Spot.{Spot}
use Rattle.fold.specs.Tables.{info_of}
use Rattle.fold.specs.Branches.{acts}
use Rattle.fold.specs.Modes.{outside, moved}
use Rattle.fold.specs.Inks.{in_force, restyled}
use Rattle.fold.specs.Steps.{kind_in, spot}

-- A load under way: what is written, where in the tags it is, and the styles in force.
pub record Sketch : Type 0 where
  pub draft : Draft
  pub mode : Mode
  pub styles : List Style

abbrev pub none : {X : Type 0} → List X → Bool
none [] = true
none (x ∷ xs) = false

-- What stands where the next event acts.
abbrev pub spot_in : Draft → Spot
spot_in d = spot (none d.here) (not (none d.lines)) d.begun

-- What an event does.
abbrev pub doings : Ruling → MarkdownStyles → List ℕ → List ℕ → Sketch → Event → List Act
doings r y text source s e = acts r y s.mode (in_force y s.styles) (spot_in s.draft) (info_of e source) (kind_in e) (bytes_of text e)

abbrev pub sketched : Ruling → MarkdownStyles → List ℕ → List ℕ → Sketch → Event → Sketch
sketched r y text source s e = record {
  draft = drawn s.draft (doings r y text source s e);
  mode = moved s.mode (kind_in e);
  styles = restyled y 65 s.styles (kind_in e);
}

-- Before the first event.
abbrev pub unwritten : MarkdownStyles → Sketch
unwritten y = record { draft = clean; mode = outside; styles = y.base ∷ [] }

-- After all events.
abbrev pub written : Ruling → MarkdownStyles → List ℕ → List ℕ → List Event → Sketch
written r y text source es = fold (sketched r y text source) (unwritten y) es

-- The blocks of the events; an empty source gives none.
abbrev pub parsed : Ruling → MarkdownStyles → List ℕ → List ℕ → List Event → List Piece
parsed r y text source es = cond (none source) [] (finished (written r y text source es).draft)

-- All that the events do, one after the other.
abbrev pub programmed : Ruling → MarkdownStyles → List ℕ → List ℕ → Sketch → List Event → List Act
programmed r y text source s [] = []
programmed r y text source s (e ∷ es) = doings r y text source s e ++ programmed r y text source (sketched r y text source s e) es

-- The records that the events need, whatever the source.
abbrev pub needed : Ruling → MarkdownStyles → List ℕ → List ℕ → List Event → Needs
needed r y text source es = tallied (programmed r y text source (unwritten y) es)
