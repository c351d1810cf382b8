-- The fold, event by event.
use Rattle.std.specs.Prelude.{ℕ, Bool, List, [], ◌∷◌, Some, None, fold, Option}
use Rattle.std.specs.Option.{is_some}
use Rattle.style.specs.declared.Style.{Style}
use Rattle.glyphs.specs.Rulings.{Ruling}
use Rattle.events.specs.declared.event.Event.{Event}
use Rattle.events.specs.declared.event.Kind.{Kind}
use Rattle.events.specs.declared.event.Kind.TheVariants.{Other}
use Rattle.events.specs.declared.styles.MarkdownStyles.{MarkdownStyles}
use Rattle.events.specs.Kinds.{kind_of}
use Rattle.events.specs.Cursors.{bytes_of}
use Rattle.records.specs.Memory.{Memory, acted}
use Rattle.fold.specs.declared.mode.Mode.{Mode}
use Rattle.fold.specs.declared.mode.Spot.{Spot}
use Rattle.fold.specs.Tables.{info_of}
use Rattle.fold.specs.Branches.{acts}
use Rattle.fold.specs.Modes.{outside, moved}
use Rattle.fold.specs.Inks.{in_force, restyled}

abbrev pub or_other : Option Kind → Kind
or_other None = Other
or_other (Some k) = k

-- The kind of an event; a number that means none counts as an event that is ignored.
abbrev pub kind_in : Event → Kind
kind_in e = or_other (kind_of e.kind)

abbrev pub spot : Bool → Bool → Bool → Spot
spot b m t = record { bare = b; more = m; table = t }

-- The records, where in the tags the fold is, and the styles in force.
pub record State : Type 0 where
  pub memory : Memory
  pub mode : Mode
  pub styles : List Style

abbrev pub state_of : Memory → Mode → List Style → State
state_of m o ss = record { memory = m; mode = o; styles = ss }

abbrev pub spot_of : Memory → Spot
spot_of m = spot m.text.bare m.text.more (is_some m.table.info)

-- One event, which names the bytes b in the text.
abbrev pub stepped_by : Ruling → MarkdownStyles → List ℕ → ℕ → State → Event → List ℕ → State
stepped_by r y source room s e b = state_of
    (acted s.memory (acts r y s.mode (in_force y s.styles) (spot_of s.memory) (info_of e source) (kind_in e) b))
    (moved s.mode (kind_in e))
    (restyled y room s.styles (kind_in e))

abbrev pub stepped : Ruling → MarkdownStyles → List ℕ → List ℕ → ℕ → State → Event → State
stepped r y text source room s e = stepped_by r y source room s e (bytes_of text e)

abbrev pub begun : MarkdownStyles → Memory → State
begun y m = state_of m outside (y.base ∷ [])

-- The records after all events.
abbrev pub ran : Ruling → MarkdownStyles → List ℕ → List ℕ → List Event → Memory → Memory
ran r y text source es m = (fold (stepped r y text source 65) (begun y m) es).memory
