-- What a sheet holds by its past.
use Rattle.std.specs.Prelude.{◌≡◌, Bool, if◌then◌else◌, List, ◌∷◌, ◌++◌, Some, None, Option, Ok, is_ok}
use Rattle.std.specs.List.{AllByRecursion}
use Rattle.glyphs.specs.declared.Glyph.{Glyph}
use Rattle.records.specs.declared.kinds.Span.{Span}
use Rattle.records.specs.declared.kinds.Row.{Row}
use Rattle.records.specs.Memory.{Memory}
use Rattle.markdown.specs.Sheets.{Sheet, empty_sheet, Lent, lent_of, Limits, limits_by}
use Rattle.markdown.specs.Calls.{Load, Call, load, switch, question, height, paint, load_answer, blocks_in}
use Rattle.markdown.specs.Fronts.{StandsInFront, IsUntouched}

-- How a sheet began.
pub data Beginning : Type 0 where
  -- new, over memory that was lent
  made_over : Lent → Beginning

abbrev pub over : List Glyph → List Span → List Row → Beginning
over gs ls rs = made_over (lent_of gs ls rs)

-- What a sheet held as it began, and its limits: new, it held nothing, and the memory that it was lent sets them.
abbrev pub first_sheet : Beginning → Sheet
first_sheet (made_over t) = empty_sheet

abbrev pub limits_at : Beginning → Limits
limits_at (made_over t) = limits_by t

-- Memory is as a sheet found it at its beginning.
abbrev pub IsFirstMemory : Beginning → Memory → Type 0
IsFirstMemory (made_over t) m = IsUntouched t m

-- The load that a call is, if it is one and is admitted.
abbrev pub admitted_load : Limits → Call → Option Load
admitted_load limits (load l) = if is_ok (load_answer limits l) then Some l else None
admitted_load limits (switch on) = None
admitted_load limits (question b n w old) = None
admitted_load limits (height b w) = None
admitted_load limits (paint b a p) = None

-- What a call switches streaming to, if it is a switch.
abbrev pub switched_to : Call → Option Bool
switched_to (load l) = None
switched_to (switch on) = Some on
switched_to (question b n w old) = None
switched_to (height b w) = None
switched_to (paint b a p) = None

-- No load among these calls is admitted; none of these calls is a switch.
abbrev pub NoLoad : Limits → List Call → Type 0
NoLoad limits calls = AllByRecursion (λ c. admitted_load limits c ≡ None) calls

abbrev pub NoSwitch : List Call → Type 0
NoSwitch calls = AllByRecursion (λ c. switched_to c ≡ None) calls

-- The calls are earlier ones, this admitted load, and later ones among which no load is admitted.
pub record IsLastLoad (limits : Limits) (calls : List Call) (l : Load) : Type 0 where
  pub before : List Call
  pub after : List Call
  pub parts : calls ≡ before ++ load l ∷ after
  pub admitted : load_answer limits l ≡ Ok tt
  pub last : NoLoad limits after

-- The calls are earlier ones, this switch, and later ones among which there is no switch.
pub record IsLastSwitch (calls : List Call) (on : Bool) : Type 0 where
  pub before : List Call
  pub after : List Call
  pub parts : calls ≡ before ++ switch on ∷ after
  pub last : NoSwitch after

-- What a sheet holds that began so, after these calls: the blocks and the border of its last admitted load, and streaming as last switched.
pub record Holds (b : Beginning) (calls : List Call) (s : Sheet) : Type 0 where
  pub loaded : (l : Load) → IsLastLoad (limits_at b) calls l →
      (s.blocks ≡ blocks_in l) × (s.border ≡ l.styles.table_border)
  pub unloaded : NoLoad (limits_at b) calls →
      (s.blocks ≡ (first_sheet b).blocks) × (s.border ≡ (first_sheet b).border)
  pub switched : (on : Bool) → IsLastSwitch calls on → s.streaming ≡ on
  pub unswitched : NoSwitch calls → s.streaming ≡ (first_sheet b).streaming

-- What its memory is then: the records of its last admitted load stand at the front; before the first one it is as at the beginning.
pub record Keeps (b : Beginning) (calls : List Call) (m : Memory) : Type 0 where
  pub loaded : (l : Load) → IsLastLoad (limits_at b) calls l → StandsInFront l m
  pub unloaded : NoLoad (limits_at b) calls → IsFirstMemory b m

-- A refused load, a table question, a height or a paint.
abbrev pub ChangesNothing : Limits → Call → Type 0
ChangesNothing limits c = (admitted_load limits c ≡ None) × (switched_to c ≡ None)
