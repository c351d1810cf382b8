-- Nesting: which marks may be open, and what an event does to them.
use Rattle.std.specs.Prelude.{ℕ, ◌-◌, max, Bool, true, false, cond, ◌&&◌, ◌||◌, List, [], ◌∷◌, length, Some, None, Option, ◌==◌, nat_lt}
use Rattle.stack.specs.Stacks.{pushed, popped, replaced}
use Rattle.events.specs.Kinds.{start_of}
use Rattle.events.specs.declared.event.Tag.{Tag}
use Rattle.events.specs.declared.event.Tag.TheVariants as tag
use Rattle.events.specs.declared.event.Kind.{Kind}
use Rattle.events.specs.declared.event.Kind.TheVariants.{Text, Code, SoftBreak, HardBreak, Start, End, Other}
use Rattle.checks.specs.declared.marks.Place.{Place}
use Rattle.checks.specs.declared.marks.Place.TheVariants as place
use Rattle.checks.specs.declared.marks.Mark.{Mark}
use Rattle.checks.specs.declared.marks.Move.{Move}
use Rattle.checks.specs.declared.marks.Move.TheVariants.{Stay, Close, Open, Enter}

-- Where an event stands whose innermost open mark is this, if one is open.
abbrev pub place_in : Option Mark → Place
place_in None = place.Prose
place_in (Some m) = m.place

-- Whether a mark is of a tag.
abbrev pub is_a : Tag → Mark → Bool
is_a t m = start_of m.tag == start_of t

-- A mark that holds neither rows nor entries.
abbrev pub plain : Place → Tag → Mark
plain p t = record { tag = t; place = p; entries = 0; fresh = false }

-- A table: each of its rows takes as many entries as it has columns, at least one.
abbrev pub table : ℕ → Mark
table columns = record { tag = tag.Table; place = place.Table; entries = max columns 1; fresh = true }

-- A head or a row begins in a table, which is no longer fresh then.
abbrev pub with_row : Tag → Mark → Move
with_row t m =
    Enter (record { tag = m.tag; place = m.place; entries = m.entries; fresh = false })
    (record { tag = t; place = m.place; entries = m.entries; fresh = false })

-- An entry begins in a head or a row, which takes one less then.
abbrev pub with_entry : Mark → Move
with_entry m =
    Enter (record { tag = m.tag; place = m.place; entries = m.entries - 1; fresh = m.fresh })
    (plain place.Entry tag.TableCell)

-- A head stands directly in a table that holds neither head nor row yet.
abbrev pub headed : Option Mark → Option Move
headed None = None
headed (Some m) = cond (is_a tag.Table m && m.fresh) (Some (with_row tag.TableHead m)) None

-- A row stands directly in a table.
abbrev pub rowed : Option Mark → Option Move
rowed None = None
rowed (Some m) = cond (is_a tag.Table m) (Some (with_row tag.TableRow m)) None

-- An entry stands directly in a head or a row that takes one more.
abbrev pub takes_entry : Mark → Bool
takes_entry m = (is_a tag.TableHead m || is_a tag.TableRow m) && nat_lt 0 m.entries

abbrev pub entered : Option Mark → Option Move
entered None = None
entered (Some m) = cond (takes_entry m) (Some (with_entry m)) None

-- A mark that no table holds at any depth.
abbrev pub outside : Place → Mark → Option Move
outside place.Prose m = Some (Open m)
outside place.Table m = None
outside place.Entry m = None

-- A start with the innermost open mark and the columns that it tells.
abbrev pub opened : Option Mark → Tag → ℕ → Option Move
opened top tag.Strong columns = Some (Open (plain (place_in top) tag.Strong))
opened top tag.Emphasis columns = Some (Open (plain (place_in top) tag.Emphasis))
opened top tag.CodeBlock columns = outside (place_in top) (plain place.Prose tag.CodeBlock)
opened top tag.Paragraph columns = outside (place_in top) (plain place.Prose tag.Paragraph)
opened top tag.Heading columns = outside (place_in top) (plain place.Prose tag.Heading)
opened top tag.Item columns = outside (place_in top) (plain place.Prose tag.Item)
opened top tag.List columns = outside (place_in top) (plain place.Prose tag.List)
opened top tag.Table columns = outside (place_in top) (table columns)
opened top tag.TableHead columns = headed top
opened top tag.TableRow columns = rowed top
opened top tag.TableCell columns = entered top

-- An end closes the innermost open mark, which has to be its own.
abbrev pub closed : Option Mark → Tag → Option Move
closed None t = None
closed (Some m) t = cond (is_a t m) (Some Close) None

-- What an event of a kind does to the open marks, if nesting allows it.
abbrev pub planned : Option Mark → Kind → ℕ → Option Move
planned top Text columns = Some Stay
planned top Code columns = Some Stay
planned top SoftBreak columns = Some Stay
planned top HardBreak columns = Some Stay
planned top (Start t) columns = opened top t columns
planned top (End t) columns = closed top t
planned top Other columns = Some Stay

-- Whether nesting allows what is planned with these marks open, in so much room.
abbrev pub allowed : ℕ → List Mark → Option Move → Bool
allowed room ms None = false
allowed room ms (Some Stay) = true
allowed room ms (Some Close) = true
allowed room ms (Some (Open m)) = nat_lt (length ms) room
allowed room ms (Some (Enter n m)) = nat_lt (length (replaced ms n)) room

-- The marks that are open after it.
abbrev pub applied : ℕ → List Mark → Option Move → List Mark
applied room ms None = ms
applied room ms (Some Stay) = ms
applied room ms (Some Close) = popped ms
applied room ms (Some (Open m)) = pushed room ms m
applied room ms (Some (Enter n m)) = pushed room (replaced ms n) m

-- Whether one of the marks is of a tag.
abbrev pub holds : Tag → List Mark → Bool
holds t [] = false
holds t (m ∷ ms) = is_a t m || holds t ms

-- The place inside some open marks: an entry if one of them is an entry, else a table if one of them is a table.
abbrev pub place_by : List Mark → Place
place_by ms = cond (holds tag.TableCell ms) place.Entry (cond (holds tag.Table ms) place.Table place.Prose)
