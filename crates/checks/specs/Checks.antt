-- The checks of a load's events: which event is the first bad one, and why.
use Rattle.std.specs.Prelude.{◌≡◌, ℕ, ◌+◌, ◌<◌, ◌≤◌, Bool, true, cond, ◌&&◌, List, [], ◌∷◌, length, take, Some, None, Ok, Err, fold, Option, Result, ◌==◌, nat_le, nat_lt}
use Rattle.std.specs.List.{slice_get}
use Rattle.stack.specs.Stacks.{topped}
use Rattle.events.specs.Kinds.{start_of, kind_of}
use Rattle.events.specs.Cursors.{bytes_of}
use Rattle.events.specs.declared.event.Event.{Event}
use Rattle.events.specs.declared.event.Tag.TheVariants as tag
use Rattle.events.specs.declared.event.Kind.{Kind}
use Rattle.events.specs.declared.event.Kind.TheVariants.{Text, Code, SoftBreak, HardBreak, Start, End, Other}
use Rattle.events.specs.declared.refusal.Refusal.{Refusal}
use Rattle.events.specs.declared.refusal.Refusal.TheVariants as refused
use Rattle.checks.specs.declared.marks.Mark.{Mark}
use Rattle.checks.specs.Marks.{place_in, place_by, planned, allowed, applied}
use Rattle.checks.specs.Measures.{every, measured}

-- Whether an event names some bytes, all of them in a text of this size.
abbrev pub in_text : ℕ → Event → Bool
in_text size e = nat_lt 0 e.length && nat_le (e.place + e.length) size

-- Whether an event is right by itself, given its kind: a Text or a Code in the text, a table of at most 32 columns.
abbrev pub formed : ℕ → Event → Kind → Bool
formed size e Text = in_text size e
formed size e Code = in_text size e
formed size e SoftBreak = true
formed size e HardBreak = true
formed size e (Start t) = cond (start_of t == start_of tag.Table) (nat_le e.columns 32) true
formed size e (End t) = true
formed size e Other = true

-- The marks that are open after an event.
abbrev pub marked_by : ℕ → List Mark → ℕ → Option Kind → List Mark
marked_by room ms columns None = ms
marked_by room ms columns (Some k) = applied room ms (planned (topped ms) k columns)

abbrev pub marked : ℕ → List Mark → Event → List Mark
marked room ms e = marked_by room ms e.columns (kind_of e.kind)

-- An answer where a test passes, else a refusal.
abbrev pub provided : Bool → Refusal → Result (Unit {0}) Refusal → Result (Unit {0}) Refusal
provided test x r = cond test r (Err x)

-- The first fault of event i with these marks open: 1 by itself, 2 by its nesting, 3 by the ruler.
abbrev pub judged_by : (List ℕ → Bool) → List ℕ → ℕ → List Mark → ℕ → Event → Option Kind → Result (Unit {0}) Refusal
judged_by admits text room ms i e None = Err (refused.Kind i)
judged_by admits text room ms i e (Some k) =
    provided (formed (length text) e k) (refused.Kind i) (
    provided (allowed room ms (planned (topped ms) k e.columns)) (refused.Nesting i) (
    provided (every admits (measured (place_in (topped ms)) k (bytes_of text e))) (refused.Ruler i) (
    Ok tt)))

abbrev pub judged : (List ℕ → Bool) → List ℕ → ℕ → List Mark → ℕ → Event → Result (Unit {0}) Refusal
judged admits text room ms i e = judged_by admits text room ms i e (kind_of e.kind)

-- The most marks that may be open.
abbrev pub most_marks : ℕ
most_marks = 64

-- After the last event no mark may be open.
abbrev pub closing : List Mark → ℕ → Result (Unit {0}) Refusal
closing [] count = Ok tt
closing (m ∷ ms) count = Err (refused.Nesting count)

-- The first refusal, or the second.
abbrev pub and_then : Result (Unit {0}) Refusal → Result (Unit {0}) Refusal → Result (Unit {0}) Refusal
and_then (Ok u) r = r
and_then (Err x) r = Err x

-- The events from number i on, with these marks open: each in turn, then what stays open.
abbrev pub checked_from : (List ℕ → Bool) → List ℕ → ℕ → List Mark → List Event → Result (Unit {0}) Refusal
checked_from admits text i ms [] = closing ms i
checked_from admits text i ms (e ∷ es) = and_then (judged admits text most_marks ms i e) (checked_from admits text (i + 1) (marked most_marks ms e) es)

-- The answer of the check: the first fault among the events.
abbrev pub checked : (List ℕ → Bool) → List ℕ → List Event → Result (Unit {0}) Refusal
checked admits text es = checked_from admits text 0 [] es

-- The marks that are open before event n.
abbrev pub marks_at : List Event → ℕ → List Mark
marks_at es n = fold (marked most_marks) [] (take n es)

-- What is said of the event of number n, or after the last one.
abbrev pub verdict : (List ℕ → Bool) → List ℕ → List Mark → ℕ → Option Event → Result (Unit {0}) Refusal
verdict admits text ms n None = closing ms n
verdict admits text ms n (Some e) = judged admits text most_marks ms n e

abbrev pub verdict_at : (List ℕ → Bool) → List ℕ → List Event → ℕ → Result (Unit {0}) Refusal
verdict_at admits text es n = verdict admits text (marks_at es n) n (slice_get es n)

-- An answer tells the first fault: nothing is wrong anywhere, or at some number where nothing is wrong before.
abbrev pub TellsFirst : (List ℕ → Bool) → List ℕ → List Event → Result (Unit {0}) Refusal → Type 0
TellsFirst admits text es (Ok u) = (n : ℕ) → n ≤ length es → verdict_at admits text es n ≡ Ok tt
TellsFirst admits text es (Err x) = (n : ℕ) × (n ≤ length es) × ((k : ℕ) → k < n → verdict_at admits text es k ≡ Ok tt) × (verdict_at admits text es n ≡ Err x)

-- Before every event, the innermost mark's place is the one that all open marks together say.
abbrev pub PlacesStand : List Event → Type 0
PlacesStand es = (n : ℕ) → place_in (topped (marks_at es n)) ≡ place_by (marks_at es n)
