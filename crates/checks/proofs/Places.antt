-- The place that a mark keeps is the one that all open marks say.
use Rattle.std.proofs.Common.{◌≡◌, ℕ, Bool, true, false, cond, ltb, List, [], ◌∷◌, length, take, Some, None, fold, Option, sym, refl, ◌∙◌}
use Rattle.stack.specs.Stacks.{topped, popped, replaced}
use Rattle.events.specs.Kinds.{kind_of}
use Rattle.events.specs.declared.event.Event.{Event}
use Rattle.events.specs.declared.event.Tag.{Tag}
use Rattle.events.specs.declared.event.Tag.TheVariants as tag
use Rattle.events.specs.declared.event.Kind.{Kind}
use Rattle.events.specs.declared.event.Kind.TheVariants.{Text, Code, SoftBreak, HardBreak, Start, End, Other}
use Rattle.checks.specs.declared.marks.Place.{Place}
use Rattle.checks.specs.declared.marks.Place.TheVariants as place
use Rattle.checks.specs.declared.marks.Mark.{Mark}
use Rattle.checks.specs.declared.marks.Move.{Move}
use Rattle.checks.specs.declared.marks.Move.TheVariants.{Stay, Close, Open, Enter}
use Rattle.checks.specs.Marks.{place_in, place_by, holds, is_a, plain, table, with_row, with_entry, headed, rowed, takes_entry, entered, outside, opened, closed, planned, applied}
use Rattle.checks.specs.Checks.{marked_by, marked, most_marks, marks_at, PlacesStand}

abbrev Placed : List Mark → Type 0
Placed [] = Unit {0}
Placed (m ∷ ms) = (m.place ≡ place_by (m ∷ ms)) × Placed ms

placed_top : (ms : List Mark) → Placed ms → place_in (topped ms) ≡ place_by ms
placed_top [] h = refl
placed_top (m ∷ ms) h = h.0

-- what a move needs to keep the places
abbrev Fits : List Mark → Option Move → Type 0
Fits ms None = Unit {0}
Fits ms (Some Stay) = Unit {0}
Fits ms (Some Close) = Unit {0}
Fits ms (Some (Open m)) = m.place ≡ place_by (m ∷ ms)
Fits ms (Some (Enter n m)) = Placed (m ∷ replaced ms n)

fits_if : (ms : List Mark) (b : Bool) (x : Move) → Fits ms (Some x) → Fits ms (cond b (Some x) None)
fits_if ms true x h = h
fits_if ms false x h = tt

fits-outside : (ms : List Mark) (p : Place) (m : Mark) → (p ≡ place.Prose → m.place ≡ place_by (m ∷ ms)) → Fits ms (outside p m)
fits-outside ms place.Prose m h = h refl
fits-outside ms place.Table m h = tt
fits-outside ms place.Entry m h = tt

a_table_in_prose : (b c : Bool) → place.Prose ≡ cond b place.Entry (cond c place.Table place.Prose) → place.Table ≡ cond b place.Entry place.Table
a_table_in_prose true c h = cc
a_table_in_prose false c h = refl

fits-headed : (ms : List Mark) → Placed ms → Fits ms (headed (topped ms))
fits-headed [] h = tt
fits-headed (m ∷ ms) h = fits_if (m ∷ ms) _ (with_row tag.TableHead m) (h.0, h)

fits-rowed : (ms : List Mark) → Placed ms → Fits ms (rowed (topped ms))
fits-rowed [] h = tt
fits-rowed (m ∷ ms) h = fits_if (m ∷ ms) (is_a tag.Table m) (with_row tag.TableRow m) (h.0, h)

fits-entered : (ms : List Mark) → Placed ms → Fits ms (entered (topped ms))
fits-entered [] h = tt
fits-entered (m ∷ ms) h = fits_if (m ∷ ms) (takes_entry m) (with_entry m) (refl, h)

fits-opened : (ms : List Mark) (t : Tag) (columns : ℕ) → Placed ms → Fits ms (opened (topped ms) t columns)
fits-opened ms tag.Strong columns h = placed_top ms h
fits-opened ms tag.Emphasis columns h = placed_top ms h
fits-opened ms tag.CodeBlock columns h = fits-outside ms (place_in (topped ms)) (plain place.Prose tag.CodeBlock) (λ p. sym p ∙ placed_top ms h)
fits-opened ms tag.Paragraph columns h = fits-outside ms (place_in (topped ms)) (plain place.Prose tag.Paragraph) (λ p. sym p ∙ placed_top ms h)
fits-opened ms tag.Heading columns h = fits-outside ms (place_in (topped ms)) (plain place.Prose tag.Heading) (λ p. sym p ∙ placed_top ms h)
fits-opened ms tag.Item columns h = fits-outside ms (place_in (topped ms)) (plain place.Prose tag.Item) (λ p. sym p ∙ placed_top ms h)
fits-opened ms tag.List columns h = fits-outside ms (place_in (topped ms)) (plain place.Prose tag.List) (λ p. sym p ∙ placed_top ms h)
fits-opened ms tag.Table columns h = fits-outside ms (place_in (topped ms)) (table columns) (λ p. a_table_in_prose (holds tag.TableCell ms) (holds tag.Table ms) (sym p ∙ placed_top ms h))
fits-opened ms tag.TableHead columns h = fits-headed ms h
fits-opened ms tag.TableRow columns h = fits-rowed ms h
fits-opened ms tag.TableCell columns h = fits-entered ms h

fits-closed : (ms : List Mark) (top : Option Mark) (t : Tag) → Fits ms (closed top t)
fits-closed ms None t = tt
fits-closed ms (Some m) t = fits_if ms (is_a t m) Close tt

fits-planned : (ms : List Mark) (k : Kind) (columns : ℕ) → Placed ms → Fits ms (planned (topped ms) k columns)
fits-planned ms Text columns h = tt
fits-planned ms Code columns h = tt
fits-planned ms SoftBreak columns h = tt
fits-planned ms HardBreak columns h = tt
fits-planned ms (Start t) columns h = fits-opened ms t columns h
fits-planned ms (End t) columns h = fits-closed ms (topped ms) t
fits-planned ms Other columns h = tt

placed_if : (b : Bool) (m : Mark) (ms : List Mark) → Placed (m ∷ ms) → Placed (cond b (m ∷ ms) ms)
placed_if true m ms h = h
placed_if false m ms h = h.1

placed_popped : (ms : List Mark) → Placed ms → Placed (popped ms)
placed_popped [] h = tt
placed_popped (m ∷ ms) h = h.1

placed_applied : (room : ℕ) (ms : List Mark) (x : Option Move) → Fits ms x → Placed ms → Placed (applied room ms x)
placed_applied room ms None f h = h
placed_applied room ms (Some Stay) f h = h
placed_applied room ms (Some Close) f h = placed_popped ms h
placed_applied room ms (Some (Open m)) f h = placed_if (ltb (length ms) room) m ms (f, h)
placed_applied room ms (Some (Enter n m)) f h = placed_if (ltb (length (replaced ms n)) room) m (replaced ms n) f

placed_marked : (ms : List Mark) (columns : ℕ) (k : Option Kind) → Placed ms → Placed (marked_by most_marks ms columns k)
placed_marked ms columns None h = h
placed_marked ms columns (Some k) h = placed_applied most_marks ms (planned (topped ms) k columns) (fits-planned ms k columns h) h

placed_folded : (es : List Event) (ms : List Mark) → Placed ms → Placed (fold (marked most_marks) ms es)
placed_folded [] ms h = h
placed_folded (e ∷ es) ms h = placed_folded es (marked most_marks ms e) (placed_marked ms e.columns (kind_of e.kind) h)

pub the_marks_tell_the_place : (es : List Event) → PlacesStand es
the_marks_tell_the_place es n = placed_top (marks_at es n) (placed_folded (take n es) [] tt)
