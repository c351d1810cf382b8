-- What is known of an admitted list of events.
use Rattle.std.proofs.Common.{◌≡◌, ℕ, ◌<◌, ◌≤◌, Bool, true, false, cond, ltb, List, [], ◌∷◌, length, get_or, take, Some, None, Ok, Err, fold, Option, Result, sym, refl, ap, ◌∙◌, subst, arith}
use Rattle.std.proofs.lemmas.Option.{slice_get-get_or, slice_get_past}
use Rattle.std.proofs.lemmas.Bool.Decides.{nat_tests}
use Rattle.stack.specs.Stacks.{topped, popped, replaced}
use Rattle.events.specs.Kinds.{kind_of}
use Rattle.events.specs.Cursors.{bytes_of}
use Rattle.events.specs.declared.event.Event.{Event}
use Rattle.events.specs.declared.event.Kind.{Kind}
use Rattle.events.specs.declared.event.Kind.TheVariants.{Text, Code}
use Rattle.events.specs.declared.refusal.Refusal.{Refusal}
use Rattle.events.specs.declared.refusal.Refusal.TheVariants as refused
use Rattle.checks.specs.declared.marks.Mark.{Mark}
use Rattle.checks.specs.declared.marks.Move.{Move}
use Rattle.checks.specs.declared.marks.Move.TheVariants.{Stay, Close, Open, Enter}
use Rattle.checks.specs.Marks.{place_in, planned, allowed, applied}
use Rattle.checks.specs.Measures.{every, measured}
use Rattle.checks.specs.Checks.{in_text, formed, judged_by, marked_by, marked, most_marks, closing, checked, verdict, marks_at, TellsFirst}
use Rattle.checks.proofs.Firsts.{the_check_tells_the_first_fault}

-- what an event has passed that is not refused
pub record Passes (a : List ℕ → Bool) (t : List ℕ) (ms : List Mark) (e : Event) : Type 0 where
  pub kind : Kind
  pub known : kind_of e.kind ≡ Some kind
  pub shaped : formed (length t) e kind ≡ true
  pub nested : allowed most_marks ms (planned (topped ms) kind e.columns) ≡ true
  pub admitted : every a (measured (place_in (topped ms)) kind (bytes_of t e)) ≡ true

abbrev fine : Result (Unit {0}) Refusal
fine = Ok tt

all_three : (b c d : Bool) (x y z : Refusal) → cond b (cond c (cond d fine (Err x)) (Err y)) (Err z) ≡ fine → (b ≡ true) × (c ≡ true) × (d ≡ true)
all_three true true true x y z h = (refl, refl, refl)
all_three true true false x y z h = cc
all_three true false d x y z h = cc
all_three false c d x y z h = cc

passes_by : (a : List ℕ → Bool) (t : List ℕ) (ms : List Mark) (i : ℕ) (e : Event) (o : Option Kind) → kind_of e.kind ≡ o → judged_by a t most_marks ms i e o ≡ Ok tt → Passes a t ms e
passes_by a t ms i e None p h = cc
passes_by a t ms i e (Some k) p h =
    let q = all_three (formed (length t) e k) (allowed most_marks ms (planned (topped ms) k e.columns)) (every a (measured (place_in (topped ms)) k (bytes_of t e))) (refused.Ruler i) (refused.Nesting i) (refused.Kind i) h in
    record { kind = k; known = p; shaped = q.0; nested = q.1; admitted = q.2 }

nothing_wrong : (a : List ℕ → Bool) (t : List ℕ) (es : List Event) → checked a t es ≡ Ok tt → TellsFirst a t es (Ok tt)
nothing_wrong a t es h = subst (TellsFirst a t es) h (the_check_tells_the_first_fault a t es)

pub every_admitted_event_passes : (a : List ℕ → Bool) (t : List ℕ) (es : List Event) → checked a t es ≡ Ok tt → (n : ℕ) (d : Event) → n < length es → Passes a t (marks_at es n) (get_or es n d)
every_admitted_event_passes a t es h n d l =
    let e = get_or es n d in
    let v = ap (verdict a t (marks_at es n) n) (sym (slice_get-get_or es n d l)) ∙ nothing_wrong a t es h n (omega arith) in
    passes_by a t (marks_at es n) n e (kind_of e.kind) refl v

closed_only : (ms : List Mark) (n : ℕ) → closing ms n ≡ Ok tt → ms ≡ []
closed_only [] n h = refl
closed_only (m ∷ ms) n h = cc

pub an_admitted_list_closes_its_marks : (a : List ℕ → Bool) (t : List ℕ) (es : List Event) → checked a t es ≡ Ok tt → marks_at es (length es) ≡ []
an_admitted_list_closes_its_marks a t es h =
    let n = length es in
    closed_only (marks_at es n) n (ap (verdict a t (marks_at es n) n) (sym (slice_get_past es n (omega arith))) ∙ nothing_wrong a t es h n (omega arith))

pub an_admitted_text_lies_in_the_text : (a : List ℕ → Bool) (t : List ℕ) (ms : List Mark) (e : Event) → Passes a t ms e → kind_of e.kind ≡ Some Text → in_text (length t) e ≡ true
an_admitted_text_lies_in_the_text a t ms e p k =
    let s : p.kind ≡ Text = cc (p.known, k) in
    ap (formed (length t) e) (sym s) ∙ p.shaped

pub an_admitted_code_lies_in_the_text : (a : List ℕ → Bool) (t : List ℕ) (ms : List Mark) (e : Event) → Passes a t ms e → kind_of e.kind ≡ Some Code → in_text (length t) e ≡ true
an_admitted_code_lies_in_the_text a t ms e p k =
    let s : p.kind ≡ Code = cc (p.known, k) in
    ap (formed (length t) e) (sym s) ∙ p.shaped

pushed-fits : (room : ℕ) (ms : List Mark) (m : Mark) (b : Bool) → ltb (length ms) room ≡ b → length ms ≤ room → length (cond b (m ∷ ms) ms) ≤ room
pushed-fits room ms m true p h = grind (arith, nat_tests)
pushed-fits room ms m false p h = h

length-replaced : (ms : List Mark) (n : Mark) → length (replaced ms n) ≡ length ms
length-replaced [] n = refl
length-replaced (m ∷ ms) n = refl

popped-fits : (room : ℕ) (ms : List Mark) → length ms ≤ room → length (popped ms) ≤ room
popped-fits room [] h = h
popped-fits room (m ∷ ms) h = omega arith

applied-fits : (room : ℕ) (ms : List Mark) (x : Option Move) → length ms ≤ room → length (applied room ms x) ≤ room
applied-fits room ms None h = h
applied-fits room ms (Some Stay) h = h
applied-fits room ms (Some Close) h = popped-fits room ms h
applied-fits room ms (Some (Open m)) h = pushed-fits room ms m (ltb (length ms) room) refl h
applied-fits room ms (Some (Enter n m)) h = pushed-fits room (replaced ms n) m (ltb (length (replaced ms n)) room) refl (omega (arith, length-replaced ms n))

marked-fits : (ms : List Mark) (columns : ℕ) (k : Option Kind) → length ms ≤ most_marks → length (marked_by most_marks ms columns k) ≤ most_marks
marked-fits ms columns None h = h
marked-fits ms columns (Some k) h = applied-fits most_marks ms (planned (topped ms) k columns) h

folded_fits : (es : List Event) (ms : List Mark) → length ms ≤ most_marks → length (fold (marked most_marks) ms es) ≤ most_marks
folded_fits [] ms h = h
folded_fits (e ∷ es) ms h = folded_fits es (marked most_marks ms e) (marked-fits ms e.columns (kind_of e.kind) h)

pub never_more_than_the_most_marks : (es : List Event) (n : ℕ) → length (marks_at es n) ≤ most_marks
never_more_than_the_most_marks es n = folded_fits (take n es) [] (omega arith)
