-- The check tells the first fault.
use Rattle.std.proofs.Common.{◌≡◌, ℕ, zero, suc, ◌+◌, ◌<◌, ◌≤◌, Bool, List, [], ◌∷◌, length, take, Ok, Err, fold, Result, sym, refl, ap, ◌∙◌, subst, arith}
use Rattle.std.specs.List.{slice_get}
use Rattle.events.specs.declared.event.Event.{Event}
use Rattle.events.specs.declared.refusal.Refusal.{Refusal}
use Rattle.checks.specs.declared.marks.Mark.{Mark}
use Rattle.checks.specs.Checks.{judged, marked, most_marks, closing, and_then, checked_from, checked, verdict, TellsFirst}

-- what is said of event k of those from number i on
abbrev verdict_from : (List ℕ → Bool) → List ℕ → ℕ → List Mark → List Event → ℕ → Result (Unit {0}) Refusal
verdict_from a t i ms es k = verdict a t (fold (marked most_marks) ms (take k es)) (i + k) (slice_get es k)

abbrev TellsFrom : (List ℕ → Bool) → List ℕ → ℕ → List Mark → List Event → Result (Unit {0}) Refusal → Type 0
TellsFrom a t i ms es (Ok u) = (n : ℕ) → n ≤ length es → verdict_from a t i ms es n ≡ Ok tt
TellsFrom a t i ms es (Err x) = (n : ℕ) × (n ≤ length es) × ((k : ℕ) → k < n → verdict_from a t i ms es k ≡ Ok tt) × (verdict_from a t i ms es n ≡ Err x)

at_the_end : (a : List ℕ → Bool) (t : List ℕ) (i : ℕ) (ms : List Mark) (k : ℕ) → k ≤ 0 → verdict_from a t i ms [] k ≡ closing ms i
at_the_end a t i ms zero h = let z : i + 0 ≡ i = omega arith in ap (closing ms) z
at_the_end a t i ms (suc k) h = absurd (omega arith)

tells_at_the_end : (a : List ℕ → Bool) (t : List ℕ) (i : ℕ) (ms : List Mark) → TellsFrom a t i ms [] (closing ms i)
tells_at_the_end a t i [] = λ k h. at_the_end a t i [] k h
tells_at_the_end a t i (m ∷ ms) = (0, omega arith, (λ k h. absurd (omega arith)), at_the_end a t i (m ∷ ms) 0 (omega arith))

here : (a : List ℕ → Bool) (t : List ℕ) (i : ℕ) (ms : List Mark) (e : Event) (es : List Event) → verdict_from a t i ms (e ∷ es) 0 ≡ judged a t most_marks ms i e
here a t i ms e es = let z : i + 0 ≡ i = omega arith in ap (λ n. judged a t most_marks ms n e) z

later : (a : List ℕ → Bool) (t : List ℕ) (i : ℕ) (ms : List Mark) (e : Event) (es : List Event) (k : ℕ) → verdict_from a t i ms (e ∷ es) (suc k) ≡ verdict_from a t (i + 1) (marked most_marks ms e) es k
later a t i ms e es k =
    let z : i + suc k ≡ i + 1 + k = omega arith in
    ap (λ n. verdict a t (fold (marked most_marks) (marked most_marks ms e) (take k es)) n (slice_get es k)) z

none_before : (a : List ℕ → Bool) (t : List ℕ) (i : ℕ) (ms : List Mark) (e : Event) (es : List Event) → judged a t most_marks ms i e ≡ Ok tt → (n : ℕ) →
    ((k : ℕ) → k < n → verdict_from a t (i + 1) (marked most_marks ms e) es k ≡ Ok tt) → (k : ℕ) → k < suc n → verdict_from a t i ms (e ∷ es) k ≡ Ok tt
none_before a t i ms e es p n before zero h = here a t i ms e es ∙ p
none_before a t i ms e es p n before (suc k) h = later a t i ms e es k ∙ before k (omega arith)

tells_more : (a : List ℕ → Bool) (t : List ℕ) (i : ℕ) (ms : List Mark) (e : Event) (es : List Event) (r s : Result (Unit {0}) Refusal) → judged a t most_marks ms i e ≡ r →
    TellsFrom a t (i + 1) (marked most_marks ms e) es s → TellsFrom a t i ms (e ∷ es) (and_then r s)
tells_more a t i ms e es (Err x) s p ih = (0, omega arith, (λ k h. absurd (omega arith)), here a t i ms e es ∙ p)
tells_more a t i ms e es (Ok u) (Ok v) p ih = λ k h. none_before a t i ms e es p (suc (length es)) (λ j g. ih j (omega arith)) k (omega arith)
tells_more a t i ms e es (Ok u) (Err x) p ih = (suc ih.0, omega arith, none_before a t i ms e es p ih.0 ih.2, later a t i ms e es ih.0 ∙ ih.3)

tells_from : (a : List ℕ → Bool) (t : List ℕ) (es : List Event) (i : ℕ) (ms : List Mark) → TellsFrom a t i ms es (checked_from a t i ms es)
tells_from a t [] i ms = tells_at_the_end a t i ms
tells_from a t (e ∷ es) i ms = tells_more a t i ms e es (judged a t most_marks ms i e) (checked_from a t (i + 1) (marked most_marks ms e) es) refl (tells_from a t es (i + 1) (marked most_marks ms e))

from_the_first : (a : List ℕ → Bool) (t : List ℕ) (es : List Event) (r : Result (Unit {0}) Refusal) → TellsFrom a t 0 [] es r → TellsFirst a t es r
from_the_first a t es (Ok u) h = λ n l. let z : 0 + n ≡ n = omega arith in rw z at (h n l)
from_the_first a t es (Err x) h =
    let z : 0 + h.0 ≡ h.0 = omega arith in
    (h.0, h.1, (λ k l. let y : 0 + k ≡ k = omega arith in rw y at (h.2 k l)), rw z at h.3)

pub the_check_tells_the_first_fault : (a : List ℕ → Bool) (t : List ℕ) (es : List Event) → TellsFirst a t es (checked a t es)
the_check_tells_the_first_fault a t es = from_the_first a t es (checked a t es) (tells_from a t es 0 [])

pub the_answer_tells_the_first_fault : (a : List ℕ → Bool) (t : List ℕ) (es : List Event) (r : Result (Unit {0}) Refusal) → r ≡ checked a t es → TellsFirst a t es r
the_answer_tells_the_first_fault a t es r h = subst (TellsFirst a t es) (sym h) (the_check_tells_the_first_fault a t es)
