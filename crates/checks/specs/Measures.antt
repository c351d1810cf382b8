-- What of an event is measured.
use Rattle.std.specs.Prelude.{ℕ, Bool, true, cond, ◌&&◌, ◌||◌, List, [], ◌∷◌, ◌++◌, length, ◌==◌}
use Rattle.events.specs.declared.event.Kind.{Kind}
use Rattle.events.specs.declared.event.Kind.TheVariants.{Text, Code, SoftBreak, HardBreak, Start, End, Other}
use Rattle.checks.specs.declared.marks.Place.{Place}
use Rattle.checks.specs.declared.marks.Place.TheVariants as place

-- The lines of a text, split at each line feed: `so` is what stands in the first one already.
abbrev pub lines_of : List ℕ → List ℕ → List (List ℕ)
lines_of so [] = so ∷ []
lines_of so (b ∷ bs) = cond (b == 10) (so ∷ lines_of [] bs) (lines_of (so ++ (b ∷ [])) bs)

-- Those that are not empty.
abbrev pub filled : List (List ℕ) → List (List ℕ)
filled [] = []
filled ([] ∷ ls) = filled ls
filled ((b ∷ l) ∷ ls) = (b ∷ l) ∷ filled ls

-- Whether a test holds of every one.
abbrev pub every : (List ℕ → Bool) → List (List ℕ) → Bool
every test [] = true
every test (x ∷ xs) = test x && every test xs

-- Whether a line is empty or passes a test.
abbrev pub empty_or : (List ℕ → Bool) → List ℕ → Bool
empty_or test l = length l == 0 || test l

-- Of a Text: outside tables each line by itself, in an entry the whole, in a table outside its entries nothing.
abbrev pub text_measured : Place → List ℕ → List (List ℕ)
text_measured place.Prose s = filled (lines_of [] s)
text_measured place.Table s = []
text_measured place.Entry s = s ∷ []

-- Of a Code the whole, but in a table outside its entries nothing.
abbrev pub code_measured : Place → List ℕ → List (List ℕ)
code_measured place.Prose s = s ∷ []
code_measured place.Table s = []
code_measured place.Entry s = s ∷ []

-- What of an event is measured that stands at a place and names these bytes.
abbrev pub measured : Place → Kind → List ℕ → List (List ℕ)
measured p Text s = text_measured p s
measured p Code s = code_measured p s
measured p SoftBreak s = []
measured p HardBreak s = []
measured p (Start t) s = []
measured p (End t) s = []
measured p Other s = []
