-- What a stack holds, as a list with its top first.
use Rattle.std.specs.Prelude.{ℕ, cond, List, [], ◌∷◌, reverse, length, take, Some, None, Option, Ok, Err, Result, nat_lt}
use Rattle.stack.specs.declared.stack.Full.{Full}

-- The things in so many slots, the last first.
abbrev pub laid : {X : Type 0} → List X → ℕ → List X
laid slots depth = reverse (take depth slots)

-- What is known of a stack: the things that it holds, top first, and how many places it has for them.
pub record Pile (X : Type 0) : Type 0 where
  pub things : List X
  pub places : ℕ

-- What a stack holds, top first.
abbrev pub held : {X : Type 0} → Pile X → List X
held s = s.things

-- How many things a stack can hold.
abbrev pub room : {X : Type 0} → Pile X → ℕ
room s = s.places

-- The same stack with other things on it.
abbrev pub holding : {X : Type 0} → Pile X → List X → Pile X
holding s xs = record { things = xs; places = s.places }

-- Whether one more fits on the things.
abbrev pub fits : {X : Type 0} → ℕ → List X → Result (Unit {0}) Full
fits room xs = cond (nat_lt (length xs) room) (Ok tt) (Err (record {}))

-- The things with x laid on them, or as they are where the room is full.
abbrev pub pushed : {X : Type 0} → ℕ → List X → X → List X
pushed room xs x = cond (nat_lt (length xs) room) (x ∷ xs) xs

-- The things below the top.
abbrev pub popped : {X : Type 0} → List X → List X
popped [] = []
popped (x ∷ xs) = xs

-- The top, if there is one.
abbrev pub topped : {X : Type 0} → List X → Option X
topped [] = None
topped (x ∷ xs) = Some x

-- The things with x in the place of the top.
abbrev pub replaced : {X : Type 0} → List X → X → List X
replaced [] x = []
replaced (y ∷ ys) x = x ∷ ys
