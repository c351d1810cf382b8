-- What a cursor has left, and the bytes that an event names.
use Rattle.std.specs.Prelude.{◌≡◌, ℕ, ◌+◌, cond, List, [], ◌∷◌, length, take, drop, Option, MatchOption, nat_le}
use Rattle.events.specs.declared.event.Event.{Event}
use Rattle.events.specs.declared.cursor.Cursor.{Cursor}

-- The events that a cursor has not given yet.
abbrev pub left : Cursor → List Event
left c = drop c.taken c.events.now

-- What a cursor gives: the first of the events that it has left, whose number it then names, or none after the last one.
pub record Gives (before : Cursor) (given : Option Event) (after : Cursor) : Type 0 where
  pub cases : MatchOption given (left before ≡ []) (λ e. left before ≡ e ∷ left after)
  pub at : after.at ≡ before.taken
  pub taken : MatchOption given (after.taken ≡ before.taken) (λ _. after.taken ≡ before.taken + 1)
  pub same : after.text.now ≡ before.text.now

-- The bytes that an event names in a text, none where it reaches past the text.
abbrev pub bytes_of : List ℕ → Event → List ℕ
bytes_of text e = cond (nat_le (e.place + e.length) (length text)) (take e.length (drop e.place text)) []
