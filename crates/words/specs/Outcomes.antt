-- Results: one step after another, and a result that code gives against the one that is defined.
use Rattle.std.specs.Prelude.{◌≡◌, Ok, Err, Result, ◌≢◌}
use Rattle.words.specs.declared.faults.Fault.{Fault}
use Rattle.words.specs.declared.faults.Fault.TheVariants.{NoMemory}

-- A step that follows where the one before went well.
abbrev pub and_then : {X Y : Type 0} → Result X Fault → (X → Result Y Fault) → Result Y Fault
and_then (Ok x) f = f x
and_then (Err e) f = Err e

-- The result r is the defined one, read by `view`; want of memory may stand in its place.
abbrev pub Gives : {X Y : Type 0} → (X → Y) → Result X Fault → Result Y Fault → Type 0
Gives view (Ok x) s = s ≡ Ok (view x)
Gives view (Err e) s = (e ≢ NoMemory) → s ≡ Err e
