-- A sheet that has some past goes on by a call, where every past goes on by it.
use Rattle.std.proofs.Math.Logic.{∥∥₁_map}
use Rattle.markdown.specs.declared.Markdown.{Markdown}
use Rattle.markdown.specs.Calls.{Call}
use Rattle.markdown.specs.Replies.{Answer}
use Rattle.markdown.specs.Pasts.{Past, longer, HasSomePast}
use Rattle.markdown.specs.Views.{sheet_of, memory_of}
use Rattle.markdown.specs.GoesOn.{HasPast, GoesOn}

pub goes_on : {c : Call} {a : Answer} (old new : Markdown) → HasSomePast (sheet_of old) (memory_of old) → ((p : Past) → HasPast p old → HasPast (longer p c a) new) → GoesOn c a old new
goes_on old new lived every = record { some = ∥∥₁_map lived (λ h. (h.0, h.1, every h.0 h.1)); every = every }
