-- How a sheet goes on.
use Rattle.markdown.specs.declared.Markdown.{Markdown}
use Rattle.markdown.specs.Calls.{Call}
use Rattle.markdown.specs.Replies.{Answer}
use Rattle.markdown.specs.Pasts.{Past, longer, Law}
use Rattle.markdown.specs.Views.{sheet_of, memory_of}

-- A sheet is as this past leaves it: the law of the past is true of it.
abbrev pub HasPast : Past → Markdown → Type 0
HasPast p m = Law p (sheet_of m) (memory_of m)

-- A sheet goes on by a call and its answer.
pub record GoesOn (c : Call) (a : Answer) (old new : Markdown) : Type 0 where
  -- some time ago it was new, and some calls were its entire past; now this call and its answer are the end of it
  pub some : ∥ ((p : Past) × HasPast p old × HasPast (longer p c a) new) ∥₁
  -- and so it is of every past that leaves the sheet as it was
  pub every : (p : Past) → HasPast p old → HasPast (longer p c a) new
