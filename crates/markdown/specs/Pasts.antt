-- The past of a sheet, and the law over it.
use Rattle.std.specs.Prelude.{◌≡◌, ℕ, List, [], ◌∷◌, ◌++◌, length, take, Some, slice_get}
use Rattle.records.specs.Memory.{Memory}
use Rattle.markdown.specs.Sheets.{Sheet, Limits, limits_in}
use Rattle.markdown.specs.Calls.{Call}
use Rattle.markdown.specs.Holds.{Beginning, limits_at, Holds, Keeps, ChangesNothing}
use Rattle.markdown.specs.Replies.{Answer, Gives, Same}
use Rattle.markdown.specs.Laws.{IsTrueOf}

-- An entire past: how the sheet began, the calls that were made of it since, the first one first, and their answers.
pub record Past : Type 0 where
  pub beginning : Beginning
  pub calls : List Call
  pub answers : List Answer

abbrev pub past : Beginning → List Call → List Answer → Past
past b cs qs = record { beginning = b; calls = cs; answers = qs }

-- The limits of a sheet with this past.
abbrev pub limits_after : Past → Limits
limits_after p = limits_at p.beginning

-- The past with one call more.
abbrev pub longer : Past → Call → Answer → Past
longer p c a = past p.beginning (p.calls ++ c ∷ []) (p.answers ++ a ∷ [])

-- A call behind these calls was answered as the rules give it from what the sheet held then and from its limits.
abbrev pub AnswersAfter : Beginning → List Call → Call → Answer → Type 0
AnswersAfter b calls c a = (s : Sheet) × Holds b calls s × Gives (limits_at b) s c a

-- The law of a sheet that holds s now, in memory m, and whose entire past is this one.
pub record Law (p : Past) (s : Sheet) (m : Memory) : Type 0 where
  -- it holds what its past gives
  pub holds : Holds p.beginning p.calls s
  -- and that is one thing only, now and at each moment of its past
  pub only : (t : Sheet) → Holds p.beginning p.calls t → t ≡ s
  pub once : (i : ℕ) (t u : Sheet) → Holds p.beginning (take i p.calls) t → Holds p.beginning (take i p.calls) u → t ≡ u
  -- refused loads, table questions, heights and paints change nothing: without one of them the past gives the same
  pub idle : (before after : List Call) (c : Call) → p.calls ≡ before ++ c ∷ after →
      ChangesNothing (limits_after p) c → Holds p.beginning (before ++ after) s
  -- the memory has its length, and at its front the records of what is held
  pub room : limits_in m ≡ limits_after p
  pub memory : Keeps p.beginning p.calls m
  -- each call of the past was answered so, from what the sheet held then
  pub as_many : length p.answers ≡ length p.calls
  pub answered : (i : ℕ) (c : Call) (a : Answer) → slice_get p.calls i ≡ Some c → slice_get p.answers i ≡ Some a →
      AnswersAfter p.beginning (take i p.calls) c a
  -- from what it holds, its limits and the next call with its page alone follow that call's answer and every cell of the page after it
  pub alone : (c : Call) (a b : Answer) → Gives (limits_after p) s c a → Gives (limits_after p) s c b → Same a b
  -- shares, wider, empty and painted are true of it, now and at each moment of its past
  pub now : IsTrueOf (limits_after p) s
  pub ever : (i : ℕ) (t : Sheet) → Holds p.beginning (take i p.calls) t → IsTrueOf (limits_after p) t

-- Some time ago a sheet was new, and some calls are its entire past; the law is true of it.
abbrev pub HasSomePast : Sheet → Memory → Type 0
HasSomePast s m = ∥ ((p : Past) × Law p s m) ∥₁
