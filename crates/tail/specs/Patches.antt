-- How a repaired text is put together from the source.
use Rattle.std.specs.Prelude.{ℕ, ◌+◌, ◌*◌, cond, List, [], ◌∷◌, ◌++◌, length, drop, Some, None, Ok, Err, Option, Result}
use Rattle.tail.specs.Entries.{delimiter_row}
use Rattle.tail.specs.Cook.{numbered}
use Rattle.tail.specs.declared.Refusal.{Refusal}
use Rattle.tail.specs.declared.patch.Patch.{Patch}

-- What is kept, a line feed or none, and a delimiter row.
abbrev pub patched : Patch → List ℕ
patched p = p.kept.now ++ (cond p.line_feed (10 ∷ []) [] ++ delimiter_row p.cols)

-- How many bytes that makes.
abbrev pub size : Patch → ℕ
size p = length p.kept.now + cond p.line_feed 1 0 + (1 + 4 * p.cols)

-- What a judgement comes to: the answer, the output, and the text.
abbrev pub verdict : Result (Option Patch) Refusal → Result (Option ℕ) (ℕ × ℕ)
verdict (Ok None) = Ok None
verdict (Ok (Some p)) = Ok (Some (size p))
verdict (Err e) = Err (numbered e)

abbrev pub overwritten : Result (Option Patch) Refusal → List ℕ → List ℕ
overwritten (Ok None) out = out
overwritten (Ok (Some p)) out = patched p ++ drop (size p) out
overwritten (Err e) out = out

abbrev pub outcome : Option Patch → List ℕ → List ℕ
outcome None bs = bs
outcome (Some p) bs = patched p
