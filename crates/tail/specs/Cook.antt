-- What becomes of a source whose last lines may be a table in progress.
use Rattle.std.specs.Prelude.{ℕ, zero, suc, Bool, cond, not, ◌&&◌, List, [], ◌∷◌, ◌++◌, length, take, drop, Some, None, Ok, Err, Option, Result, nat_le, codes, decimal}
use Rattle.std.proofs.Math.Utf8.{encodes}
use Rattle.std.specs.Option.{unwrap_or, option_map}
use Rattle.std.specs.Str.{chars, bytes_eq, is_utf8}
use Rattle.tail.specs.Texts.{is, before, trimmed, ends_with, without_last}
use Rattle.tail.specs.Lines.{lines_of}
use Rattle.tail.specs.Fences.{run_at_end}
use Rattle.tail.specs.Entries.{cell_count, complete, unfinished, delimiter_row}
use Rattle.tail.specs.declared.Refusal.{Refusal}
use Rattle.tail.specs.declared.Refusal.TheVariants.{NotUtf8, TooShort}

-- The run that reaches the end of a source, its one trailing line feed set aside.
abbrev pub last_run : List ℕ → List (List ℕ)
last_run cs = run_at_end None (lines_of (without_last 10 cs))

-- A line that is a lone pipe once trimmed.
abbrev pub lone_pipe : List ℕ → Bool
lone_pipe l = bytes_eq (trimmed l) (124 ∷ [])

-- The line feed that a source lacks if its last line is not ended.
abbrev pub line_end : List ℕ → List ℕ
line_end cs = cond (ends_with 10 cs) [] (10 ∷ [])

-- A source with the delimiter row of n entries below it.
abbrev pub appended : ℕ → List ℕ → List ℕ
appended n cs = cs ++ (line_end cs ++ delimiter_row n)

-- A text without its last line: without the longest end that has no line feed.
abbrev pub without_last_line : List ℕ → List ℕ
without_last_line cs = before (λ c. not (is 10 c)) cs

-- A source with its last line replaced by the delimiter row of n entries.
abbrev pub replaced : ℕ → List ℕ → List ℕ
replaced n cs = without_last_line cs ++ delimiter_row n

-- The source repaired, by the run at its end; nothing if it stays unchanged.
abbrev pub repaired_by : List (List ℕ) → List ℕ → Option (List ℕ)
repaired_by [] cs = None
repaired_by (h ∷ []) cs = cond (lone_pipe h) None (Some (appended (cell_count h) cs))
repaired_by (h ∷ l ∷ []) cs = cond (lone_pipe h) None (cond (complete (cell_count h) l) None (cond (unfinished l && not (ends_with 10 cs)) (Some (replaced (cell_count h) cs)) None))
repaired_by (h ∷ l ∷ m ∷ ls) cs = None

abbrev pub repaired : List ℕ → Option (List ℕ)
repaired cs = repaired_by (last_run cs) cs

-- The same in bytes.
abbrev pub repaired_bytes : List ℕ → Option (List ℕ)
repaired_bytes bs = option_map encodes (repaired (chars bs))

-- The length of the longest front of at most n bytes that is UTF-8.
abbrev pub valid_up_to : ℕ → List ℕ → ℕ
valid_up_to zero bs = 0
valid_up_to (suc n) bs = cond (is_utf8 (take (suc n) bs)) (suc n) (valid_up_to n bs)

-- The length of the valid part.
abbrev pub valid_length : List ℕ → ℕ
valid_length bs = valid_up_to (length bs) bs

-- Each refusal's number and value.
abbrev pub numbered : Refusal → ℕ × ℕ
numbered (NotUtf8 valid) = (3, valid)
numbered (TooShort needed) = (4, needed)

-- What is printed of a refusal: its number and its value.
abbrev pub refusal_text : Refusal → List ℕ
refusal_text e = decimal (numbered e).0 ++ (codes " " ++ decimal (numbered e).1)

-- An answer with its refusal told by number and value.
abbrev pub told : Result (Option ℕ) Refusal → Result (Option ℕ) (ℕ × ℕ)
told (Ok o) = Ok o
told (Err e) = Err (numbered e)

-- The answer for the repaired bytes, with so much room in the output.
abbrev pub answered_for : Option (List ℕ) → ℕ → Result (Option ℕ) (ℕ × ℕ)
answered_for None room = Ok None
answered_for (Some ts) room = cond (nat_le (length ts) room) (Ok (Some (length ts))) (Err (4, length ts))

-- The answer: 3 and the valid length where the source is not UTF-8, 4 and the cooked length where the output is shorter, and else whether something changed.
abbrev pub answered : List ℕ → ℕ → Result (Option ℕ) (ℕ × ℕ)
answered bs room = cond (is_utf8 bs) (answered_for (repaired_bytes bs) room) (Err (3, valid_length bs))

-- The output with the repaired bytes at its front, if there are any and they fit.
abbrev pub written_for : Option (List ℕ) → List ℕ → List ℕ
written_for None out = out
written_for (Some ts) out = cond (nat_le (length ts) (length out)) (ts ++ drop (length ts) out) out

-- The output afterwards.
abbrev pub written : List ℕ → List ℕ → List ℕ
written bs out = cond (is_utf8 bs) (written_for (repaired_bytes bs) out) out

-- The cooked text: the repaired bytes, or the source if it stays unchanged.
abbrev pub cooked : List ℕ → List ℕ
cooked bs = unwrap_or (repaired_bytes bs) bs

-- What a reading hands out: the source if nothing changed, else so much of the output.
abbrev pub handed : Option ℕ → List ℕ → List ℕ → List ℕ
handed None bs out = bs
handed (Some n) bs out = take n out
