-- Fences, and the run of pipe lines at the end of a list of lines.
use Rattle.std.specs.Prelude.{ℕ, Bool, true, false, cond, not, ◌&&◌, List, [], ◌∷◌, nat_le, Option, Some, None}
use Rattle.std.specs.Char.{is_whitespace}
use Rattle.std.specs.List.{prefix_len}
use Rattle.tail.specs.Texts.{all, any, is, past, starts_with}
use Rattle.tail.specs.declared.fences.Mark.{Mark}
use Rattle.tail.specs.declared.fences.Mark.TheVariants.{Backtick, Tilde}
use Rattle.tail.specs.declared.fences.Fence.{Fence}

-- The character of a mark.
abbrev pub sign : Mark → ℕ
sign Backtick = 96
sign Tilde = 126

-- How many of the mark a line has after its leading white space.
abbrev pub mark_count : Mark → List ℕ → ℕ
mark_count m l = prefix_len (is (sign m)) (past is_whitespace l)

-- What a line has behind these marks.
abbrev pub behind : Mark → List ℕ → List ℕ
behind m l = past (is (sign m)) (past is_whitespace l)

-- What may stand behind the marks of an opener: no backtick behind backticks, anything behind tildes.
abbrev pub may_follow : Mark → List ℕ → Bool
may_follow Backtick cs = not (any (is 96) cs)
may_follow Tilde cs = true

-- The line opens a fence of the mark: three or more of it after leading white space.
abbrev pub opens : Mark → List ℕ → Bool
opens m l = nat_le 3 (mark_count m l) && may_follow m (behind m l)

-- The line closes a fence of n marks: at least as many of the mark, and then only white space.
abbrev pub closes : Mark → ℕ → List ℕ → Bool
closes m n l = nat_le n (mark_count m l) && all is_whitespace (behind m l)

-- A fence of n marks.
abbrev pub fence : Mark → ℕ → Fence
fence m n = record { mark = m; marks = n }

-- The fence that is open below a line, if any, by the one that is open above it.
abbrev pub fence_below : Option Fence → List ℕ → Option Fence
fence_below None l = cond (opens Backtick l) (Some (fence Backtick (mark_count Backtick l))) (cond (opens Tilde l) (Some (fence Tilde (mark_count Tilde l))) None)
fence_below (Some f) l = cond (closes f.mark f.marks l) None (Some f)

-- No fence is open.
abbrev pub outside : Option Fence → Bool
outside None = true
outside (Some f) = false

-- The line belongs to a run, by the fence above it: it stands outside fences and starts, after leading white space, with a pipe.
abbrev pub belongs : Option Fence → List ℕ → Bool
belongs f l = outside f && starts_with 124 (past is_whitespace l)

-- All the lines belong to one run.
abbrev pub all_belong : Option Fence → List (List ℕ) → Bool
all_belong f [] = true
all_belong f (l ∷ ls) = belongs f l && all_belong (fence_below f l) ls

-- The run that reaches the end: the longest end of the list whose lines all belong to one run.
abbrev pub run_at_end : Option Fence → List (List ℕ) → List (List ℕ)
run_at_end f [] = []
run_at_end f (l ∷ ls) = cond (belongs f l && all_belong (fence_below f l) ls) (l ∷ ls) (run_at_end (fence_below f l) ls)
