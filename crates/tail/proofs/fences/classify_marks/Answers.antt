use Rattle.std.proofs.Common.{sym, refl, ◌∙◌}
use Rattle.std.proofs.lemmas.Bool.{le-leb}
use Rattle.tail.proofs.Spelling.{blank_by}
use Rattle.tail.proofs.fences.classify_marks.Goals as goal

pub returns-then-is_empty : goal.returns-then-is_empty
returns-then-is_empty c =
    let s = c.split_marks-marks in
    let w = blank_by s.result.1.now c.trim_start.result.now _ _ c.trim_start.utf8 c.trim_start.ensures.trim c.is_empty.ensures c.if-is_empty.true in
    rw (← s.ensures.count, ← s.ensures.rest, le-leb 3 s.result.0 c.if-marks-lt-LEAST.false, w) refl

pub returns-then-may_precede : goal.returns-then-may_precede
returns-then-may_precede c =
    let s = c.split_marks-marks in
    let w = blank_by s.result.1.now c.trim_start.result.now _ _ c.trim_start.utf8 c.trim_start.ensures.trim c.is_empty.ensures c.if-is_empty.false in
    rw (← s.ensures.count, ← s.ensures.rest, le-leb 3 s.result.0 c.if-marks-lt-LEAST.false, w, sym c.may_precede.ensures ∙ c.if-may_precede.true) refl

pub returns-else-may_precede : goal.returns-else-may_precede
returns-else-may_precede c =
    let s = c.split_marks-marks in
    let w = blank_by s.result.1.now c.trim_start.result.now _ _ c.trim_start.utf8 c.trim_start.ensures.trim c.is_empty.ensures c.if-is_empty.false in
    rw (← s.ensures.count, ← s.ensures.rest, le-leb 3 s.result.0 c.if-marks-lt-LEAST.false, w, sym c.may_precede.ensures ∙ c.if-may_precede.false) refl
