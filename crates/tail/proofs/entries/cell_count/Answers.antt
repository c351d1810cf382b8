use Rattle.std.proofs.Common.{◌≡◌, false, length, ap, arith}
use Rattle.std.specs.Str.Iter.{chars_rest}
use Rattle.std.specs.Str.{chars}
use Rattle.std.proofs.lemmas.Str.{IsUtf8-past_char}
use Rattle.tail.specs.Entries.{pieces, cell_count, undecorated}
use Rattle.tail.proofs.Spelling.{decodes_none, chars_fit}
use Rattle.tail.proofs.Pieces.{pieces_bounds, count_escape, count_pipe, count_other}
use Rattle.tail.proofs.entries.cell_count.Goals as goal

pub overflow_add-count : goal.overflow_add-count
overflow_add-count c =
    let t = chars_rest c.next.new.self in
    let l = c.undecorated.result.now in
    let whole = ap (λ x. length (pieces false x)) c.undecorated.ensures in
    omega (arith, c.loop-c.invariant.3, count_pipe (chars_rest c.loop-c.rest) t c.in-Some.c c.loop-c.invariant.2 c.in-Some.ensures.steps.0 c.in-124.is, pieces_bounds false (chars t), whole, pieces_bounds false (chars l), chars_fit l c.undecorated.utf8)

pub loop-c-preserved-in-92 : goal.loop-c-preserved-in-92
loop-c-preserved-in-92 c =
    let k = count_escape chars_rest c.next.new.self c.next-in-92.new.self (chars_rest c.loop-c.rest) c.in-Some.c c.next-in-92.result c.loop-c.invariant.2 c.in-Some.ensures.steps.0 c.in-92.is c.next-in-92.ensures.steps.0 in
    (tt, tt, k.0, omega (arith, c.loop-c.invariant.3, k.1))

pub loop-c-preserved-in-124 : goal.loop-c-preserved-in-124
loop-c-preserved-in-124 c =
    let s = chars_rest c.loop-c.rest in
    let t = chars_rest c.next.new.self in
    let u = c.loop-c.invariant.2 in
    let e = c.in-Some.ensures.steps.0 in
    (tt, tt, IsUtf8-past_char s t c.in-Some.c u e, omega (arith, c.loop-c.invariant.3, count_pipe s t c.in-Some.c u e c.in-124.is))

pub loop-c-preserved : goal.loop-c-preserved
loop-c-preserved c =
    let s = chars_rest c.loop-c.rest in
    let t = chars_rest c.next.new.self in
    let u = c.loop-c.invariant.2 in
    let e = c.in-Some.ensures.steps.0 in
    (tt, tt, IsUtf8-past_char s t c.in-Some.c u e, omega (arith, c.loop-c.invariant.3, count_other s t c.in-Some.c u e (λ q. omega arith) (λ q. omega arith)))

pub returns : goal.returns
returns c =
    let none = ap (λ l. length (pieces false l)) (decodes_none (chars_rest c.loop-c.rest) c.in_default.ensures.steps.0.0) in
    let v : c.loop-c.count ≡ cell_count (chars c.args.line.now) = omega (arith, c.loop-c.invariant.3, none) in
    record { value = v; bound = omega (arith, v, pieces_bounds false (undecorated (chars c.args.line.now))) }
