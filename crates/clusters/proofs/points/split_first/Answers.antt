use Rattle.std.proofs.Common.{◌+◌, ◌<◌, ◌≤◌, length, get_or, arith, rules}
use Rattle.std.specs.Str.{continuation_len}
use Rattle.std.proofs.lemmas.Bool.Decides.{nat_tests}
use Rattle.std.proofs.lemmas.List.{take_rest}
use Rattle.clusters.proofs.Decoding.{decodes_short, decodes_one, decodes_two, decodes_three, decodes_four}
use Rattle.clusters.proofs.points.split_first.Goals as goal

pub returns-in-len1-up : goal.returns-in-len1-up
returns-in-len1-up c =
    let s = c.args.bytes.now in
    let l : 1 ≤ length s = search rules in
    let e = decodes_one s l c.if-a-lt128.true in
    let t = take_rest s 1 in
    record { cases = cc; behind = (1, l, cc) }

pub returns-in-len2-up : goal.returns-in-len2-up
returns-in-len2-up c =
    let s = c.args.bytes.now in
    let l : 2 ≤ length s = search rules in
    let e = decodes_two s l (omega arith) c.if-a-lt224.true in
    let t = take_rest s 2 in
    record { cases = cc; behind = (2, l, cc) }

pub returns-in-len3-up : goal.returns-in-len3-up
returns-in-len3-up c =
    let s = c.args.bytes.now in
    let l : 3 ≤ length s = search rules in
    let e = decodes_three s l (omega arith) c.if-a-lt240.true in
    let t = take_rest s 3 in
    record { cases = cc; behind = (3, l, cc) }

pub returns-in-len4-up : goal.returns-in-len4-up
returns-in-len4-up c =
    let s = c.args.bytes.now in
    let l : 4 ≤ length s = search rules in
    let e = decodes_four s l (omega arith) in
    let t = take_rest s 4 in
    record { cases = cc; behind = (4, l, cc) }

pub returns-in_default : goal.returns-in_default
returns-in_default c =
    let s = c.args.bytes.now in
    let l : length s < 1 + continuation_len (get_or s 0 0) = grind (arith, nat_tests) in
    record { cases = decodes_short s l; behind = tt }
