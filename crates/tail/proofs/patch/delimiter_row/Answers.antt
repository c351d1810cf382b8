use Rattle.std.proofs.Common.{◌≡◌, ◌+◌, ◌*◌, ◌++◌, length, take, drop, ap, arith}
use Rattle.std.proofs.lemmas.List.{length-take-le}
use Rattle.tail.proofs.Pastes.{row_by}
use Rattle.tail.proofs.patch.delimiter_row.Goals as goal

pub returns : goal.returns
returns c =
    let out = c.args.out.now in
    let m = 1 + 4 * c.args.cols in
    let n : length (take m out) ≡ 1 + 4 * c.args.cols = length-take-le m out c.requires in
    ap (λ l. l ++ drop m out) (row_by c.loop-k.byte-items c.args.cols (omega (arith, n)) (λ j h. c.loop-k.invariant j (omega (arith, n))))
