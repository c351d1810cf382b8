use Rattle.std.proofs.Common.{◌≡◌, ◌<◌, true, length, sym, ap, ◌∙◌, arith, false-eqb}
use Rattle.std.specs.Str.{all_ascii_digits}
use Rattle.words.proofs.Numerals.{parsed_ok, parsed_err, number_within, number_beyond}
use Rattle.words.proofs.numbers.number.Goals as goal
use Rattle.words.proofs.numbers.number.Goals.{After-parse}

digits : (c : After-parse) → all_ascii_digits c.args.word.now ≡ true
digits c = ap all_ascii_digits (sym c.as_bytes.ensures.value) ∙ sym c.if-not-all_digits.ensures

some : (c : After-parse) → 0 < length c.args.word.now
some c = omega (arith, false-eqb _ 0 c.if-is_empty.ensures)

pub returns-in-Ok-clause-value : goal.returns-in-Ok-clause-value
returns-in-Ok-clause-value c =
    let a = (goal.at.returns-in-Ok-clause-value c).After-parse in
    let same = parsed_ok c.args.word.now c.parse.result c.in-Ok.n c.parse.ensures.value.0 (digits a) c.in-Ok.is in
    sym (number_within c.args.most c.args.above c.in-Ok.n c.args.word.now (digits a) (some a) same c.if-n-most.true)

pub returns-in_default-clause-value : goal.returns-in_default-clause-value
returns-in_default-clause-value c =
    let a = (goal.at.returns-in_default-clause-value c).After-parse in
    let same = parsed_ok c.args.word.now c.parse.result c.in-Ok.n c.parse.ensures.value.0 (digits a) c.in-Ok.is in
    sym (number_beyond c.args.most c.args.above c.args.word.now (digits a) (some a) (omega (arith, same, c.if-n-most.false)))

pub returns-in_default-2-clause-value : goal.returns-in_default-2-clause-value
returns-in_default-2-clause-value c =
    let a = (goal.at.returns-in_default-2-clause-value c).After-parse in
    let big = parsed_err c.args.word.now c.parse.result c.in_default.field-0 c.parse.ensures.value.0 (digits a) (some a) c.in_default.is in
    sym (number_beyond c.args.most c.args.above c.args.word.now (digits a) (some a) (omega (arith, big, c.ranges.most)))
