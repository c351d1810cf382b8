use Rattle.std.proofs.Common.{◌≡◌, ◌+◌, ◌*◌, eqb, sym, refl, ap, ◌∙◌, arith}
use Rattle.std.specs.Cmp.Lexicographic.{pointwise}
use Rattle.shelf.specs.Bytes.{every, tail_bytes}
use Rattle.shelf.specs.Blocks.{slot_lawful}
use Rattle.shelf.proofs.Tests.{every-none, every_more}
use Rattle.shelf.proofs.Lawful.{cell_test, block_not, block_tail}
use Rattle.shelf.proofs.Slots.{slot_lawful-cut, holds-cut}
use Rattle.shelf.proofs.checks.block_lawful.Goals.{After-slot_lawful}
use Rattle.shelf.proofs.checks.block_lawful.Goals as goal

tested : (c : After-slot_lawful) → c.slot_lawful.result ≡ cell_test c.args.bytes.now (c.args.sides.width * c.args.sides.height) c.args.b c.loop-i.i
tested c =
    let bs = c.args.bytes.now in
    let b = c.args.b in
    let i = c.loop-i.i in
    c.slot_lawful.ensures.value
    ∙ slot_lawful-cut bs (512 * b + 16 * i) c.slot_at-slot.result c.cells.result (31 * b + i) (omega arith) c.slot_at-slot.ensures.value
    ∙ ap (λ n. slot_lawful bs n (31 * b + i) (512 * b + 16 * i)) c.cells.ensures.value

pub loop-i-init : goal.loop-i-init
loop-i-init c = every-none (cell_test c.args.bytes.now (c.args.sides.width * c.args.sides.height) c.args.b)

pub returns-then-not-slot_lawful : goal.returns-then-not-slot_lawful
returns-then-not-slot_lawful c =
    let at = goal.at.returns-then-not-slot_lawful c in
    record {
      value = sym (block_not c.args.bytes.now c.args.sides.width c.args.sides.height c.args.b c.loop-i.i c.loop-i-test.true
          (sym (tested at.After-slot_lawful) ∙ c.if-not-slot_lawful.true));
    }

pub loop-i-preserved : goal.loop-i-preserved
loop-i-preserved c =
    every_more c.loop-i.i (cell_test c.args.bytes.now (c.args.sides.width * c.args.sides.height) c.args.b) c.loop-i.invariant
    (sym (tested (goal.at.loop-i-preserved c).After-slot_lawful) ∙ c.if-not-slot_lawful.false)

pub returns : goal.returns
returns c =
    let bs = c.args.bytes.now in
    let b = c.args.b in
    let w = c.args.sides.width in
    let h = c.args.sides.height in
    let cut = c.slot_at.result in
    let end : c.loop-i.i ≡ 31 = omega arith in
    record {
      value = block_tail bs w h b c.eq.result
          (ap (λ n. every n (cell_test bs (w * h) b)) (sym end) ∙ c.loop-i.invariant)
          (holds-cut bs (512 * b + 496) cut (tail_bytes b w h) c.eq.result (omega arith) c.slot_at.ensures.value refl
          (c.eq.ensures ∙ ap (λ l. pointwise eqb cut l) c.tail_bytes.ensures.value));
    }
