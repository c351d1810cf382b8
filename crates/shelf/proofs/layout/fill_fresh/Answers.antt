use Rattle.std.proofs.Common.{length, get_or, set, ap, ◌∙◌, arith}
use Rattle.std.proofs.lemmas.List.FromFn.{fill_by_all}
use Rattle.std.proofs.lemmas.List.Edits.{fill_by_more}
use Rattle.page.specs.Cells.{fresh}
use Rattle.shelf.specs.Blocks.{shelf_byte}
use Rattle.shelf.proofs.layout.fill_fresh.Goals as goal

pub loop-k-init : goal.loop-k-init
loop-k-init c = λ j l. absurd (omega arith)

pub loop-k-preserved : goal.loop-k-preserved
loop-k-preserved c =
    let f = shelf_byte c.args.sides.width c.args.sides.height (λ _. fresh) in
    λ j l. ap (λ v. get_or (set c.loop-k.bytes c.loop-k.k v) j 0) c.fresh_byte.ensures.value
    ∙ fill_by_more f c.loop-k.bytes c.loop-k.k 0 (omega arith) c.loop-k.invariant j l

pub returns : goal.returns
returns c =
    record {
      after = fill_by_all (shelf_byte c.args.sides.width c.args.sides.height (λ _. fresh)) c.loop-k.bytes (length c.args.bytes.now) 0
          c.loop-k.auto.bytes (λ k l. c.loop-k.invariant k (omega arith));
    }
