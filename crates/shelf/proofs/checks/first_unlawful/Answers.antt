use Rattle.std.proofs.Common.{ℕ, ◌-◌, Bool, not, refl, sym, ◌∙◌, rules, tests}
use Rattle.std.proofs.lemmas.Iterator.{YieldsList-from_range}
use Rattle.std.proofs.lemmas.Iterator.Search.{find_from_yields_List}
use Rattle.std.proofs.lemmas.Iterator.Adapters.{option_map_id}
use Rattle.shelf.specs.Blocks.{block_lawful}
use Rattle.shelf.proofs.Lawful.{find-unlawful}
use Rattle.shelf.proofs.checks.first_unlawful.Goals as goal

pub returns : goal.returns
returns c =
    let bs = c.args.bytes.now in
    let w = c.args.sides.width in
    let h = c.args.sides.height in
    let bad : ℕ → Bool = λ b. not (block_lawful bs w h b) in
    record {
      value = sym (option_map_id c.find.result)
          ∙ find_from_yields_List bad _ _ _ c.find.ensures.ran (YieldsList-from_range 1 c.args.count (c.args.count - 1) refl refl) (λ x r q k. search (rules, tests))
          ∙ find-unlawful bs w h (c.args.count - 1) 1;
    }
