use Rattle.std.proofs.Common.{eqb, ◌∙◌, rules}
use Rattle.std.proofs.lemmas.Iterator.Search.{all_from_yields_List}
use Rattle.std.proofs.lemmas.Iterator.Splits.{YieldsList-from_slice_split}
use borrow.Author.Tests.{tests}
use Rattle.checks.specs.Measures.{empty_or}
use Rattle.checks.proofs.Lines.{every_part_is_a_line}
use Rattle.checks.proofs.measure.admits_lines.Goals as goal

pub returns : goal.returns
returns g c =
    let a = (g.R.Ruler.meaning c.args.ruler.now).admits in
    record { value = all_from_yields_List (empty_or a) _ _ c.all.result c.all.ensures.ran (YieldsList-from_slice_split _ (λ b. eqb b 10) c.args.text.now c.split.ensures.rest c.split.ensures.done c.split.ensures.closure (λ x b q k. search (rules, tests))) (λ x b q k. search (rules, tests)) ∙ every_part_is_a_line a c.args.text.now }
