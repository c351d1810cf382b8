use Rattle.std.proofs.Common.{rules}
use Rattle.wrap_laws.proofs.WordLaws.{word_unbroken}
use Rattle.wrap.proofs.WordRuleBreakingRule.break_row.Goals as goal

pub returns-in-None : goal.returns-in-None
returns-in-None c =
    record {
      value = word_unbroken c.args.line.now c.args.width c.args.start c.first_misfit-misfit.result c.first_misfit-misfit.ensures.value
          (search rules) (search rules) c.in-None.ensures.cases;
    }
