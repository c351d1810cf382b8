use Rattle.std.proofs.Common.{◌≡◌, rules}
use Rattle.markdown.specs.Views.{sheet_of, memory_of}
use Rattle.markdown.specs.Tables.{height_of}
use Rattle.markdown.proofs.Lives.{height_lives}
use Rattle.markdown.proofs.GoesOn.{goes_on}
use Rattle.markdown.proofs.Markdown.height.Goals as goal

pub returns-then-width-eq0-clause-past : goal.returns-then-width-eq0-clause-past
returns-then-width-eq0-clause-past g c =
    let m = c.args.self.now in
    let b = g.R.BreakingRule.meaning c.args.rule.now in
    let value : 0 ≡ height_of b c.args.width (sheet_of m) = search rules in
    goes_on m m m.lived (λ p law. height_lives p (sheet_of m) (memory_of m) law b c.args.width 0 value)

pub returns-clause-past : goal.returns-clause-past
returns-clause-past g c =
    let m = c.args.self.now in
    let b = g.R.BreakingRule.meaning c.args.rule.now in
    let value : c.total_rows.result ≡ height_of b c.args.width (sheet_of m) = search rules in
    goes_on m m m.lived (λ p law. height_lives p (sheet_of m) (memory_of m) law b c.args.width c.total_rows.result value)
