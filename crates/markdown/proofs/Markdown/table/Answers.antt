use Rattle.std.proofs.Common.{◌≡◌, Ok, rules, arith}
use Rattle.markdown.specs.declared.tables.TableLayout.{TableLayout}
use Rattle.markdown.specs.Views.{sheet_of, memory_of}
use Rattle.markdown.specs.Tables.{table_answered, table_placed}
use Rattle.markdown.proofs.Lives.{question_lives, table_ends}
use Rattle.markdown.proofs.GoesOn.{goes_on}
use Rattle.markdown.proofs.Fits.{table_fits}
use Rattle.markdown.proofs.Markdown.table.Goals as goal

pub overflow_cast-layout : goal.overflow_cast-layout
overflow_cast-layout g c =
    let fits = table_fits (g.R.BreakingRule.meaning c.args.rule.now) c.args.width c.args.self.now.streaming c.args.self.now.records c.args.number
    c.table_at.result c.in_ok-info.info c.in_ok-info.rows c.layout_table-height.result.1
    c.layout_table-height.ensures.rows c.in_ok-info.ensures.ok_part c.table_at.ensures.value c.args.self.now.low in
    omega (arith, fits)

pub returns-in_err-info-clause-number : goal.returns-in_err-info-clause-number
returns-in_err-info-clause-number g c =
    let answer : c.from_residual.result ≡ table_answered c.args.number (sheet_of c.args.self.now) = search rules in
    table_ends c.args.number (sheet_of c.args.self.now) c.from_residual.result answer

pub returns-clause-number : goal.returns-clause-number
returns-clause-number g c =
    let answer : Ok tt ≡ table_answered c.args.number (sheet_of c.args.self.now) = search rules in
    table_ends c.args.number (sheet_of c.args.self.now) (Ok tt) answer

pub returns-in_err-info-clause-past : goal.returns-in_err-info-clause-past
returns-in_err-info-clause-past g c =
    let m = c.args.self.now in
    let b = g.R.BreakingRule.meaning c.args.rule.now in
    let answer : c.from_residual.result ≡ table_answered c.args.number (sheet_of m) = search rules in
    let after : c.args.layout.now ≡ table_placed b c.args.number c.args.width (sheet_of m) c.args.layout.now = search rules in
    goes_on m m m.lived (λ p law. question_lives p (sheet_of m) (memory_of m) law b c.args.number c.args.width c.args.layout.now c.args.layout.now c.from_residual.result answer after)

pub returns-clause-past : goal.returns-clause-past
returns-clause-past g c =
    let m = c.args.self.now in
    let b = g.R.BreakingRule.meaning c.args.rule.now in
    let new : TableLayout = record { columns = c.layout_table-height.result.0; rows = c.layout_table-height.result.1 } in
    let answer : Ok tt ≡ table_answered c.args.number (sheet_of m) = search rules in
    let after : new ≡ table_placed b c.args.number c.args.width (sheet_of m) c.args.layout.now = search rules in
    goes_on m m m.lived (λ p law. question_lives p (sheet_of m) (memory_of m) law b c.args.number c.args.width c.args.layout.now new (Ok tt) answer after)
