use Rattle.std.proofs.Common.{arith}
use Rattle.markdown.specs.Sheets.{lent_of}
use Rattle.markdown.specs.Holds.{made_over}
use Rattle.markdown.specs.Views.{sheet_of, memory_of}
use Rattle.markdown.specs.Requests.{call_in, answer_in, IsAnswered}
use Rattle.markdown.proofs.Runs.{run_start, run_more, run_end}
use Rattle.markdown.proofs.Markdown.run.Goals as goal

pub loop-request-init : goal.loop-request-init
loop-request-init g c =
    run_start (call_in g.R.Ruler.meaning g.B.BreakingRule.meaning g.S.Surface.shows) (answer_in g.S.Surface.shows) (IsAnswered g.S.Surface.held g.S.Surface.rest g.S.Surface.lawful)
    (made_over (lent_of c.args.glyphs.now c.args.lines.now c.args.rows.now)) c.args.requests.now (sheet_of c.new-sheet.result) (memory_of c.new-sheet.result) c.new-sheet.ensures.past

pub loop-request-preserved : goal.loop-request-preserved
loop-request-preserved g c =
    run_more (call_in g.R.Ruler.meaning g.B.BreakingRule.meaning g.S.Surface.shows) (answer_in g.S.Surface.shows) (IsAnswered g.S.Surface.held g.S.Surface.rest g.S.Surface.lawful)
    (made_over (lent_of c.args.glyphs.now c.args.lines.now c.args.rows.now)) c.args.requests.now c.loop-request.requests c.loop-request.request-index (sheet_of c.loop-request.sheet) (sheet_of c.answer.new.self)
    (memory_of c.loop-request.sheet) (memory_of c.answer.new.self) c.request-item.result c.answer.new.request c.loop-request-test.true c.loop-request.auto.requests c.answer.ensures.kept c.answer.ensures.past.every c.loop-request.invariant

pub returns : goal.returns
returns g c =
    let end = run_end (call_in g.R.Ruler.meaning g.B.BreakingRule.meaning g.S.Surface.shows) (answer_in g.S.Surface.shows) (IsAnswered g.S.Surface.held g.S.Surface.rest g.S.Surface.lawful)
    (made_over (lent_of c.args.glyphs.now c.args.lines.now c.args.rows.now)) c.args.requests.now c.loop-request.requests c.loop-request.request-index (sheet_of c.loop-request.sheet) (memory_of c.loop-request.sheet)
    (omega (arith, c.loop-request-test.false)) c.loop-request.auto.requests c.loop-request.invariant in
    record { past = end.0; kept = end.1 }
