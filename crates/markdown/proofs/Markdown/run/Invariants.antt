use Rattle.markdown.specs.Sheets.{lent_of}
use Rattle.markdown.specs.Holds.{made_over}
use Rattle.markdown.specs.Views.{sheet_of, memory_of}
use Rattle.markdown.specs.Requests.{call_in, answer_in, IsAnswered}
use Rattle.markdown.proofs.Runs.{Run}
use Rattle.markdown.proofs.Markdown.run.Given as goal

abbrev pub invariant-loop-request : goal.invariant-loop-request
invariant-loop-request g l =
    Run (call_in g.R.Ruler.meaning g.B.BreakingRule.meaning g.S.Surface.shows) (answer_in g.S.Surface.shows) (IsAnswered g.S.Surface.held g.S.Surface.rest g.S.Surface.lawful) (made_over (lent_of l.fn.glyphs l.fn.lines l.fn.rows))
    l.fn.requests l.requests l.request-index (sheet_of l.sheet) (memory_of l.sheet)
