use Rattle.std.proofs.Common.{◌≡◌, Ok, length, rules}
use Rattle.markdown.specs.Answers.{answered}
use Rattle.markdown.proofs.Fronts.{load_front}
use Rattle.markdown.proofs.loading.refill.Goals as goal

pub returns-clause-front : goal.returns-clause-front
returns-clause-front g c always =
    let given = c.args.load.now in
    let m = c.args.records.now in
    let r = g.R.Ruler.meaning given.ruler.now in
    let admitted : answered r given.styles.now given.text.now given.source.now given.events.now (length m.glyphs) (length m.lines) (length m.rows) ≡ Ok tt = search rules in
    load_front r given.styles.now given.text.now given.source.now given.events.now m.glyphs m.lines m.rows c.fill.new.records c.fill.ensures.after admitted
