use Rattle.std.proofs.Common.{◌≡◌, length, fold}
use Rattle.stack.specs.Stacks.{held, room}
use Rattle.events.specs.Cursors.{left}
use Rattle.fold.specs.Steps.{stepped, begun, state_of}
use Rattle.fold.proofs.load.Load.run.Given as goal

abbrev pub invariant-loop-event : goal.invariant-loop-event
invariant-loop-event g l =
    let step = stepped (g.R.Ruler.meaning l.self.ruler.now) l.self.styles.now l.self.text.now l.self.source.now 65 in
    (room l.tags.stack ≡ 65) × (l.cursor.text.now ≡ l.self.text.now)
    × (fold step (state_of l.records l.tags.mode (held l.tags.stack)) (left l.cursor) ≡ fold step (begun l.self.styles.now l.initial.records) l.self.events.now)

abbrev pub decreases-loop-event : goal.decreases-loop-event
decreases-loop-event g l = length (left l.cursor)
