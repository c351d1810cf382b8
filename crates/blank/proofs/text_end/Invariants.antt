use Rattle.std.proofs.Common.{length}
use Rattle.clusters.specs.Texts.{is_text}
use Rattle.blank.specs.Ends.{HoldsEnds}
use Rattle.blank.proofs.text_end.Given as goal

abbrev pub invariant-loop-text : goal.invariant-loop-text
invariant-loop-text l = HoldsEnds is_text l.bytes l.rest

abbrev pub decreases-loop-text : goal.decreases-loop-text
decreases-loop-text l = length l.rest
