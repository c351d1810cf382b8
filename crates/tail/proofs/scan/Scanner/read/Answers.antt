use Rattle.std.proofs.Common.{sym, ap, ◌∙◌, subst}
use Rattle.std.specs.Str.{chars}
use Rattle.tail.specs.Scanning.{Sound, stepped}
use Rattle.tail.proofs.Steps.{fence_by_class, below_sound}
use Rattle.tail.proofs.scan.Scanner.read.Goals as goal

pub returns-clause-fence : goal.returns-clause-fence
returns-clause-fence c = c.fence_below.ensures ∙ (ap (stepped c.args.self.fence) c.classify-class.ensures ∙ fence_by_class c.args.self.fence (chars c.args.line.now) c.requires)

pub returns-clause-sound : goal.returns-clause-sound
returns-clause-sound c = subst Sound (sym (c.fence_below.ensures ∙ (ap (stepped c.args.self.fence) c.classify-class.ensures ∙ fence_by_class c.args.self.fence (chars c.args.line.now) c.requires))) (below_sound c.args.self.fence (chars c.args.line.now) c.requires)
