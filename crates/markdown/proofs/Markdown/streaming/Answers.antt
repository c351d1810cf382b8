use Rattle.std.proofs.Math.Logic.{∥∥₁_map}
use Rattle.markdown.specs.Views.{sheet_of, memory_of}
use Rattle.markdown.proofs.Lives.{switch_lives}
use Rattle.markdown.proofs.GoesOn.{goes_on}
use Rattle.markdown.proofs.Markdown.streaming.Goals as goal

pub returns-clause-past : goal.returns-clause-past
returns-clause-past c = goes_on _ _ c.args.self.now.lived (λ p law. switch_lives p (sheet_of c.args.self.now) (memory_of c.args.self.now) law c.args.on)

pub invariant_of-self-clause-lived : goal.invariant_of-self-clause-lived
invariant_of-self-clause-lived c =
    let m = c.args.self.now in
    ∥∥₁_map m.lived (λ h. (_, switch_lives h.0 (sheet_of m) (memory_of m) h.1 c.args.on))
