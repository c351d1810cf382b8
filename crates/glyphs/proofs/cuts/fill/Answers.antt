use Rattle.std.proofs.Common.{arith}
use Rattle.std.proofs.lemmas.Grind.{common_steps}
use Rattle.std.proofs.lemmas.List.{take-replicate, length-replicate, drop-drop}
use Rattle.glyphs.proofs.cuts.fill.Goals as goal

pub returns-then-n-gt0-clause-after : goal.returns-then-n-gt0-clause-after
returns-then-n-gt0-clause-after c =
    let e = c.fill.ensures.after (λ y h. h) in
    grind (arith, common_steps, take-replicate, length-replicate, drop-drop)
