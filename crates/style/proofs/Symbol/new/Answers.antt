use Rattle.std.proofs.Common.{length, ap, ◌∙◌, rules}
use Rattle.style.proofs.Symbols.{unpacked-packed}
use Rattle.style.specs.Symbols.{unpacked}
use Rattle.style.proofs.Symbol.new.Goals as goal

pub returns-clause-back : goal.returns-clause-back
returns-clause-back c = ap (unpacked (length c.args.text.now)) c.pack.ensures ∙ unpacked-packed c.args.text.now (λ i. search rules)
