use Rattle.std.proofs.Common.{ap, ◌∙◌, List, ℕ, Bor}
use Rattle.std.specs.Str.{chars}
use Rattle.std.proofs.lemmas.Str.Pattern.{strip_prefix_char}
use Rattle.tail.proofs.Ends.{prefix_or}
use Rattle.tail.proofs.texts.without_first.Goals as goal

pub returns : goal.returns
returns c =
    ap (λ (x : Bor (List ℕ)). chars x.now) c.unwrap_or.ensures ∙ prefix_or c.args.c c.requires c.args.text c.strip_prefix.result c.utf8.text (strip_prefix_char c.args.c c.args.text.now c.strip_prefix.result c.strip_prefix.ensures.cases c.requires)
