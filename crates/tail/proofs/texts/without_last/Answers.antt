use Rattle.std.proofs.Common.{ap, ◌∙◌, List, ℕ, Bor}
use Rattle.std.specs.Str.{chars}
use Rattle.std.proofs.lemmas.Str.Pattern.{strip_suffix_char}
use Rattle.tail.proofs.Ends.{suffix_or}
use Rattle.tail.proofs.texts.without_last.Goals as goal

pub returns : goal.returns
returns c =
    ap (λ (x : Bor (List ℕ)). chars x.now) c.unwrap_or.ensures ∙ suffix_or c.args.c c.requires c.args.text c.strip_suffix.result c.utf8.text (strip_suffix_char c.args.c c.args.text.now c.strip_suffix.result c.strip_suffix.ensures.cases c.requires)
