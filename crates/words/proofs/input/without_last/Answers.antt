use Rattle.std.proofs.Common.{ℕ, List, [], ◌∷◌, ap, ◌∙◌, Bor}
use Rattle.std.proofs.lemmas.Slice.Eq.{strip_suffix_is}
use Rattle.words.proofs.Ends.{without_stripped}
use Rattle.words.proofs.input.without_last.Goals as goal
use Rattle.std.proofs.lemmas.Bool.Decides.{Decides-eqb}

pub returns : goal.returns
returns c =
    ap (λ (x : Bor (List ℕ)). x.now) c.unwrap_or.ensures
    ∙ without_stripped c.args.end c.args.bytes c.strip_suffix.result (strip_suffix_is Decides-eqb c.args.bytes.now (c.args.end ∷ []) c.strip_suffix.result c.strip_suffix.ensures.cases)
