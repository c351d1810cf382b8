use Rattle.std.proofs.Common.{[], ◌∷◌, ap, ◌∙◌}
use Rattle.std.specs.Str.{bytes_eq}
use Rattle.std.proofs.lemmas.Slice.Eq.{bytes_eq-Decides}
use Rattle.std.proofs.lemmas.Bool.Decides.{Decides-at}
use Rattle.tail.proofs.Spelling.{trim_chars}
use Rattle.tail.proofs.Repairs.{lone_by}
use Rattle.tail.proofs.repair.lone_pipe.Goals as goal

pub returns : goal.returns
returns c =
    let t = c.trim in
    lone_by t.result.now c.eq.result t.utf8 (Decides-at c.eq.result (bytes_eq t.result.now (124 ∷ [])) c.eq.ensures (bytes_eq-Decides t.result.now (124 ∷ []))) ∙ ap (λ l. bytes_eq l (124 ∷ [])) (trim_chars c.args.line.now t.result.now c.utf8.line t.utf8 t.ensures.trim)
