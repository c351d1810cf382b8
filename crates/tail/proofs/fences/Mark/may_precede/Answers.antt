use Rattle.std.proofs.Common.{not, IsUtf8, sym, ap, ◌∙◌, rules}
use Rattle.std.specs.Str.{chars}
use Rattle.tail.specs.Fences.{may_follow}
use Rattle.tail.proofs.Spelling.{contains_chars}
use Rattle.tail.proofs.fences.Mark.may_precede.Goals as goal

pub returns-in-Backtick : goal.returns-in-Backtick
returns-in-Backtick c =
    let t = c.args.text.now in
    let u : IsUtf8 t = search rules in
    ap not (contains_chars 96 t c.contains.result u c.contains.ensures.cases) ∙ sym (ap (λ m. may_follow m (chars t)) c.in-Backtick.is)
