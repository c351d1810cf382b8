use Rattle.std.proofs.Common.{sym, ap, ◌∙◌}
use Rattle.words.specs.Bytes.{ended}
use Rattle.words.specs.Pieces.{words_in}
use Rattle.words.proofs.Hex.{never_ended}
use Rattle.words.proofs.cursor.Words.end.Goals as goal

pub returns-in-Some : goal.returns-in-Some
returns-in-Some c = never_ended c.in-Some.field-0.now ∙ sym (ap (λ o. ended (words_in o)) c.in-Some.is)
