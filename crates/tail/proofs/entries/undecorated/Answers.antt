use Rattle.std.proofs.Common.{ap, ◌∙◌}
use Rattle.tail.specs.Texts.{without_first}
use Rattle.tail.specs.Entries.{without_last_pipe}
use Rattle.tail.proofs.Spelling.{trim_chars}
use Rattle.tail.proofs.entries.undecorated.Goals as goal

pub returns : goal.returns
returns c =
    c.without_last_pipe.ensures ∙ ap without_last_pipe (c.without_first.ensures ∙ ap (without_first 124) (trim_chars c.args.line.now c.trim.result.now c.utf8.line c.trim.utf8 c.trim.ensures.trim))
