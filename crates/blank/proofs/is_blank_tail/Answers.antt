use Rattle.blank.proofs.Whites.{tail_at}
use Rattle.blank.proofs.is_blank_tail.Goals as goal

pub returns : goal.returns
returns c = record { value = tail_at _ _ _ c.requires.blank c.is_char_boundary.ensures.test }
