use Rattle.blocks.proofs.Shows.{memory_shows, front_shows}
use Rattle.blocks.proofs.memory_shows_draft.Goals as goal

pub returns : goal.returns
returns c = record { value = memory_shows; front = front_shows }
