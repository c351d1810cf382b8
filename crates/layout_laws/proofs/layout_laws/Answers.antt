use Rattle.layout_laws.proofs.Natural.{columns_hold_their_entries, columns_are_no_wider}
use Rattle.layout_laws.proofs.layout_laws.Goals as goal

pub returns : goal.returns
returns c = record { held = columns_hold_their_entries; bound = columns_are_no_wider }
