use Rattle.drawing_laws.proofs.Borders.{borders_stand}
use Rattle.drawing_laws.proofs.Bits.{columns_by_bits}
use Rattle.drawing_laws.proofs.drawing_laws.Goals as goal

pub returns : goal.returns
returns c = record { borders = borders_stand; bits = columns_by_bits }
