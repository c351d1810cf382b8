-- Where the entries of a column stand.
use Rattle.std.specs.Prelude.{ℕ, ◌*◌, ◌^◌, ◌/◌, ◌%◌, cond, ◌==◌}
use Rattle.records.specs.declared.kinds.Info.{Info}
use Rattle.records.specs.declared.kinds.Alignment.{Alignment}
use Rattle.records.specs.declared.kinds.Alignment.TheVariants.{Left, Centre, Right}

-- Bits 2i and 2i + 1 for column i.
abbrev pub bits : Info → ℕ → ℕ
bits i column = (i.alignments / 2 ^ (2 * column)) % 4

-- What the two bits of a column say: 2 centre, 3 right, else left.
abbrev pub alignment : Info → ℕ → Alignment
alignment i column = cond (bits i column == 2) Centre (cond (bits i column == 3) Right Left)
