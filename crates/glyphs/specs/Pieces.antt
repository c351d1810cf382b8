-- What a cut of the code shows.
use Rattle.clusters.specs.Cuts.{Cut}
use Rattle.glyphs.specs.declared.cuts.Cut.{Cut as CutOut}

-- The bytes and the width of a cluster cut out of a text.
abbrev pub piece : CutOut → Cut
piece c = record { bytes = c.bytes.now; width = c.width }
