-- What a sheet looks like.
use Rattle.std.specs.Prelude.{ℕ, List}
use Rattle.wrap_laws.specs.Breaks.{Breaking}
use Rattle.drawings.specs.Strokes.{Stroke}
use Rattle.drawings.specs.Drawings.{drawing}
use Rattle.markdown.specs.Sheets.{Sheet}

-- The drawing of a sheet on a page of width w.
abbrev pub picture : Breaking → ℕ → Sheet → List Stroke
picture b w s = drawing b w s.streaming s.border s.blocks
