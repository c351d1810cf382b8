use Rattle.laws.proofs.Books.{settles}
use Rattle.laws.proofs.Runs.{counts_its_blocks, rows_are_even, texts_are_solid}
use Rattle.laws.proofs.load_laws.Goals as goal

pub returns : goal.returns
returns c = record {
  counts = counts_its_blocks;
  settling = λ ps. let k = settles ps in (k.glyphs, k.rows, k.tables, k.lines);
  even = rows_are_even;
  solid = texts_are_solid;
}
