-- What a ruler and a breaking rule of either kind mean.
use Rattle.glyphs.specs.Rulings.{Ruling, byte_ruling, utf8_ruling}
use Rattle.wrap_laws.specs.Breaks.{Breaking}
use Rattle.wrap_laws.specs.Rules.{cutting_break, word_break}
use Rattle.wrap_laws.proofs.CuttingLaws.{cutting_ordered, cutting_onward, cutting_narrow, cutting_spaces, cutting_fewer}
use Rattle.wrap_laws.proofs.WordLaws.{word_ordered, word_onward, word_narrow, word_spaces, word_fewer}
use Rattle.past_tests.specs.declared.either.EitherRuler.{EitherRuler}
use Rattle.past_tests.specs.declared.either.EitherRuler.TheVariants.{Bytes, Utf8}
use Rattle.past_tests.specs.declared.either.EitherRule.{EitherRule}
use Rattle.past_tests.specs.declared.either.EitherRule.TheVariants.{Words, Cutting}

-- The ruler.
abbrev pub ruling_of : EitherRuler → Ruling
ruling_of Bytes = byte_ruling
ruling_of Utf8 = utf8_ruling

-- The breaking rule.
abbrev pub breaking_of : EitherRule → Breaking
breaking_of Words = record { breaks = word_break; ordered = word_ordered; onward = word_onward; narrow = word_narrow; spaces = word_spaces; fewer = word_fewer }
breaking_of Cutting = record { breaks = cutting_break; ordered = cutting_ordered; onward = cutting_onward; narrow = cutting_narrow; spaces = cutting_spaces; fewer = cutting_fewer }
