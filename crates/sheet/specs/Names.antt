-- What the names of a script stand for.
use Rattle.glyphs.specs.Rulings.{Ruling, byte_ruling, utf8_ruling}
use Rattle.sheet.specs.declared.texts.RulerName.{RulerName}
use Rattle.wrap_laws.specs.Breaks.{Breaking}
use Rattle.wrap_laws.specs.Rules.{cutting_break, word_break}
use Rattle.wrap_laws.proofs.CuttingLaws.{cutting_ordered, cutting_onward, cutting_narrow, cutting_spaces, cutting_fewer}
use Rattle.wrap_laws.proofs.WordLaws.{word_ordered, word_onward, word_narrow, word_spaces, word_fewer}
use Rattle.sheet.specs.declared.texts.RulerName.TheVariants.{Byte, Utf8}
use Rattle.sheet.specs.declared.texts.RuleName.{RuleName}
use Rattle.sheet.specs.declared.texts.RuleName.TheVariants.{Word, Cutting}

-- The ruler of a name.
abbrev pub ruling_of : RulerName → Ruling
ruling_of Byte = byte_ruling
ruling_of Utf8 = utf8_ruling

-- The breaking rule of a name.
abbrev pub breaking_of : RuleName → Breaking
breaking_of Word = record { breaks = word_break; ordered = word_ordered; onward = word_onward; narrow = word_narrow; spaces = word_spaces; fewer = word_fewer }
breaking_of Cutting = record { breaks = cutting_break; ordered = cutting_ordered; onward = cutting_onward; narrow = cutting_narrow; spaces = cutting_spaces; fewer = cutting_fewer }
