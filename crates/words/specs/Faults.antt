-- The words for what is wrong with a line.
use Rattle.std.specs.Prelude.{ℕ, List, codes}
use Rattle.words.specs.declared.faults.Fault.{Fault}
use Rattle.words.specs.declared.faults.Fault.TheVariants.{UnknownCommand, NotANumber, MissingNumber, TooLarge, TooWide, TooNarrow, TooManyColumns, NotBytes, MissingBytes, MissingName, UnknownName, TooManyWords, NotText, NoMemory}

-- What is printed of a fault.
abbrev pub fault_words : Fault → List ℕ
fault_words UnknownCommand = codes "unknown command"
fault_words NotANumber = codes "not a number"
fault_words MissingNumber = codes "a number is missing"
fault_words TooLarge = codes "a number is too large"
fault_words TooWide = codes "too wide"
fault_words TooNarrow = codes "too narrow"
fault_words TooManyColumns = codes "too many columns"
fault_words NotBytes = codes "not a byte string"
fault_words MissingBytes = codes "a byte string is missing"
fault_words MissingName = codes "a name is missing"
fault_words UnknownName = codes "unknown name"
fault_words TooManyWords = codes "too many words"
fault_words NotText = codes "not text"
fault_words NoMemory = codes "out of memory"
