-- A line as it is read, and what is printed for one that cannot be read.
use Rattle.std.specs.Prelude.{ℕ, cond, List, [], ◌∷◌, ◌++◌, codes, decimal, ◌==◌}
use Rattle.words.specs.declared.faults.Fault.{Fault}
use Rattle.words.specs.Faults.{fault_words}

-- A list without its last byte where that is c.
abbrev pub without : ℕ → List ℕ → List ℕ
without c [] = []
without c (b ∷ []) = cond (b == c) [] (b ∷ [])
without c (b ∷ d ∷ bs) = b ∷ without c (d ∷ bs)

-- What stands in a line: its line feed is no part of it, nor is one carriage return before that.
abbrev pub body : List ℕ → List ℕ
body raw = without 13 (without 10 raw)

-- What is printed for a line that cannot be read: its number and what is wrong.
abbrev pub trouble_line : ℕ → Fault → List ℕ
trouble_line number fault = codes "line " ++ (decimal number ++ (codes ": " ++ fault_words fault))
