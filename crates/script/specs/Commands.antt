-- What a line asks for, and what is printed for it.
use Rattle.std.specs.Prelude.{ℕ, Bool, true, cond, List, [], ◌∷◌, Some, None, Ok, Err, codes, Option, Result, ◌==◌}
use Rattle.std.specs.Str.{bytes_eq}
use Rattle.script.specs.declared.Command.{Command}
use Rattle.script.specs.declared.Command.TheVariants as command
use Rattle.words.specs.declared.faults.Fault.{Fault}
use Rattle.words.specs.declared.faults.Fault.TheVariants.{UnknownCommand}
use Rattle.words.specs.Outcomes.{and_then}
use Rattle.words.specs.Pieces.{words_of}
use Rattle.script.specs.Shares as shares

-- What a line asks for, with the numbers that it says.
pub data Request : Type 0 where
  nothing : Request
  columns : shares.Asked → Request

-- What a command that was read asks for.
abbrev pub asks_for : Command → Request
asks_for (command.Columns c) = columns (shares.asked c)

-- The same where a line may ask for nothing.
abbrev pub request : Option Command → Request
request None = nothing
request (Some c) = asks_for c

-- An empty line and a line that begins with `#` ask for nothing.
abbrev pub is_quiet : List ℕ → Bool
is_quiet [] = true
is_quiet (c ∷ cs) = c == 35

-- What a table has under a word, or what is given for a word that it lacks.
abbrev pub found : {X : Type 0} → List ℕ → List (List ℕ × X) → X → X
found word [] other = other
found word (row ∷ rows) other = cond (bytes_eq word row.0) row.1 (found word rows other)

-- The commands by their names, and how each reads the words behind its name.
abbrev pub commands : List (List ℕ × (List (List ℕ) → Result Request Fault))
commands = (codes "columns", λ ws. and_then (shares.columns_in ws) (λ a. Ok (columns a))) ∷ []

-- The first word names the command.
abbrev pub by_name : List (List ℕ) → Result Request Fault
by_name [] = Err UnknownCommand
by_name (w ∷ ws) = found w commands (λ _. Err UnknownCommand) ws

-- What a line asks for, or why it cannot be read.
abbrev pub request_in : List ℕ → Result Request Fault
request_in line = cond (is_quiet line) (Ok nothing) (by_name (words_of line))

-- What is printed for a request: nothing, or one line.
abbrev pub answer_to : Request → Result (Option (List ℕ)) Fault
answer_to nothing = Ok None
answer_to (columns a) = and_then (shares.shares_answer a) (λ line. Ok (Some line))

-- What is printed for a line, or why it cannot be read.
abbrev pub answer_in : List ℕ → Result (Option (List ℕ)) Fault
answer_in line = and_then (request_in line) answer_to
