use Rattle.std.proofs.Common.{◌≡◌, ◌++◌, Ok, vec_items}
use Rattle.words.specs.Outcomes.{and_then}
use Rattle.words.specs.Pieces.{words_left}
use Rattle.script.specs.Shares.{naturals_in}
use Rattle.script.proofs.columns_command.read_naturals.Given as goal

abbrev pub invariant-loop-word : goal.invariant-loop-word
invariant-loop-word l = record {
  can : (goal.iterator-loop-word).can_next l.word-iterator;
  ends : (goal.iterator-loop-word).is_finite l.word-iterator;
  read : naturals_in (words_left l.fn.words) ≡ and_then (naturals_in (words_left l.word-iterator)) (λ ns. Ok (vec_items l.natural ++ ns));
}
