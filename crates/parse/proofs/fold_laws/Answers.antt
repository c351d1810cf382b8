use Rattle.parse.proofs.Programs.{fold_shows, fold_front, fold_counts}
use Rattle.parse.proofs.fold_laws.Goals as goal

pub returns : goal.returns
returns c = record { shows = fold_shows; front = fold_front; counts = fold_counts }
