use Rattle.std.proofs.Common.{Some, None}
use Rattle.words.proofs.Pieces.{words_split}
use Rattle.words.proofs.cursor.first_word.Goals as goal

pub returns-in-Some : goal.returns-in-Some
returns-in-Some c = words_split c.args.line.now (Some (c.in-Some.word, c.in-Some.after)) c.in-Some.ensures.cases

pub returns-in-None : goal.returns-in-None
returns-in-None c = words_split c.args.line.now None c.in-None.ensures.cases
