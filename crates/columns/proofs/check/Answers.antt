use Rattle.std.proofs.Common.{◌≡◌, sym, ap, ◌∙◌, rules, nat_lt}
use borrow.Author.Tests.{tests}
use Rattle.std.proofs.lemmas.Iterator.{YieldsList-from_slice}
use Rattle.std.proofs.lemmas.Iterator.Search.{position_from_yields_List}
use Rattle.columns.specs.Layout.{answered}
use Rattle.columns.proofs.Checks.{told, answered_by}
use Rattle.columns.proofs.check.Goals as goal
use Rattle.columns.proofs.check.Goals.{After-position}

answer : (c : After-position) → told c.position.result ≡ answered c.args.given.now
answer c =
    answered_by c.args.given.now c.if-given-gt-MAX_COLUMNS.false
    (position_from_yields_List (nat_lt 100000) _ _ c.position.result c.position.ensures.ran (YieldsList-from_slice c.args.given.now cc) (λ x b q k. search (rules, tests)))

pub returns-in-Some : goal.returns-in-Some
returns-in-Some c = ap told (sym c.in-Some.is) ∙ answer (goal.at.returns-in-Some c).After-position

pub returns-in-None : goal.returns-in-None
returns-in-None c = ap told (sym c.in-None.is) ∙ answer (goal.at.returns-in-None c).After-position
