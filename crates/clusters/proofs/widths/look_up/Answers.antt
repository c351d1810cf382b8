use Rattle.std.proofs.Common.{◌≡◌, ◌<◌, length, sym, rules, arith, ⊎_elim, ◌∙◌}
use Rattle.std.proofs.lemmas.Bool.{cases_lt}
use Rattle.std.proofs.lemmas.Fn.{always_returns_same}
use Rattle.clusters.specs.Widths.{standing}
use Rattle.clusters.proofs.Ranges.{standing_rises, looked_found, looked_missed}
use Rattle.clusters.proofs.widths.look_up.Goals as goal

pub returns-in-Ok : goal.returns-in-Ok
returns-in-Ok c =
    let h = c.in-Ok.ensures.position (standing c.args.code) (always_returns_same _ (λ a r. r ≡ standing c.args.code a.0.now) _ (λ a r q k. search rules)) in
    let l : c.in-Ok.i < length c.args.ranges.now = c.in-Ok.ensures.bound in
    record { value = sym (looked_found 0 c.args.code c.in-Ok.i c.args.ranges.now (0, 0, 0) c.requires l (h (0, 0, 0))) }

pub returns-in-Err : goal.returns-in-Err
returns-in-Err c =
    let h = c.in-Err.ensures.position (standing c.args.code) (always_returns_same _ (λ a r. r ≡ standing c.args.code a.0.now) _ (λ a r q k. search rules)) (standing_rises 0 c.args.code c.args.ranges.now c.requires) in
    record {
      value = sym (looked_missed c.args.code c.args.ranges.now (λ i d l e. ⊎_elim (λ b. absurd (let u = sym e ∙ h.0 i d (omega arith) b in cc)) (λ b. absurd (let u = sym e ∙ h.1 i d b l in cc)) (cases_lt i c.in-Err.field-0)));
    }
