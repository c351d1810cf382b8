use Rattle.std.proofs.Common.{◌≡◌, true, false, cond, length, is_some, sym, ap, ◌∙◌, subst, ⊎_elim, arith}
use Rattle.std.proofs.lemmas.Bool.{cases_Bool}
use Rattle.page.specs.declared.sides.Sides.{Sides}
use Rattle.page.specs.Rows.{fits}
use Rattle.shelf.specs.Blocks.{shelf_length, wide_of, high_of, fault, no_sides, Lawful}
use Rattle.shelf.proofs.Opened.{whole, is_opened, is_refused}
use Rattle.shelf.proofs.Shelf.open.Goals.{After-opened_or_none-width}
use Rattle.shelf.proofs.Shelf.open.Goals as goal

module _ (c : After-opened_or_none-width) where
  opened : is_some (fault c.args.bytes.now) ≡ false → c.opened_or_none-width.result ≡ record { width = wide_of c.args.bytes.now; height = high_of c.args.bytes.now }
  opened f = c.opened_or_none-width.ensures.value ∙ is_opened _ _ (fault c.args.bytes.now) f

  refused : is_some (fault c.args.bytes.now) ≡ true → c.opened_or_none-width.result ≡ no_sides
  refused t = c.opened_or_none-width.ensures.value ∙ is_refused _ _ (fault c.args.bytes.now) t

pub returns-clause-high : goal.returns-clause-high
returns-clause-high c =
    let bs = c.args.bytes.now in
    ⊎_elim
    (λ t. ap (λ (s : Sides). cond (fits s.width s.height (shelf_length s.width s.height) (length bs)) s.height 0) (refused c t) ∙ sym (ap (λ b. cond b 0 (high_of bs)) t))
    (λ f. ap (λ (s : Sides). cond (fits s.width s.height (shelf_length s.width s.height) (length bs)) s.height 0) (opened c f)
    ∙ ap (λ b. cond b (high_of bs) 0) (whole bs f).fit ∙ sym (ap (λ b. cond b 0 (high_of bs)) f))
    (cases_Bool (is_some (fault bs)))

pub returns-clause-lawful : goal.returns-clause-lawful
returns-clause-lawful c =
    let bs = c.args.bytes.now in
    ⊎_elim
    (λ t. subst (λ (s : Sides). Lawful bs s.width s.height) (sym (refused c t)) (λ b l. absurd (omega arith)))
    (λ f. subst (λ (s : Sides). Lawful bs s.width s.height) (sym (opened c f)) (whole bs f).lawful)
    (cases_Bool (is_some (fault bs)))
