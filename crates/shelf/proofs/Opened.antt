use Rattle.std.proofs.Common.{◌≡◌, ℕ, ◌-◌, ◌*◌, ◌/◌, Bool, true, false, cond, ◌&&◌, eqb, leb, List, length, is_some, is_ok, Some, None, Ok, Err, Option, sym, refl, ap, ◌∙◌, ⊎_elim, arith}
use Rattle.std.proofs.lemmas.Bool.{cases_Bool, cases_eq, and_parts, true≢false}
use Rattle.page.specs.declared.refusals.Refusal.TheVariants.{Amount, Outside}
use Rattle.page.specs.Refusals.{sides}
use Rattle.std.specs.Result.{result_unwrap_or}
use Rattle.page.specs.Rows.{fits}
use Rattle.shelf.specs.Blocks.{blocks, shelf_length, block_lawful, Lawful, wide_of, high_of, unlawful, fault, opened_as, no_sides}
use Rattle.shelf.proofs.Lawful.{lawful_from}

-- what is known of bytes that can be opened
pub record Whole (bs : List ℕ) : Type 0 where
  pub sound : is_some (fault bs) ≡ false
  pub fit : fits (wide_of bs) (high_of bs) (shelf_length (wide_of bs) (high_of bs)) (length bs) ≡ true
  pub lawful : Lawful bs (wide_of bs) (high_of bs)

no_some : {A : Type 0} (o : Option A) → is_some o ≡ false → o ≡ None
no_some None e = refl
no_some (Some x) e = absurd (true≢false e)

-- a choice of which only the first can be none
module _ (first long : Bool) (inner : Option ℕ) (a b : ℕ) (e : is_some (cond first (cond long inner (Some a)) (Some b)) ≡ false) where
  is_first : first ≡ true
  is_first = ⊎_elim (λ t. t) (λ f. absurd (true≢false (sym (ap (λ t. is_some (cond t (cond long inner (Some a)) (Some b))) f) ∙ e))) (cases_Bool first)

  is_long : long ≡ true
  is_long =
      ⊎_elim (λ t. t)
      (λ f. absurd (true≢false (sym (ap (λ t. is_some (cond first (cond t inner (Some a)) (Some b))) f ∙ ap (λ t. is_some (cond t (Some a) (Some b))) is_first) ∙ e)))
      (cases_Bool long)

  is_inner : inner ≡ None
  is_inner = no_some inner (sym (ap (λ t. is_some (cond t (cond long inner (Some a)) (Some b))) is_first ∙ ap (λ t. is_some (cond t inner (Some a))) is_long) ∙ e)

pub whole : (bs : List ℕ) → is_some (fault bs) ≡ false → Whole bs
whole bs e =
    let w = wide_of bs in
    let h = high_of bs in
    let first : Bool = leb 512 (length bs) && (sides w h && block_lawful bs w h 0) in
    let long : Bool = eqb (length bs) (shelf_length w h) in
    let inner = unlawful bs w h (blocks (w * h) - 1) 1 in
    let one = and_parts (leb 512 (length bs)) (sides w h && block_lawful bs w h 0) (is_first first long inner (length bs / 512) 0 e) in
    let two = and_parts (sides w h) (block_lawful bs w h 0) one.1 in
    let rest = is_inner first long inner (length bs / 512) 0 e in
    let size = is_long first long inner (length bs / 512) 0 e in
    record {
      sound = e;
      fit = ap (λ b. is_ok (cond b (cond (eqb (length bs) (shelf_length w h)) (Ok tt) (Err (Amount (shelf_length w h)))) (Err Outside))) two.0
          ∙ ap (λ b. is_ok (cond b (Ok tt) (Err (Amount (shelf_length w h))))) size;
      lawful = λ b l. ⊎_elim (λ z. ap (block_lawful bs w h) z ∙ two.1) (λ nz. lawful_from bs w h (blocks (w * h) - 1) 1 rest b (omega arith) (omega arith)) (cases_eq b 0);
    }

-- the sides of bytes that are opened
pub is_opened : (w h : ℕ) (o : Option ℕ) → is_some o ≡ false → result_unwrap_or (opened_as w h o) no_sides ≡ record { width = w; height = h }
is_opened w h None e = refl
is_opened w h (Some b) e = absurd (true≢false e)

-- and of bytes that are refused
pub is_refused : (w h : ℕ) (o : Option ℕ) → is_some o ≡ true → result_unwrap_or (opened_as w h o) no_sides ≡ no_sides
is_refused w h None e = absurd (true≢false (sym e))
is_refused w h (Some b) e = refl
