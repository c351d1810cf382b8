-- The first style with an unknown colour is the one that the check refuses.
use Rattle.std.proofs.Common.{◌≡◌, ℕ, ◌+◌, Bool, true, false, cond, not, List, [], ◌∷◌, Some, None, Ok, Err, Option, Result, refl, ap, ◌∙◌}
use Rattle.std.specs.List.{position, position_from}
use Rattle.std.proofs.lemmas.Iterator.Adapters.{position_from-zero}
use Rattle.style.specs.declared.Style.{Style}
use Rattle.events.specs.declared.refusal.Refusal.{Refusal}
use Rattle.events.specs.declared.refusal.Refusal.TheVariants as refused
use Rattle.events.specs.Styles.{has_colours, styles_checked}

abbrev bad : Style → Bool
bad s = not (has_colours s)

abbrev refused_at : Option ℕ → Result (Unit {0}) Refusal
refused_at None = Ok tt
refused_at (Some n) = Err (refused.Style n)

this_or_later : (known : Bool) (n : ℕ) (later : Option ℕ) (r : Result (Unit {0}) Refusal) → refused_at later ≡ r → refused_at (cond (not known) (Some n) later) ≡ cond known r (Err (refused.Style n))
this_or_later true n later r h = h
this_or_later false n later r h = refl

refused_from : (ss : List Style) (n : ℕ) → refused_at (position_from bad n ss) ≡ styles_checked n ss
refused_from [] n = refl
refused_from (s ∷ ss) n = this_or_later (has_colours s) n (position_from bad (n + 1) ss) (styles_checked (n + 1) ss) (refused_from ss (n + 1))

pub the_first_bad_style_is_refused : (ss : List Style) (r : Option ℕ) → r ≡ position bad ss → refused_at r ≡ styles_checked 0 ss
the_first_bad_style_is_refused ss r h = ap refused_at (h ∙ position_from-zero bad ss) ∙ refused_from ss 0
