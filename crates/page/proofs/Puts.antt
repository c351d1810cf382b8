use Rattle.std.proofs.Common.{◌≡◌, ℕ, ◌<◌, ◌≤◌, Bool, true, false, List, [], length, is_ok, is_err, Ok, Err, Result, sym, refl, ap, ◌∙◌, arith}
use Rattle.std.proofs.lemmas.Bool.{true≢false}
use Rattle.std.proofs.lemmas.Bool.Decides.{nat_tests}
use Rattle.style.specs.declared.Style.{Style}
use Rattle.style.specs.declared.Symbol.{Symbol}
use Rattle.style.specs.Symbols.{symbol_of}
use Rattle.page.specs.declared.refusals.Refusal.{Refusal}
use Rattle.page.specs.Refusals.{put_answer, put_told, memory_answer}

-- what is known of a put of the bytes bs that is admitted, with the symbol u
pub record Admitted (within : Bool) (bs : List ℕ) (t : Style) (u : Symbol) : Type 0 where
  pub on : within ≡ true
  pub short : length bs ≤ 8
  pub front : t.fg ≤ 16
  pub back : t.bg ≤ 16
  pub symbol : u ≡ symbol_of bs
  pub value : Ok (tt {0}) ≡ put_answer within (length bs) t (tt {0})
  pub numbers : [] ≡ put_told within (length bs) t

pub admitted : (within : Bool) (bs : List ℕ) (t : Style) (u : Symbol) → put_answer within (length bs) t (symbol_of bs) ≡ Ok u → Admitted within bs t u
admitted within bs t u e =
    record {
      on = grind (arith, nat_tests);
      short = grind (arith, nat_tests);
      front = grind (arith, nat_tests);
      back = grind (arith, nat_tests);
      symbol = grind (arith, nat_tests);
      value = grind (arith, nat_tests);
      numbers = grind (arith, nat_tests);
    }

-- memory that is admitted is as long as it has to be, and makes sides of at most 1,024
pub fitting : (w h n m : ℕ) → is_ok (memory_answer w h n m) ≡ true → (m ≡ n) × (w ≤ 1024) × (h ≤ 1024) × (0 < w) × (0 < h)
fitting w h n m e = (grind (arith, nat_tests), grind (arith, nat_tests), grind (arith, nat_tests), grind (arith, nat_tests), grind (arith, nat_tests))

flip : {T : Type 0} (s : Result T Refusal) → is_err s ≡ false → is_ok s ≡ true
flip (Ok x) f = refl
flip (Err e) f = absurd (true≢false f)

-- what is not refused is admitted
pub not_refused : {T : Type 0} (r s : Result T Refusal) → r ≡ s → is_err r ≡ false → is_ok s ≡ true
not_refused r s e f = flip s (ap is_err (sym e) ∙ f)
