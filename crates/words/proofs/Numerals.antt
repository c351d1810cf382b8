-- Laws of words that are numbers.
use Rattle.std.proofs.Common.{◌≡◌, ℕ, ◌^◌, ◌<◌, ◌≤◌, Bool, true, cond, ◌&&◌, leb, List, [], ◌∷◌, length, Ok, Err, Result, sym, refl, ap, ◌∙◌, ⊎_elim, arith}
use Rattle.std.specs.Str.Parse.{ParsesUnsigned}
use Rattle.std.specs.Char.{is_ascii_digit}
use Rattle.std.specs.Str.{all_ascii_digits}
use Rattle.std.specs.List.{list_all}
use Rattle.std.proofs.lemmas.Str.Parse.{IsNumeralModel, numerals_by_fold, tells_all_ascii_digits, parse_digits}
use Rattle.std.proofs.lemmas.Result.{OkIff-at_ok, OkIff-at_err}
use Rattle.std.proofs.lemmas.Bool.{cases_lt, cond-true, cond-false, le-leb, lt-leb}
use Rattle.words.specs.declared.faults.Fault.{Fault}
use Rattle.words.specs.declared.faults.Fault.TheVariants.{NotANumber}
use Rattle.words.specs.Numbers.{extended, numeral, is_number, number_in}

own : IsNumeralModel (λ ds. all_ascii_digits ds ≡ true) numeral
own = numerals_by_fold _ tells_all_ascii_digits extended (record { empty = λ n. refl; more = λ n c cs h. refl })

-- Whether each byte is a digit.
pub digits_all : (bs : List ℕ) → list_all is_ascii_digit bs ≡ all_ascii_digits bs
digits_all [] = refl
digits_all (c ∷ cs) = ap (λ (t : Bool). is_ascii_digit c && t) (digits_all cs)

is_number_digits : (bs : List ℕ) → 0 < length bs → is_number bs ≡ all_ascii_digits bs
is_number_digits [] h = absurd (omega arith)
is_number_digits (c ∷ cs) h = refl

-- Digits that `parse` reads say their number.
pub parsed_ok : {E : Type 0} (bs : List ℕ) (r : Result ℕ E) (n : ℕ) → ParsesUnsigned 64 10 bs r → all_ascii_digits bs ≡ true → r ≡ Ok n → n ≡ numeral bs
parsed_ok {E} bs r n h d e = (OkIff-at_ok {E = E} r ((0 < length bs) × (numeral bs < 2 ^ 64)) (numeral bs) n (parse_digits own {E = E} 64 bs r h d) e).1

-- Digits that `parse` refuses say a number beyond 64 bits.
pub parsed_err : {E : Type 0} (bs : List ℕ) (r : Result ℕ E) (x : E) → ParsesUnsigned 64 10 bs r → all_ascii_digits bs ≡ true → 0 < length bs → r ≡ Err x → 2 ^ 64 ≤ numeral bs
parsed_err {E} bs r x h d l e =
    ⊎_elim (λ lt. absurd (OkIff-at_err {E = E} r ((0 < length bs) × (numeral bs < 2 ^ 64)) (numeral bs) x (parse_digits own {E = E} 64 bs r h d) e (l, lt))) (λ le. le) (cases_lt (numeral bs) (2 ^ 64))

number_digits : (most : ℕ) (above : Fault) (bs : List ℕ) → all_ascii_digits bs ≡ true → 0 < length bs → number_in most above bs ≡ cond (leb (numeral bs) most) (Ok (numeral bs)) (Err above)
number_digits most above bs d l = cond-true (is_number bs) (cond (leb (numeral bs) most) (Ok (numeral bs)) (Err above)) (Err NotANumber) (is_number_digits bs l ∙ d)

pub number_within : (most : ℕ) (above : Fault) (n : ℕ) (bs : List ℕ) → all_ascii_digits bs ≡ true → 0 < length bs → n ≡ numeral bs → n ≤ most → number_in most above bs ≡ Ok n
number_within most above n bs d l e h =
    number_digits most above bs d l ∙ (cond-true (leb (numeral bs) most) (Ok (numeral bs)) (Err above) (le-leb (numeral bs) most (omega arith)) ∙ ap (λ (m : ℕ). Ok m) (sym e))

pub number_beyond : (most : ℕ) (above : Fault) (bs : List ℕ) → all_ascii_digits bs ≡ true → 0 < length bs → most < numeral bs → number_in most above bs ≡ Err above
number_beyond most above bs d l h = number_digits most above bs d l ∙ cond-false (leb (numeral bs) most) (Ok (numeral bs)) (Err above) (lt-leb (numeral bs) most h)
