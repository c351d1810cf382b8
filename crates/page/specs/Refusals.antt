use Rattle.std.specs.Prelude.{ℕ, Bool, cond, ◌&&◌, ◌||◌, List, [], ◌∷◌, ◌++◌, Ok, Err, Result, codes, decimal, ◌==◌, nat_lt}
use Rattle.style.specs.declared.Style.{Style}
use Rattle.page.specs.declared.refusals.Refusal.{Refusal}
use Rattle.page.specs.declared.refusals.Refusal.TheVariants.{Outside, Long, Amount, Block, Colour}

-- the number that stands for a refusal
abbrev pub number : Refusal → ℕ
number (Amount n) = 4
number Outside = 6
number Long = 7
number (Block b) = 8
number Colour = 9

-- the values that go with it
abbrev pub values : Refusal → List ℕ
values (Amount n) = n ∷ []
values Outside = []
values Long = []
values (Block b) = b ∷ []
values Colour = 0 ∷ []

-- values as they are printed, each behind a space
abbrev pub values_text : List ℕ → List ℕ
values_text [] = []
values_text (v ∷ vs) = codes " " ++ (decimal v ++ values_text vs)

-- a refusal as it is printed: its number and then its values
abbrev pub refusal_text : Refusal → List ℕ
refusal_text e = decimal (number e) ++ values_text (values e)

-- what a call tells: nothing where it is admitted, else the number and then the values
abbrev pub told : {T : Type 0} → Result T Refusal → List ℕ
told (Ok x) = []
told (Err e) = number e ∷ values e

-- what a put answers: v, but refused outside, for a symbol over 8 bytes, for a colour above 16, in this order
abbrev pub put_answer : {T : Type 0} → Bool → ℕ → Style → T → Result T Refusal
put_answer within n t v =
    cond within
    (cond (nat_lt 8 n) (Err Long) (cond (nat_lt 16 t.fg || nat_lt 16 t.bg) (Err Colour) (Ok v)))
    (Err Outside)

-- the same as numbers: 6, then 7, then 9 with value 0
abbrev pub put_told : Bool → ℕ → Style → List ℕ
put_told within n t =
    cond within
    (cond (nat_lt 8 n) (7 ∷ []) (cond (nat_lt 16 t.fg || nat_lt 16 t.bg) (9 ∷ 0 ∷ []) []))
    (6 ∷ [])

-- whether both sides of a page are from 1 to 1,024
abbrev pub sides : ℕ → ℕ → Bool
sides w h = (nat_lt 0 w && nat_lt w 1025) && (nat_lt 0 h && nat_lt h 1025)

-- what a check of memory for a page of w by h answers, where it needs n of something and is lent m
abbrev pub memory_answer : ℕ → ℕ → ℕ → ℕ → Result (Unit {0}) Refusal
memory_answer w h n m = cond (sides w h) (cond (m == n) (Ok tt) (Err (Amount n))) (Err Outside)

-- the same as numbers: 6, then 4 with the count
abbrev pub memory_told : ℕ → ℕ → ℕ → ℕ → List ℕ
memory_told w h n m = cond (sides w h) (cond (m == n) [] (4 ∷ n ∷ [])) (6 ∷ [])
