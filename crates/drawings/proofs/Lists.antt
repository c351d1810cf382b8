-- Where strokes lie, list by list.
use Rattle.std.proofs.Common.{◌≡◌, ℕ, ◌<◌, ◌≤◌, false, List, [], ◌∷◌, ◌++◌, arith}
use Rattle.std.specs.List.{AllByRecursion}
use Rattle.std.proofs.lemmas.Bool.Decides.{nat_tests}
use Rattle.drawings.specs.Strokes.{Stroke}
use Rattle.drawings.specs.Frames.{Frame, bounded}

-- A stroke lies in the columns from x up to v and in the rows from y up to z.
pub record Lies (x v y z : ℕ) (p : Stroke) : Type 0 where
  pub from_x : x ≤ p.x
  pub to_x : p.x < v
  pub from_y : y ≤ p.y
  pub to_y : p.y < z

-- Every stroke of a list does.
abbrev pub AllLie : ℕ → ℕ → ℕ → ℕ → List Stroke → Type 0
AllLie x v y z ps = AllByRecursion (Lies x v y z) ps

-- No stroke of a list lies within the bounds.
abbrev pub Unseen : Frame → List Stroke → Type 0
Unseen f ps = AllByRecursion (λ p. bounded f p.x p.y ≡ false) ps

pub all-append : {X : Type 0} (P : X → Type 0) (xs ys : List X) → AllByRecursion P xs → AllByRecursion P ys → AllByRecursion P (xs ++ ys)
all-append P [] ys a b = b
all-append P (x ∷ xs) ys a b = (a.0, all-append P xs ys a.1 b)

pub all-each : {X : Type 0} (P Q : X → Type 0) (xs : List X) → ((x : X) → P x → Q x) → AllByRecursion P xs → AllByRecursion Q xs
all-each P Q [] f a = tt
all-each P Q (x ∷ xs) f a = (f x a.0, all-each P Q xs f a.1)

-- What lies in a part lies in the whole.
pub lie_in : (x v y z a b c d : ℕ) (ps : List Stroke) → a ≤ x → v ≤ b → c ≤ y → z ≤ d → AllLie x v y z ps → AllLie a b c d ps
lie_in x v y z a b c d ps e f g h l =
    all-each (Lies x v y z) (Lies a b c d) ps
    (λ p q. record { from_x = omega (arith, q.from_x); to_x = omega (arith, q.to_x); from_y = omega (arith, q.from_y); to_y = omega (arith, q.to_y) })
    l

-- What lies to the right of the bounds is unseen, and so is what lies below them.
pub unseen_right : (f : Frame) (x v y z : ℕ) (ps : List Stroke) → f.right ≤ x → AllLie x v y z ps → Unseen f ps
unseen_right f x v y z ps e l = all-each (Lies x v y z) (λ p. bounded f p.x p.y ≡ false) ps (λ p q. let a = q.from_x in grind (arith, nat_tests)) l

pub unseen_below : (f : Frame) (x v y z : ℕ) (ps : List Stroke) → f.bottom ≤ y → AllLie x v y z ps → Unseen f ps
unseen_below f x v y z ps e l = all-each (Lies x v y z) (λ p. bounded f p.x p.y ≡ false) ps (λ p q. let a = q.from_y in grind (arith, nat_tests)) l
