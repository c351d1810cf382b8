-- The fence below a line follows from the one above it and the line's class.
use Rattle.std.proofs.Common.{◌≡◌, ℕ, ◌≤◌, Bool, true, false, cond, not, ◌&&◌, eqb, leb, List, [], ◌∷◌, sym, Option, Some, None, refl, ap, ◌∙◌, true≢false, arith}
use Rattle.std.specs.Char.{is_whitespace}
use Rattle.std.specs.List.{prefix_len}
use Rattle.std.proofs.lemmas.Bool.{eq-eqb, ne_eqb, eqb-true, lt-leb, leb-true, leb-false, and_right, and_parts, or_from, cond_both}
use Rattle.std.proofs.Math.Bool.{and-true}
use Rattle.tail.specs.Texts.{all, any, is, past, starts_with}
use Rattle.tail.specs.Fences.{sign, may_follow, opens, closes, fence, fence_below}
use Rattle.tail.specs.Scanning.{mark_class, class_of, Sound, stepped}
use Rattle.tail.specs.declared.fences.Mark.{Mark}
use Rattle.tail.specs.declared.fences.Mark.TheVariants.{Backtick, Tilde}
use Rattle.tail.specs.declared.fences.Class.TheVariants.{Pipe, Bare, Info, Other}
use Rattle.tail.specs.declared.fences.Fence.{Fence}
use Rattle.tail.proofs.Marks.{leading_none}

-- the marks at the front of t, and what is behind them
abbrev count : Mark → List ℕ → ℕ
count m t = prefix_len (is (sign m)) t

abbrev rest : Mark → List ℕ → List ℕ
rest m t = past (is (sign m)) t

abbrev opens_at : Mark → List ℕ → Bool
opens_at m t = leb 3 (count m t) && may_follow m (rest m t)

abbrev closes_at : Mark → ℕ → List ℕ → Bool
closes_at m n t = leb n (count m t) && all is_whitespace (rest m t)

abbrev fence_at : Option Fence → List ℕ → Option Fence
fence_at None t = cond (opens_at Backtick t) (Some (fence Backtick (count Backtick t))) (cond (opens_at Tilde t) (Some (fence Tilde (count Tilde t))) None)
fence_at (Some f) t = cond (closes_at f.mark f.marks t) None (Some f)

no_backtick : (cs : List ℕ) → all is_whitespace cs ≡ true → any (is 96) cs ≡ false
no_backtick [] e = refl
no_backtick (c ∷ cs) e =
    let h = and_parts (is_whitespace c) (all is_whitespace cs) e in
    or_from (eqb c 96) (any (is 96) cs) (ne_eqb c 96 (λ q. true≢false (sym h.0 ∙ ap is_whitespace q))) (no_backtick cs h.1)

blank_may_follow : (m : Mark) (cs : List ℕ) → all is_whitespace cs ≡ true → may_follow m cs ≡ true
blank_may_follow Backtick cs e = ap not (no_backtick cs e)
blank_may_follow Tilde cs e = refl

-- no marks: nothing opens or closes
not_opened : (m : Mark) (t : List ℕ) → starts_with (sign m) t ≡ false → opens_at m t ≡ false
not_opened m t e = rw (leading_none (sign m) t e) refl

not_closed : (m : Mark) (n : ℕ) (t : List ℕ) → 3 ≤ n → starts_with (sign m) t ≡ false → closes_at m n t ≡ false
not_closed m n t h e = rw (lt-leb n (count m t) (omega (arith, leading_none (sign m) t e))) refl

module _ (m : Mark) (k : ℕ) where
  absent_by : (x y z : Bool) → (y ≡ true → z ≡ true) → stepped None (cond x (cond y (Bare (fence m k)) (cond z (Info (fence m k)) Other)) Other) ≡ cond (x && z) (Some (fence m k)) None
  absent_by true true true h = refl
  absent_by true true false h = absurd (true≢false (sym (h refl)))
  absent_by true false true h = refl
  absent_by true false false h = refl
  absent_by false y z h = refl

  open_by : (n : ℕ) (x y z : Bool) → (x ≡ false → leb n k ≡ false) → stepped (Some (fence m n)) (cond x (cond y (Bare (fence m k)) (cond z (Info (fence m k)) Other)) Other) ≡ cond (leb n k && y) None (Some (fence m n))
  open_by n true true z h = rw (eq-eqb (sign m) (sign m) refl, and-true (leb n k)) refl
  open_by n true false true h = rw (and_right (leb n k) false refl) refl
  open_by n true false false h = rw (and_right (leb n k) false refl) refl
  open_by n false y z h = rw (h refl) refl

mark_absent : (m : Mark) (t : List ℕ) → stepped None (mark_class m t) ≡ cond (opens_at m t) (Some (fence m (count m t))) None
mark_absent m t = absent_by m (count m t) (leb 3 (count m t)) (all is_whitespace (rest m t)) (may_follow m (rest m t)) (blank_may_follow m (rest m t))

mark_open : (m : Mark) (n : ℕ) (t : List ℕ) → 3 ≤ n → stepped (Some (fence m n)) (mark_class m t) ≡ fence_at (Some (fence m n)) t
mark_open m n t h = open_by m (count m t) n (leb 3 (count m t)) (all is_whitespace (rest m t)) (may_follow m (rest m t)) (λ f. lt-leb n (count m t) (omega (arith, leb-false 3 (count m t) f)))

other_open : (k m : Mark) (n : ℕ) (x y z : Bool) (j : ℕ) → eqb (sign k) (sign m) ≡ false → stepped (Some (fence m n)) (cond x (cond y (Bare (fence k j)) (cond z (Info (fence k j)) Other)) Other) ≡ Some (fence m n)
other_open k m n true true z j e = rw e refl
other_open k m n true false true j e = refl
other_open k m n true false false j e = refl
other_open k m n false y z j e = refl

-- a text that begins with a mark, and so with no other
module _ (t : List ℕ) where
  open_backtick : (m : Mark) (n : ℕ) → 3 ≤ n → starts_with 126 t ≡ false → stepped (Some (fence m n)) (mark_class Backtick t) ≡ fence_at (Some (fence m n)) t
  open_backtick Backtick n h e = mark_open Backtick n t h
  open_backtick Tilde n h e = rw (not_closed Tilde n t h e) (other_open Backtick Tilde n (leb 3 (count Backtick t)) (all is_whitespace (rest Backtick t)) (may_follow Backtick (rest Backtick t)) (count Backtick t) refl)

  open_tilde : (m : Mark) (n : ℕ) → 3 ≤ n → starts_with 96 t ≡ false → stepped (Some (fence m n)) (mark_class Tilde t) ≡ fence_at (Some (fence m n)) t
  open_tilde Tilde n h e = mark_open Tilde n t h
  open_tilde Backtick n h e = rw (not_closed Backtick n t h e) (other_open Tilde Backtick n (leb 3 (count Tilde t)) (all is_whitespace (rest Tilde t)) (may_follow Tilde (rest Tilde t)) (count Tilde t) refl)

  open_none : (m : Mark) (n : ℕ) → 3 ≤ n → starts_with 96 t ≡ false → starts_with 126 t ≡ false → Some (fence m n) ≡ fence_at (Some (fence m n)) t
  open_none Backtick n h a b = rw (not_closed Backtick n t h a) refl
  open_none Tilde n h a b = rw (not_closed Tilde n t h b) refl

  step_backtick : (f : Option Fence) → Sound f → starts_with 126 t ≡ false → stepped f (mark_class Backtick t) ≡ fence_at f t
  step_backtick None s e = rw (not_opened Tilde t e) (mark_absent Backtick t)
  step_backtick (Some f) s e = open_backtick f.mark f.marks s e

  step_tilde : (f : Option Fence) → Sound f → starts_with 96 t ≡ false → stepped f (mark_class Tilde t) ≡ fence_at f t
  step_tilde None s e = rw (not_opened Backtick t e) (mark_absent Tilde t)
  step_tilde (Some f) s e = open_tilde f.mark f.marks s e

  -- with no mark in front the fence stays, whatever the line is else
  step_none : (f : Option Fence) → Sound f → starts_with 96 t ≡ false → starts_with 126 t ≡ false → (stepped f Pipe ≡ fence_at f t) × (stepped f Other ≡ fence_at f t)
  step_none None s a b = rw (not_opened Backtick t a, not_opened Tilde t b) (refl, refl)
  step_none (Some f) s a b = (open_none f.mark f.marks s a b, open_none f.mark f.marks s a b)

apart : (d e : ℕ) (t : List ℕ) → (d ≡ e → ⊥) → starts_with d t ≡ true → starts_with e t ≡ false
apart d e [] n h = refl
apart d e (x ∷ xs) n h = ne_eqb x e (λ q. n (sym (eqb-true x d h) ∙ q))

class_by : (f : Option Fence) (t : List ℕ) → Sound f → (p b w : Bool) → starts_with 124 t ≡ p → starts_with 96 t ≡ b → starts_with 126 t ≡ w → stepped f (cond p Pipe (cond b (mark_class Backtick t) (cond w (mark_class Tilde t) Other))) ≡ fence_at f t
class_by f t s true b w p q r = (step_none t f s (apart 124 96 t (λ e. omega arith) p) (apart 124 126 t (λ e. omega arith) p)).0
class_by f t s false true w p q r = step_backtick t f s (apart 96 126 t (λ e. omega arith) q)
class_by f t s false false true p q r = step_tilde t f s q
class_by f t s false false false p q r = (step_none t f s q r).1

-- the law
pub fence_by_class : (f : Option Fence) (l : List ℕ) → Sound f → stepped f (class_of l) ≡ fence_below f l
fence_by_class None l s = class_by None (past is_whitespace l) s _ _ _ refl refl refl
fence_by_class (Some f) l s = class_by (Some f) (past is_whitespace l) s _ _ _ refl refl refl

pub below_sound : (f : Option Fence) (l : List ℕ) → Sound f → Sound (fence_below f l)
below_sound None l s =
    let t = past is_whitespace l in
    cond_both (opens Backtick l) (Some (fence Backtick (count Backtick t))) (cond (opens Tilde l) (Some (fence Tilde (count Tilde t))) None) Sound
    (λ e. leb-true 3 (count Backtick t) (and_parts (leb 3 (count Backtick t)) (may_follow Backtick (rest Backtick t)) e).0)
    (λ _. cond_both (opens Tilde l) (Some (fence Tilde (count Tilde t))) None Sound (λ e. leb-true 3 (count Tilde t) (and_parts (leb 3 (count Tilde t)) (may_follow Tilde (rest Tilde t)) e).0) (λ _. tt))
below_sound (Some f) l s = cond_both (closes f.mark f.marks l) None (Some f) Sound (λ _. tt) (λ _. s)
