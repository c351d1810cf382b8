-- Words for what the scanner keeps while it reads. What the crate promises does not rest on them.
use Rattle.std.specs.Prelude.{◌≡◌, ℕ, ◌≤◌, Bool, cond, ◌&&◌, List, [], ◌∷◌, length, nat_le, ◌==◌, Option, Some, None}
use Rattle.std.specs.Char.{is_whitespace}
use Rattle.std.specs.List.{prefix_len}
use Rattle.std.specs.Str.{chars}
use Rattle.tail.specs.Texts.{all, is, past, starts_with}
use Rattle.tail.specs.Fences.{sign, may_follow, fence}
use Rattle.tail.specs.declared.fences.Mark.{Mark}
use Rattle.tail.specs.declared.fences.Mark.TheVariants.{Backtick, Tilde}
use Rattle.tail.specs.declared.fences.Fence.{Fence}
use Rattle.tail.specs.declared.fences.Class.{Class}
use Rattle.tail.specs.declared.fences.Class.TheVariants.{Pipe, Bare, Info, Other}
use Rattle.tail.specs.declared.scan.Run.{Run}
use Rattle.tail.specs.declared.scan.Run.TheVariants.{Empty, Header, Pair, Longer}

-- An open fence has three marks or more.
abbrev pub Sound : Option Fence → Type 0
Sound None = Unit {0}
Sound (Some f) = 3 ≤ f.marks

-- A line of the marks of f alone closes the fence g: it has the same mark, and at least as many.
abbrev pub ends : Fence → Fence → Bool
ends f g = sign f.mark == sign g.mark && nat_le g.marks f.marks

-- The fence that is open below a line, by the class of the line.
abbrev pub stepped : Option Fence → Class → Option Fence
stepped None Pipe = None
stepped None (Bare f) = Some f
stepped None (Info f) = Some f
stepped None Other = None
stepped (Some g) Pipe = Some g
stepped (Some g) (Bare f) = cond (ends f g) None (Some g)
stepped (Some g) (Info f) = Some g
stepped (Some g) Other = Some g

-- The class of a text that begins with a mark: three or more of it with only white space behind them, or with what an opener may have there.
abbrev pub mark_class : Mark → List ℕ → Class
mark_class m t = cond (nat_le 3 (prefix_len (is (sign m)) t)) (cond (all is_whitespace (past (is (sign m)) t)) (Bare (fence m (prefix_len (is (sign m)) t))) (cond (may_follow m (past (is (sign m)) t)) (Info (fence m (prefix_len (is (sign m)) t))) Other)) Other

-- The class of a line, by its first character after leading white space: a pipe, a mark, or another.
abbrev pub class_of : List ℕ → Class
class_of l = cond (starts_with 124 (past is_whitespace l)) Pipe (cond (starts_with 96 (past is_whitespace l)) (mark_class Backtick (past is_whitespace l)) (cond (starts_with 126 (past is_whitespace l)) (mark_class Tilde (past is_whitespace l)) Other))

-- The run has these lines: each of them up to two, and from three on only that there are so many.
abbrev pub Holds : Run → List (List ℕ) → Type 0
Holds Empty ls = ls ≡ []
Holds (Header h) ls = ls ≡ chars h.now ∷ []
Holds (Pair h l) ls = ls ≡ chars h.now ∷ chars l.now ∷ []
Holds Longer ls = 3 ≤ length ls
