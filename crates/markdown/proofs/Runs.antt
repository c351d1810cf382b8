-- A run of requests, one after another.
use Rattle.std.proofs.Common.{◌≡◌, ℕ, zero, suc, ◌+◌, ◌<◌, ◌≤◌, List, [], ◌∷◌, ◌++◌, map, length, take, drop, get_or, set, Some, Option, refl, sym, ap, ◌∙◌, subst, arith}
use Rattle.std.specs.List.{AllZip, slice_get}
use Rattle.std.proofs.lemmas.List.{map-append, take_all, take_more, take_more_set, drop-set-lt, drop_more, length-append}
use Rattle.std.proofs.lemmas.List.Elements.{AllZip-push}
use Rattle.records.specs.Memory.{Memory}
use Rattle.markdown.specs.Sheets.{Sheet, Limits, limits_in}
use Rattle.markdown.specs.Calls.{Call}
use Rattle.markdown.specs.Holds.{Beginning, first_sheet, limits_at, IsFirstMemory, Holds, Keeps}
use Rattle.markdown.specs.Replies.{Answer, Gives}
use Rattle.markdown.specs.Laws.{IsTrueOf}
use Rattle.markdown.specs.Pasts.{Past, past, longer, limits_after, AnswersAfter, Law}
use Rattle.markdown.proofs.Held.{holds_held, holds_once, holds_less, keeps_none}
use Rattle.markdown.proofs.Given.{gives_once}
use Rattle.markdown.proofs.Sharing.{shares_out}
use Rattle.markdown.proofs.Widenings.{wider_is_no_worse, empty_has_no_rows}
use Rattle.markdown.proofs.Paints.{paints_in_place}

-- what is so of each place is so with one place more
same_some : {X : Type 0} (x y : X) → ◌≡◌ {A = Option X} (Some x) (Some y) → x ≡ y
same_some x y e = cc

each_more : (P : List Call → Call → Answer → Type 0) (cs : List Call) (qs : List Answer) (c : Call) (a : Answer) → length qs ≡ length cs →
    ((i : ℕ) (d : Call) (b : Answer) → slice_get cs i ≡ Some d → slice_get qs i ≡ Some b → P (take i cs) d b) → P cs c a →
    (i : ℕ) (d : Call) (b : Answer) → slice_get (cs ++ (c ∷ [])) i ≡ Some d → slice_get (qs ++ (a ∷ [])) i ≡ Some b → P (take i (cs ++ (c ∷ []))) d b
each_more P [] [] c a long all end zero d b e f = subst (λ x. P [] x b) (same_some c d e) (subst (P [] c) (same_some a b f) end)
each_more P [] [] c a long all end (suc i) d b e f = absurd (cc)
each_more P [] (g ∷ qs) c a long all end i d b e f = absurd (omega arith)
each_more P (h ∷ cs) [] c a long all end i d b e f = absurd (omega arith)
each_more P (h ∷ cs) (g ∷ qs) c a long all end zero d b e f = all 0 d b e f
each_more P (h ∷ cs) (g ∷ qs) c a long all end (suc i) d b e f =
    each_more (λ ds. P (h ∷ ds)) cs qs c a (omega arith) (λ j x y p q. all (suc j) x y p q) end i d b e f

pub record Answered (b : Beginning) (cs : List Call) (qs : List Answer) : Type 0 where
  pub as_many : length qs ≡ length cs
  pub each : (i : ℕ) (c : Call) (a : Answer) → slice_get cs i ≡ Some c → slice_get qs i ≡ Some a → AnswersAfter b (take i cs) c a

answers_more : (b : Beginning) (cs : List Call) (qs : List Answer) (c : Call) (a : Answer) → Answered b cs qs → AnswersAfter b cs c a → Answered b (cs ++ (c ∷ [])) (qs ++ (a ∷ []))
answers_more b cs qs c a old end =
    record {
      as_many = omega (arith, old.as_many, length-append cs (c ∷ []), length-append qs (a ∷ []));
      each = each_more (AnswersAfter b) cs qs c a old.as_many old.each end;
    }

-- the three laws are true of every sheet
true_of : (limits : Limits) (s : Sheet) → IsTrueOf limits s
true_of limits s = record { shares = shares_out limits s; wider = wider_is_no_worse limits s; empty = empty_has_no_rows limits s; painted = paints_in_place limits s }

-- a sheet as it begins
pub law_start : (b : Beginning) (m : Memory) → IsFirstMemory b m → limits_in m ≡ limits_at b → Law (past b [] []) (first_sheet b) m
law_start b m untouched room =
    let s = first_sheet b in
    record {
      holds = holds_held b [];
      only = λ t k. holds_once b [] t s k (holds_held b []);
      once = λ i t u h k. holds_once b (take i []) t u h k;
      idle = λ before after c e nothing. holds_less b [] s before after c (holds_held b []) e nothing;
      room = room;
      memory = keeps_none b m untouched;
      as_many = refl;
      answered = λ i c a e f. absurd (cc);
      alone = gives_once (limits_at b) s;
      now = true_of (limits_at b) s;
      ever = λ i t h. true_of (limits_at b) t;
    }

-- one call more
pub law_more : (p : Past) (s t : Sheet) (m n : Memory) (c : Call) (a : Answer) → Law p s m → Gives (limits_after p) s c a →
    Holds p.beginning (p.calls ++ (c ∷ [])) t → Keeps p.beginning (p.calls ++ (c ∷ [])) n → limits_in n ≡ limits_in m → Law (longer p c a) t n
law_more p s t m n c a law gives holds keeps room =
    let b = p.beginning in
    let calls = p.calls ++ (c ∷ []) in
    let more = answers_more b p.calls p.answers c a (record { as_many = law.as_many; each = law.answered }) (s, law.holds, gives) in
    record {
      holds = holds;
      only = λ u k. holds_once b calls u t k holds;
      once = λ i u v h k. holds_once b (take i calls) u v h k;
      idle = λ before after d e nothing. holds_less b calls t before after d holds e nothing;
      room = room ∙ law.room;
      memory = keeps;
      as_many = more.as_many;
      answered = more.each;
      alone = gives_once (limits_at b) t;
      now = true_of (limits_at b) t;
      ever = λ i u h. true_of (limits_at b) u;
    }

-- where a run stands before request i
pub record Run {X : Type 0} (call : X → Call) (answer : X → Answer) (R : X → X → Type 0) (b : Beginning) (olds news : List X) (i : ℕ) (s : Sheet) (m : Memory) : Type 0 where
  pub law : Law (past b (map call (take i olds)) (map answer (take i news))) s m
  pub answered : AllZip R (take i olds) (take i news)
  pub left : drop i news ≡ drop i olds

module _ {X : Type 0} (call : X → Call) (answer : X → Answer) (R : X → X → Type 0) (b : Beginning) where
  pub run_start : (xs : List X) (s : Sheet) (m : Memory) → Law (past b [] []) s m → Run call answer R b xs xs 0 s m
  run_start xs s m h = record { law = h; answered = tt; left = refl }

  same_head : (xs ys : List X) (i : ℕ) (d : X) → i < length xs → length ys ≡ length xs → drop i ys ≡ drop i xs → get_or xs i d ≡ get_or ys i d
  same_head xs ys i d h long e = let both = sym (drop_more ys i d (omega arith)) ∙ (e ∙ drop_more xs i d h) in cc

  same_rest : (xs ys : List X) (i : ℕ) (d : X) → i < length xs → length ys ≡ length xs → drop i ys ≡ drop i xs → drop (i + 1) ys ≡ drop (i + 1) xs
  same_rest xs ys i d h long e = let both = sym (drop_more ys i d (omega arith)) ∙ (e ∙ drop_more xs i d h) in cc

  pub run_more : (olds news : List X) (i : ℕ) (s t : Sheet) (m n : Memory) (d y : X) → i < length olds → length news ≡ length olds → R (get_or news i d) y →
      ((p : Past) → Law p s m → Law (longer p (call (get_or news i d)) (answer y)) t n) → Run call answer R b olds news i s m → Run call answer R b olds (set news i y) (i + 1) t n
  run_more olds news i s t m n d y h long answered law run =
      let x = get_or news i d in
      let cs = map call (take i olds) in
      let qs = map answer (take i news) in
      let front : take (i + 1) olds ≡ take i olds ++ (x ∷ []) = take_more olds i d h ∙ ap (λ z. take i olds ++ (z ∷ [])) (same_head olds news i d h long run.left) in
      let done : take (i + 1) (set news i y) ≡ take i news ++ (y ∷ []) = take_more_set news i y (omega arith) in
      let calls : map call (take (i + 1) olds) ≡ cs ++ (call x ∷ []) = ap (map call) front ∙ map-append call (take i olds) (x ∷ []) in
      let given : map answer (take (i + 1) (set news i y)) ≡ qs ++ (answer y ∷ []) = ap (map answer) done ∙ map-append answer (take i news) (y ∷ []) in
      record {
        law = subst (λ ds. Law (past b ds (map answer (take (i + 1) (set news i y)))) t n) (sym calls) (subst (λ rs. Law (past b (cs ++ (call x ∷ [])) rs) t n) (sym given) (law (past b cs qs) run.law));
        answered = subst (λ xs. AllZip R xs (take (i + 1) (set news i y))) (sym front) (subst (AllZip R (take i olds ++ (x ∷ []))) (sym done) (AllZip-push R (take i olds) (take i news) x y run.answered answered));
        left = drop-set-lt (i + 1) news i y (omega arith) ∙ same_rest olds news i d h long run.left;
      }

  pub run_end : (olds news : List X) (i : ℕ) (s : Sheet) (m : Memory) → length olds ≤ i → length news ≡ length olds → Run call answer R b olds news i s m → Law (past b (map call olds) (map answer news)) s m × AllZip R olds news
  run_end olds news i s m h long run =
      let x = take_all i olds h in
      let y = take_all i news (omega arith) in (
        subst (λ xs. Law (past b (map call xs) (map answer news)) s m) x (subst (λ ys. Law (past b (map call (take i olds)) (map answer ys)) s m) y run.law),
        subst (λ xs. AllZip R xs news) x (subst (AllZip R (take i olds)) y run.answered),
      )
