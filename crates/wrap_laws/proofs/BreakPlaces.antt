use Rattle.std.proofs.Common.{◌≡◌, ℕ, zero, suc, ◌+◌, ◌-◌, ◌<◌, ◌≤◌, true, false, ◌&&◌, ◌⊎◌, List, [], ◌∷◌, length, get_or, drop, Some, None, Option, sym, refl, ap, ◌∙◌, inl, inr, ⊎_elim, arith, length-drop, get_or-drop}
use Rattle.std.proofs.lemmas.Bool.Decides.{nat_tests}
use Rattle.std.proofs.lemmas.Grind.{common_steps}
use Rattle.std.specs.List.{prefix_len}
use Rattle.std.proofs.lemmas.Bool.{cases_eq, cases_order, cases_Bool, cond-true, cond-false, both_ways, and_parts, and_cases}
use Rattle.std.proofs.lemmas.List.Sums.{prefix_len-le-length}
use Rattle.glyphs.specs.declared.Glyph.{Glyph}
use Rattle.glyphs.specs.Glyphs.{is_space}
use Rattle.wrap_laws.specs.Breaks.{no_glyph, space_at}
use Rattle.wrap_laws.specs.Rules.{past_spaces, worded, last_break, IsLastBreak, NoBreak}

-- The longest front that passes: each of its elements passes, and the one behind it does not.
leading_passes : (gs : List Glyph) (j : ℕ) → j < prefix_len is_space gs → is_space (get_or gs j no_glyph) ≡ true
leading_passes [] j h = absurd (omega arith)
leading_passes (g ∷ gs) zero h = grind (arith, nat_tests)
leading_passes (g ∷ gs) (suc j) h = let rest : j < prefix_len is_space gs → is_space (get_or gs j no_glyph) ≡ true = leading_passes gs j in grind (arith, nat_tests)

leading_stops : (gs : List Glyph) → prefix_len is_space gs < length gs → is_space (get_or gs (prefix_len is_space gs) no_glyph) ≡ false
leading_stops [] h = absurd (omega arith)
leading_stops (g ∷ gs) h = let rest = leading_stops gs in grind (arith, common_steps)

shifted : (line : List Glyph) (k m : ℕ) → k ≤ m → is_space (get_or (drop k line) (m - k) no_glyph) ≡ space_at line m
shifted line k m h = let e : k + (m - k) ≡ m = omega arith in ap is_space (get_or-drop k line (m - k) no_glyph ∙ ap (λ n. get_or line n no_glyph) e)

pub past-all_spaces : (line : List Glyph) (k m : ℕ) → k ≤ m → m < past_spaces line k → space_at line m ≡ true
past-all_spaces line k m h l = sym (shifted line k m h) ∙ leading_passes (drop k line) (m - k) (omega arith)

pub past_stops : (line : List Glyph) (k : ℕ) → past_spaces line k < length line → space_at line (past_spaces line k) ≡ false
past_stops line k h =
    let e : past_spaces line k - k ≡ prefix_len is_space (drop k line) = omega arith in
    let i : prefix_len is_space (drop k line) < length (drop k line) = omega (arith, length-drop k line) in
    sym (shifted line k (past_spaces line k) (omega arith)) ∙ ap (λ n. is_space (get_or (drop k line) n no_glyph)) e ∙ leading_stops (drop k line) i

pub past_within : (line : List Glyph) (k : ℕ) → k ≤ length line → past_spaces line k ≤ length line
past_within line k h = omega (arith, prefix_len-le-length is_space (drop k line), length-drop k line)

-- Past a space lies further on.
pub past_further_on : (line : List Glyph) (k : ℕ) → k < length line → space_at line k ≡ true → k < past_spaces line k
past_further_on line k h y = let z = past_stops line k in grind (arith, nat_tests)

pub worded_from : (line : List Glyph) (s m k : ℕ) → s ≤ m → m < k → space_at line m ≡ false → worded line s k ≡ true
worded_from line s m zero h l n = absurd (omega arith)
worded_from line s m (suc k) h l n = let rest : m < k → worded line s k ≡ true = λ l. worded_from line s m k h l n in grind (arith, nat_tests)

pub worded-at : (line : List Glyph) (s k : ℕ) → worded line s k ≡ true → (m : ℕ) × (s ≤ m) × (m < k) × (space_at line m ≡ false)
worded-at line s zero y = absurd (let z : false ≡ true = y in cc)
worded-at line s (suc k) y = let rest = worded-at line s k in grind (arith, nat_tests)

-- A row that starts no later, and a place no earlier, keep the non-space.
pub worded_wider : (line : List Glyph) (s t j k : ℕ) → s ≤ t → j ≤ k → (m : ℕ) × (t ≤ m) × (m < j) × (space_at line m ≡ false) → worded line s k ≡ true
worded_wider line s t j k h l p = worded_from line s p.0 k (omega arith) (omega arith) p.3

-- With no break place, no space before i has a non-space before it.
pub none_breaks : (line : List Glyph) (s i k : ℕ) → last_break line s i ≡ None → k < i → space_at line k ≡ true → worded line s k ≡ false
none_breaks line s zero k e h y = absurd (omega arith)
none_breaks line s (suc i) k e h y = let rest : last_break line s i ≡ None → k < i → worded line s k ≡ false = λ e h. none_breaks line s i k e h y in grind (arith, nat_tests)

pub some_breaks : (line : List Glyph) (s i k : ℕ) → last_break line s i ≡ Some k → IsLastBreak line s i k
some_breaks line s zero k e = let z : ◌≡◌ {A = ℕ} 0 1 = cc in absurd (omega arith)
some_breaks line s (suc i) k e =
    ⊎_elim
    (λ t. let c = cond-true (space_at line i && worded line s i) (Some i) (last_break line s i) t in
    let is : i ≡ k = cc in
    let p = and_parts (space_at line i) (worded line s i) t in
    record { before = omega arith; space = ap (space_at line) (sym is) ∙ p.0; word = worded-at line s k (ap (worded line s) (sym is) ∙ p.1); last = λ m h l. absurd (omega arith) })
    (λ f. let c = cond-false (space_at line i && worded line s i) (Some i) (last_break line s i) f in
    let r = some_breaks line s i k (sym c ∙ e) in
    let here : space_at line i ≡ false =
    ⊎_elim (λ n. n) (λ n. absurd (both_ways (worded line s i) n (worded_wider line s s k i (omega arith) (omega (arith, r.before)) r.word))) (and_cases (space_at line i) (worded line s i) f) in
    record {
      before = omega (arith, r.before);
      space = r.space;
      word = r.word;
      last = λ m h l. ⊎_elim (λ is. ap (space_at line) is ∙ here) (λ isnt. r.last m h (omega arith)) (cases_eq m i);
    })
    (cases_Bool (space_at line i && worded line s i))

pub found : (o : Option ℕ) → (o ≡ None) ⊎ ((k : ℕ) × (o ≡ Some k))
found None = inl refl
found (Some k) = inr (k, refl)

-- There is one such place at most: what a search finds is the one that is defined.
pub last_break_some : (line : List Glyph) (s i k : ℕ) → IsLastBreak line s i k → last_break line s i ≡ Some k
last_break_some line s i k a =
    ⊎_elim
    (λ e. absurd (both_ways (worded line s k) (none_breaks line s i k e a.before a.space) (worded_wider line s s k k (omega arith) (omega arith) a.word)))
    (λ p. let j = p.0 in
    let b = some_breaks line s i j p.1 in
    ⊎_elim
    (λ same. p.1 ∙ ap Some same)
    (⊎_elim
    (λ l. absurd (both_ways (space_at line k) (b.last k l a.before) a.space))
    (λ l. absurd (both_ways (space_at line j) (a.last j l b.before) b.space)))
    (cases_order j k))
    (found (last_break line s i))

pub last_break_none : (line : List Glyph) (s i : ℕ) → NoBreak line s i → last_break line s i ≡ None
last_break_none line s i a =
    ⊎_elim
    (λ e. e)
    (λ p. let b = some_breaks line s i p.0 p.1 in
    let w = b.word in
    absurd (both_ways (space_at line w.0) w.3 (a p.0 w.0 w.1 w.2 b.before b.space)))
    (found (last_break line s i))
