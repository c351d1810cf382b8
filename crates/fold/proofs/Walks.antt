use Rattle.std.proofs.Common.{◌≡◌, ◌≢◌, ℕ, zero, suc, replicate, add-one, ◌+◌, ◌<◌, Bool, true, false, cond, eqb, List, [], ◌∷◌, ◌++◌, length, get_or, sym, refl, ap, ◌∙◌, arith}
use Rattle.std.proofs.lemmas.Bool.{cond-false, ne_eqb}
use Rattle.std.proofs.lemmas.List.{append_assoc, append-nil}
use Rattle.std.specs.List.{flat_map}
use Rattle.std.proofs.lemmas.List.Sums.{fold-append}
use Rattle.style.specs.declared.Style.{Style}
use Rattle.clusters.specs.Cuts.{Cut}
use Rattle.glyphs.specs.declared.Glyph.{Glyph}
use Rattle.glyphs.specs.Glyphs.{shown, is_tab, space, replacement, glyph_of}
use Rattle.records.specs.Acts.{Act, put, end_line}
use Rattle.records.specs.Memory.{Memory, act, acted}
use Rattle.fold.specs.Parts.{puts, spread}

puts-append : (xs ys : List Glyph) → puts (xs ++ ys) ≡ puts xs ++ puts ys
puts-append [] ys = refl
puts-append (x ∷ xs) ys = ap (λ l. put x ∷ l) (puts-append xs ys)

-- one cluster on
pub walk_step : (m n : Memory) (t : Style) (c : Cut) (cs : List Cut) → n ≡ acted m (puts (shown t c)) → acted n (puts (flat_map (shown t) cs)) ≡ acted m (puts (flat_map (shown t) (c ∷ cs)))
walk_step m n t c cs e =
    let xs = shown t c in
    let ys = flat_map (shown t) cs in
    ap (λ (k : Memory). acted k (puts ys)) e ∙ (sym (fold-append act m (puts xs) (puts ys)) ∙ ap (acted m) (sym (puts-append xs ys)))

spread_first : (P : List ℕ → List Act) (so before behind : List ℕ) → ((k : ℕ) → k < length before → get_or before k 0 ≢ 10) → spread P so (before ++ (10 ∷ behind)) ≡ P (so ++ before) ++ (end_line ∷ spread P [] behind)
spread_first P so [] behind n = ap (λ l. P l ++ (end_line ∷ spread P [] behind)) (sym (append-nil so))
spread_first P so (b ∷ bs) behind n =
    cond-false (eqb b 10) _ _ (ne_eqb b 10 (n 0 (omega arith)))
    ∙ (spread_first P (so ++ (b ∷ [])) bs behind (λ k l. n (suc k) (omega arith)) ∙ ap (λ l. P l ++ (end_line ∷ spread P [] behind)) (append_assoc so (b ∷ []) bs))

spread_none : (P : List ℕ → List Act) (so s : List ℕ) → ((k : ℕ) → k < length s → get_or s k 0 ≢ 10) → spread P so s ≡ P (so ++ s)
spread_none P so [] n = ap P (sym (append-nil so))
spread_none P so (b ∷ bs) n =
    cond-false (eqb b 10) _ _ (ne_eqb b 10 (n 0 (omega arith)))
    ∙ (spread_none P (so ++ (b ∷ [])) bs (λ k l. n (suc k) (omega arith)) ∙ ap P (append_assoc so (b ∷ []) bs))

-- the part before a line feed is shown, and the line ends
pub feed_step : (m n o : Memory) (P : List ℕ → List Act) (s before behind : List ℕ) → s ≡ before ++ (10 ∷ behind) → ((k : ℕ) → k < length before → get_or before k 0 ≢ 10) →
    n ≡ acted m (P before) → o ≡ act n end_line → acted o (spread P [] behind) ≡ acted m (spread P [] s)
feed_step m n o P s before behind e h f g =
    ap (λ (k : Memory). acted k (spread P [] behind)) (g ∙ ap (λ (k : Memory). act k end_line) f)
    ∙ (sym (fold-append act m (P before) (end_line ∷ spread P [] behind)) ∙ ap (acted m) (sym (ap (spread P []) e ∙ spread_first P [] before behind h)))

pub feed_end : (m n : Memory) (P : List ℕ → List Act) (s : List ℕ) → ((k : ℕ) → k < length s → get_or s k 0 ≢ 10) → n ≡ acted m (P s) → n ≡ acted m (spread P [] s)
feed_end m n P s h e = e ∙ ap (acted m) (sym (spread_none P [] s h))

-- a glyph put once more
again : (m : Memory) (g : Glyph) (n : ℕ) → acted m (puts (replicate (suc n) g)) ≡ act (acted m (puts (replicate n g))) (put g)
again m g zero = refl
again m g (suc n) = again (act m (put g)) g n

pub puts_more : (m : Memory) (g : Glyph) (n : ℕ) → acted m (puts (replicate (n + 1) g)) ≡ act (acted m (puts (replicate n g))) (put g)
puts_more m g n = rw add-one (again m g n)

-- the glyphs of a cluster are one glyph, once or four times
shown_by : (tab thin : Bool) (a b d : Glyph) → replicate (cond tab 4 1) (cond tab a (cond thin b d)) ≡ cond tab (a ∷ a ∷ a ∷ a ∷ []) (cond thin (b ∷ []) (d ∷ []))
shown_by true thin a b d = refl
shown_by false true a b d = refl
shown_by false false a b d = refl

pub shown_times : (t : Style) (bs : List ℕ) (w n : ℕ) (g : Glyph) → n ≡ cond (is_tab bs) 4 1 → g ≡ cond (is_tab bs) (space t) (cond (eqb w 0) (replacement t) (glyph_of bs w t)) →
    puts (replicate n g) ≡ puts (shown t (record { bytes = bs; width = w }))
shown_times t bs w n g e f = rw (e, f) (ap puts (shown_by (is_tab bs) (eqb w 0) (space t) (replacement t) (glyph_of bs w t)))
