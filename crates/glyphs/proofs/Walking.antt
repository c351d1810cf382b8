-- Glyphs written into memory, and the walk through a text.
use Rattle.std.proofs.Common.{◌≡◌, ℕ, suc, ◌+◌, ◌-◌, ◌<◌, ◌≤◌, min, Bool, true, false, cond, eqb, List, [], ◌∷◌, ◌++◌, length, get_or, take, drop, set, replicate, sym, refl, ap, ◌∙◌, subst, ⊎_elim, append_assoc, add-zero, arith, length-drop, length-set, take-append-drop, take-suc-set}
use lib.Seq.{sets, length-sets, take-nil}
use Rattle.std.proofs.lemmas.List.{length-replicate, take_all, drop_all, drop-drop, drop-set-lt, drop_more, set_past, take_rest}
use Rattle.std.proofs.lemmas.Bool.{cases_lt}
use Rattle.std.specs.List.{flat_map}
use Rattle.style.specs.declared.Style.{Style}
use Rattle.clusters.specs.Cuts.{Cut, cut_off, cut}
use Rattle.glyphs.specs.Rulings.{Ruling, cut_at}
use Rattle.clusters.proofs.Cutting.{cut_more}
use Rattle.glyphs.specs.declared.Glyph.{Glyph}
use Rattle.glyphs.specs.Glyphs.{is_tab, space, replacement, glyph_of, shown, sanitized, overwritten}

-- glyphs written one after another, each at its place
pub overwritten_sets : (gs : List Glyph) (i : ℕ) (xs : List Glyph) → overwritten gs i xs ≡ sets gs i xs
overwritten_sets gs i [] =
    ap (λ l. take i gs ++ (l ++ drop (i + 0) gs)) (take-nil (length gs - i))
    ∙ ap (λ n. take i gs ++ drop n gs) (add-zero i)
    ∙ take-append-drop i gs
overwritten_sets gs i (x ∷ xs) =
    ⊎_elim
    (λ h.
    let n : length gs - i ≡ suc (length gs - suc i) = omega arith in
    let t : take (suc i) (set gs i x) ≡ take i gs ++ (x ∷ []) = take-suc-set gs i x h in
    let d : drop (suc i + length xs) (set gs i x) ≡ drop (i + suc (length xs)) gs = drop-set-lt (suc i + length xs) gs i x (omega arith) ∙ ap (λ m. drop m gs) (omega arith) in
    let l = length-set gs i x in
    ap (λ m. take i gs ++ (take m (x ∷ xs) ++ drop (i + suc (length xs)) gs)) n
    ∙ sym (append_assoc (take i gs) (x ∷ []) (take (length gs - suc i) xs ++ drop (i + suc (length xs)) gs))
    ∙ ap (λ f. f ++ (take (length gs - suc i) xs ++ drop (i + suc (length xs)) gs)) (sym t)
    ∙ ap (λ b. take (suc i) (set gs i x) ++ (take (length gs - suc i) xs ++ b)) (sym d)
    ∙ ap (λ m. take (suc i) (set gs i x) ++ (take (m - suc i) xs ++ drop (suc i + length xs) (set gs i x))) (sym l)
    ∙ overwritten_sets (set gs i x) (suc i) xs)
    (λ h.
    let z : length gs - i ≡ 0 = omega arith in
    let y : length gs - suc i ≡ 0 = omega arith in
    let p = set_past gs i x h in
    ap (λ m. take i gs ++ (take m (x ∷ xs) ++ drop (i + suc (length xs)) gs)) z
    ∙ ap (λ f. f ++ drop (i + suc (length xs)) gs) (take_all i gs h ∙ sym (take_all (suc i) gs (omega arith)))
    ∙ ap (λ b. take (suc i) gs ++ b) (drop_all (i + suc (length xs)) gs (omega arith) ∙ sym (drop_all (suc i + length xs) gs (omega arith)))
    ∙ ap (λ m. take (suc i) gs ++ (take m xs ++ drop (suc i + length xs) gs)) (sym y)
    ∙ ap (λ l. overwritten l (suc i) xs) (sym p)
    ∙ overwritten_sets (set gs i x) (suc i) xs)
    (cases_lt i (length gs))

sets_past : (gs : List Glyph) (i : ℕ) (xs : List Glyph) → length gs ≤ i → sets gs i xs ≡ gs
sets_past gs i [] h = refl
sets_past gs i (x ∷ xs) h = ap (λ l. sets l (suc i) xs) (set_past gs i x h) ∙ sets_past gs (suc i) xs (omega arith)

pub sets_append : (gs : List Glyph) (i : ℕ) (xs ys : List Glyph) → sets gs i (xs ++ ys) ≡ sets (sets gs i xs) (i + length xs) ys
sets_append gs i [] ys = ap (λ n. sets gs n ys) (sym (add-zero i))
sets_append gs i (x ∷ xs) ys = sets_append (set gs i x) (suc i) xs ys ∙ ap (λ n. sets (sets (set gs i x) (suc i) xs) n ys) (omega arith)

-- some glyphs written, as many as there is room for, and then others behind them
pub sets_more : (gs hs : List Glyph) (i n : ℕ) (xs ys : List Glyph) → hs ≡ overwritten gs i xs → n ≡ min (length xs) (length gs - i) → sets hs (i + n) ys ≡ sets gs i (xs ++ ys)
sets_more gs hs i n xs ys e h =
    let s : hs ≡ sets gs i xs = e ∙ overwritten_sets gs i xs in
    let l = length-sets gs i xs in
    ⊎_elim
    (λ room. let k : n ≡ length xs = omega arith in ap (λ l. sets l (i + n) ys) s ∙ ap (λ m. sets (sets gs i xs) (i + m) ys) k ∙ sym (sets_append gs i xs ys))
    (λ full. let k : n ≡ length gs - i = omega arith in
    ap (λ l. sets l (i + n) ys) s
    ∙ sets_past (sets gs i xs) (i + n) ys (omega arith)
    ∙ sym (sets_append gs i xs ys ∙ sets_past (sets gs i xs) (i + length xs) ys (omega arith)))
    (cases_lt (length xs) (suc (length gs - i)))

-- a cluster of what is left of a string lies in it, and has 1 to 8 bytes
pub sized_at : (m : Ruling) (s : List ℕ) (at : ℕ) → at < length s → (1 ≤ (m.first (drop at s)).len) × ((m.first (drop at s)).len ≤ 8) × (at + (m.first (drop at s)).len ≤ length s)
sized_at m s at h =
    let d = drop_more s at 0 h in
    let o = m.onward (get_or s at 0) (drop (at + 1) s) in
    let small = m.small (drop at s) in
    let n = ap (λ l. (m.first l).len) d in
    let l = ap length d in
    (omega arith, omega arith, omega (arith, length-drop at s))

-- a string is its first cluster, and then what is left of it
pub cut_step : (m : Ruling) (s bs : List ℕ) (w : ℕ) → 0 < length s → bs ≡ (cut_at m s 0).bytes → w ≡ (cut_at m s 0).width → length bs ≡ (m.first s).len →
    cut m.first s ≡ record { bytes = bs; width = w } ∷ cut m.first (take (length s - length bs) (drop (length bs) s))
cut_step m [] bs w h e f l = absurd (omega arith)
cut_step m (b ∷ s) bs w h e f l =
    let c = cut_more m.first m.onward b s in
    let t = take_rest (b ∷ s) (length bs) in
    cc

-- the glyphs of what is left are those of its first cluster and then those of the rest
pub sanitized_step : (m : Ruling) (t : Style) (s : List ℕ) (at : ℕ) → at < length s →
    sanitized m t (drop at s) ≡ shown t (cut_at m s at) ++ sanitized m t (drop (at + (m.first (drop at s)).len) s)
sanitized_step m t s at h =
    let d = drop_more s at 0 h in
    let c : cut m.first (drop at s) ≡ cut_at m s at ∷ cut m.first (drop (m.first (drop at s)).len (drop at s)) =
    subst (λ l. cut m.first l ≡ cut_off (m.first l) l ∷ cut m.first (drop (m.first l).len l)) (sym d) (cut_more m.first m.onward (get_or s at 0) (drop (at + 1) s)) in
    ap (flat_map (shown t)) c ∙ ap (λ l. shown t (cut_at m s at) ++ sanitized m t l) (drop-drop (m.first (drop at s)).len at s)

pub sanitized-none : (m : Ruling) (t : Style) (s : List ℕ) (at : ℕ) → length s ≤ at → sanitized m t (drop at s) ≡ []
sanitized-none m t s at h = ap (sanitized m t) (drop_all at s h)

-- the glyphs of a cluster are one glyph, once or four times
abbrev pub times_of : List ℕ → ℕ
times_of bs = cond (is_tab bs) 4 1

abbrev pub glyph_for : Style → List ℕ → ℕ → Glyph
glyph_for t bs w = cond (is_tab bs) (space t) (cond (eqb w 0) (replacement t) (glyph_of bs w t))

shown_by : (tab thin : Bool) (a b d : Glyph) → replicate (cond tab 4 1) (cond tab a (cond thin b d)) ≡ cond tab (a ∷ a ∷ a ∷ a ∷ []) (cond thin (b ∷ []) (d ∷ []))
shown_by true thin a b d = refl
shown_by false true a b d = refl
shown_by false false a b d = refl

-- a cluster's glyphs written at p, and then those of the others behind them
pub written_step : (t : Style) (c : Cut) (cs ds : List Cut) → ds ≡ c ∷ cs →
    (gs hs : List Glyph) (p k q times : ℕ) (g : Glyph) → times ≡ times_of c.bytes → g ≡ glyph_for t c.bytes c.width → hs ≡ overwritten gs p (replicate times g) → k ≡ min times (length gs - p) → q ≡ p + k →
    sets hs q (flat_map (shown t) cs) ≡ sets gs p (flat_map (shown t) ds)
written_step t c cs ds e gs hs p k q times g n u v x y =
    let rest = flat_map (shown t) cs in
    let r : replicate times g ≡ shown t c =
    ap (λ i. replicate i g) n ∙ ap (replicate (times_of c.bytes)) u ∙ shown_by (is_tab c.bytes) (eqb c.width 0) (space t) (replacement t) (glyph_of c.bytes c.width t) in
    let m : k ≡ min (length (replicate times g)) (length gs - p) = x ∙ ap (λ i. min i (length gs - p)) (sym (length-replicate times g)) in
    ap (λ i. sets hs i rest) y
    ∙ sets_more gs hs p k (replicate times g) rest v m
    ∙ ap (λ z. sets gs p (z ++ rest)) r
    ∙ ap (λ l. sets gs p (flat_map (shown t) l)) (sym e)
