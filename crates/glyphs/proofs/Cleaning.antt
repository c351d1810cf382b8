-- What holds of every glyph of a string, under every ruler.
use Rattle.std.proofs.Common.{◌≡◌, ℕ, zero, suc, ◌+◌, ◌<◌, ◌≤◌, true, cond, eqb, List, [], ◌∷◌, length, get_or, take, drop, sym, refl, ap, ◌∙◌, subst, ⊎_elim, arith, length-take}
use Rattle.std.specs.Char.{is_ascii_control}
use Rattle.std.specs.List.{flat_map, AllByRecursion as All}
use Rattle.std.proofs.ByRecursion.{All-append}
use Rattle.std.proofs.lemmas.List.{get_or-take, get_or-drop, get_or_past}
use Rattle.std.proofs.lemmas.Bool.{cond_both, cases_Bool, cases_lt, eqb-false}
use Rattle.style.specs.declared.Style.{Style}
use Rattle.style.proofs.Symbols.{unpacked-packed}
use Rattle.clusters.specs.Cuts.{Cut, cut_off, cut, HidesControls}
use Rattle.glyphs.specs.Rulings.{Ruling}
use Rattle.clusters.proofs.Cutting.{cut_all}
use Rattle.glyphs.specs.declared.Glyph.{Glyph}
use Rattle.glyphs.specs.Glyphs.{is_tab, space, replacement, glyph_of, shown, sanitized, Sized, Clean}

all_joined : (P : Glyph → Type 0) (f : Cut → List Glyph) (cs : List Cut) → All (λ c. All P (f c)) cs → All P (flat_map f cs)
all_joined P f [] a = tt
all_joined P f (c ∷ cs) a = All-append P (f c) (flat_map f cs) a.0 (all_joined P f cs a.1)

-- the glyphs of a cluster of 1 to 8 bytes and a width of at most 2
shown_sized : (t : Style) (c : Cut) → 1 ≤ length c.bytes → length c.bytes ≤ 8 → c.width ≤ 2 → All Sized (shown t c)
shown_sized t c low high wide =
    let own = glyph_of c.bytes c.width t in
    let one : Sized (space t) = (omega arith, omega arith, omega arith, omega arith) in
    cond_both (is_tab c.bytes) (space t ∷ space t ∷ space t ∷ space t ∷ []) (cond (eqb c.width 0) (replacement t ∷ []) (own ∷ [])) (All Sized)
    (λ _. (one, (one, (one, (one, tt)))))
    (λ _. cond_both (eqb c.width 0) (replacement t ∷ []) (own ∷ []) (All Sized)
    (λ _. ((omega arith, omega arith, omega arith, omega arith), tt))
    (λ e. let n = eqb-false c.width 0 e in ((low, high, omega arith, wide), tt)))

-- every glyph of every string has 1 to 8 bytes and takes one or two columns
pub sanitized_sized : (m : Ruling) (t : Style) (s : List ℕ) → All Sized (sanitized m t s)
sanitized_sized m t s =
    all_joined Sized (shown t) (cut m.first s)
    (cut_all m.first m.onward (λ _. Unit {0}) (λ c. All Sized (shown t c))
    (λ b s _.
    let n = (m.first (b ∷ s)).len in
    let on = m.onward b s in
    let small = m.small (b ∷ s) in
    let l = length-take n (b ∷ s) in
    (shown_sized t (cut_off (m.first (b ∷ s)) (b ∷ s)) (omega arith) (omega arith) small.1, tt))
    0 s tt)

-- a string of bytes
abbrev pub BytesOf : List ℕ → Type 0
BytesOf s = (i : ℕ) → get_or s i 0 < 256

take_bytes : (n : ℕ) (s : List ℕ) → BytesOf s → BytesOf (take n s)
take_bytes n s h i =
    ⊎_elim
    (λ l. subst (λ b. b < 256) (sym (get_or-take n s i 0 l)) (h i))
    (λ l. subst (λ b. b < 256) (sym (get_or_past (take n s) i 0 (omega (arith, length-take n s)))) (omega arith))
    (cases_lt i n)

drop_bytes : (n : ℕ) (s : List ℕ) → BytesOf s → BytesOf (drop n s)
drop_bytes n s h i = subst (λ b. b < 256) (sym (get_or-drop n s i 0)) (h (n + i))

space-clean : (t : Style) → Clean (space t)
space-clean t zero h = refl
space-clean t (suc i) h = absurd (omega arith)

replacement-clean : (t : Style) → Clean (replacement t)
replacement-clean t zero h = refl
replacement-clean t (suc zero) h = refl
replacement-clean t (suc (suc zero)) h = refl
replacement-clean t (suc (suc (suc i))) h = absurd (omega arith)

own_clean : (t : Style) (c : Cut) → BytesOf c.bytes → HidesControls c → (c.width ≡ 0 → ⊥) → Clean (glyph_of c.bytes c.width t)
own_clean t c b hides n i h =
    let e = unpacked-packed c.bytes b in
    let x = get_or c.bytes i 0 in
    ap (λ l. is_ascii_control (get_or l i 0)) e
    ∙ ⊎_elim (λ yes. absurd (n (hides i (subst (λ l. i < length l) e h) yes))) (λ not. not) (cases_Bool (is_ascii_control x))

shown-clean : (t : Style) (c : Cut) → BytesOf c.bytes → HidesControls c → All Clean (shown t c)
shown-clean t c b hides =
    let own = glyph_of c.bytes c.width t in
    let one = space-clean t in
    cond_both (is_tab c.bytes) (space t ∷ space t ∷ space t ∷ space t ∷ []) (cond (eqb c.width 0) (replacement t ∷ []) (own ∷ [])) (All Clean)
    (λ _. (one, (one, (one, (one, tt)))))
    (λ _. cond_both (eqb c.width 0) (replacement t ∷ []) (own ∷ []) (All Clean)
    (λ _. (replacement-clean t, tt))
    (λ e. (own_clean t c b hides (eqb-false c.width 0 e), tt)))

all-clean : (t : Style) (cs : List Cut) → All (λ c. BytesOf c.bytes) cs → All HidesControls cs → All Clean (flat_map (shown t) cs)
all-clean t [] b h = tt
all-clean t (c ∷ cs) b h = All-append Clean (shown t c) (flat_map (shown t) cs) (shown-clean t c b.0 h.0) (all-clean t cs b.1 h.1)

-- no glyph of an admitted string holds a control byte
pub sanitized-clean : (m : Ruling) (t : Style) (s : List ℕ) → BytesOf s → m.admits s ≡ true → All Clean (sanitized m t s)
sanitized-clean m t s b ok =
    all-clean t (cut m.first s)
    (cut_all m.first m.onward BytesOf (λ c. BytesOf c.bytes) (λ x s h. (take_bytes (m.first (x ∷ s)).len (x ∷ s) h, drop_bytes (m.first (x ∷ s)).len (x ∷ s) h)) 0 s b)
    (m.hides s ok)
