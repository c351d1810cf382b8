-- Walking through the lines of a text.
use Rattle.std.proofs.Common.{◌≡◌, ℕ, ◌<◌, Bool, true, false, cond, ◌&&◌, eqb, List, [], ◌∷◌, ◌++◌, take, drop, Some, None, IsUtf8, Option, sym, refl, ap, ◌∙◌, subst, true≢false, append_assoc, length, arith, MatchOption}
use lib.Utf8.{encode, encodes}
use Rattle.std.specs.Str.Pattern.{FindsChar, IsSplitAtFirstMatch}
use Rattle.std.specs.Str.Iter.{split_steps, split_text, split_has_more, split_pattern}
use Rattle.std.proofs.lemmas.Iterator.{YieldsList}
use Rattle.std.proofs.lemmas.Iterator.Splits.{YieldsList-from_shown_while}
use Rattle.std.specs.Str.{NonePass, IsCharBoundary, chars}
use Rattle.std.proofs.lemmas.List.{take-append-drop, length-drop}
use Rattle.std.proofs.lemmas.Bool.{eq-eqb}
use Rattle.std.proofs.lemmas.Str.{chars_from_encodes, IsUtf8-take, IsUtf8-drop, IsCharBoundary-before_ascii, encode_ascii, len_utf8_bounds}
use Rattle.tail.specs.Lines.{parts, onto}
use Rattle.tail.specs.Fences.{belongs, all_belong, fence_below, run_at_end}
use Rattle.tail.specs.declared.fences.Fence.{Fence}
use Rattle.tail.proofs.Spelling.{decodes_cut, encodes_push}

-- the parts that are still to come
abbrev pub parts_left : ℕ → Bool → List ℕ → List (List ℕ)
parts_left d live text = cond live (parts d (chars text)) []

module _ (d : ℕ) (low : d < 128) where
  -- a text without d is one part, and one before a d is the first
  parts_one : (cs : List ℕ) → NonePass (λ c. eqb c d) cs → parts d cs ≡ cs ∷ []
  parts_one [] f = refl
  parts_one (c ∷ cs) f = rw f.0 (ap (onto c) (parts_one cs f.1))

  parts_more : (cs ds : List ℕ) → NonePass (λ c. eqb c d) cs → parts d (cs ++ (d ∷ ds)) ≡ cs ∷ parts d ds
  parts_more [] ds f = rw (eq-eqb d d refl) refl
  parts_more (c ∷ cs) ds f = rw f.0 (ap (onto c) (parts_more cs ds f.1))

  module _ (w x rest : List ℕ) (u : IsUtf8 w) where
    last_part : FindsChar d w None → x ≡ w → parts d (chars w) ≡ chars x ∷ []
    last_part h e =
        let f = chars_from_encodes h.0 w u h.1 in
        ap (parts d) (sym f) ∙ (parts_one h.0 h.2 ∙ ap (λ l. l ∷ []) (f ∙ ap chars (sym e)))

    module _ (i j : ℕ) (h : FindsChar d w (Some (i, j))) (e : x ≡ take i w) (r : rest ≡ drop j w) where
      rest_utf8 : IsUtf8 rest
      rest_utf8 = subst IsUtf8 (sym r) (IsUtf8-drop w j u (subst (IsCharBoundary w) (sym h.1.ends) h.1.after))

      first_part : parts d (chars w) ≡ chars x ∷ parts d (chars rest)
      first_part =
          let cs = h.0.0 in
          let n = encode_ascii d low in
          let split : drop i w ≡ d ∷ rest = h.1.split ∙ (ap (λ l. l ++ drop j w) n ∙ ap (λ l. d ∷ l) (sym r)) in
          let v : IsUtf8 x = subst IsUtf8 (sym e) (IsUtf8-take w i u (IsCharBoundary-before_ascii w i (omega (arith, ap length split, length-drop i w)) (omega (arith, h.1.byte low)))) in
          let cut : w ≡ (take i w ++ encode d) ++ rest = sym (take-append-drop i w) ∙ (ap (λ l. take i w ++ l) (split ∙ ap (λ l. l ++ rest) (sym n)) ∙ sym (append_assoc (take i w) (encode d) rest)) in
          let front : encodes (cs ++ (d ∷ [])) ≡ take i w ++ encode d = encodes_push cs d ∙ ap (λ l. l ++ encode d) h.0.1 in
          let f = decodes_cut w (take i w ++ encode d) rest (cs ++ (d ∷ [])) u rest_utf8 cut front in
          ap (parts d) (f ∙ append_assoc cs (d ∷ []) (chars rest)) ∙ (parts_more cs (chars rest) h.0.2 ∙ ap (λ l. l ∷ parts d (chars rest)) (chars_from_encodes cs x v (h.0.1 ∙ sym e)))

    split_by : (live : Bool) (o : Option (ℕ × ℕ)) → FindsChar d w o → MatchOption o ((x ≡ w) × (live ≡ false)) (λ q. 0 < q.1 → (x ≡ take q.0 w) × (live ≡ true) × (rest ≡ drop q.1 w)) → (parts d (chars w) ≡ chars x ∷ parts_left d live rest) × (live ≡ true → IsUtf8 rest)
    split_by live None h c = (last_part h c.0 ∙ ap (λ b. chars x ∷ parts_left d b rest) (sym c.1), λ t. absurd (true≢false (sym t ∙ c.1)))
    split_by live (Some q) h c =
        let k = c (omega (arith, h.1.ends, (len_utf8_bounds d).0)) in
        (first_part q.0 q.1 h k.0 k.2 ∙ ap (λ b. chars x ∷ parts_left d b rest) (sym k.1), λ t. rest_utf8 q.0 q.1 h k.0 k.2)

    -- one part on
    pub split_step : (live : Bool) → IsSplitAtFirstMatch (FindsChar d) w x live rest → (parts d (chars w) ≡ chars x ∷ parts_left d live rest) × (live ≡ true → IsUtf8 rest)
    split_step live h = split_by live h.1.0 h.1.1 h.1.2

  -- all of them, one by one
  pub split_yields : {s : _} (text : List ℕ) → IsUtf8 text → split_text s ≡ text → split_has_more s ≡ true → split_pattern s ≡ d → YieldsList (split_steps FindsChar (λ a b. b ≡ a)) (λ x. chars x.now) s (parts d (chars text))
  split_yields {s} text u e live pattern =
      subst (YieldsList (split_steps FindsChar (λ a b. b ≡ a)) (λ x. chars x.now) s) (ap (λ b. parts_left d b (split_text s)) live ∙ ap (λ l. parts d (chars l)) e)
      (YieldsList-from_shown_while (split_steps FindsChar (λ a b. b ≡ a)) (λ x. chars x.now) (λ t. parts_left d (split_has_more t) (split_text t)) (λ t. (split_pattern t ≡ d) × (split_has_more t ≡ true → IsUtf8 (split_text t)))
      (λ t v h k. ap (λ b. length (parts_left d b (split_text t))) (sym k.0))
      (λ t x v h k.
      let p = subst (λ c. IsSplitAtFirstMatch (FindsChar c) (split_text t) x.now (split_has_more v) (split_text v)) h.0 k.1.1 in
      let q = split_step (split_text t) x.now (split_text v) (h.1 (sym k.0)) (split_has_more v) p in
      ((k.1.0 ∙ h.0, q.1), ap (λ b. parts_left d b (split_text t)) (sym k.0) ∙ q.0))
      s (pattern, λ _. subst IsUtf8 (sym e) u))

-- the run at the end of a text of which the run before the lines ls was read, below the fence f
abbrev pub finished : Option Fence → List (List ℕ) → List (List ℕ) → List (List ℕ)
finished f run ls = cond (all_belong f ls) (run ++ ls) (run_at_end f ls)

pub finish_none : (f : Option Fence) (ls : List (List ℕ)) → finished f [] ls ≡ run_at_end f ls
finish_none f [] = refl
finish_none f (l ∷ ls) = elim (belongs f l && all_belong (fence_below f l) ls) as (λ b. cond b (l ∷ ls) (cond b (l ∷ ls) (run_at_end (fence_below f l) ls)) ≡ cond b (l ∷ ls) (run_at_end (fence_below f l) ls)) [ true ↦ refl | false ↦ refl ]

finish_by : (f : Option Fence) (run : List (List ℕ)) (l : List ℕ) (ls : List (List ℕ)) (b : Bool) → cond (b && all_belong f ls) (run ++ (l ∷ ls)) (cond (b && all_belong f ls) (l ∷ ls) (run_at_end f ls)) ≡ finished f (cond b (run ++ (l ∷ [])) []) ls
finish_by f run l ls true = elim (all_belong f ls) as (λ a. cond a (run ++ (l ∷ ls)) (cond a (l ∷ ls) (run_at_end f ls)) ≡ cond a ((run ++ (l ∷ [])) ++ ls) (run_at_end f ls)) [ true ↦ sym (append_assoc run (l ∷ []) ls) | false ↦ refl ]
finish_by f run l ls false = sym (finish_none f ls)

pub finish_step : (f : Option Fence) (run : List (List ℕ)) (l : List ℕ) (ls : List (List ℕ)) → finished f run (l ∷ ls) ≡ finished (fence_below f l) (cond (belongs f l) (run ++ (l ∷ [])) []) ls
finish_step f run l ls = finish_by (fence_below f l) run l ls (belongs f l)
