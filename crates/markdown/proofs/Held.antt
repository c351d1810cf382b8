-- What a sheet holds is that of its last admitted load and its last switch.
use Rattle.std.proofs.Common.{◌≡◌, Bool, true, false, cond, ◌⊎◌, List, [], ◌∷◌, ◌++◌, Some, None, Option, Ok, Err, Result, is_ok, unwrap_or, refl, sym, subst, ap, ◌∙◌, inl, inr, ⊎_elim}
use Rattle.std.specs.List.{AllByRecursion, filter_map, cons_option, last_or}
use Rattle.style.specs.declared.Style.{Style}
use Rattle.events.specs.declared.refusal.Refusal.{Refusal}
use Rattle.blocks.specs.Pieces.{Piece}
use Rattle.markdown.specs.Sheets.{Sheet, sheet, Limits, switched}
use Rattle.markdown.specs.Calls.{Load, Call, load, switch, question, height, paint, load_answer, blocks_in, loaded}
use Rattle.records.specs.Memory.{Memory}
use Rattle.markdown.specs.Fronts.{StandsInFront}
use Rattle.markdown.specs.Holds.{Beginning, first_sheet, limits_at, IsFirstMemory, admitted_load, switched_to, NoLoad, NoSwitch, IsLastLoad, IsLastSwitch, Holds, Keeps, ChangesNothing}

-- The last one of a list, if there is one.
abbrev last : {X : Type 0} → List X → Option X
last xs = last_or None xs

-- The last admitted load of a past, and its last switch.
abbrev pub last_load : Limits → List Call → Option Load
last_load limits past = last (filter_map (admitted_load limits) past)

abbrev pub last_switch : List Call → Option Bool
last_switch past = last (filter_map switched_to past)

-- The blocks of the last admitted load, and its style of table borders; before the first one those of the beginning.
abbrev pub blocks_by : Sheet → Option Load → List Piece
blocks_by s None = s.blocks
blocks_by s (Some l) = blocks_in l

abbrev pub border_by : Sheet → Option Load → Style
border_by s None = s.border
border_by s (Some l) = l.styles.table_border

-- What a sheet holds after a past: blocks and border of its last admitted load, and streaming as last switched.
abbrev pub held : Beginning → List Call → Sheet
held b calls =
    let first = first_sheet b in
    sheet (blocks_by first (last_load (limits_at b) calls)) (border_by first (last_load (limits_at b) calls)) (unwrap_or (last_switch calls) first.streaming)

-- what is picked last is what is picked of the last call that something is picked of
none_picked : {X : Type 0} (f : Call → Option X) (o : Option X) (cs : List Call) → AllByRecursion (λ c. f c ≡ None) cs → last_or o (filter_map f cs) ≡ o
none_picked f o [] h = refl
none_picked f o (c ∷ cs) h = ap (λ p. last_or o (cons_option p (filter_map f cs))) h.0 ∙ none_picked f o cs h.1

last_picked : {X : Type 0} (f : Call → Option X) (o : Option X) (x : X) (before : List Call) (c : Call) (after : List Call) → f c ≡ Some x → AllByRecursion (λ c. f c ≡ None) after → last_or o (filter_map f (before ++ (c ∷ after))) ≡ Some x
last_picked f o x [] c after e h = ap (λ p. last_or o (cons_option p (filter_map f after))) e ∙ none_picked f (Some x) after h
last_picked f o x (d ∷ before) c after e h =
    elim (f d) as (λ p. last_or o (cons_option p (filter_map f (before ++ (c ∷ after)))) ≡ Some x) [ None ↦ last_picked f o x before c after e h | Some y ↦ last_picked f (Some y) x before c after e h ]

-- a call that was admitted is picked
picked : (limits : Limits) (l : Load) → load_answer limits l ≡ Ok tt → admitted_load limits (load l) ≡ Some l
picked limits l e = ap (λ r. cond (is_ok r) (Some l) None) e

-- a last admitted load is picked, and no load is where none was admitted
pub last_is : (limits : Limits) (calls : List Call) (l : Load) → IsLastLoad limits calls l → last_load limits calls ≡ Some l
last_is limits calls l is = ap (last_load limits) is.parts ∙ last_picked (admitted_load limits) None l is.before (load l) is.after (picked limits l is.admitted) is.last

pub none_is : (limits : Limits) (calls : List Call) → NoLoad limits calls → last_load limits calls ≡ None
none_is limits calls nothing = none_picked (admitted_load limits) None calls nothing

pub holds_held : (b : Beginning) (calls : List Call) → Holds b calls (held b calls)
holds_held b calls =
    let first = first_sheet b in
    record {
      loaded = λ l is. let e = last_is (limits_at b) calls l is in (ap (blocks_by first) e, ap (border_by first) e);
      unloaded = λ nothing. let e = none_is (limits_at b) calls nothing in (ap (blocks_by first) e, ap (border_by first) e);
      switched = λ on is. ap (λ o. unwrap_or o first.streaming) (ap last_switch is.parts ∙ last_picked switched_to None on is.before (switch on) is.after refl is.last);
      unswitched = λ nothing. ap (λ o. unwrap_or o first.streaming) (none_picked switched_to None calls nothing);
    }

-- a past has a last admitted load, or no load in it was admitted
was_load : (limits : Limits) (c : Call) (l : Load) → admitted_load limits c ≡ Some l → (c ≡ load l) × (load_answer limits l ≡ Ok tt)
was_load limits (load k) l e = by (load_answer limits k) refl e
  where
    by : (r : Result (Unit {0}) Refusal) → load_answer limits k ≡ r → ◌≡◌ {A = Option Load} (cond (is_ok r) (Some k) None) (Some l) → (load k ≡ load l) × (load_answer limits l ≡ Ok tt)
    by (Ok tt) a e = let same : k ≡ l = cc in (ap (λ (j : Load). load j) same, ap (load_answer limits) (sym same) ∙ a)
    by (Err x) a e = absurd (cc)
was_load limits (switch on) l e = absurd (cc)
was_load limits (question b n w old) l e = absurd (cc)
was_load limits (height b w) l e = absurd (cc)
was_load limits (paint b a p) l e = absurd (cc)

was_switch : (c : Call) (on : Bool) → switched_to c ≡ Some on → c ≡ switch on
was_switch (load l) on e = absurd (cc)
was_switch (switch now) on e = let same : now ≡ on = cc in ap (λ (b : Bool). switch b) same
was_switch (question b n w old) on e = absurd (cc)
was_switch (height b w) on e = absurd (cc)
was_switch (paint b a p) on e = absurd (cc)

some_load : (limits : Limits) (past : List Call) → NoLoad limits past ⊎ ((l : Load) × IsLastLoad limits past l)
some_load limits [] = inl tt
some_load limits (c ∷ cs) =
    ⊎_elim (λ nothing. at nothing (admitted_load limits c) refl)
    (λ (l, is). inr (l, record { before = c ∷ is.before; after = is.after; parts = ap (λ (ds : List Call). c ∷ ds) is.parts; admitted = is.admitted; last = is.last }))
    (some_load limits cs)
  where
    at : NoLoad limits cs → (o : Option Load) → admitted_load limits c ≡ o → NoLoad limits (c ∷ cs) ⊎ ((l : Load) × IsLastLoad limits (c ∷ cs) l)
    at nothing None e = inl (e, nothing)
    at nothing (Some l) e = let was = was_load limits c l e in inr (l, record { before = []; after = cs; parts = ap (λ (d : Call). d ∷ cs) was.0; admitted = was.1; last = nothing })

some_switch : (past : List Call) → NoSwitch past ⊎ ((on : Bool) × IsLastSwitch past on)
some_switch [] = inl tt
some_switch (c ∷ cs) =
    ⊎_elim (λ nothing. at nothing (switched_to c) refl)
    (λ (on, is). inr (on, record { before = c ∷ is.before; after = is.after; parts = ap (λ (ds : List Call). c ∷ ds) is.parts; last = is.last }))
    (some_switch cs)
  where
    at : NoSwitch cs → (o : Option Bool) → switched_to c ≡ o → NoSwitch (c ∷ cs) ⊎ ((on : Bool) × IsLastSwitch (c ∷ cs) on)
    at nothing None e = inl (e, nothing)
    at nothing (Some on) e = inr (on, record { before = []; after = cs; parts = ap (λ (d : Call). d ∷ cs) (was_switch c on e); last = nothing })

same_sheet : (s t : Sheet) → s.blocks ≡ t.blocks → s.border ≡ t.border → s.streaming ≡ t.streaming → s ≡ t
same_sheet s t x y z = ap (λ (ps : List Piece). sheet ps s.border s.streaming) x ∙ (ap (λ (b : Style). sheet t.blocks b s.streaming) y ∙ ap (λ (b : Bool). sheet t.blocks t.border b) z)

-- a past leaves one sheet only
pub holds_once : (b : Beginning) (calls : List Call) (s t : Sheet) → Holds b calls s → Holds b calls t → s ≡ t
holds_once b calls s t h k =
    same_sheet s t
    (⊎_elim (λ nothing. (h.unloaded nothing).0 ∙ sym (k.unloaded nothing).0) (λ (l, is). (h.loaded l is).0 ∙ sym (k.loaded l is).0) (some_load (limits_at b) calls))
    (⊎_elim (λ nothing. (h.unloaded nothing).1 ∙ sym (k.unloaded nothing).1) (λ (l, is). (h.loaded l is).1 ∙ sym (k.loaded l is).1) (some_load (limits_at b) calls))
    (⊎_elim (λ nothing. h.unswitched nothing ∙ sym (k.unswitched nothing)) (λ (on, is). h.switched on is ∙ sym (k.switched on is)) (some_switch calls))

-- one call more
abbrev later : {X : Type 0} → Option X → Option X → Option X
later None o = o
later (Some x) o = Some x

picked_more : {X : Type 0} (f : Call → Option X) (o : Option X) (past : List Call) (c : Call) → last_or o (filter_map f (past ++ (c ∷ []))) ≡ later (f c) (last_or o (filter_map f past))
picked_more f o [] c = elim (f c) as (λ p. last_or o (cons_option p []) ≡ later p o) [ None ↦ refl | Some x ↦ refl ]
picked_more f o (d ∷ past) c =
    elim (f d) as (λ p. last_or o (cons_option p (filter_map f (past ++ (c ∷ [])))) ≡ later (f c) (last_or o (cons_option p (filter_map f past)))) [ None ↦ picked_more f o past c | Some y ↦ picked_more f (Some y) past c ]

last_more : (limits : Limits) (calls : List Call) (c : Call) (l : Option Load) → admitted_load limits c ≡ l → last_load limits (calls ++ (c ∷ [])) ≡ later l (last_load limits calls)
last_more limits calls c l e = picked_more (admitted_load limits) None calls c ∙ ap (λ o. later o (last_load limits calls)) e

pub held_more : (b : Beginning) (calls : List Call) (c : Call) (l : Option Load) (on : Option Bool) → admitted_load (limits_at b) c ≡ l → switched_to c ≡ on →
    held b (calls ++ (c ∷ []))
    ≡ sheet (blocks_by (first_sheet b) (later l (last_load (limits_at b) calls))) (border_by (first_sheet b) (later l (last_load (limits_at b) calls))) (unwrap_or (later on (last_switch calls)) (first_sheet b).streaming)
held_more b calls c l on p q =
    let first = first_sheet b in
    let x = last_more (limits_at b) calls c l p in
    let y = picked_more switched_to None calls c ∙ ap (λ o. later o (last_switch calls)) q in
    same_sheet _ _ (ap (blocks_by first) x) (ap (border_by first) x) (ap (λ o. unwrap_or o first.streaming) y)

-- what a load is picked as, admitted or refused
admits : (limits : Limits) (l : Load) (r : Result (Unit {0}) Refusal) → r ≡ load_answer limits l → admitted_load limits (load l) ≡ cond (is_ok r) (Some l) None
admits limits l r e = ap (λ q. cond (is_ok q) (Some l) None) (sym e)

-- a load, admitted or refused
held_load : (b : Beginning) (calls : List Call) (l : Load) (r : Result (Unit {0}) Refusal) → r ≡ load_answer (limits_at b) l → loaded r l (held b calls) ≡ held b (calls ++ (load l ∷ []))
held_load b calls l (Ok tt) e = sym (held_more b calls (load l) (Some l) None (admits (limits_at b) l (Ok tt) e) refl)
held_load b calls l (Err x) e = sym (held_more b calls (load l) None None (admits (limits_at b) l (Err x) e) refl)

-- without a call that changes nothing the past gives the same
picked_less : {X : Type 0} (f : Call → Option X) (o : Option X) (before : List Call) (c : Call) (after : List Call) → f c ≡ None → last_or o (filter_map f (before ++ (c ∷ after))) ≡ last_or o (filter_map f (before ++ after))
picked_less f o [] c after e = ap (λ p. last_or o (cons_option p (filter_map f after))) e
picked_less f o (d ∷ before) c after e =
    elim (f d) as (λ p. last_or o (cons_option p (filter_map f (before ++ (c ∷ after)))) ≡ last_or o (cons_option p (filter_map f (before ++ after)))) [ None ↦ picked_less f o before c after e | Some y ↦ picked_less f (Some y) before c after e ]

pub holds_less : (b : Beginning) (calls : List Call) (s : Sheet) (before after : List Call) (c : Call) → Holds b calls s → calls ≡ before ++ (c ∷ after) → ChangesNothing (limits_at b) c → Holds b (before ++ after) s
holds_less b calls s before after c h e idle =
    let first = first_sheet b in
    let x = ap (last_load (limits_at b)) e ∙ picked_less (admitted_load (limits_at b)) None before c after idle.0 in
    let y = ap last_switch e ∙ picked_less switched_to None before c after idle.1 in
    let same : held b (before ++ after) ≡ s =
    sym (holds_once b calls s (held b calls) h (holds_held b calls) ∙ same_sheet (held b calls) (held b (before ++ after)) (ap (blocks_by first) x) (ap (border_by first) x) (ap (λ o. unwrap_or o first.streaming) y)) in
    subst (Holds b (before ++ after)) same (holds_held b (before ++ after))

module _ (b : Beginning) (calls : List Call) (s t : Sheet) (holds : Holds b calls s) where
  was : s ≡ held b calls
  was = holds_once b calls s (held b calls) holds (holds_held b calls)

  goes_on : (c : Call) → t ≡ held b (calls ++ (c ∷ [])) → Holds b (calls ++ (c ∷ [])) t
  goes_on c e = subst (Holds b (calls ++ (c ∷ []))) (sym e) (holds_held b (calls ++ (c ∷ [])))

  pub after_load : (l : Load) (r : Result (Unit {0}) Refusal) → r ≡ load_answer (limits_at b) l → t ≡ loaded r l s → Holds b (calls ++ (load l ∷ [])) t
  after_load l r e f = goes_on (load l) (f ∙ (ap (loaded r l) was ∙ held_load b calls l r e))

  pub after_switch : (on : Bool) → t ≡ switched on s → Holds b (calls ++ (switch on ∷ [])) t
  after_switch on f = goes_on (switch on) (f ∙ (ap (switched on) was ∙ sym (held_more b calls (switch on) None (Some on) refl refl)))

  -- any other call
  pub after_other : (c : Call) → admitted_load (limits_at b) c ≡ None → switched_to c ≡ None → t ≡ s → Holds b (calls ++ (c ∷ [])) t
  after_other c p q f = goes_on c (f ∙ (was ∙ sym (held_more b calls c None None p q)))

-- what the memory is by the last admitted load
abbrev KeptBy : Beginning → Option Load → Memory → Type 0
KeptBy b None m = IsFirstMemory b m
KeptBy b (Some l) m = StandsInFront l m

kept_by : (b : Beginning) (calls : List Call) (m : Memory) → Keeps b calls m → KeptBy b (last_load (limits_at b) calls) m
kept_by b calls m k =
    ⊎_elim (λ nothing. subst (λ o. KeptBy b o m) (sym (none_is (limits_at b) calls nothing)) (k.unloaded nothing)) (λ (l, is). subst (λ o. KeptBy b o m) (sym (last_is (limits_at b) calls l is)) (k.loaded l is))
    (some_load (limits_at b) calls)

keeps_by : (b : Beginning) (calls : List Call) (m : Memory) → KeptBy b (last_load (limits_at b) calls) m → Keeps b calls m
keeps_by b calls m k =
    record {
      loaded = λ l is. subst (λ o. KeptBy b o m) (last_is (limits_at b) calls l is) k;
      unloaded = λ nothing. subst (λ o. KeptBy b o m) (none_is (limits_at b) calls nothing) k;
    }

-- a call that is no admitted load leaves the memory
pub keeps_other : (b : Beginning) (calls : List Call) (m : Memory) (c : Call) → admitted_load (limits_at b) c ≡ None → Keeps b calls m → Keeps b (calls ++ (c ∷ [])) m
keeps_other b calls m c e k = keeps_by b (calls ++ (c ∷ [])) m (subst (λ o. KeptBy b o m) (sym (last_more (limits_at b) calls c None e)) (kept_by b calls m k))

-- a load, admitted or refused
pub keeps_load : (b : Beginning) (calls : List Call) (m n : Memory) (l : Load) (r : Result (Unit {0}) Refusal) → r ≡ load_answer (limits_at b) l →
    (is_ok r ≡ true → StandsInFront l n) → (is_ok r ≡ false → n ≡ m) → Keeps b calls m → Keeps b (calls ++ (load l ∷ [])) n
keeps_load b calls m n l (Ok tt) e front same k = keeps_by b (calls ++ (load l ∷ [])) n (subst (λ o. KeptBy b o n) (sym (last_more (limits_at b) calls (load l) (Some l) (admits (limits_at b) l (Ok tt) e))) (front refl))
keeps_load b calls m n l (Err x) e front same k = subst (Keeps b (calls ++ (load l ∷ []))) (sym (same refl)) (keeps_other b calls m (load l) (admits (limits_at b) l (Err x) e) k)

-- as at the beginning
pub keeps_none : (b : Beginning) (m : Memory) → IsFirstMemory b m → Keeps b [] m
keeps_none b m k = keeps_by b [] m k
