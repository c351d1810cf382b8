use Rattle.std.proofs.Common.{◌≡◌, ℕ, ◌+◌, ◌-◌, ◌<◌, ◌≤◌, Bool, true, false, cond, eqb, ltb, ◌⊎◌, List, [], ◌∷◌, length, set, Some, None, sym, refl, ap, ◌∙◌, subst, inl, inr, arith}
use Rattle.std.specs.List.{AllByRecursion as All}
use Rattle.std.proofs.lemmas.Bool.Decides.{nat_tests}
use Rattle.std.proofs.lemmas.List.{length_push}
use Rattle.stack.specs.Stacks.{topped, replaced}
use Rattle.events.specs.Kinds.{start_of, tag_of}
use Rattle.events.specs.declared.event.Tag.{Tag}
use Rattle.events.specs.declared.event.Tag.TheVariants as tag
use Rattle.checks.specs.declared.marks.Place.{Place}
use Rattle.checks.specs.declared.marks.Place.TheVariants as place
use Rattle.checks.specs.declared.marks.Mark.{Mark}
use Rattle.checks.specs.declared.marks.Move.TheVariants.{Close, Open, Enter}
use Rattle.checks.specs.Marks.{place_in, is_a, outside, allowed, applied}
use Rattle.records.specs.declared.kinds.Info.{Info}
use Rattle.records.specs.Acts.{Act, put, end_line, begin_table, end_entry, end_head, end_row, end_table}
use Rattle.blocks.specs.Pieces.{Line}
use Rattle.blocks.specs.Drafts.{Draft, draw, drawn}
use Rattle.laws.proofs.Books.{SafeRun, all_push}

-- where in a table the open marks are: a grid's columns and whether it is fresh, a row's columns and how many entries it still takes
pub data Zone : Type 0 where
  idle : Zone
  grid : ℕ → Bool → Zone
  head : ℕ → ℕ → Zone
  body : ℕ → ℕ → Zone
  head_entry : ℕ → ℕ → Zone
  body_entry : ℕ → ℕ → Zone
  lost : Zone

abbrev in_head : ℕ → Zone → Zone
in_head k (grid n f) = head n k
in_head k _ = lost

abbrev in_body : ℕ → Zone → Zone
in_body k (grid n f) = body n k
in_body k _ = lost

abbrev in_entry : Zone → Zone
in_entry (head n j) = head_entry n j
in_entry (body n j) = body_entry n j
in_entry _ = lost

abbrev zone_by : Tag → ℕ → Bool → Zone → Zone
zone_by tag.Table n f z = grid n f
zone_by tag.TableHead n f z = in_head n z
zone_by tag.TableRow n f z = in_body n z
zone_by tag.TableCell n f z = in_entry z
zone_by _ n f z = z

abbrev pub zone : List Mark → Zone
zone [] = idle
zone (m ∷ ms) = zone_by m.tag m.entries m.fresh (zone ms)

abbrev pub place_of : Zone → Place
place_of idle = place.Prose
place_of (grid n f) = place.Table
place_of (head n k) = place.Table
place_of (body n k) = place.Table
place_of (head_entry n k) = place.Entry
place_of (body_entry n k) = place.Entry
place_of lost = place.Table

-- what a mark stands on
abbrev over : Tag → Zone → Type 0
over tag.Table z = z ≡ idle
over tag.TableHead z = (n : ℕ) × (z ≡ grid n false)
over tag.TableRow z = (n : ℕ) × (z ≡ grid n false)
over tag.TableCell z = ((n : ℕ) × (k : ℕ) × (z ≡ head n k)) ⊎ ((n : ℕ) × (k : ℕ) × (z ≡ body n k))
over _ z = Unit {0}

abbrev pub Sound : List Mark → Type 0
Sound [] = Unit {0}
Sound (m ∷ ms) = (m.place ≡ place_of (zone (m ∷ ms))) × over m.tag (zone ms) × Sound ms

-- the table of a draft
pub record Core : Type 0 where
  pub begun : Bool
  pub info : Info
  pub rows : List (List Line)
  pub row : List Line

abbrev pub core : Bool → Info → List (List Line) → List Line → Core
core b i rs r = record { begun = b; info = i; rows = rs; row = r }

abbrev pub core_of : Draft → Core
core_of d = core d.begun d.info d.rows d.row

pub record Grid (n : ℕ) (b : Bool) (i : Info) : Type 0 where
  pub begun : b ≡ true
  pub columns : i.columns ≡ n
  pub some : 1 ≤ n
  pub few : n ≤ 32

abbrev pub Held : Zone → Core → Type 0
Held idle c = (c.begun ≡ false) × (c.rows ≡ []) × (c.row ≡ [])
Held (grid n f) c = Grid n c.begun c.info × All (λ r. length r ≤ n) c.rows × (f ≡ true → c.rows ≡ [] ∷ []) × (c.row ≡ [])
Held (head n k) c = Grid n c.begun c.info × (c.rows ≡ [] ∷ []) × (length c.row + k ≤ n)
Held (body n k) c = Grid n c.begun c.info × All (λ r. length r ≤ n) c.rows × (length c.row + k ≤ n)
Held (head_entry n k) c = Grid n c.begun c.info × (c.rows ≡ [] ∷ []) × (length c.row + k + 1 ≤ n)
Held (body_entry n k) c = Grid n c.begun c.info × All (λ r. length r ≤ n) c.rows × (length c.row + k + 1 ≤ n)
Held lost c = ⊥

-- acts after which the marks and the draft still agree, and that lose nothing
pub record Onward (ms : List Mark) (d : Draft) (xs : List Act) : Type 0 where
  pub sound : Sound ms
  pub held : Held (zone ms) (core_of (drawn d xs))
  pub safe : SafeRun d xs

pub top_place : (ms : List Mark) → Sound ms → place_in (topped ms) ≡ place_of (zone ms)
top_place [] s = refl
top_place (m ∷ ms) s = s.0

prose_idle : (z : Zone) (c : Core) → Held z c → place_of z ≡ place.Prose → z ≡ idle
prose_idle idle c h e = refl
prose_idle lost c h e = absurd h
prose_idle _ c h e = absurd (cc)

push_if : (b : Bool) (ms : List Mark) (m : Mark) (d : Draft) (xs : List Act) → b ≡ true → Onward (m ∷ ms) d xs → Onward (cond b (m ∷ ms) ms) d xs
push_if true ms m d xs e o = o
push_if false ms m d xs e o = absurd (cc)

pub open_step : (ms : List Mark) (m : Mark) (d : Draft) (xs : List Act) → allowed 64 ms (Some (Open m)) ≡ true → Onward (m ∷ ms) d xs → Onward (applied 64 ms (Some (Open m))) d xs
open_step ms m d xs e o = push_if (ltb (length ms) 64) ms m d xs e o

pub outside_step : (p : Place) (ms : List Mark) (m : Mark) (d : Draft) (xs : List Act) → allowed 64 ms (outside p m) ≡ true → (p ≡ place.Prose → Onward (m ∷ ms) d xs) → Onward (applied 64 ms (outside p m)) d xs
outside_step place.Prose ms m d xs e o = open_step ms m d xs e (o refl)
outside_step place.Table ms m d xs e o = absurd (cc)
outside_step place.Entry ms m d xs e o = absurd (cc)

pub enter_step : (c : Bool) (ms : List Mark) (x y : Mark) (d : Draft) (xs : List Act) → allowed 64 ms (cond c (Some (Enter x y)) None) ≡ true → (c ≡ true → Onward (y ∷ replaced ms x) d xs) → Onward (applied 64 ms (cond c (Some (Enter x y)) None)) d xs
enter_step true ms x y d xs e o = push_if (ltb (length (replaced ms x)) 64) (replaced ms x) y d xs e (o refl)
enter_step false ms x y d xs e o = absurd (cc)

pub close_step : (c : Bool) (m : Mark) (ms : List Mark) (d : Draft) (xs : List Act) → allowed 64 (m ∷ ms) (cond c (Some Close) None) ≡ true → (c ≡ true → Onward ms d xs) → Onward (applied 64 (m ∷ ms) (cond c (Some Close) None)) d xs
close_step true m ms d xs e o = o refl
close_step false m ms d xs e o = absurd (cc)

-- a tag is known by its number
tag_back : (t : Tag) → tag_of (start_of t) ≡ Some t
tag_back tag.Strong = refl
tag_back tag.Emphasis = refl
tag_back tag.CodeBlock = refl
tag_back tag.Paragraph = refl
tag_back tag.Heading = refl
tag_back tag.Item = refl
tag_back tag.List = refl
tag_back tag.Table = refl
tag_back tag.TableHead = refl
tag_back tag.TableRow = refl
tag_back tag.TableCell = refl

eqb_same : (a b : ℕ) → eqb a b ≡ true → a ≡ b
eqb_same a b e = grind (arith, nat_tests)

pub tag_is : (m : Mark) (t : Tag) → is_a t m ≡ true → m.tag ≡ t
tag_is m t e =
    let a = tag_back m.tag in
    let b = tag_back t in
    let n = ap tag_of (eqb_same (start_of m.tag) (start_of t) e) in
    cc

abbrev pub mark : Tag → Place → ℕ → Bool → Mark
mark t p n f = record { tag = t; place = p; entries = n; fresh = f }

pub table_step : (ms : List Mark) (n : ℕ) (d : Draft) (i : Info) → Sound ms → Held (zone ms) (core_of d) → place_in (topped ms) ≡ place.Prose → i.columns ≡ n → 1 ≤ n → n ≤ 32 → Onward (mark tag.Table place.Table n true ∷ ms) d (begin_table i ∷ [])
table_step ms n d i s h p e a b =
    let z = prose_idle (zone ms) (core_of d) h (sym (top_place ms s) ∙ p) in
    let k : Held idle (core_of d) = subst (λ z. Held z (core_of d)) z h in
    record {
      sound = (refl, z, s);
      held = (record { begun = refl; columns = e; some = a; few = b }, (omega arith, tt), (λ q. refl), refl);
      safe = (k, tt);
    }

head_direct : (p : Place) (n : ℕ) (f : Bool) (ms : List Mark) (d : Draft) → Sound (mark tag.Table p n f ∷ ms) → Held (grid n f) (core_of d) → f ≡ true → Onward (mark tag.TableHead p n false ∷ mark tag.Table p n false ∷ ms) d []
head_direct p n f ms d s h e = record {
  sound = (s.0, (n, refl), (s.0, s.1, s.2));
  held = (h.0, h.2 e, omega (arith, ap length h.3));
  safe = tt;
}

pub head_step : (m : Mark) (ms : List Mark) (d : Draft) → m.tag ≡ tag.Table → m.fresh ≡ true → Sound (m ∷ ms) → Held (zone (m ∷ ms)) (core_of d) → Onward (mark tag.TableHead m.place m.entries false ∷ mark m.tag m.place m.entries false ∷ ms) d []
head_step m ms d e f s h =
    let P : Tag → Type 0 = λ t. Sound (mark t m.place m.entries m.fresh ∷ ms) → Held (zone (mark t m.place m.entries m.fresh ∷ ms)) (core_of d) → Onward (mark tag.TableHead m.place m.entries false ∷ mark t m.place m.entries false ∷ ms) d [] in
    subst P (sym e) (λ s h. head_direct m.place m.entries m.fresh ms d s h f) s h

row_direct : (p : Place) (n : ℕ) (f : Bool) (ms : List Mark) (d : Draft) → Sound (mark tag.Table p n f ∷ ms) → Held (grid n f) (core_of d) → Onward (mark tag.TableRow p n false ∷ mark tag.Table p n false ∷ ms) d []
row_direct p n f ms d s h = record {
  sound = (s.0, (n, refl), (s.0, s.1, s.2));
  held = (h.0, h.1, omega (arith, ap length h.3));
  safe = tt;
}

pub row_step : (m : Mark) (ms : List Mark) (d : Draft) → m.tag ≡ tag.Table → Sound (m ∷ ms) → Held (zone (m ∷ ms)) (core_of d) → Onward (mark tag.TableRow m.place m.entries false ∷ mark m.tag m.place m.entries false ∷ ms) d []
row_step m ms d e s h =
    let P : Tag → Type 0 = λ t. Sound (mark t m.place m.entries m.fresh ∷ ms) → Held (zone (mark t m.place m.entries m.fresh ∷ ms)) (core_of d) → Onward (mark tag.TableRow m.place m.entries false ∷ mark t m.place m.entries false ∷ ms) d [] in
    subst P (sym e) (λ s h. row_direct m.place m.entries m.fresh ms d s h) s h

-- an entry begins in a head or a row that takes one more
entry_in_head : (p : Place) (k : ℕ) (f : Bool) (ms : List Mark) (d : Draft) → Sound (mark tag.TableHead p k f ∷ ms) → Held (zone (mark tag.TableHead p k f ∷ ms)) (core_of d) → 0 < k → Onward (mark tag.TableCell place.Entry 0 false ∷ mark tag.TableHead p (k - 1) f ∷ ms) d []
entry_in_head p k f ms d s h q =
    let n = s.1.0 in
    let z = s.1.1 in
    let c : Held (head n k) (core_of d) = subst (λ x. Held (in_head k x) (core_of d)) z h in
    record {
      sound = (
        ap (λ x. place_of (in_entry (in_head (k - 1) x))) (sym z),
        inl (n, k - 1, ap (in_head (k - 1)) z),
        (s.0 ∙ (ap (λ x. place_of (in_head k x)) z ∙ ap (λ x. place_of (in_head (k - 1) x)) (sym z)), s.1, s.2),
      );
      held = subst (λ x. Held (in_entry (in_head (k - 1) x)) (core_of d)) (sym z) (c.0, c.1, omega (arith, c.2));
      safe = tt;
    }

entry_in_row : (p : Place) (k : ℕ) (f : Bool) (ms : List Mark) (d : Draft) → Sound (mark tag.TableRow p k f ∷ ms) → Held (zone (mark tag.TableRow p k f ∷ ms)) (core_of d) → 0 < k → Onward (mark tag.TableCell place.Entry 0 false ∷ mark tag.TableRow p (k - 1) f ∷ ms) d []
entry_in_row p k f ms d s h q =
    let n = s.1.0 in
    let z = s.1.1 in
    let c : Held (body n k) (core_of d) = subst (λ x. Held (in_body k x) (core_of d)) z h in
    record {
      sound = (
        ap (λ x. place_of (in_entry (in_body (k - 1) x))) (sym z),
        inr (n, k - 1, ap (in_body (k - 1)) z),
        (s.0 ∙ (ap (λ x. place_of (in_body k x)) z ∙ ap (λ x. place_of (in_body (k - 1) x)) (sym z)), s.1, s.2),
      );
      held = subst (λ x. Held (in_entry (in_body (k - 1) x)) (core_of d)) (sym z) (c.0, c.1, omega (arith, c.2));
      safe = tt;
    }

abbrev Entered : Mark → List Mark → Draft → Tag → Type 0
Entered m ms d t = Sound (mark t m.place m.entries m.fresh ∷ ms) → Held (zone (mark t m.place m.entries m.fresh ∷ ms)) (core_of d) → Onward (mark tag.TableCell place.Entry 0 false ∷ mark t m.place (m.entries - 1) m.fresh ∷ ms) d []

pub entry_step : (m : Mark) (ms : List Mark) (d : Draft) → (m.tag ≡ tag.TableHead) ⊎ (m.tag ≡ tag.TableRow) → 0 < m.entries → Sound (m ∷ ms) → Held (zone (m ∷ ms)) (core_of d) → Onward (mark tag.TableCell place.Entry 0 false ∷ mark m.tag m.place (m.entries - 1) m.fresh ∷ ms) d []
entry_step m ms d t q s h =
    elim t [
      | inl e ↦ subst (Entered m ms d) (sym e) (λ s h. entry_in_head m.place m.entries m.fresh ms d s h q) s h
      | inr e ↦ subst (Entered m ms d) (sym e) (λ s h. entry_in_row m.place m.entries m.fresh ms d s h q) s h
    ]

-- acts that only write into the open line or entry
abbrev pub AllCalm : List Act → Type 0
AllCalm [] = Unit {0}
AllCalm (put g ∷ xs) = AllCalm xs
AllCalm (end_line ∷ xs) = AllCalm xs
AllCalm (_ ∷ xs) = ⊥

calm_safe : (xs : List Act) (d : Draft) → AllCalm xs → SafeRun d xs
calm_safe [] d a = tt
calm_safe (put g ∷ xs) d a = (tt, calm_safe xs (draw d (put g)) a)
calm_safe (end_line ∷ xs) d a = (tt, calm_safe xs (draw d end_line) a)
calm_safe (_ ∷ xs) d a = absurd a

calm_held : (xs : List Act) (d : Draft) (z : Zone) → AllCalm xs → Held z (core_of d) → Held z (core_of (drawn d xs))
calm_held [] d z a h = h
calm_held (put g ∷ xs) d z a h = calm_held xs (draw d (put g)) z a h
calm_held (end_line ∷ xs) d z a h = calm_held xs (draw d end_line) z a h
calm_held (_ ∷ xs) d z a h = absurd a

pub calm_onward : (ms : List Mark) (d : Draft) (xs : List Act) → Sound ms → Held (zone ms) (core_of d) → AllCalm xs → Onward ms d xs
calm_onward ms d xs s h a = record { sound = s; held = calm_held xs d (zone ms) a h; safe = calm_safe xs d a }

-- a mark that leaves the zone as it is
pub plain_step : (ms : List Mark) (m : Mark) (d : Draft) (xs : List Act) → zone (m ∷ ms) ≡ zone ms → over m.tag (zone ms) → m.place ≡ place_of (zone ms) → Sound ms → Held (zone ms) (core_of d) → AllCalm xs → Onward (m ∷ ms) d xs
plain_step ms m d xs z o p s h a = calm_onward (m ∷ ms) d xs (p ∙ ap place_of (sym z), o, s) (subst (λ x. Held x (core_of d)) (sym z) h) a

if_step : (b : Bool) (ms : List Mark) (d : Draft) (xs : List Act) → b ≡ true → Onward ms d xs → Onward ms d (cond b xs [])
if_step true ms d xs e o = o
if_step false ms d xs e o = absurd (cc)

closed-held : (b : Bool) (x d : Draft) → b ≡ true → Held idle (core_of x) → Held idle (core_of (cond b x d))
closed-held true x d e h = h
closed-held false x d e h = absurd (cc)

pub end_table_lem : (p : Place) (n : ℕ) (f : Bool) (ms : List Mark) (d : Draft) → Sound (mark tag.Table p n f ∷ ms) → Held (grid n f) (core_of d) → Onward ms d (end_table ∷ [])
end_table_lem p n f ms d s h =
    let g = h.0 in
    record {
      sound = s.2;
      held = subst (λ z. Held z (core_of (draw d end_table))) (sym s.1) (closed-held d.begun _ d g.begun (refl, refl, h.3));
      safe = ((g.begun, omega (arith, g.columns, g.some), omega (arith, g.columns, g.few), subst (λ k. All (λ r. length r ≤ k) d.rows) (sym g.columns) h.1), tt);
    }

pub end_head_lem : (p : Place) (k : ℕ) (f : Bool) (ms : List Mark) (d : Draft) → Sound (mark tag.TableHead p k f ∷ ms) → Held (zone (mark tag.TableHead p k f ∷ ms)) (core_of d) → Onward ms d (cond d.begun (end_head ∷ []) [])
end_head_lem p k f ms d s h =
    let n = s.1.0 in
    let z = s.1.1 in
    let c : Held (head n k) (core_of d) = subst (λ x. Held (in_head k x) (core_of d)) z h in
    let g = c.0 in
    if_step d.begun ms d (end_head ∷ []) g.begun (record {
      sound = s.2;
      held = subst (λ x. Held x (core_of (draw d end_head))) (sym z) (
        g,
        subst (λ l. All (λ r. length r ≤ n) (set l 0 d.row)) (sym c.1) (omega (arith, c.2), tt),
        (λ q. absurd (cc)),
        refl,
      );
      safe = (c.1, tt);
    })

pub end_row_lem : (p : Place) (k : ℕ) (f : Bool) (ms : List Mark) (d : Draft) → Sound (mark tag.TableRow p k f ∷ ms) → Held (zone (mark tag.TableRow p k f ∷ ms)) (core_of d) → Onward ms d (cond d.begun (end_row ∷ []) [])
end_row_lem p k f ms d s h =
    let n = s.1.0 in
    let z = s.1.1 in
    let c : Held (body n k) (core_of d) = subst (λ x. Held (in_body k x) (core_of d)) z h in
    let g = c.0 in
    if_step d.begun ms d (end_row ∷ []) g.begun (record {
      sound = s.2;
      held = subst (λ x. Held x (core_of (draw d end_row))) (sym z) (
        g,
        all_push (λ r. length r ≤ n) d.rows d.row c.1 (omega (arith, c.2)),
        (λ q. absurd (cc)),
        refl,
      );
      safe = (tt, tt);
    })

pub end_entry_lem : (p : Place) (k : ℕ) (f : Bool) (ms : List Mark) (d : Draft) → Sound (mark tag.TableCell p k f ∷ ms) → Held (zone (mark tag.TableCell p k f ∷ ms)) (core_of d) → Onward ms d (cond d.begun (end_entry ∷ []) [])
end_entry_lem p k f ms d s h =
    let l = length_push d.row d.here in
    elim s.1 [
      | inl q ↦ (let c : Held (head_entry q.0 q.1) (core_of d) = subst (λ x. Held (in_entry x) (core_of d)) q.2 h in
          let g = c.0 in
          if_step d.begun ms d (end_entry ∷ []) g.begun (record {
            sound = s.2;
            held = subst (λ x. Held x (core_of (draw d end_entry))) (sym q.2) (g, c.1, omega (arith, c.2));
            safe = (tt, tt);
          }))
      | inr q ↦ (let c : Held (body_entry q.0 q.1) (core_of d) = subst (λ x. Held (in_entry x) (core_of d)) q.2 h in
          let g = c.0 in
          if_step d.begun ms d (end_entry ∷ []) g.begun (record {
            sound = s.2;
            held = subst (λ x. Held x (core_of (draw d end_entry))) (sym q.2) (g, c.1, omega (arith, c.2));
            safe = (tt, tt);
          }))
    ]
