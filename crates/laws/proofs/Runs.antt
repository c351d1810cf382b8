use Rattle.std.proofs.Common.{◌≡◌, ℕ, ◌+◌, ◌-◌, ◌≤◌, max, Bool, true, false, cond, ◌&&◌, ◌||◌, eqb, ltb, ◌⊎◌, List, [], ◌∷◌, ◌++◌, length, Some, None, Ok, Err, fold, Option, Result, sym, refl, ap, ◌∙◌, subst, inl, inr, arith, rules}
use Rattle.std.specs.List.{AllByRecursion as All}
use Rattle.std.proofs.lemmas.Bool.{and_parts, leb-true, ltb-true}
use Rattle.std.proofs.lemmas.List.Sums.{fold-append}
use Rattle.std.proofs.lemmas.List.{length_push}
use Rattle.style.specs.declared.Style.{Style}
use Rattle.glyphs.specs.Rulings.{Ruling}
use Rattle.glyphs.specs.declared.Glyph.{Glyph}
use Rattle.stack.specs.Stacks.{topped}
use Rattle.events.specs.Kinds.{kind_of}
use Rattle.events.specs.Cursors.{bytes_of}
use Rattle.events.specs.declared.event.Event.{Event}
use Rattle.events.specs.declared.event.Tag.{Tag}
use Rattle.events.specs.declared.event.Tag.TheVariants as tag
use Rattle.events.specs.declared.event.Kind.{Kind}
use Rattle.events.specs.declared.event.Kind.TheVariants.{Text, Code, SoftBreak, HardBreak, Start, End, Other}
use Rattle.events.specs.declared.styles.MarkdownStyles.{MarkdownStyles}
use Rattle.events.specs.declared.refusal.Refusal.{Refusal}
use Rattle.checks.specs.declared.marks.Place.{Place}
use Rattle.checks.specs.declared.marks.Place.TheVariants as place
use Rattle.checks.specs.declared.marks.Mark.{Mark}
use Rattle.checks.specs.Marks.{place_in, is_a, plain, takes_entry, headed, rowed, entered, closed, planned, allowed, applied}
use Rattle.checks.specs.Marks as marks
use Rattle.checks.specs.Checks.{formed, marked_by, marked, judged_by, judged, and_then, checked_from, checked}
use Rattle.records.specs.Acts.{Act, put, end_line}
use Rattle.blocks.specs.Pieces.{Piece, text, settled}
use Rattle.blocks.specs.Drafts.{Draft}
use Rattle.blocks.specs.Needs.{Needs, needs, tally}
use Rattle.blocks.proofs.Counts.{one, same_needs}
use Rattle.fold.specs.declared.mode.Mode.{Mode}
use Rattle.fold.specs.declared.mode.InItem.{InItem}
use Rattle.fold.specs.declared.mode.InItem.TheVariants.{No, First, Later}
use Rattle.fold.specs.declared.mode.Spot.{Spot}
use Rattle.fold.specs.Parts.{puts, measured, part, spread}
use Rattle.fold.specs.Tables.{info_of}
use Rattle.fold.specs.Branches.{bullet, filled, apart, text_acts, start_acts, end_acts, acts}
use Rattle.fold.specs.Inks.{in_force}
use Rattle.fold.specs.Steps.{or_other}
use Rattle.glyphs.specs.Glyphs.{sanitized}
use Rattle.parse.specs.Sketches.{Sketch, spot_in, doings, sketched, unwritten, written, programmed, none}
use Rattle.laws.specs.Accounts.{glyphs_in, glyphs_over, Even, Solid}
use Rattle.laws.specs.Stands.{stretches, CountsItsBlocks, RowsAreEven, TextsAreSolid}
use Rattle.laws.proofs.Books.{Books, books_run, account-push, glyphs_in-push, all_push, even-settled, solid}
use Rattle.laws.proofs.Zones.{idle, zone, Sound, core_of, Held, Onward, mark, top_place, open_step, outside_step, enter_step, close_step, tag_is, table_step, head_step, row_step, entry_step, AllCalm, calm_onward, plain_step, end_table_lem, end_head_lem, end_row_lem, end_entry_lem}

calm_puts : (gs : List Glyph) → AllCalm (puts gs)
calm_puts [] = tt
calm_puts (g ∷ gs) = calm_puts gs

calm_if : (b : Bool) (xs ys : List Act) → AllCalm xs → AllCalm ys → AllCalm (cond b xs ys)
calm_if true xs ys a c = a
calm_if false xs ys a c = c

calm_append : (xs ys : List Act) → AllCalm xs → AllCalm ys → AllCalm (xs ++ ys)
calm_append [] ys a c = c
calm_append (put g ∷ xs) ys a c = calm_append xs ys a c
calm_append (end_line ∷ xs) ys a c = calm_append xs ys a c
calm_append (_ ∷ xs) ys a c = absurd a

calm_part : (r : Ruling) (t : Style) (code : Bool) (s : List ℕ) → AllCalm (part r t code s)
calm_part r t code [] = tt
calm_part r t true (b ∷ bs) = calm_puts (sanitized r t (b ∷ bs))
calm_part r t false (b ∷ bs) = calm_puts (sanitized r t (b ∷ bs))

calm_spread : (P : List ℕ → List Act) → ((s : List ℕ) → AllCalm (P s)) → (so s : List ℕ) → AllCalm (spread P so s)
calm_spread P a so [] = a so
calm_spread P a so (b ∷ bs) = calm_if (eqb b 10) (P so ++ (end_line ∷ spread P [] bs)) (spread P (so ++ (b ∷ [])) bs) (calm_append (P so) (end_line ∷ spread P [] bs) (a so) (calm_spread P a [] bs)) (calm_spread P a (so ++ (b ∷ [])) bs)

calm_into : (p e : Bool) (xs ys : List Act) → AllCalm xs → AllCalm ys → AllCalm (cond p (cond e xs []) ys)
calm_into p e xs ys a c = calm_if p (cond e xs []) ys (calm_if e xs [] a tt) c

calm_text : (r : Ruling) (y : MarkdownStyles) (m : Mode) (t : Style) (p : Spot) (s : List ℕ) → AllCalm (text_acts r y m t p s)
calm_text r y m t p s =
    calm_into p.table m.entry (measured r t s) (spread (part r (cond m.code y.code_block t) m.code) [] s)
    (calm_puts (sanitized r t s)) (calm_spread (part r (cond m.code y.code_block t) m.code) (calm_part r (cond m.code y.code_block t) m.code) [] s)

calm_apart : (i : InItem) → AllCalm (apart i)
calm_apart No = tt
calm_apart First = tt
calm_apart Later = tt

or_either : (a b : Bool) → (a || b) ≡ true → (a ≡ true) ⊎ (b ≡ true)
or_either true b e = inl refl
or_either false b e = inr e

start_head : (ms : List Mark) (d : Draft) → Sound ms → Held (zone ms) (core_of d) → allowed 64 ms (headed (topped ms)) ≡ true → Onward (applied 64 ms (headed (topped ms))) d []
start_head [] d s h e = absurd (cc)
start_head (m ∷ ms) d s h e =
    enter_step (is_a tag.Table m && m.fresh) (m ∷ ms) (mark m.tag m.place m.entries false) (mark tag.TableHead m.place m.entries false) d [] e
    (λ q. let p = and_parts (is_a tag.Table m) m.fresh q in head_step m ms d (tag_is m tag.Table p.0) p.1 s h)

start_row : (ms : List Mark) (d : Draft) → Sound ms → Held (zone ms) (core_of d) → allowed 64 ms (rowed (topped ms)) ≡ true → Onward (applied 64 ms (rowed (topped ms))) d []
start_row [] d s h e = absurd (cc)
start_row (m ∷ ms) d s h e =
    enter_step (is_a tag.Table m) (m ∷ ms) (mark m.tag m.place m.entries false) (mark tag.TableRow m.place m.entries false) d [] e
    (λ q. row_step m ms d (tag_is m tag.Table q) s h)

start_entry : (ms : List Mark) (d : Draft) → Sound ms → Held (zone ms) (core_of d) → allowed 64 ms (entered (topped ms)) ≡ true → Onward (applied 64 ms (entered (topped ms))) d []
start_entry [] d s h e = absurd (cc)
start_entry (m ∷ ms) d s h e =
    enter_step (takes_entry m) (m ∷ ms) (mark m.tag m.place (m.entries - 1) m.fresh) (mark tag.TableCell place.Entry 0 false) d [] e
    (λ q. let p = and_parts (is_a tag.TableHead m || is_a tag.TableRow m) (ltb 0 m.entries) q in
    let t : (m.tag ≡ tag.TableHead) ⊎ (m.tag ≡ tag.TableRow) = elim (or_either (is_a tag.TableHead m) (is_a tag.TableRow m) p.0) [ inl a ↦ inl (tag_is m tag.TableHead a) | inr b ↦ inr (tag_is m tag.TableRow b) ] in
    entry_step m ms d t (ltb-true 0 m.entries p.1) s h)

start_step : (mode : Mode) (o : List ℕ) (e : Event) (size : ℕ) (ms : List Mark) (d : Draft) (t : Tag) → Sound ms → Held (zone ms) (core_of d) → formed size e (Start t) ≡ true → allowed 64 ms (planned (topped ms) (Start t) e.columns) ≡ true →
    Onward (applied 64 ms (planned (topped ms) (Start t) e.columns)) d (start_acts mode (spot_in d) (info_of e o) t)
start_step mode o e size ms d tag.Strong s h f a = open_step ms (plain (place_in (topped ms)) tag.Strong) d [] a (plain_step ms (plain (place_in (topped ms)) tag.Strong) d [] refl tt (top_place ms s) s h tt)
start_step mode o e size ms d tag.Emphasis s h f a = open_step ms (plain (place_in (topped ms)) tag.Emphasis) d [] a (plain_step ms (plain (place_in (topped ms)) tag.Emphasis) d [] refl tt (top_place ms s) s h tt)
start_step mode o e size ms d tag.CodeBlock s h f a =
    outside_step (place_in (topped ms)) ms (plain place.Prose tag.CodeBlock) d _ a (λ p. plain_step ms (plain place.Prose tag.CodeBlock) d _ refl tt (sym p ∙ top_place ms s) s h (calm_if (spot_in d).bare [] (end_line ∷ end_line ∷ []) tt tt))
start_step mode o e size ms d tag.Paragraph s h f a =
    outside_step (place_in (topped ms)) ms (plain place.Prose tag.Paragraph) d _ a (λ p. plain_step ms (plain place.Prose tag.Paragraph) d _ refl tt (sym p ∙ top_place ms s) s h
    (calm_if (filled (spot_in d)) (apart mode.item) [] (calm_apart mode.item) tt))
start_step mode o e size ms d tag.Heading s h f a =
    outside_step (place_in (topped ms)) ms (plain place.Prose tag.Heading) d _ a (λ p. plain_step ms (plain place.Prose tag.Heading) d _ refl tt (sym p ∙ top_place ms s) s h (calm_if (filled (spot_in d)) (end_line ∷ end_line ∷ []) [] tt tt))
start_step mode o e size ms d tag.Item s h f a =
    outside_step (place_in (topped ms)) ms (plain place.Prose tag.Item) d _ a (λ p. plain_step ms (plain place.Prose tag.Item) d _ refl tt (sym p ∙ top_place ms s) s h (calm_if (filled (spot_in d)) (end_line ∷ bullet) bullet tt tt))
start_step mode o e size ms d tag.List s h f a =
    outside_step (place_in (topped ms)) ms (plain place.Prose tag.List) d _ a (λ p. plain_step ms (plain place.Prose tag.List) d _ refl tt (sym p ∙ top_place ms s) s h (calm_if (filled (spot_in d)) (end_line ∷ []) [] tt tt))
start_step mode o e size ms d tag.Table s h f a =
    let c : e.columns ≤ 32 = leb-true e.columns 32 f in
    outside_step (place_in (topped ms)) ms (marks.table e.columns) d _ a (λ p. table_step ms (max e.columns 1) d (info_of e o) s h p refl (omega arith) (omega arith))
start_step mode o e size ms d tag.TableHead s h f a = start_head ms d s h a
start_step mode o e size ms d tag.TableRow s h f a = start_row ms d s h a
start_step mode o e size ms d tag.TableCell s h f a = start_entry ms d s h a

end_direct : (t : Tag) (p : Place) (n : ℕ) (f : Bool) (ms : List Mark) (d : Draft) → Sound (mark t p n f ∷ ms) → Held (zone (mark t p n f ∷ ms)) (core_of d) → Onward ms d (end_acts (spot_in d) t)
end_direct tag.Strong p n f ms d s h = calm_onward ms d [] s.2 h tt
end_direct tag.Emphasis p n f ms d s h = calm_onward ms d [] s.2 h tt
end_direct tag.CodeBlock p n f ms d s h = calm_onward ms d _ s.2 h (calm_if (spot_in d).bare [] (end_line ∷ []) tt tt)
end_direct tag.Paragraph p n f ms d s h = calm_onward ms d [] s.2 h tt
end_direct tag.Heading p n f ms d s h = calm_onward ms d [] s.2 h tt
end_direct tag.Item p n f ms d s h = calm_onward ms d [] s.2 h tt
end_direct tag.List p n f ms d s h = calm_onward ms d [] s.2 h tt
end_direct tag.Table p n f ms d s h = end_table_lem p n f ms d s h
end_direct tag.TableHead p n f ms d s h = end_head_lem p n f ms d s h
end_direct tag.TableRow p n f ms d s h = end_row_lem p n f ms d s h
end_direct tag.TableCell p n f ms d s h = end_entry_lem p n f ms d s h

end_by : (t : Tag) (m : Mark) (ms : List Mark) (d : Draft) → m.tag ≡ t → Sound (m ∷ ms) → Held (zone (m ∷ ms)) (core_of d) → Onward ms d (end_acts (spot_in d) t)
end_by t m ms d e s h =
    let P : Tag → Type 0 = λ u. Sound (mark u m.place m.entries m.fresh ∷ ms) → Held (zone (mark u m.place m.entries m.fresh ∷ ms)) (core_of d) → Onward ms d (end_acts (spot_in d) t) in
    subst P (sym e) (λ s h. end_direct t m.place m.entries m.fresh ms d s h) s h

end_step : (t : Tag) (ms : List Mark) (d : Draft) → Sound ms → Held (zone ms) (core_of d) → allowed 64 ms (closed (topped ms) t) ≡ true → Onward (applied 64 ms (closed (topped ms) t)) d (end_acts (spot_in d) t)
end_step t [] d s h e = absurd (cc)
end_step t (m ∷ ms) d s h e = close_step (is_a t m) m ms d (end_acts (spot_in d) t) e (λ q. end_by t m ms d (tag_is m t q) s h)

kind_step : (r : Ruling) (y : MarkdownStyles) (mode : Mode) (st : Style) (o : List ℕ) (e : Event) (b : List ℕ) (size : ℕ) (ms : List Mark) (d : Draft) (k : Kind) → Sound ms → Held (zone ms) (core_of d) → formed size e k ≡ true → allowed 64 ms (planned (topped ms) k e.columns) ≡ true →
    Onward (applied 64 ms (planned (topped ms) k e.columns)) d (acts r y mode st (spot_in d) (info_of e o) k b)
kind_step r y mode st o e b size ms d Text s h f a = calm_onward ms d _ s h (calm_text r y mode st (spot_in d) b)
kind_step r y mode st o e b size ms d Code s h f a = calm_onward ms d _ s h (calm_into (spot_in d).table mode.entry (measured r y.code_inline b) (measured r y.code_inline b) (calm_puts (sanitized r y.code_inline b)) (calm_puts (sanitized r y.code_inline b)))
kind_step r y mode st o e b size ms d SoftBreak s h f a = calm_onward ms d _ s h (calm_into (spot_in d).table mode.entry _ _ tt tt)
kind_step r y mode st o e b size ms d HardBreak s h f a = calm_onward ms d _ s h (calm_into (spot_in d).table mode.entry _ (end_line ∷ []) tt tt)
kind_step r y mode st o e b size ms d (Start t) s h f a = start_step mode o e size ms d t s h f a
kind_step r y mode st o e b size ms d (End t) s h f a = end_step t ms d s h a
kind_step r y mode st o e b size ms d Other s h f a = calm_onward ms d [] s h tt

cond_ok : (b : Bool) (p : Result (Unit {0}) Refusal) (x : Refusal) → cond b p (Err x) ≡ Ok tt → (b ≡ true) × (p ≡ Ok tt)
cond_ok true p x e = (refl, e)
cond_ok false p x e = absurd (cc)

event_step : (r : Ruling) (y : MarkdownStyles) (mode : Mode) (st : Style) (t o : List ℕ) (e : Event) (i : ℕ) (ms : List Mark) (d : Draft) (k : Option Kind) → Sound ms → Held (zone ms) (core_of d) → judged_by r.admits t 64 ms i e k ≡ Ok tt →
    Onward (marked_by 64 ms e.columns k) d (acts r y mode st (spot_in d) (info_of e o) (or_other k) (bytes_of t e))
event_step r y mode st t o e i ms d None s h q = absurd (cc)
event_step r y mode st t o e i ms d (Some k) s h q =
    let f = cond_ok (formed (length t) e k) _ _ q in
    let a = cond_ok (allowed 64 ms (planned (topped ms) k e.columns)) _ _ f.1 in
    kind_step r y mode st o e (bytes_of t e) (length t) ms d k s h f.0 a.0

then_parts : (p q : Result (Unit {0}) Refusal) → and_then p q ≡ Ok tt → (p ≡ Ok tt) × (q ≡ Ok tt)
then_parts (Ok u) q e = (refl, e)
then_parts (Err x) q e = absurd (cc)

-- after all events the books are right, and no table is open
run : (r : Ruling) (y : MarkdownStyles) (t o : List ℕ) (es : List Event) (i : ℕ) (ms : List Mark) (s : Sketch) (n : Needs) → Sound ms → Held (zone ms) (core_of s.draft) → Books n s.draft → checked_from r.admits t i ms es ≡ Ok tt →
    Books (fold tally n (programmed r y t o s es)) (fold (sketched r y t o) s es).draft × Held idle (core_of (fold (sketched r y t o) s es).draft)
run r y t o [] i [] s n a h b e = (b, h)
run r y t o [] i (m ∷ ms) s n a h b e = absurd (cc)
run r y t o (v ∷ es) i ms s n a h b e =
    let q = then_parts (judged r.admits t 64 ms i v) (checked_from r.admits t (i + 1) (marked 64 ms v) es) e in
    let D = doings r y t o s v in
    let k = event_step r y s.mode (in_force y s.styles) t o v i ms s.draft (kind_of v.kind) a h q.0 in
    let w = run r y t o es (i + 1) (marked 64 ms v) (sketched r y t o s v) (fold tally n D) k.sound k.held (books_run D n s.draft b k.safe) q.1 in
    (subst (λ (x : Needs). Books x (fold (sketched r y t o) (sketched r y t o s v) es).draft) (sym (fold-append tally n D (programmed r y t o (sketched r y t o s v) es))) w.0, w.1)

whole : (r : Ruling) (y : MarkdownStyles) (t o : List ℕ) (es : List Event) → checked r.admits t es ≡ Ok tt →
    Books (fold tally (needs 0 0 0 0) (programmed r y t o (unwritten y) es)) (written r y t o es).draft × Held idle (core_of (written r y t o es).draft)
whole r y t o es e = run r y t o es 0 [] (unwritten y) (needs 0 0 0 0) tt (refl, refl, refl) (search rules) e

pub counts_its_blocks : CountsItsBlocks
counts_its_blocks r y t o es e =
    let w = whole r y t o es e in
    let d = (written r y t o es).draft in
    let k = w.0 in
    let n = fold tally (needs 0 0 0 0) (programmed r y t o (unwritten y) es) in
    let p = account-push d.pieces (text (d.lines ++ (d.here ∷ []))) in
    let g = glyphs_in-push d.lines d.here in
    let l = length_push d.lines d.here in
    let b = ap one w.1.0 in
    let a = ap glyphs_over w.1.1 in
    let c = ap length w.1.1 in
    let u = ap glyphs_in w.1.2 in
    same_needs n.glyphs (n.lines + 1) n.rows n.tables _ _ _ _
    (omega (arith, k.glyphs, p.glyphs)) (omega (arith, k.lines, p.lines)) (omega (arith, k.rows, p.rows)) (omega (arith, k.tables, p.tables))

even-parsed : (o : List ℕ) (ps : List Piece) → All Even ps → All Even (cond (none o) [] (settled ps))
even-parsed [] ps a = tt
even-parsed (b ∷ o) ps a = even-settled ps a

pub rows_are_even : RowsAreEven
rows_are_even r y t o es e =
    let d = (written r y t o es).draft in
    even-parsed o (stretches r y t o es) (all_push Even d.pieces (text (d.lines ++ (d.here ∷ []))) (whole r y t o es e).0.even tt)

solid_parsed : (o : List ℕ) (ps : List Piece) → All Solid (cond (none o) [] (settled ps))
solid_parsed [] ps = tt
solid_parsed (b ∷ o) ps = solid ps

pub texts_are_solid : TextsAreSolid
texts_are_solid r y t o es = solid_parsed o (stretches r y t o es)
