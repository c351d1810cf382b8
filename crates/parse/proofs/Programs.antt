use Rattle.std.proofs.Common.{◌≡◌, ℕ, Bool, true, false, cond, not, ltb, List, [], ◌∷◌, ◌++◌, map, length, fold, Option, Some, None, sym, refl, subst, ap, ◌∙◌, rules}
use Rattle.std.specs.Option.{is_some}
use Rattle.std.proofs.lemmas.List.Sums.{fold-append}
use Rattle.glyphs.specs.declared.Glyph.{Glyph}
use Rattle.glyphs.specs.Rulings.{Ruling}
use Rattle.events.specs.declared.event.Event.{Event}
use Rattle.events.specs.declared.styles.MarkdownStyles.{MarkdownStyles}
use Rattle.events.specs.Cursors.{bytes_of}
use Rattle.records.specs.declared.kinds.Span.{Span}
use Rattle.records.specs.declared.kinds.Row.{Row}
use Rattle.records.specs.declared.kinds.Info.{Info}
use Rattle.records.specs.declared.kinds.Block.{Block}
use Rattle.records.specs.declared.kinds.Block.TheVariants.{Text}
use Rattle.records.specs.Acts.{Act, put, end_line, begin_table, end_entry, end_head, end_row, end_table}
use Rattle.records.specs.Memory.{Memory, act, acted, span, added, lined, fresh, flushed, ended, blank}
use Rattle.blocks.specs.Drafts.{Draft, draft, flush, draw, drawn, clean, finished}
use Rattle.blocks.specs.Pieces.{table, resized}
use Rattle.blocks.specs.Reads.{blocks_of}
use Rattle.blocks.specs.Fronts.{glyphs_put, rows_over, Front}
use Rattle.blocks.specs.Needs.{needs, tally, tallied}
use Rattle.blocks.proofs.Shows.{memory_shows, front_shows, counted}
use Rattle.blocks.proofs.Counts.{counts_flushed}
use Rattle.fold.specs.declared.mode.Spot.{Spot}
use Rattle.fold.specs.Tables.{info_of}
use Rattle.fold.specs.Branches.{acts}
use Rattle.fold.specs.Modes.{moved}
use Rattle.fold.specs.Inks.{in_force, restyled}
use Rattle.fold.specs.Steps.{kind_in, spot, spot_of, state_of, stepped}
use Rattle.parse.specs.Sketches.{Sketch, none, spot_in, doings, sketched, unwritten, programmed}
use Rattle.parse.specs.Stands.{filled, FoldShows, FoldShowsFront, FoldCounts}

-- what the records and the lists say of where the next event acts
pub record Flags (m : Memory) (d : Draft) : Type 0 where
  pub bare : m.text.bare ≡ none d.here
  pub more : m.text.more ≡ not (none d.lines)
  pub table : is_some m.table.info ≡ d.begun

none-push : {X : Type 0} (xs : List X) (x : X) → false ≡ none (xs ++ (x ∷ []))
none-push [] x = refl
none-push (y ∷ ys) x = refl

flags_if : (b : Bool) (m : Memory) (x : Block) (d : Draft) → is_some m.table.info ≡ d.begun → Flags (fresh (cond b (added (lined m) x) (lined m))) (flush d)
flags_if true m x d e = search rules
flags_if false m x d e = search rules

flags_flush : (m : Memory) (d : Draft) → Flags m d → Flags (flushed m) (flush d)
flags_flush m d f = flags_if (ltb (lined m).text.first (lined m).text.full) m (Text (span (lined m).text.first (lined m).text.full)) d f.table

flags_ended : (o : Option Info) (b : Bool) (m : Memory) (d : Draft) → is_some o ≡ b → Flags m d →
    Flags (ended o m) (cond b (draft (d.pieces ++ (table d.info (map (resized d.info.columns) d.rows) ∷ [])) d.lines d.here false d.info [] d.row) d)
flags_ended None false m d e f = f
flags_ended None true m d e f = absurd (cc)
flags_ended (Some i) false m d e f = absurd (cc)
flags_ended (Some i) true m d e f = search rules

flags_act : (m : Memory) (d : Draft) (a : Act) → Flags m d → Flags (act m a) (draw d a)
flags_act m d (put g) f = let n = none-push d.here g in search rules
flags_act m d end_line f = let n = ap not (none-push d.lines d.here) in search rules
flags_act m d (begin_table i) f = let k = flags_flush m d f in search rules
flags_act m d end_entry f = search rules
flags_act m d end_head f = search rules
flags_act m d end_row f = search rules
flags_act m d end_table f = flags_ended m.table.info d.begun m d f.table f

flags_run : (xs : List Act) (m : Memory) (d : Draft) → Flags m d → Flags (acted m xs) (drawn d xs)
flags_run [] m d f = f
flags_run (a ∷ xs) m d f = flags_run xs (act m a) (draw d a) (flags_act m d a f)

spots : (m : Memory) (d : Draft) → Flags m d → spot_of m ≡ spot_in d
spots m d f =
    ap (λ b. spot b m.text.more (is_some m.table.info)) f.bare
    ∙ (ap (λ b. spot (none d.here) b (is_some m.table.info)) f.more ∙ ap (λ b. spot (none d.here) (not (none d.lines)) b) f.table)

-- the fold of the records does all acts of the program
run_program : (r : Ruling) (y : MarkdownStyles) (t o : List ℕ) (es : List Event) (m : Memory) (s : Sketch) → Flags m s.draft →
    (fold (stepped r y t o 65) (state_of m s.mode s.styles) es).memory ≡ acted m (programmed r y t o s es)
run_program r y t o [] m s f = refl
run_program r y t o (e ∷ es) m s f =
    let k = kind_in e in
    let D = doings r y t o s e in
    let same : acts r y s.mode (in_force y s.styles) (spot_of m) (info_of e o) k (bytes_of t e) ≡ D =
    ap (λ (p : Spot). acts r y s.mode (in_force y s.styles) p (info_of e o) k (bytes_of t e)) (spots m s.draft f) in
    ap (λ (xs : List Act). (fold (stepped r y t o 65) (state_of (acted m xs) (moved s.mode k) (restyled y 65 s.styles k)) es).memory) same
    ∙ (run_program r y t o es (acted m D) (sketched r y t o s e) (flags_run D m s.draft f)
    ∙ sym (fold-append act m D (programmed r y t o (sketched r y t o s e) es)))

pub draw_program : (r : Ruling) (y : MarkdownStyles) (t o : List ℕ) (es : List Event) (s : Sketch) → drawn s.draft (programmed r y t o s es) ≡ (fold (sketched r y t o) s es).draft
draw_program r y t o [] s = refl
draw_program r y t o (e ∷ es) s =
    fold-append draw s.draft (doings r y t o s e) (programmed r y t o (sketched r y t o s e) es) ∙ draw_program r y t o es (sketched r y t o s e)

whole : (r : Ruling) (y : MarkdownStyles) (t o : List ℕ) (es : List Event) (gs : List Glyph) (ls : List Span) (rs : List Row) →
    filled r y t o es gs ls rs ≡ flushed (acted (blank gs ls rs) (programmed r y t o (unwritten y) es))
whole r y t o es gs ls rs = ap flushed (run_program r y t o es (blank gs ls rs) (unwritten y) (search rules))

pub fold_shows : FoldShows
fold_shows r y t o es gs ls rs w =
    ap blocks_of (whole r y t o es gs ls rs)
    ∙ (memory_shows gs ls rs (programmed r y t o (unwritten y) es) w ∙ ap finished (draw_program r y t o es (unwritten y)))

pub fold_front : FoldShowsFront
fold_front r y t o es gs ls rs w c =
    let P = programmed r y t o (unwritten y) es in
    let d = draw_program r y t o es (unwritten y) in
    let f = front_shows gs ls rs P w (subst (λ (d : Draft). (tallied P).rows ≡ length (rows_over (flush d).pieces)) (sym d) c) in
    subst (λ (d : Draft). Front (filled r y t o es gs ls rs) (glyphs_put P) (flush d).pieces) d
    (subst (λ (m : Memory). Front m (glyphs_put P) (flush (drawn clean P)).pieces) (sym (whole r y t o es gs ls rs)) f)

pub fold_counts : FoldCounts
fold_counts r y t o es gs ls rs =
    let P = programmed r y t o (unwritten y) es in
    let f = counts_flushed (acted (blank gs ls rs) P) (fold tally (needs 0 0 0 0) P) (length gs) (length ls) (length rs) 511 (counted gs ls rs P) in
    rw (whole r y t o es gs ls rs) (search rules)
