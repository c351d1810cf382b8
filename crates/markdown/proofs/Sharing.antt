-- A table that needs more than the page's budget shares it out in one way only.
use Rattle.std.proofs.Common.{◌≡◌, ℕ, zero, suc, ◌-◌, ◌<◌, ◌≤◌, max, Bool, ltb, List, [], ◌∷◌, map, length, get_or, sum, Some, ◌&&◌, sym, ap, ◌∙◌, subst, ⊎_elim, zero-add, arith}
use Rattle.std.specs.List.{range_with_len}
use Rattle.std.proofs.lemmas.Bool.{cases_lt, lt-ltb, cond-true}
use Rattle.std.proofs.lemmas.List.{length-map, get_or-map, get_or_past, ext_get_or}
use Rattle.std.proofs.lemmas.List.FromFn.{length-range_with_len, get_or-range_with_len}
use Rattle.shares.specs.Shares.{naturals, budget, shaved, widths, Fed}
use Rattle.shares.proofs.Shaving.{length-shaved, fed_shaved, sum-shaved}
use Rattle.shares.proofs.Totals.{length-naturals, fed_naturals}
use Rattle.shares.proofs.Wider.{shaved_le}
use Rattle.shares.proofs.Balance.{balanced_shaved, balanced_unique}
use Rattle.blocks.specs.Pieces.{Line}
use Rattle.wrap_laws.specs.Breaks.{Breaking}
use Rattle.layout_laws.specs.Layouts.{entry_width, widest_entries, natural_widths, Table, table_at}
use Rattle.layout_laws.proofs.Widest.{length-wider, get_or-wider}
use Rattle.markdown.specs.declared.tables.TableLayout.{TableLayout}
use Rattle.markdown.specs.Sheets.{Sheet, Limits}
use Rattle.markdown.specs.Outcomes.{admitted}
use Rattle.markdown.specs.Calls.{question}
use Rattle.markdown.specs.Replies.{question_ended, Gives}
use Rattle.markdown.specs.Laws.{widest_entry, column_count, widest_entries_of, budget_of, widths_in, Shares, SharesOut}
use Rattle.markdown.proofs.Told.{laid, told_are}

-- natural widths are the widest entries
count_same : (rs : List (List Line)) → max (length (widest_entries rs)) 1 ≡ column_count rs
count_same [] = omega arith
count_same (r ∷ rs) = omega (arith, length-wider (map entry_width r) (widest_entries rs), length-map r entry_width, count_same rs)

natural_at : (ws : List ℕ) (k : ℕ) → k < length (naturals ws) → get_or (naturals ws) k 0 ≡ max 1 (get_or ws k 0)
natural_at [] zero h = omega arith
natural_at [] (suc k) h = absurd (omega arith)
natural_at (w ∷ ws) k h = get_or-map (max 1) (w ∷ ws) k 0 0 (omega (arith, length-map (w ∷ ws) (max 1)))

widest_at : (rs : List (List Line)) (k : ℕ) → max 1 (get_or (widest_entries rs) k 0) ≡ widest_entry rs k
widest_at [] k = omega arith
widest_at (r ∷ rs) k = omega (arith, get_or-wider (map entry_width r) (widest_entries rs) k, widest_at rs k)

pub naturals_are : (t : Table) → natural_widths t.rows ≡ widest_entries_of t
naturals_are t =
    let n = column_count t.rows in
    let long : length (natural_widths t.rows) ≡ n = length-naturals (widest_entries t.rows) ∙ count_same t.rows in
    let xs = range_with_len 0 n in
    let many = length-range_with_len 0 n in
    ext_get_or 0 (natural_widths t.rows) (map (widest_entry t.rows) xs) (omega (arith, long, length-map xs (widest_entry t.rows), many))
    (λ k h.
    let here : k < n = omega (arith, long) in
    natural_at (widest_entries t.rows) k h ∙ widest_at t.rows k
    ∙ (ap (widest_entry t.rows) (sym (zero-add k) ∙ sym (get_or-range_with_len 0 n k 0 here)) ∙ sym (get_or-map (widest_entry t.rows) xs k 0 0 (omega (arith, many)))))

-- cells taken one by one share the budget out
shares_shaved : (b : ℕ) (ns : List ℕ) → Fed ns → 0 < length ns → b < sum ns → Shares b ns (shaved (sum ns - b) ns)
shares_shaved b ns fed some few =
    let k = sum ns - b in
    let even = balanced_shaved k ns fed in
    record {
      long = length-shaved k ns;
      total = omega (arith, sum-shaved k ns fed some);
      fed = λ i h. fed_shaved k ns fed i (omega (arith, length-shaved k ns));
      within = λ i h. omega (arith, shaved_le 0 k ns i fed, ap (λ n. get_or (shaved n ns) i 0) (zero-add k));
      level = λ i j hi hj low. (even i j hi hj low).0;
      leftmost = λ i j hi hj low. (even i j hi hj low).1;
    }

within_all : (b : ℕ) (ns ws : List ℕ) → Shares b ns ws → (i : ℕ) → get_or ws i 0 ≤ get_or ns i 0
within_all b ns ws s i = ⊎_elim (s.within i) (λ h. omega (arith, get_or_past ws i 0 (omega (arith, s.long)))) (cases_lt i (length ns))

-- and no other widths do
shares_once : (b : ℕ) (ns ws vs : List ℕ) → Shares b ns ws → Shares b ns vs → vs ≡ ws
shares_once b ns ws vs s r =
    balanced_unique ns vs ws r.long s.long (within_all b ns vs r) (within_all b ns ws s)
    (λ i j hi hj low. (r.level i j hi hj low, r.leftmost i j hi hj low)) (λ i j hi hj low. (s.level i j hi hj low, s.leftmost i j hi hj low)) (r.total ∙ sym s.total)

abbrev One : ℕ → List ℕ → List ℕ → Type 0
One b ns us = Shares b ns us × ((ws : List ℕ) → Shares b ns ws → ws ≡ us)

shared_once : (w : ℕ) (growing : Bool) (ns : List ℕ) → Fed ns → 0 < length ns → budget w (length ns) < sum ns → One (budget w (length ns)) ns (widths w growing ns)
shared_once w growing ns fed some few =
    let b = budget w (length ns) in
    let s = shares_shaved b ns fed some few in
    subst (One b ns) (sym (cond-true (ltb b (sum ns)) _ _ (lt-ltb b (sum ns) few))) (s, λ ws r. shares_once b ns (shaved (sum ns - b) ns) ws s r)

natural_once : (w : ℕ) (growing : Bool) (t : Table) → budget w (column_count t.rows) < sum (widest_entries_of t) → One (budget w (column_count t.rows)) (widest_entries_of t) (widths w growing (natural_widths t.rows))
natural_once w growing t few =
    let ns = natural_widths t.rows in
    let long : length ns ≡ column_count t.rows = length-naturals (widest_entries t.rows) ∙ count_same t.rows in
    let same = naturals_are t in
    let less : budget w (length ns) < sum ns = omega (arith, ap (budget w) long, ap sum same) in
    let one = shared_once w growing ns (fed_naturals (widest_entries t.rows)) (omega (arith, length-naturals (widest_entries t.rows))) less in
    subst (λ b. One b (widest_entries_of t) (widths w growing ns)) (ap (budget w) long) (subst (λ us. One (budget w (length ns)) us (widths w growing ns)) same one)

told_once : (limits : Limits) (s : Sheet) (b : Breaking) (n w : ℕ) (t : Table) (old new : TableLayout) → table_at s.blocks n ≡ Some t → Gives limits s (question b n w old) (question_ended admitted new) →
    budget_of w t < sum (widest_entries_of t) → One (budget_of w t) (widest_entries_of t) (widths_in new)
told_once limits s b n w t old new found told few =
    let f = laid limits b s n w old new told in
    let e = told_are b s n w new f in
    let same : f.table ≡ t = let go : ◌≡◌ (Some f.table) (Some t) = sym f.found ∙ found in cc in
    let g = s.streaming && f.table.info.open in
    subst (One (budget_of w t) (widest_entries_of t)) (ap (λ (u : Table). widths w g (natural_widths u.rows)) (sym same) ∙ sym e) (natural_once w g t few)

pub shares_out : (limits : Limits) (s : Sheet) → SharesOut limits s
shares_out limits s =
    record {
      shares = λ b n w t old new found told few. (told_once limits s b n w t old new found told few).0;
      only = λ b n w t old new found told few. (told_once limits s b n w t old new found told few).1;
    }
