-- What holds of every panel: what heads hold, and which numbers calls give.
--
--     all_held                all heads hold at most 4,096 ranges
--     most-held               one head holds at most 2,080: its 32 places and all the common ones
--     common-decides          a range of a head that holds 32 or more, whose own rows pass, is accepted exactly if a common place is left
--     add_never_14, ranges_never_14   neither call gives 14
--     outside-unknown         no entry has an address outside its span, so such an address gives 12
--     twelve_first, fourteen_first   where these rows are the first to hold they give their number, whatever rows follow
--
-- Further laws stand in proofs/HeldLaws.antt.
-- Assumes nothing.
use Rattle.std.specs.Prelude.{ℕ, ◌+◌, ◌<◌, ◌≤◌, ◌≡◌, refl, ◌↔◌, Bool, true, false, not, ◌&&◌, ◌||◌, List, [], ◌∷◌, ◌++◌, T, leb, eqb, take}
use Rattle.std.proofs.Common.{arith, sym, ap, ◌∙◌, subst, eqb-true, leb-false, le-leb}
use Rattle.std.proofs.Math.Bool.{and-false}
use Rattle.std.proofs.lemmas.Bool.{eqb-false, not-false, lt-leb}
use Rattle.integers.specs.Booleans.{or-neither}
use Rattle.integers.specs.Lists.{any}
use Rattle.definitions.specs.Spans.{panel_room}
use Rattle.definitions.specs.Answers.{refused, accepted, Row, ◌if◌, firstRow}
use Rattle.definitions.specs.Ranges.{Range}
use Rattle.definitions.specs.Trial.{too_short, bad_address, range_rows}
use Rattle.definitions.specs.Panels.{Panel, kept, total_held, common_taken, is_at, either, held_by, outside_address, occurrences, miscounted, not_panel, unknown, crowded}
use Rattle.definitions.specs.PanelCalls.{panel_rows, add_rows}
use Rattle.definitions.specs.declared.entries.Entry.{Entry}
use Rattle.trial_laws.specs.Rows.{NoneHolds, refused_not_accepted}
use Rattle.trial_laws.specs.CallLaws.{refused-is}
use Rattle.panel_laws.specs.PanelRows.{good-panel, total-room, try_add, own_rows, accepts, accepted_where}
use Rattle.panel_laws.specs.AddLaws.{IsPanel}

-- ---- what heads hold

counted_step : (t : Bool) (a : ℕ) (bs : List ℕ) (e : Entry) (es : List Entry) → is_at a e ≡ t → not (eqb e.held (occurrences e.address bs)) ≡ false → (any (is_at a) es ≡ true → held_by a es ≡ occurrences a bs) → (t || any (is_at a) es) ≡ true → either t e.held (held_by a es) ≡ occurrences a bs
unfolding either is_at
counted_step true a bs e es is here later found = eqb-true e.held (occurrences e.address bs) (not-false (eqb e.held (occurrences e.address bs)) here) ∙ ap (λ x. occurrences x bs) (eqb-true e.address a is)
counted_step false a bs e es is here later found = later found

pub held-counted : (a : ℕ) (bs : List ℕ) (es : List Entry) → any (miscounted bs) es ≡ false → any (is_at a) es ≡ true → held_by a es ≡ occurrences a bs
unfolding any miscounted held_by
held-counted a bs [] counted found = absurd (subst T (sym found) tt)
held-counted a bs (e ∷ es) counted found =
    let c = or-neither (not (eqb e.held (occurrences e.address bs))) (any (miscounted bs) es) counted in
    counted_step (is_at a e) a bs e es refl c.0 (held-counted a bs es c.1) found

pub all_held : {s : Panel} → IsPanel s → total_held s.entries ≤ 4096
unfolding not_panel
all_held {s} h = let bs = take (total_held s.entries) s.places.addresses in total-room s.entries bs (good-panel s.entries bs h.good)

part_step : (t : Bool) (e : Entry) (es : List Entry) (n : ℕ) → n ≤ 32 + common_taken es → either t e.held n ≤ 32 + common_taken (e ∷ es)
unfolding either common_taken
part_step true e es n l = omega arith
part_step false e es n l = omega (arith, l)

held-part : (a : ℕ) (es : List Entry) → held_by a es ≤ 32 + common_taken es
unfolding held_by
held-part a [] = omega arith
held-part a (e ∷ es) = part_step (is_at a e) e es (held_by a es) (held-part a es)

pub most-held : (a : ℕ) {s : Panel} → IsPanel s → held_by a s.entries ≤ 2080
unfolding not_panel
most-held a {s} h =
    let part = held-part a s.entries in
    let common = (good-panel s.entries (take (total_held s.entries) s.places.addresses) h.good).common_left in
    omega (arith, part, common)

-- ---- 13

pub own-place : (a : ℕ) (es : List Entry) → held_by a es < 32 → crowded a es ≡ false
unfolding crowded
own-place a es less = ap (λ t. t && leb 2048 (common_taken es)) (lt-leb 32 (held_by a es) (omega (arith, less)))

-- above 32 the common places decide, which all heads take from
pub common-decides : (s : Panel) (a : ℕ) (r : Range) → IsPanel s → unknown a s.entries ≡ false → 32 ≤ held_by a s.entries → firstRow (own_rows s a r) ≡ accepted tt → (try_add s a r ≡ accepted tt) ↔ (common_taken s.entries < 2048)
unfolding crowded
common-decides s a r h is_known more passes = (
  λ e. leb-false 2048 (common_taken s.entries) (ap (λ t. t && leb 2048 (common_taken s.entries)) (sym (le-leb 32 (held_by a s.entries) more)) ∙ (accepts s a r e).uncrowded),
  λ left. accepted_where s a r (record { long = h.long; good = h.good; is_known = is_known; passes = passes; uncrowded = ap (λ t. leb 32 (held_by a s.entries) && t) (lt-leb 2048 (common_taken s.entries) left) ∙ and-false (leb 32 (held_by a s.entries)) }),
)

-- the rows with the number n
abbrev pub rows_with : ℕ → List Row → List Row
rows_with n [] = []
rows_with n ((m if b) ∷ rows) = kept (eqb m n) (m if b) (rows_with n rows)

by_number : (t b : Bool) (m n : ℕ) (rows : List Row) → eqb m n ≡ t → (NoneHolds (rows_with n rows) → firstRow rows ≡ refused n → ⊥) → NoneHolds (kept t (m if b) (rows_with n rows)) → firstRow (m if b ∷ rows) ≡ refused n → ⊥
unfolding firstRow kept
by_number true true m n rows is later h e = subst T h.0 tt
by_number true false m n rows is later h e = later h.1 e
by_number false true m n rows is later h e = eqb-false m n is (refused-is e)
by_number false false m n rows is later h e = later h e

-- where none of these holds, n is not given
pub not-given : (n : ℕ) (rows : List Row) → NoneHolds (rows_with n rows) → firstRow rows ≡ refused n → ⊥
unfolding firstRow
not-given n [] h e = refused_not_accepted (sym e)
not-given n ((m if b) ∷ rows) h e = by_number (eqb m n) b m n rows refl (not-given n rows) h e

-- ---- 14

pub add_never_14 : (s : Panel) (a : ℕ) (r : Range) → IsPanel s → try_add s a r ≡ refused 14 → ⊥
unfolding add_rows panel_rows range_rows kept
add_never_14 s a r h e = not-given 14 (add_rows s a r) (h.good, tt) e

pub ranges_never_14 : (lengths : List ℕ) (s : Panel) (a : ℕ) → IsPanel s → firstRow (panel_rows lengths s a) ≡ refused 14 → ⊥
unfolding panel_rows kept
ranges_never_14 lengths s a h e = not-given 14 (panel_rows lengths s a) (h.good, tt) e

-- ---- 12

not-here : (t : Bool) (a : ℕ) (e : Entry) → is_at a e ≡ t → bad_address e.address ≡ false → bad_address a ≡ true → t ≡ false
unfolding is_at
not-here true a e is inside bad = absurd (subst T (sym (sym inside ∙ ap bad_address (eqb-true e.address a is) ∙ bad)) tt)
not-here false a e is inside bad = refl

none_here : (a : ℕ) (es : List Entry) → any outside_address es ≡ false → bad_address a ≡ true → any (is_at a) es ≡ false
unfolding any outside_address
none_here a [] inside bad = refl
none_here a (e ∷ es) inside bad =
    let i = or-neither (bad_address e.address) (any outside_address es) inside in
    ap (λ t. t || any (is_at a) es) (not-here (is_at a e) a e refl i.0 bad) ∙ none_here a es i.1 bad

pub outside-unknown : (s : Panel) (a : ℕ) → not_panel s ≡ false → bad_address a ≡ true → unknown a s.entries ≡ true
unfolding not_panel unknown
outside-unknown s a good bad = ap not (none_here a s.entries (good-panel s.entries (take (total_held s.entries) s.places.addresses) good).inside bad)

-- ---- rows with which both calls begin

pub twelve_first : (lengths : List ℕ) (s : Panel) (a : ℕ) (more : List Row) → too_short panel_room lengths ≡ false → not_panel s ≡ false → unknown a s.entries ≡ true → firstRow (panel_rows lengths s a ++ more) ≡ refused 12
unfolding panel_rows firstRow
twelve_first lengths s a more long good is-unknown = rw (long, good, is-unknown) refl

pub fourteen_first : (lengths : List ℕ) (s : Panel) (a : ℕ) (more : List Row) → too_short panel_room lengths ≡ false → not_panel s ≡ true → firstRow (panel_rows lengths s a ++ more) ≡ refused 14
unfolding panel_rows firstRow
fourteen_first lengths s a more long bad = rw (long, bad) refl
