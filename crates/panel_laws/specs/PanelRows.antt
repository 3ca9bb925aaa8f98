-- The rows of the two calls, by their tests, and the room on a panel.
--
--     GoodPanel, good-panel, bad-not   what it is that a panel is one, from 14's test and back
--     refused-first, passed_first      rows and then more: the former's number where it is above 0, else the latter's answer
--     panel_trial, panel-numbered       8, 14 and 12 by their tests; none has the number 0
--     panel-bad, panel-unknown, panel-passed   which of them is given
--     crowded-out, let_in              a range's own rows, and then 13
--     total-room                       the places held are at most 4,096
--     next_place                       where a range is accepted there is a next place: no 7 can come
--     one-false                        of two tests that do not both hold one fails
--     Roomy, roomy, first-lengths      four lists that are long; their first places are equally many
--     try_add, own_rows                  the answer of Add's rows; those of the range itself
--     Accepts, accepts, accepted_where what it is that a range is accepted, from that answer and back
--     refused_where                    where only 13's row holds, it is refused with 13
--
-- Assumes nothing.
use Rattle.std.specs.Prelude.{ℕ, ◌+◌, ◌*◌, ◌<◌, ◌≤◌, ◌≡◌, refl, ◌⊎◌, Bool, true, false, ◌&&◌, ◌||◌, List, [], ◌∷◌, ◌++◌, T, leb, ltb, eqb, length, take}
use Rattle.std.proofs.Common.{pos_of_ne-zero, arith, sym, ap, ◌∙◌, subst, ⊎_elim, inl, inr, length-take-le, ltb-false, leb-false, le-ltb}
use Rattle.std.proofs.lemmas.Bool.{not-false}
use Rattle.integers.specs.Booleans.{or-neither}
use Rattle.integers.specs.Lists.{any}
use Rattle.definitions.specs.Spans.{most_heads, common_places, panel_room}
use Rattle.definitions.specs.Answers.{Answer, refused, accepted, ◌>>=◌, Row, ◌if◌, firstRow, refusal}
use Rattle.definitions.specs.Ranges.{Range}
use Rattle.definitions.specs.Times.{none}
use Rattle.definitions.specs.Trial.{too_short, range_rows}
use Rattle.definitions.specs.Panels.{Places, Panel, on_panel, not_panel, head_ranges, last_time, total_held, common_taken, is_at, either, held_by, twice, outside_address, miscounted, bad_panel, unknown, crowded}
use Rattle.definitions.specs.PanelCalls.{room_of, panel_rows, add_rows}
use Rattle.definitions.specs.declared.entries.Entry.{Entry}
use Rattle.trial_laws.specs.Rows.{Numbered, row-holds, first_row-append, first_row-accepted, refusal-above, refusal-zero, none-split, none-join}
use Rattle.trial_laws.specs.ShortLists.{all-long}

-- ---- 14, test by test

pub record GoodPanel (es : List Entry) (bs : List ℕ) : Type 0 where
  pub some_entry : eqb (length es) 0 ≡ false
  pub few : length es ≤ most_heads
  pub once : twice es ≡ false
  pub inside : any outside_address es ≡ false
  pub common_left : common_taken es ≤ common_places
  pub counted : any (miscounted bs) es ≡ false

pub good-panel : (es : List Entry) (bs : List ℕ) → bad_panel es bs ≡ false → GoodPanel es bs
unfolding bad_panel
good-panel es bs e =
    let c₁ = or-neither (eqb (length es) 0) (ltb 64 (length es) || (twice es || (any outside_address es || (ltb 2048 (common_taken es) || any (miscounted bs) es)))) e in
    let c₂ = or-neither (ltb 64 (length es)) (twice es || (any outside_address es || (ltb 2048 (common_taken es) || any (miscounted bs) es))) c₁.1 in
    let c₃ = or-neither (twice es) (any outside_address es || (ltb 2048 (common_taken es) || any (miscounted bs) es)) c₂.1 in
    let c₄ = or-neither (any outside_address es) (ltb 2048 (common_taken es) || any (miscounted bs) es) c₃.1 in
    let c₅ = or-neither (ltb 2048 (common_taken es)) (any (miscounted bs) es) c₄.1 in
    record {
      some_entry = c₁.0;
      few = ltb-false 64 (length es) c₂.0;
      once = c₃.0;
      inside = c₄.0;
      common_left = ltb-false 2048 (common_taken es) c₅.0;
      counted = c₅.1;
    }

pub bad-not : (es : List Entry) (bs : List ℕ) → GoodPanel es bs → bad_panel es bs ≡ false
unfolding bad_panel
bad-not es bs g = rw (g.some_entry, le-ltb 64 (length es) g.few, g.once, g.inside, le-ltb 2048 (common_taken es) g.common_left) g.counted

-- ---- rows and then more

pub refused-first : (rows more : List Row) (n : ℕ) → refusal (firstRow rows) ≡ n → (n ≡ 0 → ⊥) → refusal (firstRow (rows ++ more)) ≡ n
unfolding refusal ◌>>=◌
refused-first rows more n e above = ap refusal (first_row-append rows more ∙ ap (λ answer. answer >>= λ ok. firstRow more) (refusal-above (firstRow rows) n e (pos_of_ne-zero above)))

pub passed_first : (rows more : List Row) → Numbered rows → refusal (firstRow rows) ≡ 0 → firstRow (rows ++ more) ≡ firstRow more
unfolding ◌>>=◌
passed_first rows more h e = first_row-append rows more ∙ ap (λ answer. answer >>= λ ok. firstRow more) ((refusal-zero rows h).0 e)

-- 8, 14 and 12 by their tests
unfoldable pub panel_trial : Bool → Bool → ℕ → List Entry → List Row
panel_trial short bad a es = 8 if short ∷ 14 if bad ∷ 12 if unknown a es ∷ []

pub panel-numbered : (short bad : Bool) (a : ℕ) (es : List Entry) → Numbered (panel_trial short bad a es)
unfolding panel_trial
panel-numbered short bad a es = (omega arith, (omega arith, (omega arith, tt)))

pub panel-bad : (short bad : Bool) (a : ℕ) (es : List Entry) → short ≡ false → bad ≡ true → refusal (firstRow (panel_trial short bad a es)) ≡ 14
unfolding panel_trial firstRow refusal
panel-bad short bad a es s b = rw (s, b) refl

pub panel-unknown : (short bad : Bool) (a : ℕ) (es : List Entry) → short ≡ false → bad ≡ false → unknown a es ≡ true → refusal (firstRow (panel_trial short bad a es)) ≡ 12
unfolding panel_trial firstRow refusal
panel-unknown short bad a es s b u = rw (s, b, u) refl

pub panel-passed : (short bad : Bool) (a : ℕ) (es : List Entry) → short ≡ false → bad ≡ false → unknown a es ≡ false → refusal (firstRow (panel_trial short bad a es)) ≡ 0
unfolding panel_trial firstRow refusal
panel-passed short bad a es s b u = rw (s, b, u) refl

-- a range whose own rows pass, and 13
pub crowded-out : (own : List Row) (crowd : Bool) → Numbered own → refusal (firstRow own) ≡ 0 → crowd ≡ true → refusal (firstRow (own ++ (13 if crowd ∷ []))) ≡ 13
unfolding firstRow refusal
crowded-out own crowd h e c = ap refusal (passed_first own (13 if crowd ∷ []) h e) ∙ rw c refl

pub let_in : (own : List Row) (crowd : Bool) → Numbered own → refusal (firstRow own) ≡ 0 → crowd ≡ false → refusal (firstRow (own ++ (13 if crowd ∷ []))) ≡ 0
unfolding firstRow refusal
let_in own crowd h e c = ap refusal (passed_first own (13 if crowd ∷ []) h e) ∙ rw c refl

-- ---- the room

pub total_at_most : (es : List Entry) → total_held es ≤ 32 * length es + common_taken es
unfolding total_held common_taken
total_at_most [] = omega arith
total_at_most (e ∷ es) = let r = total_at_most es in omega (arith, r)

-- a head that holds less than its 32 leaves a place of its own
own-step : (t : Bool) (e : Entry) (es : List Entry) (n : ℕ) (b : Bool) → (t || b) ≡ true → (b ≡ true → n < 32 → total_held es < 32 * length es + common_taken es) → either t e.held n < 32 → total_held (e ∷ es) < 32 * length (e ∷ es) + common_taken (e ∷ es)
unfolding either total_held common_taken
own-step true e es n b found later h = let r = total_at_most es in omega (arith, r, h)
own-step false e es n b found later h = let r = later found h in omega (arith, r)

own-place : (a : ℕ) (es : List Entry) → any (is_at a) es ≡ true → held_by a es < 32 → total_held es < 32 * length es + common_taken es
unfolding any held_by
own-place a [] found h = absurd (subst T (sym found) tt)
own-place a (e ∷ es) found h = own-step (is_at a e) e es (held_by a es) (any (is_at a) es) found (own-place a es) h

pub total-room : (es : List Entry) (bs : List ℕ) → GoodPanel es bs → total_held es ≤ 4096
total-room es bs g =
    let r = total_at_most es in
    let f = g.few in
    let c = g.common_left in
    omega (arith, r, f, c)

pub one-false : (s t : Bool) → (s && t) ≡ false → (s ≡ false) ⊎ (t ≡ false)
one-false true t e = inr e
one-false false t e = inl refl

pub next_place : (a : ℕ) (es : List Entry) (bs : List ℕ) → GoodPanel es bs → unknown a es ≡ false → crowded a es ≡ false → total_held es < 4096
unfolding unknown crowded
next_place a es bs g is_known uncrowded =
    let f = g.few in
    let c = g.common_left in
    ⊎_elim
    (λ own. let p = own-place a es (not-false (any (is_at a) es) is_known) (leb-false 32 (held_by a es) own) in omega (arith, p, f, c))
    (λ left. let r = total_at_most es in let l = leb-false 2048 (common_taken es) left in omega (arith, r, l, f))
    (one-false (leb 32 (held_by a es)) (leb 2048 (common_taken es)) uncrowded)

-- ---- a range is accepted

pub record Roomy (p : Places) : Type 0 where
  pub room_addresses : panel_room ≤ length p.addresses
  pub room_times : panel_room ≤ length p.times
  pub room_lows : panel_room ≤ length p.lows
  pub room_highs : panel_room ≤ length p.highs

pub roomy : (p : Places) → too_short panel_room (room_of p) ≡ false → Roomy p
unfolding room_of
roomy p e = let long = all-long panel_room (room_of p) e in record { room_addresses = long.0; room_times = long.1.0; room_lows = long.1.1.0; room_highs = long.1.1.1.0 }

-- as many first places of each list, where they are no more than there are
pub first-lengths : (n : ℕ) (p : Places) → n ≤ 4096 → Roomy p → (length (take n p.times) ≡ length (take n p.addresses)) × (length (take n p.lows) ≡ length (take n p.addresses)) × (length (take n p.highs) ≡ length (take n p.addresses))
first-lengths n p most room =
    let r₁ = room.room_addresses in
    let r₂ = room.room_times in
    let r₃ = room.room_lows in
    let r₄ = room.room_highs in
    let l₁ = length-take-le n p.addresses (omega (arith, most, r₁)) in
    (length-take-le n p.times (omega (arith, most, r₂)) ∙ sym l₁, length-take-le n p.lows (omega (arith, most, r₃)) ∙ sym l₁, length-take-le n p.highs (omega (arith, most, r₄)) ∙ sym l₁)

abbrev pub try_add : Panel → ℕ → Range → Answer Unit
try_add s a r = firstRow (add_rows s a r)

abbrev pub own_rows : Panel → ℕ → Range → List Row
own_rows s a r = range_rows (last_time none (head_ranges a (on_panel s))) r

pub record Accepts (s : Panel) (a : ℕ) (r : Range) : Type 0 where
  pub long : too_short panel_room (room_of s.places) ≡ false
  pub good : not_panel s ≡ false
  pub is_known : unknown a s.entries ≡ false
  pub passes : firstRow (own_rows s a r) ≡ accepted tt
  pub uncrowded : crowded a s.entries ≡ false

pub accepts : (s : Panel) (a : ℕ) (r : Range) → try_add s a r ≡ accepted tt → Accepts s a r
unfolding add_rows panel_rows
accepts s a r e =
    let none-hold = (first_row-accepted (add_rows s a r)).0 e in
    let later = none-split (own_rows s a r) (13 if crowded a s.entries ∷ []) none-hold.1.1.1 in
    record {
      long = none-hold.0;
      good = none-hold.1.0;
      is_known = none-hold.1.1.0;
      passes = (first_row-accepted (own_rows s a r)).1 later.0;
      uncrowded = later.1.0;
    }

pub accepted_where : (s : Panel) (a : ℕ) (r : Range) → Accepts s a r → try_add s a r ≡ accepted tt
unfolding add_rows panel_rows
accepted_where s a r h =
    (first_row-accepted (add_rows s a r)).1
    (h.long, (h.good, (h.is_known, none-join (own_rows s a r) (13 if crowded a s.entries ∷ []) ((first_row-accepted (own_rows s a r)).0 h.passes) (h.uncrowded, tt))))

pub refused_where : (s : Panel) (a : ℕ) (r : Range) → too_short panel_room (room_of s.places) ≡ false → not_panel s ≡ false → unknown a s.entries ≡ false → firstRow (own_rows s a r) ≡ accepted tt → crowded a s.entries ≡ true → try_add s a r ≡ refused 13
unfolding add_rows panel_rows firstRow ◌>>=◌
refused_where s a r long good is_known passes crowd = rw (long, good, is_known) (first_row-append (own_rows s a r) (13 if crowded a s.entries ∷ []) ∙ ap (λ (x : Answer Unit). x >>= λ ok. firstRow (13 if crowded a s.entries ∷ [])) passes ∙ row-holds 13 [] crowd)
