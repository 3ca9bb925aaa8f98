-- What a range that is accepted makes of a panel.
--
--     IsPanel                      what calls ask of a panel: all four lists are long, and 14's test does not hold
--     Starts, starts-panel         as a panel starts: 1 to 64 entries that hold nothing, each address inside its span and none twice, and long lists; so it is one
--     AllEmpty, none-held, nothing-on   no entry holds anything; so no place is held, and nothing stands on the panel
--     held-added                   an accepted range takes one place more
--     on-added                     it stands after those that were there, and these stay as they were
--     counts-added                 its head holds one more, and every other head what it held
--     known-added                  the same addresses have an entry
--     stays-panel                  what was a panel is again one
--
-- Assumes nothing.
use Rattle.std.specs.Prelude.{ℕ, ◌+◌, ◌<◌, ◌≤◌, ◌≡◌, refl, false, not, ◌||◌, List, [], ◌∷◌, ◌++◌, eqb, ℤ, length, set, take}
use Rattle.std.proofs.Common.{add-one, arith, ap, ap₂, ◌∙◌, length-set, take-suc-set, ne_eqb}
use Rattle.std.proofs.lemmas.Bool.{not-false}
use Rattle.integers.specs.Lists.{any, All, nil, cons}
use Rattle.definitions.specs.Spans.{most_heads, panel_room}
use Rattle.definitions.specs.Answers.{accepted}
use Rattle.definitions.specs.Ranges.{Range}
use Rattle.definitions.specs.Trial.{too_short}
use Rattle.definitions.specs.Panels.{Places, Panel, zip_taken, taken, on_panel, total_held, common_taken, is_at, held_by, twice, outside_address, occurrences, miscounted, bad_panel, not_panel, unknown}
use Rattle.definitions.specs.PanelCalls.{room_of, entries_after, put_at, added}
use Rattle.definitions.specs.declared.entries.Entry.{Entry}
use Rattle.panel_laws.specs.OneMore.{held_after, own_held, others-held}
use Rattle.panel_laws.specs.PanelRows.{good-panel, bad-not, next_place, Roomy, roomy, first-lengths, try_add, accepts}
use Rattle.panel_laws.specs.StaysPanel.{known-after, good-after}

pub record IsPanel (s : Panel) : Type 0 where
  pub long : too_short panel_room (room_of s.places) ≡ false
  pub good : not_panel s ≡ false

-- ---- the start

abbrev pub AllEmpty : List Entry → Type 0
AllEmpty es = All (λ (e : Entry). e.held ≡ 0) es

sum-none : (sum : List Entry → ℕ) → sum [] ≡ 0 → ((e : Entry) (es : List Entry) → e.held ≡ 0 → sum (e ∷ es) ≡ sum es) → {es : List Entry} → AllEmpty es → sum es ≡ 0
sum-none sum none more nil = none
sum-none sum none more (cons h rest) = more _ _ h ∙ sum-none sum none more rest

pub none-held : {es : List Entry} → AllEmpty es → total_held es ≡ 0
unfolding total_held
none-held = sum-none total_held refl (λ e es h. omega (arith, h))

pub record Starts (s : Panel) : Type 0 where
  pub empty : AllEmpty s.entries
  pub some_entry : 0 < length s.entries
  pub few : length s.entries ≤ most_heads
  pub once : twice s.entries ≡ false
  pub inside : any outside_address s.entries ≡ false
  pub room : too_short panel_room (room_of s.places) ≡ false

none-common : {es : List Entry} → AllEmpty es → common_taken es ≡ 0
unfolding common_taken
none-common = sum-none common_taken refl (λ e es h. omega (arith, h))

none-miscounted : {es : List Entry} → AllEmpty es → any (miscounted []) es ≡ false
unfolding any miscounted occurrences
none-miscounted nil = refl
none-miscounted (cons h rest) = ap₂ (λ n t. not (eqb n 0) || t) h (none-miscounted rest)

pub starts-panel : {s : Panel} → Starts s → IsPanel s
unfolding not_panel
starts-panel {s} h =
    let common = none-common h.empty in
    let some = h.some_entry in
    record {
      long = h.room;
      good = bad-not s.entries (take (total_held s.entries) s.places.addresses) (record {
        some_entry = ne_eqb (length s.entries) 0 (λ e. omega (arith, some, e));
        few = h.few;
        once = h.once;
        inside = h.inside;
        common_left = omega (arith, common);
        counted = ap (λ n. any (miscounted (take n s.places.addresses)) s.entries) (none-held h.empty) ∙ none-miscounted h.empty;
      });
    }

pub nothing-on : (s : Panel) → AllEmpty s.entries → on_panel s ≡ []
unfolding on_panel taken zip_taken
nothing-on s h = ap (λ n. taken n s.places) (none-held h)

-- ---- one range more

-- the next place is in all four lists
record Next (s : Panel) : Type 0 where
  held : total_held s.entries < 4096
  lists : Roomy s.places

next_of : (s : Panel) (a : ℕ) (r : Range) → try_add s a r ≡ accepted tt → Next s
unfolding not_panel
next_of s a r e =
    let h = accepts s a r e in
    let bs = take (total_held s.entries) s.places.addresses in
    record { held = next_place a s.entries bs (good-panel s.entries bs h.good) h.is_known h.uncrowded; lists = roomy s.places h.long }

pub held-added : (s : Panel) (a : ℕ) (r : Range) → try_add s a r ≡ accepted tt → total_held (added s a r).entries ≡ total_held s.entries + 1
unfolding unknown added
held-added s a r e = held_after a s.entries (not-false (any (is_at a) s.entries) (accepts s a r e).is_known)

pub counts-added : (s : Panel) (a : ℕ) (r : Range) → try_add s a r ≡ accepted tt → (held_by a (added s a r).entries ≡ held_by a s.entries + 1) × ((b : ℕ) → eqb a b ≡ false → held_by b (added s a r).entries ≡ held_by b s.entries)
unfolding unknown added
counts-added s a r e = (own_held a s.entries (not-false (any (is_at a) s.entries) (accepts s a r e).is_known), λ b other. others-held a b s.entries other)

pub known-added : (b : ℕ) (s : Panel) (a : ℕ) (r : Range) → unknown b (added s a r).entries ≡ unknown b s.entries
unfolding unknown added
known-added b s a r = ap not (known-after b a s.entries)

next-entry : {A : Type 0} (n : ℕ) (x : A) (xs : List A) → n < length xs → take (n + 1) (set xs n x) ≡ take n xs ++ (x ∷ [])
next-entry n x xs l = ap (λ i. take i (set xs n x)) (add-one n) ∙ take-suc-set xs n x l

zip_more : (bs ts : List ℕ) (us vs : List ℤ) (a : ℕ) (r : Range) → length ts ≡ length bs → length us ≡ length bs → length vs ≡ length bs → zip_taken (bs ++ (a ∷ [])) (ts ++ (r.time ∷ [])) (us ++ (r.low ∷ [])) (vs ++ (r.high ∷ [])) ≡ zip_taken bs ts us vs ++ (record { address = a; range = r } ∷ [])
unfolding zip_taken
zip_more [] [] [] [] a r e f g = refl
zip_more [] (t ∷ ts) us vs a r e f g = absurd (omega (arith, e))
zip_more [] [] (u ∷ us) vs a r e f g = absurd (omega (arith, f))
zip_more [] [] [] (v ∷ vs) a r e f g = absurd (omega (arith, g))
zip_more (b ∷ bs) [] us vs a r e f g = absurd (omega (arith, e))
zip_more (b ∷ bs) (t ∷ ts) [] vs a r e f g = absurd (omega (arith, f))
zip_more (b ∷ bs) (t ∷ ts) (u ∷ us) [] a r e f g = absurd (omega (arith, g))
zip_more (b ∷ bs) (t ∷ ts) (u ∷ us) (v ∷ vs) a r e f g = ap (λ xs. record { address = b; range = record { time = t; low = u; high = v } } ∷ xs) (zip_more bs ts us vs a r (omega (arith, e)) (omega (arith, f)) (omega (arith, g)))

taken_next : (n a : ℕ) (r : Range) (p : Places) → n < 4096 → Roomy p → taken (n + 1) (put_at n a r p) ≡ taken n p ++ (record { address = a; range = r } ∷ [])
unfolding taken put_at
taken_next n a r p l room =
    let r₁ = room.room_addresses in
    let r₂ = room.room_times in
    let r₃ = room.room_lows in
    let r₄ = room.room_highs in
    let same = first-lengths n p (omega (arith, l)) room in
    ap₂ (λ bs ts. zip_taken bs ts (take (n + 1) (set p.lows n r.low)) (take (n + 1) (set p.highs n r.high))) (next-entry n a p.addresses (omega (arith, l, r₁))) (next-entry n r.time p.times (omega (arith, l, r₂)))
    ∙ ap₂ (λ us vs. zip_taken (take n p.addresses ++ (a ∷ [])) (take n p.times ++ (r.time ∷ [])) us vs) (next-entry n r.low p.lows (omega (arith, l, r₃))) (next-entry n r.high p.highs (omega (arith, l, r₄)))
    ∙ zip_more (take n p.addresses) (take n p.times) (take n p.lows) (take n p.highs) a r same.0 same.1 same.2

pub on-added : (s : Panel) (a : ℕ) (r : Range) → try_add s a r ≡ accepted tt → on_panel (added s a r) ≡ on_panel s ++ (record { address = a; range = r } ∷ [])
unfolding on_panel added
on-added s a r e =
    let n = total_held s.entries in
    let next = next_of s a r e in
    ap (λ i. taken i (put_at n a r s.places)) (held-added s a r e) ∙ taken_next n a r s.places next.held next.lists

-- ---- again a panel

room-added : (n a : ℕ) (r : Range) (p : Places) → room_of (put_at n a r p) ≡ room_of p
unfolding room_of put_at
room-added n a r p = rw (length-set p.addresses n a, length-set p.times n r.time, length-set p.lows n r.low, length-set p.highs n r.high) refl

pub stays-panel : (s : Panel) (a : ℕ) (r : Range) → try_add s a r ≡ accepted tt → IsPanel (added s a r)
unfolding added not_panel put_at
stays-panel s a r e =
    let h = accepts s a r e in
    let n = total_held s.entries in
    let bs = s.places.addresses in
    let next = next_of s a r e in
    let less = next.held in
    let room = next.lists.room_addresses in
    record {
      long = ap (too_short panel_room) (room-added n a r s.places) ∙ h.long;
      good = ap (λ i. bad_panel (entries_after a s.entries) (take i (set bs n a))) (held-added s a r e) ∙ ap (bad_panel (entries_after a s.entries)) (next-entry n a bs (omega (arith, less, room))) ∙ good-after a (take n bs) s.entries h.good h.uncrowded;
    }
