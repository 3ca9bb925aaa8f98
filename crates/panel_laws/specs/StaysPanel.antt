-- After a range is accepted the entries, and the addresses in the places held, are again those of a panel.
--
--     known-after      the same addresses have an entry
--     good-after       14's test does not hold: the entries keep their addresses, the common places taken stay within 2,048, and each held count is again the number of its head's ranges
--
-- Assumes nothing.
use Rattle.std.specs.Prelude.{ℕ, suc, ◌+◌, ◌<◌, ◌≤◌, ◌≡◌, Bool, not, ◌||◌, eqb, leb, length}
use Rattle.std.proofs.Common.{arith, ap₂, ◌∙◌, subst, ⊎_elim, eqb-true, eq-eqb, leb-false}
use Rattle.std.proofs.Math.Path.{refl, ap}
use Rattle.std.proofs.Math.Bool.{true, false}
use mathlib.Core.List.{List, [], ◌∷◌, ◌++◌}
use Rattle.std.proofs.lemmas.Bool.{not-false}
use Rattle.integers.specs.Booleans.{or-neither}
use Rattle.integers.specs.Lists.{any}
use Rattle.definitions.specs.Panels.{common_taken, is_at, either, held_by, counted_in, occurrences, twice, outside_address, miscounted, bad_panel, crowded}
use Rattle.definitions.specs.PanelCalls.{one_more, bumped, entries_after}
use Rattle.definitions.specs.declared.entries.Entry.{Entry}
use Rattle.panel_laws.specs.Tallies.{eqb-sym, count-more}
use Rattle.panel_laws.specs.PanelRows.{one-false, good-panel, bad-not}

-- ---- addresses

length-step : (t : Bool) (e : Entry) (es fs : List Entry) → length fs ≡ length es → length (bumped t e es fs) ≡ length (e ∷ es)
unfolding bumped
length-step true e es fs h = refl
length-step false e es fs h = ap suc h

length-after : (a : ℕ) (es : List Entry) → length (entries_after a es) ≡ length es
unfolding entries_after
length-after a [] = refl
length-after a (e ∷ es) = length-step (is_at a e) e es (entries_after a es) (length-after a es)

-- a test that reads only the address gives what it gave
module _ (test : Entry → Bool) (blind : (e : Entry) → test (one_more e) ≡ test e) where
  any_step : (t : Bool) (e : Entry) (es fs : List Entry) → any test fs ≡ any test es → any test (bumped t e es fs) ≡ any test (e ∷ es)
  unfolding bumped any
  any_step true e es fs h = ap (λ s. s || any test es) (blind e)
  any_step false e es fs h = ap (λ s. test e || s) h

  any_after : (a : ℕ) (es : List Entry) → any test (entries_after a es) ≡ any test es
  unfolding entries_after
  any_after a [] = refl
  any_after a (e ∷ es) = any_step (is_at a e) e es (entries_after a es) (any_after a es)

pub known-after : (x a : ℕ) (es : List Entry) → any (is_at x) (entries_after a es) ≡ any (is_at x) es
unfolding is_at
known-after x a es = any_after (is_at x) (λ e. refl) a es

outside-after : (a : ℕ) (es : List Entry) → any outside_address (entries_after a es) ≡ any outside_address es
unfolding outside_address
outside-after a es = any_after outside_address (λ e. refl) a es

twice-step : (t : Bool) (e : Entry) (es fs : List Entry) → any (is_at e.address) fs ≡ any (is_at e.address) es → twice fs ≡ twice es → twice (bumped t e es fs) ≡ twice (e ∷ es)
unfolding bumped twice
twice-step true e es fs h k = refl
twice-step false e es fs h k = ap₂ (λ s t. s || t) h k

twice-after : (a : ℕ) (es : List Entry) → twice (entries_after a es) ≡ twice es
unfolding entries_after
twice-after a [] = refl
twice-after a (e ∷ es) = twice-step (is_at a e) e es (entries_after a es) (known-after e.address a es) (twice-after a es)

-- ---- the common places

most_step : (t : Bool) (e : Entry) (es fs : List Entry) → common_taken fs ≤ common_taken es + 1 → common_taken (bumped t e es fs) ≤ common_taken (e ∷ es) + 1
unfolding bumped common_taken
most_step true e es fs h = omega arith
most_step false e es fs h = omega (arith, h)

one_more-common : (a : ℕ) (es : List Entry) → common_taken (entries_after a es) ≤ common_taken es + 1
unfolding entries_after
one_more-common a [] = omega arith
one_more-common a (e ∷ es) = most_step (is_at a e) e es (entries_after a es) (one_more-common a es)

own-step : (t : Bool) (e : Entry) (es fs : List Entry) (n : ℕ) → (n < 32 → common_taken fs ≡ common_taken es) → either t e.held n < 32 → common_taken (bumped t e es fs) ≡ common_taken (e ∷ es)
unfolding bumped common_taken either
own-step true e es fs n later h = omega (arith, h)
own-step false e es fs n later h = let r = later h in omega (arith, r)

own-common : (a : ℕ) (es : List Entry) → held_by a es < 32 → common_taken (entries_after a es) ≡ common_taken es
unfolding entries_after held_by
own-common a [] h = refl
own-common a (e ∷ es) h = own-step (is_at a e) e es (entries_after a es) (held_by a es) (own-common a es) h

common-after : (a : ℕ) (es : List Entry) → common_taken es ≤ 2048 → crowded a es ≡ false → common_taken (entries_after a es) ≤ 2048
unfolding crowded
common-after a es l uncrowded =
    ⊎_elim
    (λ own. let e = own-common a es (leb-false 32 (held_by a es) own) in omega (arith, e, l))
    (λ left. let m = one_more-common a es in let k = leb-false 2048 (common_taken es) left in omega (arith, m, k))
    (one-false (leb 32 (held_by a es)) (leb 2048 (common_taken es)) uncrowded)

-- ---- the counts

-- of another address, nothing changes
other : (x a : ℕ) (bs : List ℕ) → eqb x a ≡ false → occurrences x (bs ++ (a ∷ [])) ≡ occurrences x bs
unfolding counted_in
other x a bs e = count-more x a bs ∙ ap (λ t. counted_in t (occurrences x bs)) (eqb-sym a x ∙ e)

others : (a : ℕ) (bs : List ℕ) (es : List Entry) → any (is_at a) es ≡ false → any (miscounted (bs ++ (a ∷ []))) es ≡ any (miscounted bs) es
unfolding any is_at miscounted
others a bs [] e = refl
others a bs (x ∷ es) e = let n = or-neither (eqb x.address a) (any (is_at a) es) e in ap₂ (λ m t. not (eqb x.held m) || t) (other x.address a bs n.0) (others a bs es n.1)

still-counted : (h m k : ℕ) → h ≡ m → k ≡ suc m → eqb (h + 1) k ≡ true
still-counted h m k e f = eq-eqb (h + 1) k (omega (arith, e, f))

counted_step : (t : Bool) (a : ℕ) (bs : List ℕ) (e : Entry) (es fs : List Entry) → is_at a e ≡ t → any (is_at e.address) es ≡ false → not (eqb e.held (occurrences e.address bs)) ≡ false → any (miscounted bs) es ≡ false → any (miscounted (bs ++ (a ∷ []))) fs ≡ false → any (miscounted (bs ++ (a ∷ []))) (bumped t e es fs) ≡ false
unfolding bumped any is_at miscounted counted_in
counted_step true a bs e es fs is alone here rest later =
    let same = eqb-true e.address a is in
    let h = eqb-true e.held (occurrences e.address bs) (not-false (eqb e.held (occurrences e.address bs)) here) in
    let k = count-more e.address a bs ∙ ap (λ t. counted_in t (occurrences e.address bs)) (eqb-sym a e.address ∙ is) in
    ap₂ (λ s t. not s || t) (still-counted e.held (occurrences e.address bs) (occurrences e.address (bs ++ (a ∷ []))) h k) (others a bs es (subst (λ y. any (is_at y) es ≡ false) same alone) ∙ rest)
counted_step false a bs e es fs is alone here rest later =
    ap₂ (λ m t. not (eqb e.held m) || t) (other e.address a bs is) later ∙ ap (λ s. s || false) here

counted-after : (a : ℕ) (bs : List ℕ) (es : List Entry) → twice es ≡ false → any (miscounted bs) es ≡ false → any (miscounted (bs ++ (a ∷ []))) (entries_after a es) ≡ false
unfolding entries_after twice any miscounted
counted-after a bs [] once counted = refl
counted-after a bs (e ∷ es) once counted =
    let o = or-neither (any (is_at e.address) es) (twice es) once in
    let c = or-neither (not (eqb e.held (occurrences e.address bs))) (any (miscounted bs) es) counted in
    counted_step (is_at a e) a bs e es (entries_after a es) refl o.0 c.0 c.1 (counted-after a bs es o.1 c.1)

pub good-after : (a : ℕ) (bs : List ℕ) (es : List Entry) → bad_panel es bs ≡ false → crowded a es ≡ false → bad_panel (entries_after a es) (bs ++ (a ∷ [])) ≡ false
good-after a bs es good uncrowded =
    let g = good-panel es bs good in
    let long = length-after a es in
    bad-not (entries_after a es) (bs ++ (a ∷ [])) (record {
      some_entry = ap (λ n. eqb n 0) long ∙ g.some_entry;
      few = let f = g.few in omega (arith, f, long);
      once = twice-after a es ∙ g.once;
      inside = outside-after a es ∙ g.inside;
      common_left = common-after a es g.common_left uncrowded;
      counted = counted-after a bs es g.once g.counted;
    })
