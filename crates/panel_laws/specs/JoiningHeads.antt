-- A head joins a panel: one entry more, at the end of the entries, which holds nothing. No place changes.
--
--     joined           the panel with this entry
--     joined-starts    so it starts, where the panel without it does
--     joined-other     an address that an entry has is another one than one that none has
--
-- Further laws stand in proofs/JoiningHeads.antt.
-- Assumes nothing.
use Rattle.std.specs.Prelude.{ℕ, ◌+◌, ◌<◌, ◌≡◌, refl, Bool, true, false, not, ◌||◌, T, eqb, length}
use Rattle.std.proofs.Common.{arith, ◌∙◌, subst, length-append, eqb-true, ne_eqb}
use Rattle.std.proofs.Math.Path.{sym, ap, ap₂}
use Rattle.std.proofs.Math.Bool.{or-false, or_assoc}
use mathlib.Core.List.{List, [], ◌∷◌, ◌++◌}
use Rattle.std.proofs.lemmas.Bool.{not-true}
use Rattle.integers.specs.Booleans.{or-neither}
use Rattle.integers.specs.Lists.{any, nil, cons, All-append}
use Rattle.definitions.specs.Spans.{panel_room}
use Rattle.definitions.specs.Answers.{◌if◌}
use Rattle.definitions.specs.Trial.{bad_address, too_short}
use Rattle.definitions.specs.Panels.{Panel, total_held, common_taken, is_at, either, held_by, occurrences, twice, outside_address, miscounted, bad_panel, unknown}
use Rattle.definitions.specs.PanelCalls.{panel_rows, bumped, entries_after}
use Rattle.definitions.specs.declared.entries.Entry.{Entry}
use Rattle.panel_laws.specs.Tallies.{eqb-sym}
use Rattle.panel_laws.specs.PanelRows.{good-panel, bad-not}
use Rattle.panel_laws.specs.AddLaws.{IsPanel, Starts}

-- the entry of a head that has no range yet
abbrev pub new_entry : ℕ → Entry
new_entry a = record { address = a; held = 0 }

-- the panel with one entry more, which holds nothing
unfoldable pub joined : ℕ → Panel → Panel
joined a s = record { entries = s.entries ++ (new_entry a ∷ []); places = s.places }

-- ---- sums and tests over one entry more

pub total-more : (a : ℕ) (es : List Entry) → total_held (es ++ (new_entry a ∷ [])) ≡ total_held es
unfolding total_held
total-more a [] = refl
total-more a (e ∷ es) = ap (λ n. e.held + n) (total-more a es)

pub common-more : (a : ℕ) (es : List Entry) → common_taken (es ++ (new_entry a ∷ [])) ≡ common_taken es
unfolding common_taken
common-more a [] = refl
common-more a (e ∷ es) = let r = common-more a es in omega (arith, r)

pub held_more : (b a : ℕ) (es : List Entry) → held_by b (es ++ (new_entry a ∷ [])) ≡ held_by b es
unfolding held_by either
held_more b a [] = same (is_at b (new_entry a)) 0
  where
    same : (t : Bool) (n : ℕ) → either t n n ≡ n
    same true n = refl
    same false n = refl
held_more b a (e ∷ es) = ap (either (is_at b e) e.held) (held_more b a es)

any-more : (test : Entry → Bool) (es : List Entry) (e : Entry) → any test (es ++ (e ∷ [])) ≡ (any test es || test e)
unfolding any
any-more test [] e = or-false (test e)
any-more test (x ∷ es) e = ap (λ t. test x || t) (any-more test es e) ∙ sym (or_assoc (test x) (any test es) (test e))

none_more : (test : Entry → Bool) (es : List Entry) (e : Entry) → any test es ≡ false → test e ≡ false → any test (es ++ (e ∷ [])) ≡ false
none_more test es e before here = any-more test es e ∙ ap₂ ◌||◌ before here

once_more : (a : ℕ) (es : List Entry) → any (is_at a) es ≡ false → twice es ≡ false → twice (es ++ (new_entry a ∷ [])) ≡ false
unfolding any twice is_at
once_more a [] new_head once = refl
once_more a (e ∷ es) new_head once =
    let n = or-neither (eqb e.address a) (any (is_at a) es) new_head in
    let o = or-neither (any (is_at e.address) es) (twice es) once in
    ap₂ ◌||◌ (none_more (is_at e.address) es (new_entry a) o.0 (eqb-sym a e.address ∙ n.0)) (once_more a es n.1 o.1)

-- ---- the panel

-- no place held has the new address, so its entry counts right
pub good_more : (a : ℕ) (es : List Entry) (bs : List ℕ) → bad_panel es bs ≡ false → length es < 64 → bad_address a ≡ false → any (is_at a) es ≡ false → occurrences a bs ≡ 0 → bad_panel (es ++ (new_entry a ∷ [])) bs ≡ false
unfolding outside_address miscounted
good_more a es bs good few inside new_head absent =
    let g = good-panel es bs good in
    let long = length-append es (new_entry a ∷ []) in
    let common = common-more a es in
    let left = g.common_left in
    bad-not (es ++ (new_entry a ∷ [])) bs (record {
      some_entry = ne_eqb (length (es ++ (new_entry a ∷ []))) 0 (λ e. omega (arith, e, long));
      few = omega (arith, few, long);
      once = once_more a es new_head g.once;
      inside = none_more outside_address es (new_entry a) g.inside inside;
      common_left = omega (arith, common, left);
      counted = none_more (miscounted bs) es (new_entry a) g.counted (ap (λ n. not (eqb 0 n)) absent);
    })

pub joined-starts : {s : Panel} (a : ℕ) → Starts s → length s.entries < 64 → bad_address a ≡ false → unknown a s.entries ≡ true → Starts (joined a s)
unfolding joined unknown outside_address
joined-starts {s} a h few inside new_head =
    let es = s.entries in
    let long = length-append es (new_entry a ∷ []) in
    record {
      empty = All-append h.empty (cons refl nil);
      some_entry = omega (arith, long);
      few = omega (arith, few, long);
      once = once_more a es (not-true (any (is_at a) es) new_head) h.once;
      inside = none_more outside_address es (new_entry a) h.inside inside;
      room = h.room;
    }

-- ---- the calls, for every other address

known_joined : (b a : ℕ) (s : Panel) → eqb a b ≡ false → unknown b (joined a s).entries ≡ unknown b s.entries
unfolding joined unknown is_at
known_joined b a s other = ap not (any-more (is_at b) s.entries (new_entry a) ∙ ap (λ t. any (is_at b) s.entries || t) other ∙ or-false (any (is_at b) s.entries))

module _ {s : Panel} (b a : ℕ) (h : IsPanel s) (after : IsPanel (joined a s)) (other : eqb a b ≡ false) where
  pub rows_joined : (lengths : List ℕ) → panel_rows lengths (joined a s) b ≡ panel_rows lengths s b
  unfolding panel_rows
  rows_joined lengths = ap₂ (λ (t u : Bool). 8 if too_short panel_room lengths ∷ 14 if t ∷ 12 if u ∷ []) (after.good ∙ sym h.good) (known_joined b a s other)

after-step : (t : Bool) (a : ℕ) (e : Entry) (es fs gs : List Entry) → gs ≡ fs ++ (new_entry a ∷ []) → bumped t e (es ++ (new_entry a ∷ [])) gs ≡ bumped t e es fs ++ (new_entry a ∷ [])
unfolding bumped
after-step true a e es fs gs later = refl
after-step false a e es fs gs later = ap (λ (xs : List Entry). e ∷ xs) later

pub after_more : (b a : ℕ) (es : List Entry) → eqb a b ≡ false → entries_after b (es ++ (new_entry a ∷ [])) ≡ entries_after b es ++ (new_entry a ∷ [])
unfolding entries_after bumped is_at
after_more b a [] other = ap (λ (t : Bool). bumped t (new_entry a) [] []) other
after_more b a (e ∷ es) other = after-step (eqb e.address b) a e es (entries_after b es) (entries_after b (es ++ (new_entry a ∷ []))) (after_more b a es other)

pub joined-other : (b a : ℕ) (es : List Entry) → unknown a es ≡ true → unknown b es ≡ false → eqb a b ≡ false
joined-other b a es new_head is_Known = by_test (eqb a b) refl
  where
    by_test : (t : Bool) → eqb a b ≡ t → t ≡ false
    by_test true is = absurd (subst T (sym new_head ∙ ap (λ x. unknown x es) (eqb-true a b is) ∙ is_Known) tt)
    by_test false is = refl
