-- Above 32 the other heads decide: two courses from one panel, in which head 1 had the same 32 ranges accepted; after one of them its next range is accepted, after the other it is
-- refused with 13.
--
--     two_heads, two-start      a panel with the heads 1 and 2; it starts
--     turn                     the range of a head at a time
--     Reached                  a panel on which head 1 holds m ranges and head 2 n, reached in the sense P
--     reached                  where P holds at the start and stays after every accepted range, a panel is reached on which head 1 holds 32 ranges and head 2 any number up to 2,080
--     same_ones, ones_length   head 1's ranges are then the same m, whatever head 2 holds
--     still_room, no_room      head 1's next range is accepted beside 2,079 ranges of head 2, and refused with 13 beside 2,080
--
-- Assumes nothing.
use Prim.Native.Nat.{ℕ, zero, suc, ◌≤◌}
use Rattle.std.proofs.Common.{add-one, arith, sym, ◌∙◌, length-append}
use Rattle.std.specs.Prelude.{◌≡◌, false, ◌&&◌, eqb, pos, length, replicate}
use Rattle.std.proofs.Math.Path.{refl, ap}
use Rattle.std.proofs.Math.Bool.{and-false}
use mathlib.Core.List.{List, [], ◌∷◌, ◌++◌, append-nil}
use Rattle.std.proofs.Math.Dec.{leb}
use Rattle.std.proofs.lemmas.Bool.{lt-leb}
use Rattle.integers.specs.Lists.{any, nil, cons}
use Rattle.definitions.specs.Answers.{refused, accepted, firstRow}
use Rattle.definitions.specs.Ranges.{Range}
use Rattle.definitions.specs.Times.{Time, none, at}
use Rattle.definitions.specs.Trial.{outside, bad_address, not_above, range_rows, too_short}
use Rattle.definitions.specs.Panels.{Panel, Taken, common_taken, is_at, either, held_by, on_panel, kept, head_ranges, last_time, twice, outside_address, unknown, crowded}
use Rattle.definitions.specs.PanelCalls.{room_of, bumped, entries_after, added}
use Rattle.definitions.specs.declared.entries.Entry.{Entry}
use Rattle.panel_laws.specs.PanelRows.{try_add, accepted_where, refused_where}
use Rattle.panel_laws.specs.AddLaws.{IsPanel, Starts, starts-panel, nothing-on, stays-panel, on-added}
use Rattle.panel_laws.specs.OwnRanges.{own-added}

abbrev two : ℕ → ℕ → List Entry
two m n = record { address = 1; held = m } ∷ record { address = 2; held = n } ∷ []

abbrev pub two_heads : Panel
two_heads = record { entries = two 0 0; places = record { addresses = replicate 4096 0; times = replicate 4096 0; lows = replicate 4096 (pos 0); highs = replicate 4096 (pos 0) } }

pub two-start : Starts two_heads
unfolding twice any is_at outside_address bad_address too_short room_of
two-start = record { empty = cons refl (cons refl nil); some_entry = omega arith; few = omega arith; once = refl; inside = refl; room = refl }

-- ---- a head's ranges, one at each time from 0

abbrev pub turn : ℕ → Range
turn t = record { time = t; low = pos 0; high = pos 4 }

abbrev turns : ℕ → List Range
turns zero = []
turns (suc n) = turns n ++ (turn n ∷ [])

turns-length : (n : ℕ) → length (turns n) ≡ n
turns-length zero = refl
turns-length (suc n) = let more = length-append (turns n) (turn n ∷ []) in let is = turns-length n in omega (arith, more, is)

last-append : (before : Time) (rs : List Range) (r : Range) → last_time before (rs ++ (r ∷ [])) ≡ at r.time
unfolding last_time
last-append before [] r = refl
last-append before (x ∷ rs) r = last-append (at x.time) rs r

above-last : (n : ℕ) → not_above (last_time none (turns n)) n ≡ false
unfolding not_above last_time
above-last zero = refl
above-last (suc n) = ap (λ before. not_above before (suc n)) (last-append none (turns n) (turn n)) ∙ lt-leb (suc n) n (omega arith)

turn-passes : (rs : List Range) (n : ℕ) → rs ≡ turns n → firstRow (range_rows (last_time none rs) (turn n)) ≡ accepted tt
unfolding range_rows outside firstRow
turn-passes rs n e = rw (e, above-last n) refl

-- ---- what is reached

module _ (P : List Taken → Panel → Type 0) where
  pub record Reached (m n : ℕ) : Type 0 where
    pub xs : List Taken
    pub s : Panel
    pub reached_by : P xs s
    is_panel : IsPanel s
    entries_are : s.entries ≡ two m n
    on : on_panel s ≡ xs
    ones : head_ranges 1 (on_panel s) ≡ turns m
    twos : head_ranges 2 (on_panel s) ≡ turns n

module _ (P : List Taken → Panel → Type 0) (begins : P [] two_heads) (adds : (xs : List Taken) (s : Panel) (a : ℕ) (r : Range) → try_add s a r ≡ accepted tt → P xs s → P (xs ++ (record { address = a; range = r } ∷ [])) (added s a r)) where
  none_reached : Reached P 0 0
  unfolding head_ranges
  none_reached = record { xs = []; s = two_heads; reached_by = begins; is_panel = starts-panel two-start; entries_are = refl; on = nothing-on two_heads two-start.empty; ones = ap (head_ranges 1) (nothing-on two_heads two-start.empty); twos = ap (head_ranges 2) (nothing-on two_heads two-start.empty) }

  -- the next range of head b, which has had k
  next_reached : {m n m' n' : ℕ} (b k : ℕ) (h : Reached P m n) → unknown b (two m n) ≡ false → crowded b (two m n) ≡ false → head_ranges b (on_panel h.s) ≡ turns k → entries_after b (two m n) ≡ two m' n'
      → head_ranges 1 (on_panel h.s) ++ kept (eqb b 1) (turn k) [] ≡ turns m' → head_ranges 2 (on_panel h.s) ++ kept (eqb b 2) (turn k) [] ≡ turns n' → Reached P m' n'
  unfolding added
  next_reached b k h is_known uncrowded own entries_next ones-next twos-next =
      let s = h.s in
      let r = turn k in
      let e : try_add s b r ≡ accepted tt = accepted_where s b r (record { long = h.is_panel.long; good = h.is_panel.good; is_known = ap (unknown b) h.entries_are ∙ is_known; passes = turn-passes (head_ranges b (on_panel s)) k own; uncrowded = ap (crowded b) h.entries_are ∙ uncrowded }) in
      record {
        xs = h.xs ++ (record { address = b; range = r } ∷ []);
        s = added s b r;
        reached_by = adds h.xs s b r e h.reached_by;
        is_panel = stays-panel s b r e;
        entries_are = ap (entries_after b) h.entries_are ∙ entries_next;
        on = on-added s b r e ∙ ap (λ (ys : List Taken). ys ++ (record { address = b; range = r } ∷ [])) h.on;
        ones = own-added 1 s b r e ∙ ones-next;
        twos = own-added 2 s b r e ∙ twos-next;
      }

  one_reached : (m n : ℕ) → crowded 1 (two m n) ≡ false → Reached P m n → Reached P (suc m) n
  unfolding unknown any is_at entries_after bumped kept
  one_reached m n uncrowded h = next_reached 1 m h refl uncrowded h.ones (ap (λ k. two k n) (add-one m)) (ap (λ (rs : List Range). rs ++ (turn m ∷ [])) h.ones) (append-nil (head_ranges 2 (on_panel h.s)) ∙ h.twos)

  two_reached : (m n : ℕ) → crowded 2 (two m n) ≡ false → Reached P m n → Reached P m (suc n)
  unfolding unknown any is_at entries_after bumped kept
  two_reached m n uncrowded h = next_reached 2 n h refl uncrowded h.twos (ap (two m) (add-one n)) (append-nil (head_ranges 1 (on_panel h.s)) ∙ h.ones) (ap (λ (rs : List Range). rs ++ (turn n ∷ [])) h.twos)

  ones_reached : (m : ℕ) → m ≤ 32 → Reached P m 0
  unfolding crowded held_by either is_at common_taken
  ones_reached zero l = none_reached
  ones_reached (suc m) l = one_reached m 0 (ap (λ t. t && leb 2048 (common_taken (two m 0))) (lt-leb 32 m (omega (arith, l)))) (ones_reached m (omega (arith, l)))

  pub reached : (n : ℕ) → n ≤ 2080 → Reached P 32 n
  unfolding crowded held_by either is_at common_taken
  reached zero l = ones_reached 32 (omega arith)
  reached (suc n) l = two_reached 32 n (ap (λ t. leb 32 n && t) (lt-leb 2048 (common_taken (two 32 n)) (omega (arith, l))) ∙ and-false (leb 32 n)) (reached n (omega (arith, l)))

-- ---- head 1's next range

module _ {P : List Taken → Panel → Type 0} where
  pub same_ones : {m n n' : ℕ} (h : Reached P m n) (h' : Reached P m n') → head_ranges 1 h.xs ≡ head_ranges 1 h'.xs
  same_ones h h' = ap (head_ranges 1) (sym h.on) ∙ h.ones ∙ sym h'.ones ∙ ap (head_ranges 1) h'.on

  pub ones_length : {m n : ℕ} (h : Reached P m n) → length (head_ranges 1 h.xs) ≡ m
  ones_length {m} h = ap (λ xs. length (head_ranges 1 xs)) (sym h.on) ∙ ap length h.ones ∙ turns-length m

  pub still_room : (h : Reached P 32 2079) → try_add h.s 1 (turn 32) ≡ accepted tt
  unfolding unknown any is_at crowded held_by either common_taken
  still_room h = accepted_where h.s 1 (turn 32) (record { long = h.is_panel.long; good = h.is_panel.good; is_known = ap (unknown 1) h.entries_are; passes = turn-passes (head_ranges 1 (on_panel h.s)) 32 h.ones; uncrowded = ap (crowded 1) h.entries_are })

  pub no_room : (h : Reached P 32 2080) → try_add h.s 1 (turn 32) ≡ refused 13
  unfolding unknown any is_at crowded held_by either common_taken
  no_room h = refused_where h.s 1 (turn 32) h.is_panel.long h.is_panel.good (ap (unknown 1) h.entries_are) (turn-passes (head_ranges 1 (on_panel h.s)) 32 h.ones) (ap (crowded 1) h.entries_are)
