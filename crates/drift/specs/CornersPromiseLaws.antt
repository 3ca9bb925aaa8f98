-- How Corners keeps its promise: refused, open, or with the corners in the slices.
--
--     rows-refused, count_refused, rows_passed   the call's rows, from the trial that all calls share and the row 9
--     room-tested          slices that are not too short have room for all corners
--     promise_refused      a row holds
--     promise_open         none holds, and the segment running then has one range
--     promise_corners      none holds, it has two ranges or more, and its corners stand first
--
-- Assumes nothing.
use Rattle.std.specs.Prelude.{ℕ, ◌≤◌, ◌<◌, ◌+◌, ◌≡◌, Bool, true, false, ◌||◌, ltb, eqb, ℤ, length, Err, None, Ok, Some}
use Rattle.std.proofs.Common.{sym, ◌∙◌, arith, ltb-false}
use Rattle.std.proofs.Math.Path.{ap}
use mathlib.Core.List.{List, [], ◌++◌, map}
use Rattle.std.proofs.Math.ListN.{drop}
use Rattle.std.proofs.lemmas.List.{length-map}
use Rattle.integers.specs.Booleans.{or-neither}
use Rattle.integers.specs.Lists.{any}
use Rattle.definitions.specs.Spans.{corner_room}
use Rattle.definitions.specs.Ranges.{Lists, ranges_of}
use Rattle.definitions.specs.Lines.{Line}
use Rattle.definitions.specs.Corners.{corners}
use Rattle.definitions.specs.Segments.{running_after}
use Rattle.definitions.specs.Answers.{Answer, refused, accepted, ◌>>=◌, firstRow, filled}
use Rattle.definitions.specs.Refusals.{refusal_number}
use Rattle.definitions.specs.declared.refusals.Refusal.{Refusal}
use Rattle.definitions.specs.Trial.{too_short, corner_rows}
use Rattle.definitions.specs.Calls.{Fit, open_strip, bounded, fit_of, corners_in, corners_call}
use Rattle.trial_laws.specs.Rows.{row-holds, row-passes}
use Rattle.trial_laws.specs.ListTrial.{trial_rows, count_rows, corner_trial}
use Rattle.trial_laws.specs.Accepted.{AcceptedLists}
use Rattle.drift_laws.specs.ChainParts.{Chain}
use Rattle.drift_laws.specs.LineRows.{RowRoom}
use Rattle.drift_laws.specs.RunsByPlace.{run, run_one, run_two}
use Rattle.fit.specs.declared.last_run.Found.{Found}
use Rattle.fit.specs.LastRuns.{LastRun}
use Rattle.corner_list.specs.RunCorners.{RunCorners}
use Rattle.drift.specs.CornersPromise.{count_of, corners_meaning, three_lengths, CornersPromise}

-- ---- the rows
module _ (ns : List ℕ) (k : ℕ) (ls : Lists) where
  tried : {short : Bool} {a : Answer Unit} → short ≡ too_short corner_room ns → firstRow (trial_rows short false ls) ≡ a → firstRow (corner_rows ns k ls) ≡ (a >>= λ ok. firstRow (count_rows k ls))
  tried e f = corner_trial ns k ls ∙ ap (λ x. x >>= λ ok. firstRow (count_rows k ls)) (ap (λ short. firstRow (trial_rows short false ls)) (sym e) ∙ f)

  pub rows-refused : {short : Bool} {n : ℕ} → short ≡ too_short corner_room ns → firstRow (trial_rows short false ls) ≡ refused n → firstRow (corner_rows ns k ls) ≡ refused n
  unfolding ◌>>=◌
  rows-refused e f = tried e f

  module _ {short : Bool} (e : short ≡ too_short corner_room ns) (f : firstRow (trial_rows short false ls) ≡ accepted tt) {none : Bool} (g : none ≡ (eqb k 0 || ltb (length ls.times) k)) where
    pub count_refused : none ≡ true → firstRow (corner_rows ns k ls) ≡ refused 9
    unfolding ◌>>=◌
    count_refused h = tried e f ∙ row-holds 9 [] (sym g ∙ h)

    pub rows_passed : none ≡ false → firstRow (corner_rows ns k ls) ≡ accepted tt
    unfolding ◌>>=◌ firstRow
    rows_passed h = tried e f ∙ row-passes 9 [] (sym g ∙ h)

pub room-tested : (ps qs ds : List ℤ) → too_short corner_room (three_lengths ps qs ds) ≡ false → RowRoom corner_room ps qs ds
unfolding too_short any
room-tested ps qs ds e =
    let short : List ℤ → Bool = λ l. ltb (length l) corner_room in
    let (p, rest) = or-neither (short ps) (short qs || (short ds || false)) e in
    let (q, last) = or-neither (short qs) (short ds || false) rest in
    let d = (or-neither (short ds) false last).0 in
    record { ps_long = ltb-false (length ps) corner_room p; qs_long = ltb-false (length qs) corner_room q; ds_long = ltb-false (length ds) corner_room d }

-- ---- the fit of the segment running then
module _ {ls : Lists} (a : AcceptedLists ls) (k : ℕ) (within : k ≤ length ls.times) {up down : Chain} {r : Found} (z : LastRun ls k up down r) where
  fit_open : k < r.start + 2 → fit_of (running_after k (ranges_of ls)) ≡ open_strip
  unfolding fit_of
  fit_open h =
      let one : k ≡ r.start + 1 = omega (arith, z.begins) in
      ap fit_of (z.running_is ∙ ap (run ls r.start) one ∙ run_one ls a r.start (omega arith))

  fit_bounded : r.start + 2 ≤ k → fit_of (running_after k (ranges_of ls)) ≡ bounded (corners (run ls r.start k))
  unfolding fit_of
  fit_bounded h = let two = run_two ls a r.start k h within in ap fit_of (z.running_is ∙ two) ∙ ap (λ rs. bounded (corners rs)) (sym two)

-- ---- the promise
module _ (k : ℕ) (ls : Lists) where
  called : (ns : List ℕ) {x : Answer Unit} → firstRow (corner_rows ns k ls) ≡ x → (x >>= λ ok. accepted (fit_of (running_after k (ranges_of ls)))) ≡ corners_call ns k ls
  unfolding corners_call
  called ns e = ap (λ x. x >>= λ ok. accepted (fit_of (running_after k (ranges_of ls)))) (sym e)

  passed : (ns : List ℕ) {fit : Fit} → firstRow (corner_rows ns k ls) ≡ accepted tt → fit_of (running_after k (ranges_of ls)) ≡ fit → accepted fit ≡ corners_call ns k ls
  unfolding ◌>>=◌
  passed ns e f = ap accepted (sym f) ∙ called ns e

  module _ (ps qs ds : List ℤ) where
    abbrev ns : List ℕ
    ns = three_lengths ps qs ds

    pub promise_refused : (e : Refusal) → firstRow (corner_rows ns k ls) ≡ refused (refusal_number e) → CornersPromise k ls ps qs ds ps qs ds (Err e)
    unfolding corners_meaning ◌>>=◌ filled
    promise_refused e f =
        record {
          answer_is = ap (λ x. x >>= λ fit. accepted (count_of fit)) (called ns f);
          ps_are = ap (λ x. filled x (λ fit. map (λ l. l.p) (corners_in fit)) ps) (called ns f);
          qs_are = ap (λ x. filled x (λ fit. map (λ l. l.q) (corners_in fit)) qs) (called ns f);
          ds_are = ap (λ x. filled x (λ fit. map (λ l. l.d) (corners_in fit)) ds) (called ns f);
        }

    module _ (f : firstRow (corner_rows ns k ls) ≡ accepted tt) {up down : Chain} {r : Found} (a : AcceptedLists ls) (within : k ≤ length ls.times) (z : LastRun ls k up down r) where
      pub promise_open : k < r.start + 2 → CornersPromise k ls ps qs ds ps qs ds (Ok None)
      unfolding corners_meaning count_of corners_in ◌>>=◌ filled
      promise_open h =
          let e = passed ns f (fit_open a k within z h) in
          record {
            answer_is = ap (λ x. x >>= λ fit. accepted (count_of fit)) e;
            ps_are = ap (λ x. filled x (λ fit. map (λ l. l.p) (corners_in fit)) ps) e;
            qs_are = ap (λ x. filled x (λ fit. map (λ l. l.q) (corners_in fit)) qs) e;
            ds_are = ap (λ x. filled x (λ fit. map (λ l. l.d) (corners_in fit)) ds) e;
          }

      -- one slice
      slice_filled : (number : Line → ℤ) (ks : List Line) (old : List ℤ) {new : List ℤ} → new ≡ map number ks ++ drop (length ks) old → accepted (bounded ks) ≡ corners_call ns k ls
          → new ≡ filled (corners_call ns k ls) (λ fit. map number (corners_in fit)) old
      unfolding corners_in filled
      slice_filled number ks old g e = g ∙ ap (λ n. map number ks ++ drop n old) (sym (length-map ks number)) ∙ ap (λ x. filled x (λ fit. map number (corners_in fit)) old) e

      pub promise_corners : r.start + 2 ≤ k → {ps' qs' ds' : List ℤ} (n : ℕ) → RunCorners ls r.start k ps qs ds ps' qs' ds' n → CornersPromise k ls ps qs ds ps' qs' ds' (Ok (Some n))
      unfolding corners_meaning count_of ◌>>=◌
      promise_corners h n c =
          let e = passed ns f (fit_bounded a k within z h) in
          let ks = corners (run ls r.start k) in
          record {
            answer_is = ap (λ m. corners_meaning (Ok (Some m))) c.count ∙ ap (λ x. x >>= λ fit. accepted (count_of fit)) e;
            ps_are = slice_filled (λ l. l.p) ks ps c.rows.p_is e;
            qs_are = slice_filled (λ l. l.q) ks qs c.rows.q_is e;
            ds_are = slice_filled (λ l. l.d) ks ds c.rows.d_is e;
          }
