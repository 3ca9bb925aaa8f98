-- The corners through the call: theorems about what Corners left in the slices. `given_lines n ps qs ds` are the lines whose p, q and d are the first n entries of three slices.
--
-- Where it gave the number n of corners
--     given_segment              the segment running after k ranges is the front, up to range k, of the whole trace's segment that has range k
--     given_corners              these lines are the corners of the segment running after k ranges, in the scope's list
--     given_about                what holds of the corners of any two or more ranges that have a line holds of these lines
--     given_count                they are as many as that segment has corners, and at most 2k
--     given_fit, given_mean      each fits that segment, and every line that fits it is a weighted mean of them
--     given_exact                a line is among them exactly if it is a corner of the fit, in lowest terms
--     given_ordered, given_once  they are in corner order, none twice
--     given_by_diagonal          above the diagonal is a greater intercept than the diagonal has at the same slope, below it a smaller one
--     given_past                 entries past the number hold their old contents
-- Where it gave open
--     open_segment               the segment running after k ranges is again that front
--     open_one, open_none        it has one range, and its fit no corner
--     open_kept                  the slices hold their old contents
-- Where it gave the number of a refusal; `Refusals` says when
--     refused_kept               the slices hold their old contents
--
-- Assumes nothing.
use Rattle.definitions.specs.declared.refusals.Refusal.{Refusal}
use Rattle.std.specs.Prelude.{◌≡◌, ◌↔◌, ℕ, ◌*◌, ◌≤◌, ℤ, length, drop, Err, None, Ok, Option, Result, Some}
use Rattle.std.proofs.Math.Path.{refl, ap}
use Rattle.std.proofs.Common.{sym, ◌∙◌, subst, arith}
use mathlib.Core.List.{List, [], ◌∷◌, Nodup}
use Rattle.integers.specs.Lists.{All, In}
use Rattle.integers.specs.LowestTerms.{InLowestTerms}
use Rattle.definitions.specs.Ranges.{Range, Lists, ranges_of}
use Rattle.definitions.specs.Lines.{Line}
use Rattle.definitions.specs.Corners.{corners}
use Rattle.definitions.specs.Fit.{InFit, HasLine, Ordered, WeightedMean, Corner, InCornerOrder}
use Rattle.definitions.specs.Splits.{GoodRun}
use Rattle.definitions.specs.Segments.{segments, running_after}
use Rattle.definitions.specs.Answers.{refused, accepted, firstRow}
use Rattle.definitions.specs.Trial.{corner_rows}
use Rattle.definitions.specs.Calls.{Fit, open_strip, bounded, fit_of, corners_in, corners_call}
use Rattle.trial_laws.specs.Rows.{first_row-accepted}
use Rattle.trial_laws.specs.CallLaws.{call-accepted, bind-accepted, bind-refused}
use Rattle.splits.specs.Runs.{FrontOf}
use Rattle.lines.specs.Theorems.{corners_exact, corners_ordered, corners_once, corners_count, corners_fit, corners_mean}
use Rattle.lines.proofs.Theorems.{corners_by_diagonal, one_range_no_corner}
use Rattle.lines.specs.Diagonal.{ByDiagonal}
use Rattle.drift.specs.RunningSegment.{segment_front, running_ordered, running_short, running_good}
use Rattle.drift.specs.GivenLines.{given_lines, LinesFilled, lines_given, lines_past, lines_kept, lines_none, corners_about}
use Rattle.definitions.specs.Refusals.{refusal_number}
use Rattle.drift.specs.CornersPromise.{unbounded, corner_count, count_of, corners_meaning, three_lengths, CornersPromise}

-- ---- the call

slices : {k : ℕ} {ls : Lists} {ps qs ds ps' qs' ds' : List ℤ} {answer : Result (Option ℕ) Refusal} → CornersPromise k ls ps qs ds ps' qs' ds' answer → LinesFilled (corners_call (three_lengths ps qs ds) k ls) corners_in ps qs ds ps' qs' ds'
slices promise = record { ps_are = promise.ps_are; qs_are = promise.qs_are; ds_are = promise.ds_are }

answered : (ns : List ℕ) (k : ℕ) (ls : Lists) (fit : Fit) → corners_call ns k ls ≡ accepted fit → (firstRow (corner_rows ns k ls) ≡ accepted tt) × (fit_of (running_after k (ranges_of ls)) ≡ fit)
unfolding corners_call
answered ns k ls fit e =
    let rows = corner_rows ns k ls in
    let both = (call-accepted rows (fit_of (running_after k (ranges_of ls))) fit).0 e in
    ((first_row-accepted rows).1 both.0, both.1)

-- ---- fits

-- a fit that is listed is of two ranges or more, and its list is their corners
fit-two : (rs : List Range) (ks : List Line) → fit_of rs ≡ bounded ks → (2 ≤ length rs) × (ks ≡ corners rs)
unfolding fit_of
fit-two [] ks e = let z : ◌≡◌ {A = ℕ} 0 1 = cc in absurd (omega arith)
fit-two (r ∷ []) ks e = let z : ◌≡◌ {A = ℕ} 0 1 = cc in absurd (omega arith)
fit-two (r ∷ s ∷ rs) ks e = (omega arith, cc)

fit-one : (rs : List Range) → GoodRun HasLine rs → fit_of rs ≡ open_strip → length rs ≡ 1
unfolding fit_of
fit-one [] g e = absurd g
fit-one (r ∷ []) g e = refl
fit-one (r ∷ s ∷ rs) g e = let z : ◌≡◌ {A = ℕ} 0 1 = cc in absurd (omega arith)

counted : (fit : Fit) (n : ℕ) → accepted (count_of fit) ≡ accepted (corner_count n) → (ks : List Line) × (fit ≡ bounded ks) × (n ≡ length ks)
unfolding count_of
counted open_strip n e = let z : ◌≡◌ {A = ℕ} 0 1 = cc in absurd (omega arith)
counted (bounded ks) n e = (ks, refl, cc)

uncounted : (fit : Fit) → accepted (count_of fit) ≡ accepted unbounded → fit ≡ open_strip
unfolding count_of
uncounted open_strip e = refl
uncounted (bounded ks) e = let z : ◌≡◌ {A = ℕ} 0 1 = cc in absurd (omega arith)

-- ---- the number of corners

module _ {k : ℕ} {ls : Lists} {ps qs ds ps' qs' ds' : List ℤ} {n : ℕ} (promise : CornersPromise k ls ps qs ds ps' qs' ds' (Ok (Some n))) where
  abbrev ns : List ℕ
  ns = three_lengths ps qs ds

  abbrev segment : List Range
  segment = running_after k (ranges_of ls)

  abbrev lines : List Line
  lines = given_lines n ps' qs' ds'

  made : (fit : Fit) × (corners_call ns k ls ≡ accepted fit) × (accepted (count_of fit) ≡ accepted (corner_count n))
  unfolding corners_meaning
  made = bind-accepted (corners_call ns k ls) (λ fit. accepted (count_of fit)) (corner_count n) (sym promise.answer_is)

  passed : firstRow (corner_rows ns k ls) ≡ accepted tt
  passed = (answered ns k ls made.0 made.1).0

  pub given_segment : FrontOf k (segments (ranges_of ls)) segment
  given_segment = segment_front ns k ls passed

  listed : (ks : List Line) × (made.0 ≡ bounded ks) × (n ≡ length ks)
  listed = counted made.0 n made.2

  two : (2 ≤ length segment) × (listed.0 ≡ corners segment)
  two = fit-two segment listed.0 ((answered ns k ls made.0 made.1).1 ∙ listed.1)

  found : corners_call ns k ls ≡ accepted (bounded listed.0)
  found = made.1 ∙ ap accepted listed.1

  pub given_corners : lines ≡ corners segment
  unfolding corners_in
  given_corners = lines_given (slices promise) found listed.2 ∙ two.1

  pub given_about : (P : List Range → List Line → Type 0) → ((r s : Range) (ws : List Range) → Ordered (r ∷ s ∷ ws) → HasLine (r ∷ s ∷ ws) → P (r ∷ s ∷ ws) (corners (r ∷ s ∷ ws))) → P segment lines
  given_about P h = subst (P segment) (sym given_corners) (corners_about P h segment two.0 (running_ordered ns k ls passed) (running_good ns k ls passed))

  pub given_count : (n ≡ length (corners segment)) × (n ≤ 2 * k)
  given_count =
      let m : n ≡ length (corners segment) = listed.2 ∙ ap length two.1 in
      let most = given_about (λ rs ks. length ks ≤ 2 * length rs) (λ r s ws o h. corners_count r s ws o h) in
      (m, omega (arith, m, ap length given_corners, most, running_short ns k ls passed))

  pub given_fit : All (InFit segment) lines
  given_fit = given_about (λ rs ks. All (InFit rs) ks) (λ r s ws o h. corners_fit r s ws o h)

  pub given_mean : (l : Line) → InFit segment l → WeightedMean lines l
  given_mean = given_about (λ rs ks. (l : Line) → InFit rs l → WeightedMean ks l) (λ r s ws o h. corners_mean r s ws o h)

  pub given_exact : (l : Line) → In l lines ↔ (Corner segment l × InLowestTerms l.p l.q l.d)
  given_exact = given_about (λ rs ks. (l : Line) → In l ks ↔ (Corner rs l × InLowestTerms l.p l.q l.d)) (λ r s ws o h. corners_exact r s ws o h)

  pub given_ordered : InCornerOrder lines
  given_ordered = given_about (λ rs ks. InCornerOrder ks) (λ r s ws o h. corners_ordered r s ws o h)

  pub given_by_diagonal : ByDiagonal lines
  given_by_diagonal = given_about (λ rs ks. ByDiagonal ks) (λ r s ws o h. corners_by_diagonal r s ws o h)

  pub given_once : Nodup lines
  given_once = given_about (λ rs ks. Nodup ks) (λ r s ws o h. corners_once r s ws o h)

  pub given_past : (drop n ps' ≡ drop n ps) × (drop n qs' ≡ drop n qs) × (drop n ds' ≡ drop n ds)
  unfolding corners_in
  given_past = lines_past (slices promise) found listed.2

-- ---- open

one_none : (rs : List Range) → length rs ≡ 1 → (l : Line) → Corner rs l → ⊥
one_none [] e = absurd (omega (arith, e))
one_none (r ∷ []) e = one_range_no_corner r
one_none (r ∷ s ∷ rs) e = absurd (omega (arith, e))

module _ {k : ℕ} {ls : Lists} {ps qs ds ps' qs' ds' : List ℤ} (promise : CornersPromise k ls ps qs ds ps' qs' ds' (Ok None)) where
  found_open : corners_call (three_lengths ps qs ds) k ls ≡ accepted open_strip
  unfolding corners_meaning
  found_open =
      let b = bind-accepted (corners_call (three_lengths ps qs ds) k ls) (λ fit. accepted (count_of fit)) unbounded (sym promise.answer_is) in
      b.1 ∙ ap accepted (uncounted b.0 b.2)

  none-held : (firstRow (corner_rows (three_lengths ps qs ds) k ls) ≡ accepted tt) × (fit_of (running_after k (ranges_of ls)) ≡ open_strip)
  none-held = answered (three_lengths ps qs ds) k ls open_strip found_open

  pub open_segment : FrontOf k (segments (ranges_of ls)) (running_after k (ranges_of ls))
  open_segment = segment_front (three_lengths ps qs ds) k ls none-held.0

  pub open_one : length (running_after k (ranges_of ls)) ≡ 1
  open_one = fit-one (running_after k (ranges_of ls)) (running_good (three_lengths ps qs ds) k ls none-held.0) none-held.1

  pub open_none : (l : Line) → Corner (running_after k (ranges_of ls)) l → ⊥
  open_none = one_none (running_after k (ranges_of ls)) open_one

  pub open_kept : (ps' ≡ ps) × (qs' ≡ qs) × (ds' ≡ ds)
  unfolding corners_in
  open_kept = lines_none (slices promise) found_open refl

-- ---- refused

module _ {k : ℕ} {ls : Lists} {ps qs ds ps' qs' ds' : List ℤ} {e : Refusal} (promise : CornersPromise k ls ps qs ds ps' qs' ds' (Err e)) where
  found_refused : corners_call (three_lengths ps qs ds) k ls ≡ refused (refusal_number e)
  unfolding corners_meaning
  found_refused = bind-refused (corners_call (three_lengths ps qs ds) k ls) count_of (refusal_number e) (sym promise.answer_is)

  pub refused_kept : (ps' ≡ ps) × (qs' ≡ qs) × (ds' ≡ ds)
  refused_kept = lines_kept (slices promise) found_refused
