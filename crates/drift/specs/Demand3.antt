-- Demand 3 through the call: theorems about what Segment left in the slices, wherever it accepted.
--
--     given_run j                       the ranges of the trace from the j-th first time that stands in the slices to the j-th last time
--     given_runs                        these runs, as many as the number that Segment gave
--     given_are_segments               they are the scope's segments
--     given_split                      they are a split
--     given_times                      each given first and last time is that of its run's first and last range
--     given_ahead                      for every split and every j up to both counts, the j-th last time given is at or after the last time in the split's j-th run
--     given_fewest                     every split has at least as many runs as the number of segments given
--     given_close                      wherever a further range closes a segment, that segment holds two ranges, at different times, such that no line fits those two and the further one
--
-- Runs are counted from 0.
-- Assumes nothing.
use Rattle.std.specs.Prelude.{◌≡◌, length, get_or, take, Ok}
use Rattle.std.proofs.Math.Path.{refl, sym, ap, ap₂}
use Rattle.std.proofs.Common.{◌∙◌, subst, arith, take-suc, take_all}
use mathlib.Core.List.{List, [], ◌∷◌, ◌++◌}
use Prim.Native.Nat.{ℕ, zero, suc, ◌<◌, ◌≤◌}
use Rattle.std.proofs.Math.ListN.{length-map}
use Rattle.integers.specs.Lists.{filter}
use Rattle.definitions.specs.Services.{Service}
use Rattle.definitions.specs.Ranges.{Range, Lists, ranges_of}
use Rattle.definitions.specs.Fit.{HasLine}
use Rattle.definitions.specs.Splits.{Split}
use Rattle.definitions.specs.Segments.{segments}
use Rattle.definitions.specs.Results.{segment_of, segments_of, numbers_of}
use Rattle.splits.specs.OrderedRanges.{first_time_of, last_time_of}
use Rattle.splits.specs.RunTimes.{in_span}
use Rattle.splits.specs.Segments.{TwoWithout, segment-first_time, segment-last_time, segments_of-at}
use Rattle.lines.specs.Theorems.{segments_split, segments_ranges, segments_ahead, segments_fewest, segments_close}
use Rattle.drift.specs.Columns.{Columns}
use Rattle.drift.specs.SegmentPromise.{SegmentPromise}
use Rattle.drift.specs.GivenColumns.{ordered, count-is, column_at}

-- ---- what the slices give

abbrev pub given_run : Lists → Columns → ℕ → List Range
given_run ls new j = filter (in_span (get_or new.first_times j 0) (get_or new.last_times j 0)) (ranges_of ls)

-- the first n of them
unfoldable pub given_runs : Lists → Columns → ℕ → List (List Range)
given_runs ls new zero = []
given_runs ls new (suc n) = given_runs ls new n ++ (given_run ls new n ∷ [])

module _ {v : Service} {ls : Lists} {old new : Columns} {n : ℕ} (promise : SegmentPromise v ls old new (Ok n)) where
  abbrev rs : List Range
  rs = ranges_of ls

  pub given_count : n ≡ length (segments rs)
  unfolding segments_of
  given_count = count-is promise ∙ length-map (segments rs) (segment_of v)

  -- ---- the times

  module _ (j : ℕ) (h : j < n) where
    below : j < length (segments rs)
    below = omega (arith, given_count)

    pub first_given : get_or new.first_times j 0 ≡ first_time_of (get_or (segments rs) j [])
    unfolding numbers_of
    first_given =
        column_at promise (λ m. m.first_time) new.first_times old.first_times promise.columns_are.first_times_is j h 0
        ∙ ap (λ x. x.first_time) (segments_of-at v rs j)
        ∙ segment-first_time v (get_or (segments rs) j [])

    pub last_given : get_or new.last_times j 0 ≡ last_time_of (get_or (segments rs) j [])
    unfolding numbers_of
    last_given =
        column_at promise (λ m. m.last_time) new.last_times old.last_times promise.columns_are.last_times_is j h 0
        ∙ ap (λ x. x.last_time) (segments_of-at v rs j)
        ∙ segment-last_time v (get_or (segments rs) j [])

    -- the ranges from the first time given to the last are the segment
    pub run_given : given_run ls new j ≡ get_or (segments rs) j []
    run_given = ap₂ (λ a b. filter (in_span a b) rs) first_given last_given ∙ segments_ranges rs (ordered promise) j below

  -- ---- the runs

  runs_so_far : (k : ℕ) → k ≤ n → given_runs ls new k ≡ take k (segments rs)
  unfolding given_runs
  runs_so_far zero h = refl
  runs_so_far (suc k) h =
      ap₂ (λ runs run. runs ++ (run ∷ [])) (runs_so_far k (omega arith)) (run_given k (omega arith))
      ∙ sym (take-suc (segments rs) k [] (omega (arith, given_count)))

  pub given_are_segments : given_runs ls new n ≡ segments rs
  given_are_segments = runs_so_far n (omega arith) ∙ take_all n (segments rs) (omega (arith, given_count))

  pub given_split : Split HasLine rs (given_runs ls new n)
  given_split = subst (Split HasLine rs) (sym given_are_segments) (segments_split rs (ordered promise))

  pub given_times : (j : ℕ) → j < n → (get_or new.first_times j 0 ≡ first_time_of (given_run ls new j)) × (get_or new.last_times j 0 ≡ last_time_of (given_run ls new j))
  given_times j h = (first_given j h ∙ ap first_time_of (sym (run_given j h)), last_given j h ∙ ap last_time_of (sym (run_given j h)))

  pub given_ahead : (runs : List (List Range)) → Split HasLine rs runs → (j : ℕ) → j < length runs → j < n → last_time_of (get_or runs j []) ≤ get_or new.last_times j 0
  given_ahead runs s j h k = subst (λ t. last_time_of (get_or runs j []) ≤ t) (sym (last_given j k)) (segments_ahead rs (ordered promise) runs s j h (below j k))

  pub given_fewest : (runs : List (List Range)) → Split HasLine rs runs → n ≤ length runs
  given_fewest runs s = omega (arith, given_count, segments_fewest rs (ordered promise) runs s)

  pub given_close : (before : List (List Range)) (run : List Range) (w : Range) (more : List Range) (after : List (List Range)) → given_runs ls new n ≡ before ++ (run ∷ (w ∷ more) ∷ after) → TwoWithout run w
  given_close before run w more after e = segments_close rs (ordered promise) before run w more after (sym given_are_segments ∙ e)
