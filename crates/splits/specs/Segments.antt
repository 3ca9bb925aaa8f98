-- The segments of ordered ranges: what demand 3 says of them. Three facts about lines are parameters here, to be given by a crate that proves them:
-- `decides` (among ordered ranges, `has_line` decides whether some line fits), `closes` (where a range cannot join, two ranges of the run already keep it out)
-- and `two` (two ranges always have a line). Runs and segments are counted from 0.
--
--     TimesOf                          a given segment's first and last times are those of the first and last of some ranges
--     segment-first_time, segment-last_time, segments_of-at   what is given for a run, and for the j-th segment
--     running-zero, running-joins, running-begins, running-part   the segment then running: range by range, and as a part of a segment of the whole trace
--     running-front                    the segment then running after k ranges is the front, up to range k, of the whole trace's segment that has range k
--     TwoWithout                       two ranges of a run, at different times, such that no line fits those two and a further one
--
-- With `decides`:
--
--     segments_split                   the segments are a split
--     segments_times                   the first and last times given for each segment are those of its run's first and last ranges
--     segments_ranges                  the ranges from a segment's first time to its last time are its run
--     running_good                     the segment then running is not empty and has a line
--     segments_close                   with `closes`: where a further range closes a segment, that segment holds two ranges such that no line fits those two and the further one
--
-- Further laws stand in proofs/Segments.antt.
-- Assumes nothing.
use Rattle.std.specs.Prelude.{◌≡◌, refl, true, false, ℕ, suc, ◌+◌, ◌-◌, ◌*◌, ◌≤◌, ◌<◌, length, get_or, take, drop}
use Rattle.std.proofs.Common.{sym, ap, ◌∙◌, arith, take-append-drop, take-suc}
use Rattle.std.proofs.Math.Path.{subst}
use mathlib.Core.List.{List, [], ◌∷◌, ◌++◌, flatten}
use Rattle.std.proofs.Math.ListN.{get_or-map}
use Rattle.std.proofs.Math.Seq.{length-take-le}
use Rattle.integers.specs.Lists.{In, filter}
use Rattle.definitions.specs.Services.{Service}
use Rattle.definitions.specs.Ranges.{Range}
use Rattle.definitions.specs.Lines.{has_line}
use Rattle.definitions.specs.Fit.{HasLine, Ordered}
use Rattle.definitions.specs.Splits.{cut, GoodRun, GoodRuns, Split, last_run}
use Rattle.definitions.specs.Segments.{segments, running_after}
use Rattle.definitions.specs.Results.{Segment, segment_of, segments_of}
use Rattle.splits.specs.Runs.{FrontOf, run_with, good-run, good_at}
use Rattle.splits.specs.Cutting.{cut-whole, last_run_joins, last_run_begins, last_run_take}
use Rattle.splits.specs.Greedy.{Decides, cut_split, cut_closes, ok_closing, last_run_good}
use Rattle.splits.specs.OrderedRanges.{first_time_of, last_time_of, ordered-left, last-range}
use Rattle.splits.specs.RunTimes.{in_span, split_run_good, split_ranges}

-- ---- the times given

pub record TimesOf (run : List Range) (given : Segment) : Type 0 where
  pub first : Range
  pub after_first : List Range
  pub begins : run ≡ first ∷ after_first
  pub first_time_is : given.first_time ≡ first.time
  pub before_last : List Range
  pub last : Range
  pub ends : run ≡ before_last ++ (last ∷ [])
  pub last-time : given.last_time ≡ last.time

pub segment-first_time : (v : Service) (run : List Range) → (segment_of v run).first_time ≡ first_time_of run
unfolding segment_of first_time_of
segment-first_time v [] = refl
segment-first_time v (r ∷ rs) = refl

pub segment-last_time : (v : Service) (run : List Range) → (segment_of v run).last_time ≡ last_time_of run
unfolding segment_of last_time_of
segment-last_time v [] = refl
segment-last_time v (r ∷ rs) = refl

segment-times : (v : Service) (r : Range) (rs : List Range) → TimesOf (r ∷ rs) (segment_of v (r ∷ rs))
unfolding first_time_of
segment-times v r rs =
    let l = last-range r rs in
    record {
      first = r;
      after_first = rs;
      begins = refl;
      first_time_is = segment-first_time v (r ∷ rs);
      before_last = l.before;
      last = l.range;
      ends = l.splits;
      last-time = segment-last_time v (r ∷ rs) ∙ l.time_is;
    }

pub segments_of-at : (v : Service) (rs : List Range) (j : ℕ) → get_or (segments_of v rs) j (segment_of v []) ≡ segment_of v (get_or (segments rs) j [])
unfolding segments_of
segments_of-at v rs j = get_or-map (segment_of v) (segments rs) j []

-- ---- the segment then running

pub running-zero : (rs : List Range) → running_after 0 rs ≡ []
unfolding running_after segments cut last_run
running-zero rs = refl

pub running-joins : (rs : List Range) (k : ℕ) (d : Range) → k < length rs → has_line (running_after k rs ++ (get_or rs k d ∷ [])) ≡ true → running_after (suc k) rs ≡ running_after k rs ++ (get_or rs k d ∷ [])
unfolding running_after segments
running-joins rs k d h t = ap (λ l. last_run (cut has_line l)) (take-suc rs k d h) ∙ last_run_joins has_line (take k rs) (get_or rs k d) t

pub running-begins : (rs : List Range) (k : ℕ) (d : Range) → k < length rs → has_line (running_after k rs ++ (get_or rs k d ∷ [])) ≡ false → running_after (suc k) rs ≡ get_or rs k d ∷ []
unfolding running_after segments
running-begins rs k d h t = ap (λ l. last_run (cut has_line l)) (take-suc rs k d h) ∙ last_run_begins has_line (take k rs) (get_or rs k d) t

pub running-part : (k : ℕ) (rs : List Range) (before : List (List Range)) (run : List Range) (after : List (List Range)) → segments rs ≡ before ++ (run ∷ after)
    → length (flatten before) < k → k ≤ length (flatten before) + length run → running_after k rs ≡ take (k - length (flatten before)) run
unfolding running_after segments
running-part k rs before run after = last_run_take has_line k rs before run after

pub running-front : (k : ℕ) (rs : List Range) → 0 < k → k ≤ length rs → FrontOf k (segments rs) (running_after k rs)
unfolding segments
running-front k rs h b =
    let s = run_with k (segments rs) h (omega (arith, ap length (cut-whole has_line rs))) in
    record { has = s; is = running-part k rs s.before s.run s.after s.runs_are s.over s.within }

-- ---- two by two

pub pairs : List Range → List (List Range)
pairs [] = []
pairs (r ∷ []) = (r ∷ []) ∷ []
pairs (r ∷ s ∷ rs) = (r ∷ s ∷ []) ∷ pairs rs

pub pairs-whole : (rs : List Range) → flatten (pairs rs) ≡ rs
unfolding pairs flatten
pairs-whole [] = refl
pairs-whole (r ∷ []) = refl
pairs-whole (r ∷ s ∷ rs) = ap (λ l. r ∷ s ∷ l) (pairs-whole rs)

pub pairs-count : (rs : List Range) → 2 * length (pairs rs) ≤ length rs + 1
unfolding pairs
pairs-count [] = omega arith
pairs-count (r ∷ []) = omega arith
pairs-count (r ∷ s ∷ rs) = omega (arith, pairs-count rs)

-- ---- demand 3

-- two ranges of the run, the earlier one first, such that no line fits those two and the further one
pub record TwoWithout (run : List Range) (further : Range) : Type 0 where
  pub first : Range
  pub second : Range
  pub first_in : In first run
  pub second_in : In second run
  pub earlier : first.time < second.time
  pub no_line : HasLine (first ∷ second ∷ further ∷ []) → ⊥

module _ (decides : Decides Ordered HasLine has_line) where
  pub segments_split : (rs : List Range) → Ordered rs → Split HasLine rs (segments rs)
  unfolding segments
  segments_split rs o = cut_split decides rs o

  pub segments_times : (v : Service) (rs : List Range) → Ordered rs → (j : ℕ) → j < length (segments rs) → TimesOf (get_or (segments rs) j []) (get_or (segments_of v rs) j (segment_of v []))
  segments_times v rs o j h = subst (TimesOf (get_or (segments rs) j [])) (sym (segments_of-at v rs j)) (by (get_or (segments rs) j []) (split_run_good (segments_split rs o) j h))
    where
      by : (run : List Range) → GoodRun HasLine run → TimesOf run (segment_of v run)
      by [] g = absurd g
      by (r ∷ run) g = segment-times v r run

  pub segments_ranges : (rs : List Range) → Ordered rs → (j : ℕ) → j < length (segments rs)
      → filter (in_span (first_time_of (get_or (segments rs) j [])) (last_time_of (get_or (segments rs) j []))) rs ≡ get_or (segments rs) j []
  segments_ranges rs o j h = split_ranges (segments_split rs o) j h o

  pub running_good : (k : ℕ) (rs : List Range) → Ordered rs → 0 < k → k ≤ length rs → GoodRun HasLine (running_after k rs)
  unfolding running_after segments
  running_good k rs o h b = last_run_good decides (take k rs) (omega (arith, length-take-le k rs b)) (ordered-left (take k rs) (drop k rs) (subst Ordered (sym (take-append-drop k rs)) o))

  module _ (closes : (run : List Range) (w : Range) → Ordered (run ++ (w ∷ [])) → HasLine run → (HasLine (run ++ (w ∷ [])) → ⊥) → TwoWithout run w) where
    pub segments_close : (rs : List Range) (before : List (List Range)) (run : List Range) (w : Range) (more : List Range) (after : List (List Range)) → Ordered rs
        → segments rs ≡ before ++ (run ∷ (w ∷ more) ∷ after) → TwoWithout run w
    unfolding segments
    segments_close rs before run w more after o e =
        let runs-good = subst (GoodRuns HasLine) e (cut_split decides rs o).each in
        let has-line = good-run HasLine run (good_at HasLine before run ((w ∷ more) ∷ after) runs-good) in
        closes run w (ok_closing decides rs before run w more after o e) has-line (cut_closes decides rs before run w more after o e)

  -- ---- how many
  module _ (two : (r s : Range) → Ordered (r ∷ s ∷ []) → HasLine (r ∷ s ∷ [])) where
    pub pairs_good : (rs : List Range) → Ordered rs → GoodRuns HasLine (pairs rs)
    unfolding pairs
    pairs_good [] o = tt
    pairs_good (r ∷ []) o = (decides.one r o, tt)
    pairs_good (r ∷ s ∷ rs) o = (two r s (ordered-left (r ∷ s ∷ []) rs o), pairs_good rs o.2.2)
