-- One more range against the polygon of a run, as code tests it: the range joins, or it closes the run.
--
--     pop_joins          slow is not above the range: joining it by popping from the end gives the polygon of the longer run
--     joins_line         slow is not above it and fast not below it: the longer run has a line
--     closes_above, closes_below   slow is above it, or fast is below it: the longer run has none
--
-- Assumes nothing.
use Rattle.std.specs.Prelude.{◌≡◌, List, [], ◌∷◌, ◌++◌, reverse, ◌<◌, ◌≤◌, pos, ◌≤ℤ◌, ◌<ℤ◌}
use Rattle.std.proofs.Math.Path.{sym}
use Rattle.std.proofs.Common.{◌∙◌, arith}
use Rattle.integers.specs.Lists.{nil, cons, All-head, All-tail, All-append, All_append_left, All_append_right}
use Rattle.definitions.specs.Ranges.{Range}
use Rattle.definitions.specs.Outlook.{end_time}
use Rattle.definitions.specs.Fit.{HasLine, Ordered}
use Rattle.splits.specs.OrderedRanges.{ordered-left}
use Rattle.chains.specs.Points.{gap}
use Rattle.chains.specs.Ends.{H, L}
use Rattle.chains.specs.State.{state-slow}
use Rattle.chains.specs.Run.{Until, RunState, join}
use Rattle.chains.proofs.Run.{joined}
use Rattle.chains.specs.Closing.{run_of, polygon_of, Closed, closed_none, Later}
use Rattle.chains.proofs.Closing.{run-state, closes_high, closes_low}
use Rattle.chains.specs.PopEnd.{pop_join}
use Rattle.chains.proofs.PopEnd.{join-same}
use Rattle.chains.specs.InTime.{all-turned, all_in_time, fits_turned, ordered-turned, run_end-until, ordered-last, end-earlier}
use Rattle.chains.specs.Results.{polygon, polygon-join}

module _ (r s : Range) (ws : List Range) (w : Range) (o : Ordered ((r ∷ s ∷ ws) ++ (w ∷ []))) (h : HasLine (r ∷ s ∷ ws)) where
  in_order : Ordered (r ∷ s ∷ ws)
  in_order = ordered-left (r ∷ s ∷ ws) (w ∷ []) o

  state : RunState (run_of r s (reverse ws)) (polygon_of r s (reverse ws))
  state = run-state r s (reverse ws) (ordered-turned r s ws in_order) h.line (fits_turned r s ws h.fit)

  until : Until (run_of r s (reverse ws)) (end_time s ws)
  until = all-turned r s ws (run_end-until r s ws in_order)

  last : (w.low ≤ℤ w.high) × Later w (r ∷ s ∷ ws)
  last = ordered-last (r ∷ s ∷ ws) w o

  later : end_time s ws < w.time
  later = end-earlier r s ws w last.1

  pub pop_joins : gap (polygon r s ws).slow (H w) ≤ℤ pos 0 → pop_join w (polygon r s ws) ≡ polygon r s (ws ++ (w ∷ []))
  unfolding polygon
  pop_joins under = join-same (run_of r s (reverse ws)) (end_time s ws) until w later last.0 (polygon_of r s (reverse ws)) state under ∙ sym (polygon-join r s ws w)

  pub joins_line : gap (polygon r s ws).slow (H w) ≤ℤ pos 0 → pos 0 ≤ℤ gap (polygon r s ws).fast (L w) → HasLine ((r ∷ s ∷ ws) ++ (w ∷ []))
  unfolding polygon
  joins_line under over =
      let f = state-slow (join w (polygon_of r s (reverse ws))) (joined (run_of r s (reverse ws)) (end_time s ws) until w later last.0 (polygon_of r s (reverse ws)) state under over) in
      record { line = (join w (polygon_of r s (reverse ws))).slow; fit = record { positive = f.positive; each = All-append (all_in_time r s ws (All-tail f.each)) (cons (All-head f.each) nil) } }

  closed_no_line : Closed (run_of r s (reverse ws)) w → HasLine ((r ∷ s ∷ ws) ++ (w ∷ [])) → ⊥
  closed_no_line c k =
      let e = k.fit.each in
      closed_none (run_of r s (reverse ws)) w c k.line
      (record { positive = k.fit.positive; each = cons (All-head (All_append_right (r ∷ s ∷ ws) (w ∷ []) e)) (all-turned r s ws (All_append_left (r ∷ s ∷ ws) (w ∷ []) e)) })

  until_it : end_time s ws ≤ w.time
  until_it = omega (arith, later)

  pub closes_above : pos 0 <ℤ gap (polygon r s ws).slow (H w) → HasLine ((r ∷ s ∷ ws) ++ (w ∷ [])) → ⊥
  unfolding polygon
  closes_above above = closed_no_line (closes_high (run_of r s (reverse ws)) (end_time s ws) until w until_it (polygon_of r s (reverse ws)) state above)

  pub closes_below : gap (polygon r s ws).fast (L w) <ℤ pos 0 → HasLine ((r ∷ s ∷ ws) ++ (w ∷ [])) → ⊥
  unfolding polygon
  closes_below below = closed_no_line (closes_low (run_of r s (reverse ws)) (end_time s ws) until w until_it (polygon_of r s (reverse ws)) state below)
