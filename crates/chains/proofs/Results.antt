-- Laws that rest on those of specs/Results.antt.
--
--     slow_fits, fast_fits       both are lines of the fit
--     slow_least, fast_greatest  the least and the greatest slope of all lines of the fit; slow_only, fast_only: no other line has it
--     slow_lowest, fast_highest  from the last time on, where slow is at or above a level every line of the fit is, and where some line is, fast is
--     slow_ends, fast_ends       slow is the line through a high and a later low, fast the line through a low and a later high
--     corners_fit, corners_touch, corners_candidates   every listed line fits, goes through two ends, and is the same line as one of the candidates
--     fast_listed  slow and fast are in the list
--     corners_in_order           the list is in corner order
--     corners_at_most            k ranges give at most 2k corners
--     mean_of_corners            every line of the fit is a weighted mean of the listed lines
--     listed_corners, corners_listed   each listed line is a corner, and each corner is listed
--     touching_listed  so is each line of the fit through two ends
--     candidate-fits             one of the candidates fits
--     joins_or_closes            a further range has a line with the run, or two ranges of the run and it have none
--     two_have_line  one range and two ranges always have a line
--
-- Assumes nothing.
use Rattle.std.specs.Prelude.{List, [], ◌∷◌, ◌++◌, reverse, ◌⊎◌, ℕ, ◌≤◌, ◌*◌, length, ℤ, pos, ◌≤ℤ◌}
use Rattle.std.proofs.Common.{inl, inr, arith}
use Rattle.std.proofs.Math.ListN.{length-reverse}
use Rattle.integers.specs.Lists.{All, nil, cons, All-head, All_imp, Any, All_imp₂, All-append, All_in, All-tail, Any_imp}
use Rattle.definitions.specs.Ranges.{Range}
use Rattle.definitions.specs.Lines.{Line, candidates}
use Rattle.definitions.specs.Outlook.{end_time}
use Rattle.definitions.specs.Fit.{InFit, HasLine, Ordered, SameLine, WeightedMean, InCornerOrder, Reaches, Corner}
use Rattle.chains.specs.Points.{SlopeAtMost}
use Rattle.chains.specs.Ends.{time≤}
use Rattle.chains.specs.Extremes.{slowest, lowest, slowest_only, fastest, highest, fastest_only}
use Rattle.chains.specs.State.{state-slow, state-fast, state_slow_ends, state_fast_ends}
use Rattle.chains.specs.Run.{TopOf, BotOf, RunState, join}
use Rattle.chains.specs.Start.{start}
use Rattle.chains.proofs.Start.{started}
use Rattle.chains.specs.CornersOfChains.{Pinned, corner_map}
use Rattle.chains.specs.Closing.{Closed, closed-map, Verdict, joins, closes, polygon_of, run_of, Later}
use Rattle.chains.proofs.Closing.{verdict, run-state}
use Rattle.chains.specs.Listing.{list_fast}
use Rattle.chains.proofs.Listing.{list_mean, list_pinned, list_order, corner_list_is}
use Rattle.chains.proofs.Size.{at_most}
use Rattle.chains.specs.Means.{weighted_mean, corner_of}
use Rattle.chains.specs.TwoEnds.{ThroughTwoEnds, ThroughEnds, joined_ends, two_ends_map, through_ends-map, pinned_two_ends}
use Rattle.chains.proofs.TwoEnds.{same_ends, ends_fit, top_then_bottom, bottom_then_top}
use Rattle.chains.specs.Candidates.{ends-candidate}
use Rattle.chains.specs.InTime.{all-turned, fits_turned, fits_in_time, in_in_time, ordered-turned, run_end-until, all_in_time, end-earlier, ordered-last}
use Rattle.chains.specs.Results.{corner_list, fast, laws, polygon, reaches_too, slow, slow_listed, touching_corner}

pub two_have_line : (r s : Range) → Ordered (r ∷ s ∷ []) → HasLine (r ∷ s ∷ [])
two_have_line r s o =
    let z = started r s (All-head o.1) o.0 o.2.0 in
    record { line = (start r s).slow; fit = fits_in_time r s [] (state-slow (start r s) z) }

module _ (r s : Range) (ws : List Range) (o : Ordered (r ∷ s ∷ ws)) (h : HasLine (r ∷ s ∷ ws)) where
  state : RunState (run_of r s (reverse ws)) (polygon_of r s (reverse ws))
  state = run-state r s (reverse ws) (ordered-turned r s ws o) h.line (fits_turned r s ws h.fit)

  pub slow_fits : InFit (r ∷ s ∷ ws) (slow r s ws)
  unfolding polygon slow
  slow_fits = fits_in_time r s ws (state-slow (polygon_of r s (reverse ws)) state)

  pub fast_fits : InFit (r ∷ s ∷ ws) (fast r s ws)
  unfolding polygon fast
  fast_fits = fits_in_time r s ws (state-fast (polygon_of r s (reverse ws)) state)

  module _ (l : Line) (f : InFit (r ∷ s ∷ ws) l) where
    pub slow_least : SlopeAtMost (slow r s ws) l
    unfolding polygon slow
    slow_least = slowest (laws r s ws o h) (slow r s ws) (state-slow (polygon r s ws) state) (state_slow_ends (polygon r s ws) state) l (fits_turned r s ws f)

    pub slow_only : SlopeAtMost l (slow r s ws) → SameLine l (slow r s ws)
    unfolding polygon slow
    slow_only = slowest_only (laws r s ws o h) (slow r s ws) (state-slow (polygon r s ws) state) (state_slow_ends (polygon r s ws) state) l (fits_turned r s ws f)

    pub fast_greatest : SlopeAtMost l (fast r s ws)
    unfolding polygon fast
    fast_greatest = fastest (laws r s ws o h) (fast r s ws) (state-fast (polygon r s ws) state) (state_fast_ends (polygon r s ws) state) l (fits_turned r s ws f)

    pub fast_only : SlopeAtMost (fast r s ws) l → SameLine l (fast r s ws)
    unfolding polygon fast
    fast_only = fastest_only (laws r s ws o h) (fast r s ws) (state-fast (polygon r s ws) state) (state_fast_ends (polygon r s ws) state) l (fits_turned r s ws f)

    pub slow_lowest : (level : ℤ) (t : ℕ) → end_time s ws ≤ t → Reaches level t (slow r s ws) → Reaches level t l
    unfolding polygon slow
    slow_lowest level t late =
        reaches_too (slow r s ws) l level t slow_fits.positive f.positive
        (lowest (laws r s ws o h) (slow r s ws) (state-slow (polygon r s ws) state) (state_slow_ends (polygon r s ws) state) l (fits_turned r s ws f) (pos t) (time≤ _ t late))

    pub fast_highest : (level : ℤ) (t : ℕ) → end_time s ws ≤ t → Reaches level t l → Reaches level t (fast r s ws)
    unfolding polygon fast
    fast_highest level t late =
        reaches_too l (fast r s ws) level t f.positive fast_fits.positive
        (highest (laws r s ws o h) (fast r s ws) (state-fast (polygon r s ws) state) (state_fast_ends (polygon r s ws) state) l (fits_turned r s ws f) (pos t) (time≤ _ t late))

  pub slow_ends : ThroughEnds (λ q. q.high) (λ q. q.low) (r ∷ s ∷ ws) (slow r s ws)
  unfolding polygon slow
  slow_ends = through_ends-map (in_in_time r s ws) (top_then_bottom (run_of r s (reverse ws)) (slow r s ws) (state_slow_ends (polygon r s ws) state))

  pub fast_ends : ThroughEnds (λ q. q.low) (λ q. q.high) (r ∷ s ∷ ws) (fast r s ws)
  unfolding polygon fast
  fast_ends = through_ends-map (in_in_time r s ws) (bottom_then_top (run_of r s (reverse ws)) (fast r s ws) (state_fast_ends (polygon r s ws) state))

  pinned : All (Pinned (InFit (run_of r s (reverse ws))) (TopOf (run_of r s (reverse ws))) (BotOf (run_of r s (reverse ws)))) (corner_list r s ws)
  unfolding polygon corner_list
  pinned = list_pinned (laws r s ws o h) (polygon r s ws) state

  pub corners_fit : All (InFit (r ∷ s ∷ ws)) (corner_list r s ws)
  corners_fit = All_imp (λ l z. fits_in_time r s ws z.fits) pinned

  pub corners_touch : All (ThroughTwoEnds (r ∷ s ∷ ws)) (corner_list r s ws)
  corners_touch = All_imp (λ l z. two_ends_map (in_in_time r s ws) (pinned_two_ends (run_of r s (reverse ws)) l z)) pinned

  pub corners_candidates : All (λ l. Any (λ k. SameLine k l × InFit (r ∷ s ∷ ws) k) (candidates (r ∷ s ∷ ws))) (corner_list r s ws)
  corners_candidates =
      All_imp₂ (λ l f t. record { entry = joined_ends t; among = ends-candidate t o; holds = (same_ends t, ends_fit t f) }) corners_fit corners_touch

  pub corners_in_order : InCornerOrder (corner_list r s ws)
  unfolding polygon corner_list
  corners_in_order = list_order (laws r s ws o h) (polygon r s ws) state

  pub mean_of_corners : (l : Line) → InFit (r ∷ s ∷ ws) l → WeightedMean (corner_list r s ws) l
  unfolding polygon corner_list
  mean_of_corners l f = weighted_mean (All_imp (λ k g. g.positive) corners_fit) f.positive (list_mean (laws r s ws o h) (polygon r s ws) state l (fits_turned r s ws f))

  pub corners_at_most : length (corner_list r s ws) ≤ 2 * length (r ∷ s ∷ ws)
  unfolding polygon corner_list
  corners_at_most =
      let n = at_most r s (reverse ws) (end_time s ws) (all-turned r s ws (run_end-until r s ws o)) state in
      omega (arith, length-reverse ws)

  pub fast_listed : Any (λ k. SameLine k (fast r s ws)) (corner_list r s ws)
  unfolding polygon fast corner_list
  fast_listed = list_fast (laws r s ws o h) (polygon r s ws) state

  pub corners_listed : (l : Line) → Corner (r ∷ s ∷ ws) l → Any (λ k. SameLine k l) (corner_list r s ws)
  unfolding polygon corner_list
  corners_listed l c = corner_list_is (laws r s ws o h) (polygon r s ws) state l (corner_map (λ k. fits_turned r s ws) (λ k. fits_in_time r s ws) (corner_of c))

  module _ (l : Line) (f : InFit (r ∷ s ∷ ws) l) (t : ThroughTwoEnds (r ∷ s ∷ ws) l) where
    pub touching_listed : Any (λ k. SameLine k l) (corner_list r s ws)
    touching_listed = corners_listed l (touching_corner r s ws o h l f t)

  pub listed_corners : All (Corner (r ∷ s ∷ ws)) (corner_list r s ws)
  listed_corners = All_imp₂ (touching_corner r s ws o h) corners_fit corners_touch

  pub candidate-fits : Any (InFit (r ∷ s ∷ ws)) (candidates (r ∷ s ∷ ws))
  candidate-fits = Any_imp (λ k p. p.1) (All_in corners_candidates (slow_listed r s ws o h))

  pub joins_or_closes : (w : Range) → Ordered ((r ∷ s ∷ ws) ++ (w ∷ [])) → HasLine ((r ∷ s ∷ ws) ++ (w ∷ [])) ⊎ Closed (r ∷ s ∷ ws) w
  joins_or_closes w p =
      by (verdict (run_of r s (reverse ws)) (end_time s ws) (all-turned r s ws (run_end-until r s ws o)) w (end-earlier r s ws w last.1) last.0 (polygon_of r s (reverse ws)) state)
    where
      last : (w.low ≤ℤ w.high) × Later w (r ∷ s ∷ ws)
      last = ordered-last (r ∷ s ∷ ws) w p

      by : Verdict (run_of r s (reverse ws)) w (polygon_of r s (reverse ws)) → HasLine ((r ∷ s ∷ ws) ++ (w ∷ [])) ⊎ Closed (r ∷ s ∷ ws) w
      by (joins z) =
          let f = state-slow (join w (polygon_of r s (reverse ws))) z in
          inl (record { line = (join w (polygon_of r s (reverse ws))).slow; fit = record { positive = f.positive; each = All-append (all_in_time r s ws (All-tail f.each)) (cons (All-head f.each) nil) } })
      by (closes c) = inr (closed-map (in_in_time r s ws) c)
