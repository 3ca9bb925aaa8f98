-- The front page: what is true of the polygon of a run, in terms of ranges and lines alone. A run has two or more ranges, r, s and then ws, in the order of time, no low above its high, and some line fits it.
--
--     polygon r s ws             the two chains and two lines that the algorithm has after the run; slow, fast and corner_list are taken from it
--     polygon-start, polygon-join   it starts from two ranges, and each further range joins
--     slow_listed   slow and fast are in the list
--     touching_corner   so is each line of the fit through two ends
--     one-has_line   one range and two ranges always have a line
--
-- ThroughTwoEnds and ThroughEnds are of `TwoEnds`, Closed is of `Closing`; all three speak of ranges and lines alone. `Candidates` has that every candidate goes through two ends.
--
-- Where the algorithm departs from O'Rourke's printed one, and why:
--     the start        he makes the new polygon from the range before the closing one and the closing one; the scope starts a new segment from the closing range only, so the polygon starts when the range after it has come
--     times            he wants them above 0, so that every edge falls and the rightmost corner is the lowest; here a time may be 0, and slow and fast are known by their slopes and by the ends that they touch, never by intercepts
--     what is kept     he keeps the ring of corners and cuts it by a range's two half-planes; here the ring is kept as its edges, which are points of the trace, so that every corner is made from two points and no number grows
--     thin fits        he takes a polygon with an inside for granted; here a fit that is a point or a segment of lines is kept, since a range with low = high makes one
--     the bound        his 10n − 16 comparisons are not used: each point is pushed once and popped once
-- Further laws stand in proofs/Results.antt.
-- Assumes nothing.
use Rattle.std.specs.Prelude.{◌≡◌, refl, List, [], ◌∷◌, ◌++◌, reverse, ℕ, ℤ, pos, ◌+ℤ◌, ◌*ℤ◌, ◌≤ℤ◌, ◌<ℤ◌}
use Rattle.std.proofs.Common.{ap}
use Rattle.std.proofs.lemmas.List.{reverse-append}
use Rattle.integers.specs.Certificates.{hyp, num}
use Rattle.integers.specs.Solve.{claims, certify! }
use Rattle.integers.specs.Lists.{nil, cons, In}
use Rattle.definitions.specs.Ranges.{Range}
use Rattle.definitions.specs.Lines.{Line, reading}
use Rattle.definitions.specs.Outlook.{end_time}
use Rattle.definitions.specs.Fit.{InFit, HasLine, Ordered, Reaches, Corner}
use Rattle.chains.specs.Points.{gap, below_over, Below}
use Rattle.chains.specs.Extremes.{Laws}
use Rattle.chains.specs.Chain.{Polygon}
use Rattle.chains.specs.Run.{TopOf, BotOf, run-laws, join}
use Rattle.chains.specs.Start.{start}
use Rattle.chains.specs.CornersOfChains.{corner_map, pinned_corner}
use Rattle.chains.specs.Closing.{polygon_of, run_of}
use Rattle.chains.specs.Listing.{list_of, list-slow}
use Rattle.chains.specs.Means.{of_corner}
use Rattle.chains.specs.TwoEnds.{ThroughTwoEnds, two_ends_map, two_ends_pinned}
use Rattle.chains.specs.InTime.{all-turned, fits_turned, fits_in_time, run_end-until, in_turned}

-- ---- the polygon of a run
unfoldable pub polygon : Range → Range → List Range → Polygon
polygon r s ws = polygon_of r s (reverse ws)

unfoldable pub slow : Range → Range → List Range → Line
slow r s ws = (polygon r s ws).slow

unfoldable pub fast : Range → Range → List Range → Line
fast r s ws = (polygon r s ws).fast

unfoldable pub corner_list : Range → Range → List Range → List Line
corner_list r s ws = list_of (polygon r s ws)

pub polygon-start : (r s : Range) → polygon r s [] ≡ start r s
unfolding polygon
polygon-start r s = refl

pub polygon-join : (r s : Range) (ws : List Range) (w : Range) → polygon r s (ws ++ (w ∷ [])) ≡ join w (polygon r s ws)
unfolding polygon
polygon-join r s ws w = ap (polygon_of r s) (reverse-append ws (w ∷ []))

-- ---- one range, two ranges
flat-low : (u t : ℤ) → (pos 1 *ℤ u) ≤ℤ (pos 0 *ℤ t +ℤ u)
flat-low u t = certify! (u ∷ t ∷ []) (search claims depth 40) (num 1) (num 0) tt

flat-high : (u h t : ℤ) → u ≤ℤ h → (pos 0 *ℤ t +ℤ u) ≤ℤ (pos 1 *ℤ h)
flat-high u h t = certify! (u ∷ h ∷ t ∷ []) (search claims depth 40) (num 1) (hyp 0) tt

pub one-has_line : (r : Range) → Ordered (r ∷ []) → HasLine (r ∷ [])
unfolding reading
one-has_line r o =
    record {
      line = record { p = pos 0; q = r.low; d = pos 1 };
      fit =
          record {
            positive = record { lt = tt };
            each = cons (record { over_low = flat-low r.low (pos r.time); under_high = flat-high r.low r.high (pos r.time) o.0 }) nil;
          };
    }

-- ---- a run that has a line
gap_of_reaches : (l : Line) (level : ℤ) (t : ℕ) → Reaches level t l → pos 0 ≤ℤ gap l (record { t = pos t; u = level })
unfolding reading
gap_of_reaches l level t = certify! (l.p ∷ l.q ∷ l.d ∷ level ∷ pos t ∷ []) (search claims depth 40) (num 1) (hyp 0) tt

reaches_of_gap : (l : Line) (level : ℤ) (t : ℕ) → pos 0 ≤ℤ gap l (record { t = pos t; u = level }) → Reaches level t l
unfolding reading
reaches_of_gap l level t = certify! (l.p ∷ l.q ∷ l.d ∷ level ∷ pos t ∷ []) (search claims depth 40) (num 1) (hyp 0) tt

-- k is at most as high as l
pub reaches_too : (k l : Line) (level : ℤ) (t : ℕ) → pos 0 <ℤ k.d → pos 0 <ℤ l.d → Below k l (pos t) → Reaches level t k → Reaches level t l
reaches_too k l level t k-over l-over h a =
    reaches_of_gap l level t (below_over k l (record { t = pos t; u = level }) k-over l-over h (gap_of_reaches k level t a))

module _ (r s : Range) (ws : List Range) (o : Ordered (r ∷ s ∷ ws)) (h : HasLine (r ∷ s ∷ ws)) where
  pub laws : Laws (InFit (run_of r s (reverse ws))) (TopOf (run_of r s (reverse ws))) (BotOf (run_of r s (reverse ws))) (pos (end_time s ws))
  laws = run-laws (run_of r s (reverse ws)) (end_time s ws) (all-turned r s ws (run_end-until r s ws o))

  -- ---- the corners

  pub slow_listed : In (slow r s ws) (corner_list r s ws)
  unfolding polygon slow corner_list
  slow_listed = list-slow (polygon r s ws)

  -- ---- lines of the fit through two ends
  module _ (l : Line) (f : InFit (r ∷ s ∷ ws) l) (t : ThroughTwoEnds (r ∷ s ∷ ws) l) where
    pub touching_corner : Corner (r ∷ s ∷ ws) l
    touching_corner =
        of_corner (corner_map (λ k. fits_in_time r s ws) (λ k. fits_turned r s ws) (pinned_corner laws (two_ends_pinned (run_of r s (reverse ws)) l (fits_turned r s ws f) (two_ends_map (in_turned r s ws) t))))
