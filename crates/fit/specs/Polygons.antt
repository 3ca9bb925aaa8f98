-- What slices of times and values and a `Polygon` of the code stand for, and what shortening its chains leaves.
--
--     polygon_of flip up down x    the chains that x marks in the slices up and down, and its two lines
--     Held p c                    the slices c have the points that p marks, of which there is one, and their values are within the span
--     Shape x up down             so it is for both chains, and both lines are bounded
--     Few x m                     each chain ends by m
--     TrimmedAt, trimmed_of       what shortening at N answers, and how it is known
--
-- Assumes nothing.
use Rattle.std.specs.Prelude.{◌≡◌, Bool, ℕ, ◌-◌, ◌<◌, ◌≤◌}
use Rattle.std.proofs.Common.{sym, ◌∙◌, ap}
use Rattle.chains.specs.Points.{through, Point as PointTerm}
use Rattle.chains.specs.Chain.{head_of, last_of, Polygon as Chains}
use Rattle.chains.specs.Cut.{drop_over}
use Rattle.chains.specs.Pop.{pop_end}
use Rattle.drift_laws.specs.EndReads.{InSpan}
use Rattle.drift_laws.specs.ChainParts.{Chain, Long, between, of_chain, head-between, last-between, PoppedTo, DroppedTo}
use Rattle.values.specs.declared.Line.{Line}
use Rattle.fit.specs.declared.points.Point.{Point}
use Rattle.fit.specs.declared.polygon.Part.{Part}
use Rattle.fit.specs.declared.polygon.Polygon.{Polygon}
use Rattle.fit.specs.declared.chain.Trimmed.{Trimmed}
use Rattle.values.specs.Meanings.{line_of}
use Rattle.values.specs.Small.{Bounded}
use Rattle.fit.specs.LinesOfEnds.{point_of, PointIs, LineThrough}

abbrev pub polygon_of : Bool → Chain → Chain → Polygon → Chains
polygon_of flip up down x =
    record {
      upper = between (of_chain flip up) x.upper.start x.upper.end;
      lower = between (of_chain flip down) x.lower.start x.lower.end;
      slow = line_of x.slow;
      fast = line_of x.fast;
    }

pub record Held (p : Part) (c : Chain) : Type 0 where
  pub some : p.start < p.end
  pub long : Long p.end c
  pub in_span : InSpan c.values p.start p.end

pub record Shape (x : Polygon) (up down : Chain) : Type 0 where
  pub upper_held : Held x.upper up
  pub lower_held : Held x.lower down
  pub slow_in : Bounded x.slow
  pub fast_in : Bounded x.fast

pub record Few (x : Polygon) (m : ℕ) : Type 0 where
  pub up_to : x.upper.end ≤ m
  pub down_to : x.lower.end ≤ m

-- ---- shortened at a point
pub record TrimmedAt (flip : Bool) (up down : Chain) (upper lower : Part) (N : PointTerm) (r : Trimmed) : Type 0 where
  pub pops : PoppedTo (of_chain flip up) N upper.start upper.end r.end
  pub drops : DroppedTo (of_chain flip down) N lower.start lower.end r.start
  pub slow_is : line_of r.slow ≡ through (last_of (pop_end N (between (of_chain flip up) upper.start upper.end))) N
  pub fast_is : line_of r.fast ≡ through (head_of (drop_over N (between (of_chain flip down) lower.start lower.end))) N
  pub slow_in : Bounded r.slow
  pub fast_in : Bounded r.fast

module _ {flip : Bool} {up down : Chain} {upper lower : Part} {n a b : Point} {end start : ℕ} {v y : Line} where
  pub trimmed_of : PoppedTo (of_chain flip up) (point_of n) upper.start upper.end end
      → DroppedTo (of_chain flip down) (point_of n) lower.start lower.end start
      → PointIs (of_chain flip up (end - 1)) a
      → PointIs (of_chain flip down start) b
      → LineThrough a n v
      → LineThrough b n y
      → TrimmedAt flip up down upper lower (point_of n) (record { end = end; start = start; slow = v; fast = y })
  trimmed_of p d s t l m =
      record {
        pops = p;
        drops = d;
        slow_is = l.is ∙ ap (λ A. through A (point_of n)) (s.is ∙ sym (last-between (of_chain flip up) upper.start end p.from) ∙ ap last_of p.is);
        fast_is = m.is ∙ ap (λ A. through A (point_of n)) (t.is ∙ sym (head-between (of_chain flip down) start lower.end d.to) ∙ ap head_of d.is);
        slow_in = l.bounded;
        fast_in = m.bounded;
      }
