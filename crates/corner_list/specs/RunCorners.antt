-- The listed corners of a run, in the scope's terms.
--
--     proper_corners, points_few     what listing the corners of a run asks: each has d above 0, and the chains have at most two points for each range of the run
--     RunCorners, run_corners        the rows are the run's corners in corner order, at most two for each range
--
-- Assumes nothing.
use Rattle.std.specs.Prelude.{◌≡◌, false, List, ◌∷◌, map, ℕ, ◌+◌, ◌-◌, ◌*◌, ◌≤◌, length, ℤ, pos, ◌<ℤ◌}
use Rattle.std.proofs.Common.{sym, ◌∙◌, subst, arith}
use Rattle.std.proofs.Math.Path.{ap}
use Rattle.std.proofs.lemmas.List.{length-map}
use Rattle.integers.specs.Lists.{All, All_imp}
use Rattle.definitions.specs.Ranges.{Lists}
use Rattle.definitions.specs.Corners.{reduced, corners}
use Rattle.definitions.specs.Fit.{HasLine, Ordered}
use Rattle.trial_laws.specs.RangeLists.{range_at}
use Rattle.trial_laws.specs.Accepted.{AcceptedLists}
use Rattle.chains.specs.Listing.{list_of}
use Rattle.chains.specs.Results.{corner_list}
use Rattle.chains.proofs.Results.{corners_fit}
use Rattle.lines.specs.CornerList.{corners_are, corners_count}
use Rattle.lines.specs.Polygon.{corners_of}
use Rattle.drift_laws.specs.ChainParts.{Chain}
use Rattle.drift_laws.specs.LineRows.{RowsFirst}
use Rattle.drift_laws.specs.RunsByPlace.{run, run_two, run_ordered, run_length}
use Rattle.fit.specs.declared.polygon.Polygon.{Polygon}
use Rattle.fit.specs.Polygons.{polygon_of}
use Rattle.fit.specs.RunsFrom.{PolygonAt}
use Rattle.corner_list.specs.CornerRows.{ProperCorners, points, CornersListed}

pub record RunCorners (ls : Lists) (i e : ℕ) (ps qs ds ps' qs' ds' : List ℤ) (r : ℕ) : Type 0 where
  pub count : r ≡ length (corners (run ls i e))
  pub rows : RowsFirst (corners (run ls i e)) ps qs ds ps' qs' ds'
  pub few : r ≤ 2 * (e - i)

module _ {ls : Lists} (a : AcceptedLists ls) (i e : ℕ) (two : i + 2 ≤ e) (within : e ≤ length ls.times) (line : HasLine (run ls i e)) {up down : Chain} {x : Polygon} (z : PolygonAt ls up down i e x) where
  in_order : Ordered (range_at ls i ∷ range_at ls (i + 1) ∷ run ls (i + 2) e)
  in_order = subst Ordered (run_two ls a i e two within) (run_ordered ls a i e)

  has-line : HasLine (range_at ls i ∷ range_at ls (i + 1) ∷ run ls (i + 2) e)
  has-line = subst HasLine (run_two ls a i e two within) line

  listed : list_of (polygon_of false up down x) ≡ corner_list (range_at ls i) (range_at ls (i + 1)) (run ls (i + 2) e)
  unfolding corner_list
  listed = ap (λ p. list_of p) z.is

  pub proper_corners : ProperCorners up down x
  proper_corners = record { each = subst (All (λ l. pos 0 <ℤ l.d)) (sym listed) (All_imp (λ l f. f.positive) (corners_fit (range_at ls i) (range_at ls (i + 1)) (run ls (i + 2) e) in_order has-line)) }

  pub points_few : points x ≤ 2 * (e - i)
  points_few = omega (arith, z.few.up_to, z.few.down_to)

  run_corners_are : map reduced (list_of (polygon_of false up down x)) ≡ corners (run ls i e)
  run_corners_are =
      ap (map reduced) listed
      ∙ sym (corners_are in_order (corners_of (range_at ls i) (range_at ls (i + 1)) (run ls (i + 2) e) in_order has-line))
      ∙ ap corners (sym (run_two ls a i e two within))

  pub run_corners : {ps qs ds ps' qs' ds' : List ℤ} {n : ℕ} → CornersListed up down x ps qs ds ps' qs' ds' n → RunCorners ls i e ps qs ds ps' qs' ds' n
  run_corners {ps} {qs} {ds} {ps'} {qs'} {ds'} {n} c =
      let count : n ≡ length (corners (run ls i e)) = c.count ∙ sym (length-map (list_of (polygon_of false up down x)) reduced) ∙ ap length run_corners_are in
      record {
        count = count;
        rows = subst (λ ks. RowsFirst ks ps qs ds ps' qs' ds') run_corners_are c.rows;
        few = omega (arith, count, ap (λ rs. length (corners rs)) (run_two ls a i e two within), corners_count in_order (corners_of (range_at ls i) (range_at ls (i + 1)) (run ls (i + 2) e) in_order has-line), run_length ls a (i + 2) e within);
      }
