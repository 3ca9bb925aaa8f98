-- The run from a range on as far as a line fits it: what code knows while it goes on, and what it promises at its end.
--
--     Closing slow fast w r          r tells whether the range w has no line with the run that has these two lines
--     closes_above, closes_below, closes_not, closes_else   how it is told
--     Running ls up down i k x       at k the slices and x stand for the polygon of the run from i to k, which has a line
--     running_start, running_more    it holds after two ranges, and after each range that joins
--     PolygonAt ls up down i e x     the slices and x stand for the polygon of the run from i to e; slow and fast are that polygon's, and small
--     PolygonOf ls up down i e o     the run from i to e has one range and o is none, or it has more and o is its polygon
--     polygon_some, polygon_none     so where one was found, and where none was
--     RunFrom ls i n up down r       the run from i ends at `end`, by n: it has a line, and none with the range at `end` unless that is n. It has one range only if no other follows; else `polygon` is its polygon
--     run_closed, run_over           the run stopped at a range that closes it, or at n
--     run_single                     a run of the last range alone
--
-- Assumes nothing.
use Rattle.std.specs.Prelude.{◌≡◌, ◌⊎◌, Bool, true, false, not, Option, None, Some, MatchOption, [], ◌∷◌, ◌++◌, ℕ, ◌+◌, ◌-◌, ◌<◌, ◌≤◌, length, pos, ◌<ℤ◌}
use Rattle.std.proofs.Common.{refl, sym, ◌∙◌, ap₂, subst, inl, inr, arith}
use Rattle.std.proofs.Math.Path.{ap}
use Rattle.std.specs.Int.Signed.{le_z, lt_z}
use Rattle.definitions.specs.Ranges.{Lists, Range as RangeTerm}
use Rattle.definitions.specs.Fit.{HasLine, Ordered}
use Rattle.trial_laws.specs.RangeLists.{range_at}
use Rattle.trial_laws.specs.Accepted.{AcceptedLists}
use Rattle.chains.specs.Points.{gap}
use Rattle.chains.specs.PopEnd.{pop_join}
use Rattle.chains.specs.Start.{start}
use Rattle.chains.specs.Ends.{H, L}
use Rattle.chains.specs.Results.{polygon, slow, fast}
use Rattle.chains.proofs.Results.{slow_fits, fast_fits}
use Rattle.drift_laws.specs.ChainParts.{Chain}
use Rattle.drift_laws.specs.RunsByPlace.{run, run_polygon, run_two, run_ordered, one_line, two_line, started, polygon_goes_on, line_goes_on, stops_above, stops_below}
use Rattle.values.specs.declared.Line.{Line}
use Rattle.fit.specs.declared.points.Point.{Point}
use Rattle.fit.specs.declared.ends.End.{End}
use Rattle.fit.specs.declared.ends.Range.{Range}
use Rattle.fit.specs.declared.polygon.Polygon.{Polygon}
use Rattle.fit.specs.declared.run.Reach.{Reach}
use Rattle.values.specs.Meanings.{line_of}
use Rattle.values.specs.Small.{Small}
use Rattle.fit.specs.RangesByValue.{at, range_of, high_of, low_of, high_is, low-is}
use Rattle.fit.specs.LinesOfEnds.{point_of, Seen}
use Rattle.fit.specs.Polygons.{polygon_of, Shape, Few}
use Rattle.fit.specs.Joins.{JoinedAt, StartedAt}

-- ---- whether a range closes the run
-- slow is above its high end, fast is at or above its low end
abbrev slow_over : Line → RangeTerm → Bool
slow_over l w = lt_z (pos 0) (gap (line_of l) (H w))

abbrev fast_reaches : Line → RangeTerm → Bool
fast_reaches l w = le_z (pos 0) (gap (line_of l) (L w))

pub record Closing (slow fast : Line) (w : RangeTerm) (r : Bool) : Type 0 where
  pub closes : r ≡ true → (slow_over slow w ≡ true) ⊎ (fast_reaches fast w ≡ false)
  pub joins : r ≡ false → (slow_over slow w ≡ false) × (fast_reaches fast w ≡ true)

-- the ends of w as points n and m
module _ (slow fast : Line) (w : Range) {e f : End} {n m : Point} (a : e ≡ high_of w) (b : f ≡ low_of w) (p : Seen false e n) (q : Seen false f m) where
  high_told : {over : Bool} → over ≡ lt_z (pos 0) (gap (line_of slow) (point_of n)) → (t : Bool) → over ≡ t → slow_over slow (range_of w) ≡ t
  high_told k t o = sym (ap (λ N. lt_z (pos 0) (gap (line_of slow) N)) (p.is ∙ ap (at false) a ∙ high_is w)) ∙ sym k ∙ o

  low_told : {met : Bool} → met ≡ le_z (pos 0) (gap (line_of fast) (point_of m)) → (t : Bool) → met ≡ t → fast_reaches fast (range_of w) ≡ t
  low_told k t o = sym (ap (λ N. le_z (pos 0) (gap (line_of fast) N)) (q.is ∙ ap (at false) b ∙ low-is w)) ∙ sym k ∙ o

  pub closes_above : {over : Bool} → over ≡ lt_z (pos 0) (gap (line_of slow) (point_of n)) → over ≡ true → Closing slow fast (range_of w) true
  closes_above k o = record { closes = λ _. inl (high_told k true o); joins = λ q. let z : ◌≡◌ {A = ℕ} 0 1 = cc in absurd (omega arith) }

  pub closes_below : {met : Bool} → met ≡ le_z (pos 0) (gap (line_of fast) (point_of m)) → met ≡ false → Closing slow fast (range_of w) true
  closes_below k o = record { closes = λ _. inr (low_told k false o); joins = λ q. let z : ◌≡◌ {A = ℕ} 0 1 = cc in absurd (omega arith) }

  pub closes_not : {over met : Bool} → over ≡ lt_z (pos 0) (gap (line_of slow) (point_of n)) → over ≡ false → met ≡ le_z (pos 0) (gap (line_of fast) (point_of m)) → met ≡ true → Closing slow fast (range_of w) false
  closes_not k o l t = record { closes = λ q. let z : ◌≡◌ {A = ℕ} 0 1 = cc in absurd (omega arith); joins = λ _. (high_told k false o, low_told l true t) }

  -- where slow is not above it, the other test alone tells
  pub closes_else : {over : Bool} → over ≡ lt_z (pos 0) (gap (line_of slow) (point_of n)) → over ≡ false → (met : Bool) → met ≡ le_z (pos 0) (gap (line_of fast) (point_of m)) → Closing slow fast (range_of w) (not met)
  closes_else k o true l = closes_not k o l refl
  closes_else k o false l = closes_below l refl

-- ---- while the run goes on
pub record Running (ls : Lists) (up down : Chain) (i k : ℕ) (x : Polygon) : Type 0 where
  pub is : polygon_of false up down x ≡ run_polygon ls i k
  pub line : HasLine (run ls i k)
  pub shape : Shape x up down
  pub few : Few x (k - i)

module _ {ls : Lists} (a : AcceptedLists ls) where
  pub running_start : (i : ℕ) → i + 1 < length ls.times → {up down : Chain} {r s : Range} {x : Polygon} → range_of r ≡ range_at ls i → range_of s ≡ range_at ls (i + 1) → StartedAt r s up down x → Running ls up down i (i + 2) x
  running_start i h e f s =
      let u = s.few.up_to in
      let d = s.few.down_to in
      record { is = s.is ∙ ap₂ (λ r s. start r s) e f ∙ started ls a i h; line = two_line ls a i h; shape = s.shape; few = record { up_to = omega arith; down_to = omega arith } }

  module _ (i k : ℕ) (lo : i + 2 ≤ k) (hi : k < length ls.times) {up down : Chain} {x : Polygon} (z : Running ls up down i k x) {w : Range} (e : range_of w ≡ range_at ls k) where
    slow_told : (b : Bool) → slow_over x.slow (range_of w) ≡ b → lt_z (pos 0) (gap (run_polygon ls i k).slow (H (range_at ls k))) ≡ b
    slow_told b o = sym (ap₂ (λ y r. lt_z (pos 0) (gap y.slow (H r))) z.is e) ∙ o

    fast_told : (b : Bool) → fast_reaches x.fast (range_of w) ≡ b → le_z (pos 0) (gap (run_polygon ls i k).fast (L (range_at ls k))) ≡ b
    fast_told b o = sym (ap₂ (λ y r. le_z (pos 0) (gap y.fast (L r))) z.is e) ∙ o

    stops : {r : Bool} → Closing x.slow x.fast (range_of w) r → r ≡ true → HasLine (run ls i k ++ (range_at ls k ∷ [])) → ⊥
    stops c o =
        elim (c.closes o) [
          | inl h ↦ stops_above ls a i k lo hi z.line (slow_told true h)
          | inr h ↦ stops_below ls a i k lo hi z.line (fast_told false h)
        ]

    pub running_more : {r : Bool} → Closing x.slow x.fast (range_of w) r → r ≡ false → {up' down' : Chain} {y : Polygon} → JoinedAt up down x w up' down' y
        → Running ls up' down' i (k + 1) y
    running_more c o j =
        let s = slow_told false (c.joins o).0 in
        let u = z.few.up_to in
        let d = z.few.down_to in
        let v = j.up_more in
        let f = j.down_more in
        record {
          is = j.is ∙ ap₂ (λ r y. pop_join r y) e z.is ∙ polygon_goes_on ls a i k lo hi z.line s;
          line = line_goes_on ls a i k lo hi z.line s (fast_told true (c.joins o).1);
          shape = j.shape;
          few = record { up_to = omega arith; down_to = omega arith };
        }

-- ---- at its end
pub record PolygonAt (ls : Lists) (up down : Chain) (i e : ℕ) (x : Polygon) : Type 0 where
  pub is : polygon_of false up down x ≡ polygon (range_at ls i) (range_at ls (i + 1)) (run ls (i + 2) e)
  pub slow_is : line_of x.slow ≡ slow (range_at ls i) (range_at ls (i + 1)) (run ls (i + 2) e)
  pub fast_is : line_of x.fast ≡ fast (range_at ls i) (range_at ls (i + 1)) (run ls (i + 2) e)
  pub slow_small : Small x.slow
  pub fast_small : Small x.fast
  pub shape : Shape x up down
  pub few : Few x (e - i)

pub record PolygonOf (ls : Lists) (up down : Chain) (i e : ℕ) (o : Option Polygon) : Type 0 where
  pub found : MatchOption o (e ≡ i + 1) (λ x. (i + 2 ≤ e) × PolygonAt ls up down i e x)

pub polygon_some : {ls : Lists} {up down : Chain} {i e : ℕ} {o : Option Polygon} {x : Polygon} → o ≡ Some x → PolygonOf ls up down i e o → (i + 2 ≤ e) × PolygonAt ls up down i e x
polygon_some {ls} {up} {down} {i} {e} p z = (subst (PolygonOf ls up down i e) p z).found

pub polygon_none : {ls : Lists} {up down : Chain} {i e : ℕ} {o : Option Polygon} → o ≡ None → PolygonOf ls up down i e o → e ≡ i + 1
polygon_none {ls} {up} {down} {i} {e} p z = (subst (PolygonOf ls up down i e) p z).found

pub record RunFrom (ls : Lists) (i n : ℕ) (up down : Chain) (r : Reach) : Type 0 where
  pub begins : i < r.end
  pub within : r.end ≤ n
  pub line : HasLine (run ls i r.end)
  pub closed : r.end < n → HasLine (run ls i r.end ++ (range_at ls r.end ∷ [])) → ⊥
  pub two : i + 1 < n → i + 2 ≤ r.end
  pub polygon_is : PolygonOf ls up down i r.end r.polygon

module _ {ls : Lists} (a : AcceptedLists ls) where
  module _ (i k : ℕ) (lo : i + 2 ≤ k) (hi : k ≤ length ls.times) {up down : Chain} {x : Polygon} (z : Running ls up down i k x) where
    in_order : Ordered (range_at ls i ∷ range_at ls (i + 1) ∷ run ls (i + 2) k)
    in_order = subst Ordered (run_two ls a i k lo hi) (run_ordered ls a i k)

    has-line : HasLine (range_at ls i ∷ range_at ls (i + 1) ∷ run ls (i + 2) k)
    has-line = subst HasLine (run_two ls a i k lo hi) z.line

    slow_is : line_of x.slow ≡ slow (range_at ls i) (range_at ls (i + 1)) (run ls (i + 2) k)
    unfolding slow
    slow_is = ap (λ y. y.slow) z.is

    fast_is : line_of x.fast ≡ fast (range_at ls i) (range_at ls (i + 1)) (run ls (i + 2) k)
    unfolding fast
    fast_is = ap (λ y. y.fast) z.is

    polygon_at : PolygonAt ls up down i k x
    polygon_at =
        record {
          is = z.is;
          slow_is = slow_is;
          fast_is = fast_is;
          slow_small = record { bounds = z.shape.slow_in; d_above_0 = subst (λ l. pos 0 <ℤ l.d) (sym slow_is) (slow_fits (range_at ls i) (range_at ls (i + 1)) (run ls (i + 2) k) in_order has-line).positive };
          fast_small = record { bounds = z.shape.fast_in; d_above_0 = subst (λ l. pos 0 <ℤ l.d) (sym fast_is) (fast_fits (range_at ls i) (range_at ls (i + 1)) (run ls (i + 2) k) in_order has-line).positive };
          shape = z.shape;
          few = z.few;
        }

  module _ (i n k : ℕ) (lo : i + 2 ≤ k) (upto : n ≤ length ls.times) {up down : Chain} {x : Polygon} (z : Running ls up down i k x) where
    pub run_closed : k < n → {w : Range} → range_of w ≡ range_at ls k → {r : Bool} → Closing x.slow x.fast (range_of w) r → r ≡ true → RunFrom ls i n up down (record { end = k; polygon = Some x })
    run_closed hi e c o =
        record {
          begins = omega arith;
          within = omega arith;
          line = z.line;
          closed = λ _. stops a i k lo (omega arith) z e c o;
          two = λ _. lo;
          polygon_is = record { found = (lo, polygon_at i k lo (omega arith) z) };
        }

    pub run_over : k ≤ n → n ≤ k → RunFrom ls i n up down (record { end = k; polygon = Some x })
    run_over le ge =
        record {
          begins = omega arith;
          within = le;
          line = z.line;
          closed = λ l. absurd (omega arith);
          two = λ _. lo;
          polygon_is = record { found = (lo, polygon_at i k lo (omega arith) z) };
        }

  pub run_single : (i n : ℕ) → i < n → n ≤ i + 1 → n ≤ length ls.times → {up down : Chain} → RunFrom ls i n up down (record { end = n; polygon = None })
  run_single i n h le upto =
      let one : n ≡ i + 1 = omega arith in
      record {
        begins = h;
        within = omega arith;
        line = subst (λ e. HasLine (run ls i e)) (sym one) (one_line ls a i (omega arith));
        closed = λ l. absurd (omega arith);
        two = λ l. absurd (omega arith);
        polygon_is = record { found = one };
      }
