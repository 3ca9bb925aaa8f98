-- What joining one more range answers, and what beginning with two answers, in terms of the polygon that is stood for.
--
--     LineJoining, line-joining, joining-ends                  the line through two ends
--     PointAt, point_slow, point_cut, point_fast, point_none   the lines through the one value of a range
--     JoinedAt, join_cuts, join_point                          a range joined: with a low below its high, with one value
--     StartedAt, first_part, started_by                         the polygon of two ranges: of the two entries of each chain, those that are left where it is known which ranges have width
--
-- Assumes nothing.
use Rattle.std.specs.Prelude.{◌≡◌, refl, Bool, List, [], ◌∷◌, ℕ, ◌+◌, ◌<◌, ◌≤◌, set, ℤ, pos}
use Rattle.std.proofs.Common.{sym, ◌∙◌, ap, ap₂, subst, arith, length-set}
use Rattle.std.proofs.Math.Bool.{true, false}
use Rattle.std.specs.Int.Signed.{le_z, lt_z}
use Rattle.integers.specs.Bounds.{Within}
use Rattle.definitions.specs.Spans.{most_value}
use Rattle.trial_laws.specs.Accepted.{ProperRange}
use Rattle.chains.specs.Points.{gap, through, Point as PointTerm}
use Rattle.chains.specs.Ends.{H, L}
use Rattle.chains.specs.Start.{start, start_with}
use Rattle.chains.specs.PopEnd.{pop_above, pop_below, pop_spot, pop_join}
use Rattle.drift_laws.specs.TestedSigns.{less_yes, equal_of}
use Rattle.drift_laws.specs.EndReads.{span-alone, span-two, span-part}
use Rattle.drift_laws.specs.ChainParts.{Chain, store, Long, part, between, of_chain, alone, two}
use Rattle.drift_laws.specs.PolygonSteps as Steps
use Rattle.values.specs.declared.Line.{Line}
use Rattle.fit.specs.declared.points.Point.{Point}
use Rattle.fit.specs.declared.ends.End.{End}
use Rattle.fit.specs.declared.ends.Range.{Range}
use Rattle.fit.specs.declared.polygon.Part.{Part}
use Rattle.fit.specs.declared.polygon.Polygon.{Polygon}
use Rattle.fit.specs.declared.chain.Trimmed.{Trimmed}
use Rattle.values.specs.Meanings.{line_of}
use Rattle.values.specs.Small.{Bounded}
use Rattle.fit.specs.RangesByValue.{at, put_end, range_of, high_of, low_of, high_is, low-is}
use Rattle.fit.specs.LinesOfEnds.{point_of, Seen, LineThrough}
use Rattle.fit.specs.Polygons.{polygon_of, Held, Shape, Few, TrimmedAt}
use Rattle.fit.specs.Cuts.{subst2, AboveAt, BelowAt}

pub record LineJoining (a b : End) (r : Line) : Type 0 where
  pub is : line_of r ≡ through (at false a) (at false b)
  pub bounded : Bounded r

pub line-joining : {a b : End} {n m : Point} {r : Line} → Seen false a n → Seen false b m → LineThrough n m r → LineJoining a b r
line-joining p q l = record { is = l.is ∙ ap₂ (λ A B. through A B) p.is q.is; bounded = l.bounded }

pub joining-ends : {a b a' b' : End} {r : Line} → LineJoining a b r → a ≡ a' → b ≡ b' → LineJoining a' b' r
joining-ends {r} l p q = subst2 (λ a b. LineJoining a b r) p q l

pub record PointAt (up down : Chain) (x : Polygon) (e : End) (up' down' : Chain) (r : Polygon) : Type 0 where
  pub is : polygon_of false up' down' r ≡ pop_spot (at false e) (polygon_of false up down x)
  pub shape : Shape r up' down'
  pub up_most : r.upper.end ≤ x.upper.end
  pub down_most : r.lower.end ≤ x.lower.end

pub record JoinedAt (up down : Chain) (x : Polygon) (r : Range) (up' down' : Chain) (y : Polygon) : Type 0 where
  pub is : polygon_of false up' down' y ≡ pop_join (range_of r) (polygon_of false up down x)
  pub shape : Shape y up' down'
  pub up_more : y.upper.end ≤ x.upper.end + 1
  pub down_more : y.lower.end ≤ x.lower.end + 1

pub record StartedAt (r s : Range) (up down : Chain) (x : Polygon) : Type 0 where
  pub is : polygon_of false up down x ≡ start (range_of r) (range_of s)
  pub shape : Shape x up down
  pub few : Few x 2

-- the first entries of slices, after one, two were stored
held_one : (c : Chain) (e : End) → Long 1 c → Within most_value e.value → Held (record { start = 0; end = 1 }) (store c 0 e.time e.value)
held_one c e l w =
    record {
      some = omega arith;
      long = record { times_long = omega (arith, l.times_long, length-set c.times 0 e.time); values_long = omega (arith, l.values_long, length-set c.values 0 e.value) };
      in_span = span-alone c.values e.value (omega (arith, l.values_long)) w;
    }

held_two : (c : Chain) (e f : End) → Long 2 c → Within most_value e.value → Within most_value f.value → Held (record { start = 0; end = 2 }) (store (store c 0 e.time e.value) 1 f.time f.value)
held_two c e f l w v =
    record {
      some = omega arith;
      long =
          record {
            times_long = omega (arith, l.times_long, length-set c.times 0 e.time, length-set (set c.times 0 e.time) 1 f.time);
            values_long = omega (arith, l.values_long, length-set c.values 0 e.value, length-set (set c.values 0 e.value) 1 f.value);
          };
      in_span = span-two c.values e.value f.value (omega (arith, l.values_long)) w v;
    }

one-long : {c : Chain} {n : ℕ} → Long n c → 0 < n → Long 1 c
one-long l h = record { times_long = omega (arith, l.times_long); values_long = omega (arith, l.values_long) }

-- ---- the lines through one value
module _ {up down : Chain} {x : Polygon} {e : End} {n : Point} (s : Shape x up down) (z : Seen false e n) {on : Bool} (f : on ≡ le_z (pos 0) (gap (line_of x.slow) (point_of n))) where
  -- a test of a line against n is one against the end
  told : (test : ℤ → Bool) (l : Line) {r : Bool} → r ≡ test (gap (line_of l) (point_of n)) → (b : Bool) → r ≡ b → test (gap (line_of l) (at false e)) ≡ b
  told test l e b p = sym (ap (λ N. test (gap (line_of l) N)) z.is) ∙ sym e ∙ p

  pub point_slow : on ≡ true → {r : Polygon} → r ≡ record { upper = x.upper; lower = x.lower; slow = x.slow; fast = x.slow } → PointAt up down x e up down r
  point_slow o q =
      subst (PointAt up down x e up down) (sym q)
      (record {
        is = sym (Steps.spot_slow_is (at false e) (polygon_of false up down x) (told (le_z (pos 0)) x.slow f true o));
        shape = record { upper_held = s.upper_held; lower_held = s.lower_held; slow_in = s.slow_in; fast_in = s.slow_in };
        up_most = omega arith;
        down_most = omega arith;
      })

  module _ (o : on ≡ false) {over : Bool} (g : over ≡ lt_z (pos 0) (gap (line_of x.fast) (point_of n))) where
    pub point_cut : {w : Trimmed} → over ≡ true → Within most_value e.value → TrimmedAt false up down x.upper x.lower (at false e) w
        → {r : Polygon} → r ≡ record { upper = record { start = 0; end = 1 }; lower = record { start = 0; end = 1 }; slow = w.slow; fast = w.fast }
        → {up' down' : Chain} → up' ≡ put_end up 0 e → down' ≡ put_end down 0 e → PointAt up down x e up' down' r
    point_cut h p t {r} q {up'} {down'} ub db =
        let a = s.upper_held.some in
        let b = s.lower_held.some in
        let lu = one-long s.upper_held.long (omega arith) in
        let ld = one-long s.lower_held.long (omega arith) in
        subst2 (λ u d. PointAt up down x e u d r) (sym ub) (sym db)
        (subst (PointAt up down x e (put_end up 0 e) (put_end down 0 e)) (sym q)
        (record {
          is =
              (λ i.
              record {
                upper = alone false up e.time e.value lu i;
                lower = alone false down e.time e.value ld i;
                slow = t.slow_is i;
                fast = t.fast_is i;
              })
              ∙ sym (Steps.spot_cut (at false e) (polygon_of false up down x) (told (le_z (pos 0)) x.slow f false o) (told (lt_z (pos 0)) x.fast g true h));
          shape = record { upper_held = held_one up e lu p; lower_held = held_one down e ld p; slow_in = t.slow_in; fast_in = t.fast_in };
          up_most = omega arith;
          down_most = omega arith;
        }))

    module _ {met : Bool} (m : met ≡ le_z (pos 0) (gap (line_of x.fast) (point_of n))) where
      pub point_fast : over ≡ false → met ≡ true → {r : Polygon} → r ≡ record { upper = x.upper; lower = x.lower; slow = x.fast; fast = x.fast } → PointAt up down x e up down r
      point_fast h i q =
          subst (PointAt up down x e up down) (sym q)
          (record {
            is = sym (Steps.spot_fast_is (at false e) (polygon_of false up down x) (told (le_z (pos 0)) x.slow f false o) (told (lt_z (pos 0)) x.fast g false h) (told (le_z (pos 0)) x.fast m true i));
            shape = record { upper_held = s.upper_held; lower_held = s.lower_held; slow_in = s.fast_in; fast_in = s.fast_in };
            up_most = omega arith;
            down_most = omega arith;
          })

      pub point_none : met ≡ false → PointAt up down x e up down x
      point_none i =
          record {
            is = sym (Steps.spot_none (at false e) (polygon_of false up down x) (told (le_z (pos 0)) x.slow f false o) (told (le_z (pos 0)) x.fast m false i));
            shape = s;
            up_most = omega arith;
            down_most = omega arith;
          }

-- ---- one more range
module _ {up down up' down' : Chain} {x y : Polygon} {r : Range} where
  pub join_cuts : {z : Polygon} {e f : End} {wide : Bool} → wide ≡ lt_z r.low r.high → wide ≡ true → e ≡ high_of r → f ≡ low_of r → AboveAt false up down x e up' z → BelowAt up' down z f down' y → JoinedAt up down x r up' down' y
  join_cuts w o p q a b =
      let ma = a.up_more in
      let da = a.down_most in
      let mb = b.up_most in
      let db = b.down_more in
      record {
        is =
            b.is
            ∙ ap₂ (λ N z. pop_below N z) (ap (at false) q ∙ low-is r) (a.is ∙ ap (λ N. pop_above N (polygon_of false up down x)) (ap (at false) p ∙ high_is r))
            ∙ sym (Steps.join_wide (range_of r) (polygon_of false up down x) (less_yes (sym w ∙ o)));
        shape = b.shape;
        up_more = omega arith;
        down_more = omega arith;
      }

  pub join_point : {e : End} {wide : Bool} → wide ≡ lt_z r.low r.high → wide ≡ false → ProperRange (range_of r) → e ≡ high_of r → PointAt up down x e up' down' y → JoinedAt up down x r up' down' y
  join_point w o h p a =
      let ma = a.up_most in
      let da = a.down_most in
      record {
        is = a.is ∙ ap (λ N. pop_spot N (polygon_of false up down x)) (ap (at false) p ∙ high_is r) ∙ sym (Steps.join_point (range_of r) (polygon_of false up down x) (equal_of h.low_high w o));
        shape = a.shape;
        up_more = omega arith;
        down_more = omega arith;
      }

-- ---- two ranges

-- the first of two points alone, and the second alone
front : List PointTerm → List PointTerm
front [] = []
front (A ∷ l) = A ∷ []

back : List PointTerm → List PointTerm
back [] = []
back (A ∷ l) = l

held-part : {c : Chain} (a b : ℕ) → a < b → b ≤ 2 → Held (record { start = 0; end = 2 }) c → Held (record { start = a; end = b }) c
held-part a b h k w =
    record {
      some = h;
      long = record { times_long = omega (arith, w.long.times_long); values_long = omega (arith, w.long.values_long) };
      in_span = span-part w.in_span (omega arith) k;
    }

-- which of two entries two ranges leave, where it is known whether each has width
unfoldable pub first_part : Bool → Bool → Part
first_part true true = record { start = 0; end = 2 }
first_part true false = record { start = 1; end = 2 }
first_part false second = record { start = 0; end = 1 }

module _ {r s : Range} (pr : ProperRange (range_of r)) (ps : ProperRange (range_of s)) {up down : Chain} (lu : Long 2 up) (ld : Long 2 down) {v y : Line} (sl : LineJoining (high_of r) (low_of s) v) (fl : LineJoining (low_of r) (high_of s) y) where
  abbrev ups : Chain
  ups = put_end (put_end up 0 (high_of r)) 1 (high_of s)

  abbrev downs : Chain
  downs = put_end (put_end down 0 (low_of r)) 1 (low_of s)

  highs_held : Held (record { start = 0; end = 2 }) ups
  highs_held = held_two up (high_of r) (high_of s) lu pr.high_within ps.high_within

  lows_held : Held (record { start = 0; end = 2 }) downs
  lows_held = held_two down (low_of r) (low_of s) ld pr.low_within ps.low_within

  highs_are : between (of_chain false ups) 0 2 ≡ H (range_of r) ∷ H (range_of s) ∷ []
  highs_are = two false up r.time r.high s.time s.high lu ∙ ap₂ (λ A B. A ∷ B ∷ []) (high_is r) (high_is s)

  lows_are : between (of_chain false downs) 0 2 ≡ L (range_of r) ∷ L (range_of s) ∷ []
  lows_are = two false down r.time r.low s.time s.low ld ∙ ap₂ (λ A B. A ∷ B ∷ []) (low-is r) (low-is s)

  started : (a b : ℕ) {us ls : List PointTerm} → a < b → b ≤ 2
      → between (of_chain false ups) a b ≡ us → between (of_chain false downs) a b ≡ ls → start (range_of r) (range_of s) ≡ start_with us ls (range_of r) (range_of s)
      → StartedAt r s ups downs (record { upper = record { start = a; end = b }; lower = record { start = a; end = b }; slow = v; fast = y })
  started a b h k p q m =
      record {
        is =
            (λ j.
            record {
              upper = p j;
              lower = q j;
              slow = (sl.is ∙ ap₂ (λ A B. through A B) (high_is r) (low-is s)) j;
              fast = (fl.is ∙ ap₂ (λ A B. through A B) (low-is r) (high_is s)) j;
            })
            ∙ sym m;
        shape = record { upper_held = held-part a b h k highs_held; lower_held = held-part a b h k lows_held; slow_in = sl.bounded; fast_in = fl.bounded };
        few = record { up_to = k; down_to = k };
      }

  by_widths : (first second : Bool) → first ≡ lt_z r.low r.high → second ≡ lt_z s.low s.high
      → StartedAt r s ups downs (record { upper = first_part first second; lower = first_part first second; slow = v; fast = y })
  unfolding first_part front back part
  by_widths true true e f = started 0 2 (omega arith) (omega arith) highs_are lows_are (Steps.start_both (range_of r) (range_of s) (less_yes (sym e)) (less_yes (sym f)))
  by_widths true false e f = started 1 2 (omega arith) (omega arith) (ap back highs_are) (ap back lows_are) (Steps.start_second (range_of r) (range_of s) (less_yes (sym e)) (equal_of ps.low_high f refl))
  by_widths false second e f = started 0 1 (omega arith) (omega arith) (ap front highs_are) (ap front lows_are) (Steps.start_first (range_of r) (range_of s) (equal_of pr.low_high e refl))

  -- the first range stored, then the second, and what is left of the two
  pub started_by : {up' down' up'' down'' : Chain} {p : Part} → up' ≡ put_end up 0 (high_of r) → down' ≡ put_end down 0 (low_of r) → up'' ≡ put_end up' 1 (high_of s) → down'' ≡ put_end down' 1 (low_of s)
      → p ≡ first_part (lt_z r.low r.high) (lt_z s.low s.high) → StartedAt r s up'' down'' (record { upper = p; lower = p; slow = v; fast = y })
  started_by {p} a b c d e =
      subst2 (λ u w. StartedAt r s u w (record { upper = p; lower = p; slow = v; fast = y })) (sym (c ∙ ap (λ u. put_end u 1 (high_of s)) a)) (sym (d ∙ ap (λ w. put_end w 1 (low_of s)) b))
      (subst (λ q. StartedAt r s ups downs (record { upper = q; lower = q; slow = v; fast = y })) (sym e) (by_widths (lt_z r.low r.high) (lt_z s.low s.high) refl refl))
