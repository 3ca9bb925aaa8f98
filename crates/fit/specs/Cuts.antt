-- What a cut answers, in terms of the polygon that is stood for.
--
--     shortened_to x t end                           the polygon of the code after both chains were shortened
--     trimmed-seen                                  the chains were shortened at the end
--     CutAt, cut-push, cut_keep                     the cut where slow is below the end and fast above it: with the end on the chain, and without
--     AboveAt, above-none, above_one, above_cut     the cut above at an upper end
--     flipped, flipped-is, shape-mirrored, long-mirrored   the mirror image of a polygon of the code, how it is made, its shape, and the room for one point more
--     BelowAt, below-cut                            the cut below is the cut above in the mirror
--
-- Each answer says what the new slices and the new marks stand for, the new shape, and that only one chain grew, by one point at most.
-- Assumes nothing.
use Rattle.std.specs.Prelude.{◌≡◌, Bool, true, false, [], ◌∷◌, ◌++◌, ℕ, ◌+◌, ◌-◌, ◌≤◌, pos}
use Rattle.std.proofs.Common.{sym, ◌∙◌, ap, ap₂, subst, arith, length-set}
use Rattle.std.specs.Int.Signed.{le_z, lt_z}
use Rattle.integers.specs.Bounds.{Within}
use Rattle.definitions.specs.Spans.{most_value}
use Rattle.chains.specs.Points.{gap, turn, through}
use Rattle.chains.specs.Mirror.{negL, negs, negs-negs}
use Rattle.chains.specs.Chain.{head_of, last_of, mirror_polygon}
use Rattle.chains.specs.Cut.{drop_over}
use Rattle.chains.specs.Step.{cut_with}
use Rattle.chains.specs.Pop.{pop_end}
use Rattle.chains.specs.PopEnd.{pop_above, pop_below}
use Rattle.drift_laws.specs.RangeEnds.{end-mirrored}
use Rattle.drift_laws.specs.EndReads.{span-part, span-push}
use Rattle.drift_laws.specs.ChainParts.{Chain, Long, part, between, of_chain, store_push, part-mirrored}
use Rattle.drift_laws.specs.PolygonSteps as Steps
use Rattle.values.specs.declared.Line.{Line}
use Rattle.fit.specs.declared.points.Point.{Point}
use Rattle.fit.specs.declared.ends.End.{End}
use Rattle.fit.specs.declared.polygon.Part.{Part}
use Rattle.fit.specs.declared.polygon.Polygon.{Polygon}
use Rattle.fit.specs.declared.chain.Trimmed.{Trimmed}
use Rattle.values.specs.Meanings.{line_of}
use Rattle.fit.specs.RangesByValue.{at, put_end}
use Rattle.fit.specs.LinesOfEnds.{point_of, Seen, neg_d, bounded-mirrored}
use Rattle.fit.specs.Polygons.{polygon_of, Shape, TrimmedAt}

pub record CutAt (flip : Bool) (up down : Chain) (x : Polygon) (e : End) (up' : Chain) (r : Polygon) : Type 0 where
  pub is : polygon_of flip up' down r ≡ cut_with (pop_end (at flip e) (between (of_chain flip up) x.upper.start x.upper.end)) (at flip e) (polygon_of flip up down x)
  pub shape : Shape r up' down
  pub up_more : r.upper.end ≤ x.upper.end + 1
  pub down_most : r.lower.end ≤ x.lower.end

pub record AboveAt (flip : Bool) (up down : Chain) (x : Polygon) (e : End) (up' : Chain) (r : Polygon) : Type 0 where
  pub is : polygon_of flip up' down r ≡ pop_above (at flip e) (polygon_of flip up down x)
  pub shape : Shape r up' down
  pub up_more : r.upper.end ≤ x.upper.end + 1
  pub down_most : r.lower.end ≤ x.lower.end

pub record BelowAt (up down : Chain) (x : Polygon) (e : End) (down' : Chain) (r : Polygon) : Type 0 where
  pub is : polygon_of false up down' r ≡ pop_below (at false e) (polygon_of false up down x)
  pub shape : Shape r up down'
  pub up_most : r.upper.end ≤ x.upper.end
  pub down_more : r.lower.end ≤ x.lower.end + 1

pub subst2 : {A B : Type 0} (P : A → B → Type 0) {a a' : A} {b b' : B} → a ≡ a' → b ≡ b' → P a b → P a' b'
subst2 P {a} {a'} {b} {b'} p q x = subst (λ z. P a' z) q (subst (λ z. P z b) p x)

-- ---- the cut
abbrev pub shortened_to : Polygon → Trimmed → ℕ → Polygon
shortened_to x t end = record { upper = record { start = x.upper.start; end = end }; lower = record { start = t.start; end = x.lower.end }; slow = x.slow; fast = t.fast }

-- the point at which the code shortens is the end
pub trimmed-seen : {flip : Bool} {up down : Chain} {upper lower : Part} {e : End} {n : Point} {w : Trimmed} → Seen flip e n → TrimmedAt flip up down upper lower (point_of n) w → TrimmedAt flip up down upper lower (at flip e) w
trimmed-seen {flip} {up} {down} {upper} {lower} {e} {n} {w} s t = subst (λ N. TrimmedAt flip up down upper lower N w) s.is t

module _ {flip : Bool} {up down : Chain} {x : Polygon} (e : End) {w : Trimmed} (s : Shape x up down) (t : TrimmedAt flip up down x.upper x.lower (at flip e) w) where
  -- the test of the code is the test of the model
  turn_is : {r : Bool} → r ≡ lt_z (pos 0) (turn (line_of w.slow) (line_of w.fast))
      → r ≡ lt_z (pos 0) (turn (through (last_of (pop_end (at flip e) (between (of_chain flip up) x.upper.start x.upper.end))) (at flip e)) (through (head_of (drop_over (at flip e) (between (of_chain flip down) x.lower.start x.lower.end))) (at flip e)))
  turn_is o = o ∙ ap₂ (λ v y. lt_z (pos 0) (turn v y)) t.slow_is t.fast_is

  pub cut-push : {r : Bool} → Long (x.upper.end + 1) up → Within most_value e.value → r ≡ lt_z (pos 0) (turn (line_of w.slow) (line_of w.fast)) → r ≡ true
      → {up' : Chain} → up' ≡ put_end up w.end e → {y : Polygon} → y ≡ shortened_to x w (w.end + 1) → CutAt flip up down x e up' y
  cut-push l v o p u q =
      let N = at flip e in
      let ks = pop_end (at flip e) (between (of_chain flip up) x.upper.start x.upper.end) in
      let b = t.pops.to in
      let h = t.pops.from in
      let lt = l.times_long in
      let lv = l.values_long in
      subst2 (CutAt flip up down x e) (sym u) (sym q)
      (record {
        is = λ i.
            record {
              upper =
                  (store_push flip up x.upper.start w.end e.time e.value (omega arith) (record { times_long = omega arith; values_long = omega arith })
                  ∙ ap (λ xs. xs ++ (N ∷ [])) t.pops.is
                  ∙ sym (Steps.push_on (turn (through (last_of ks) N) (through (head_of (drop_over N (between (of_chain flip down) x.lower.start x.lower.end))) N)) ks N (sym (turn_is o) ∙ p))) i;
              lower = t.drops.is i;
              slow = line_of x.slow;
              fast = t.fast_is i;
            };
        shape =
            record {
              upper_held =
                  record {
                    some = omega arith;
                    long = record { times_long = omega (arith, length-set up.times w.end e.time); values_long = omega (arith, length-set up.values w.end e.value) };
                    in_span = span-push s.upper_held.in_span b (omega arith) v;
                  };
              lower_held = record { some = t.drops.to; long = s.lower_held.long; in_span = span-part s.lower_held.in_span t.drops.from (omega arith) };
              slow_in = s.slow_in;
              fast_in = t.fast_in;
            };
        up_more = omega arith;
        down_most = omega arith;
      })

  pub cut_keep : {r : Bool} → r ≡ lt_z (pos 0) (turn (line_of w.slow) (line_of w.fast)) → r ≡ false
      → {y : Polygon} → y ≡ shortened_to x w w.end → CutAt flip up down x e up y
  cut_keep o p q =
      let N = at flip e in
      let ks = pop_end (at flip e) (between (of_chain flip up) x.upper.start x.upper.end) in
      let b = t.pops.to in
      let lt = s.upper_held.long.times_long in
      let lv = s.upper_held.long.values_long in
      subst (CutAt flip up down x e up) (sym q)
      (record {
        is = λ i.
            record {
              upper =
                  (t.pops.is
                  ∙ sym (Steps.push_off (turn (through (last_of ks) N) (through (head_of (drop_over N (between (of_chain flip down) x.lower.start x.lower.end))) N)) ks N (sym (turn_is o) ∙ p))) i;
              lower = t.drops.is i;
              slow = line_of x.slow;
              fast = t.fast_is i;
            };
        shape =
            record {
              upper_held = record { some = t.pops.from; long = record { times_long = omega arith; values_long = omega arith }; in_span = span-part s.upper_held.in_span (omega arith) b };
              lower_held = record { some = t.drops.to; long = s.lower_held.long; in_span = span-part s.lower_held.in_span t.drops.from (omega arith) };
              slow_in = s.slow_in;
              fast_in = t.fast_in;
            };
        up_more = omega arith;
        down_most = omega arith;
      })

-- ---- the cut above
module _ {flip : Bool} {up down : Chain} {x : Polygon} {e : End} {n : Point} (s : Shape x up down) (z : Seen flip e n) {over : Bool} (o : over ≡ lt_z (pos 0) (gap (line_of x.fast) (point_of n))) where
  over_is : (b : Bool) → over ≡ b → lt_z (pos 0) (gap (line_of x.fast) (at flip e)) ≡ b
  over_is b p = sym (ap (λ N. lt_z (pos 0) (gap (line_of x.fast) N)) z.is) ∙ sym o ∙ p

  pub above-none : over ≡ false → AboveAt flip up down x e up x
  above-none p = record { is = sym (Steps.above-none (at flip e) (polygon_of flip up down x) (over_is false p)); shape = s; up_more = omega arith; down_most = omega arith }

  module _ {on : Bool} (f : on ≡ le_z (pos 0) (gap (line_of x.slow) (point_of n))) where
    on_is : (b : Bool) → on ≡ b → le_z (pos 0) (gap (line_of x.slow) (at flip e)) ≡ b
    on_is b p = sym (ap (λ N. le_z (pos 0) (gap (line_of x.slow) N)) z.is) ∙ sym f ∙ p

    pub above_one : over ≡ true → on ≡ true → {r : Polygon} → r ≡ record { upper = x.upper; lower = x.lower; slow = x.slow; fast = x.slow } → AboveAt flip up down x e up r
    above_one p h q =
        subst (AboveAt flip up down x e up) (sym q)
        (record {
          is = sym (Steps.above_one (at flip e) (polygon_of flip up down x) (over_is true p) (on_is true h));
          shape = record { upper_held = s.upper_held; lower_held = s.lower_held; slow_in = s.slow_in; fast_in = s.slow_in };
          up_more = omega arith;
          down_most = omega arith;
        })

    pub above_cut : over ≡ true → on ≡ false → {up' : Chain} {r : Polygon} → CutAt flip up down x e up' r → AboveAt flip up down x e up' r
    above_cut p h c = record { is = c.is ∙ sym (Steps.above_cut (at flip e) (polygon_of flip up down x) (over_is true p) (on_is false h)); shape = c.shape; up_more = c.up_more; down_most = c.down_most }

-- ---- the mirror image
abbrev pub flipped : Polygon → Polygon
flipped x = record { upper = x.lower; lower = x.upper; slow = neg_d x.fast; fast = neg_d x.slow }

shape-flipped : {x : Polygon} {up down : Chain} → Shape x up down → Shape (flipped x) down up
shape-flipped s = record { upper_held = s.lower_held; lower_held = s.upper_held; slow_in = bounded-mirrored s.fast_in; fast_in = bounded-mirrored s.slow_in }

pub shape-mirrored : {x m : Polygon} {up down : Chain} → m ≡ flipped x → Shape x up down → Shape m down up
shape-mirrored {up} {down} e s = subst (λ y. Shape y down up) (sym e) (shape-flipped s)

pub long-mirrored : (x : Polygon) {m : Polygon} {c : Chain} → m ≡ flipped x → Long (x.lower.end + 1) c → Long (m.upper.end + 1) c
long-mirrored x {m} {c} e l = subst (λ y. Long (y.upper.end + 1) c) (sym e) l

pub flipped-is : (x : Polygon) {a b : Line} → a ≡ neg_d x.fast → b ≡ neg_d x.slow → ◌≡◌ {A = Polygon} (record { upper = x.lower; lower = x.upper; slow = a; fast = b }) (flipped x)
flipped-is x a b = λ i. record { upper = x.lower; lower = x.upper; slow = a i; fast = b i }

module _ (up down : Chain) (x : Polygon) where
  -- the mirror image of what x stands for
  polygon_flipped : polygon_of true down up (flipped x) ≡ mirror_polygon (polygon_of false up down x)
  polygon_flipped =
      λ i.
      record {
        upper = part-mirrored down x.lower.start (x.lower.end - x.lower.start) i;
        lower = part-mirrored up x.upper.start (x.upper.end - x.upper.start) i;
        slow = negL (line_of x.fast);
        fast = negL (line_of x.slow);
      }

  polygon_back : polygon_of false up down (flipped x) ≡ mirror_polygon (polygon_of true down up x)
  polygon_back =
      λ i.
      record {
        upper = (sym (negs-negs (part (of_chain false up) x.lower.start (x.lower.end - x.lower.start))) ∙ ap negs (sym (part-mirrored up x.lower.start (x.lower.end - x.lower.start)))) i;
        lower = (sym (negs-negs (part (of_chain false down) x.upper.start (x.upper.end - x.upper.start))) ∙ ap negs (sym (part-mirrored down x.upper.start (x.upper.end - x.upper.start)))) i;
        slow = negL (line_of x.fast);
        fast = negL (line_of x.slow);
      }

-- ---- the cut below
pub below-cut : {up down down' : Chain} {x m r z : Polygon} {e : End} → m ≡ flipped x → AboveAt true down up m e down' r → z ≡ flipped r → BelowAt up down x e down' z
unfolding pop_above pop_below
below-cut {up} {down} {down'} {x} {m} {r} {z} {e} a c b =
    subst (λ v. BelowAt up down x e down' v) (sym b)
    (go (subst (λ v. AboveAt true down up v e down' r) a c))
  where
    go : AboveAt true down up (flipped x) e down' r → BelowAt up down x e down' (flipped r)
    go c =
        record {
          is = polygon_back up down' r ∙ ap mirror_polygon (c.is ∙ ap₂ (λ N y. pop_above N y) (end-mirrored e.time e.value) (polygon_flipped up down x));
          shape = shape-flipped c.shape;
          up_most = c.down_most;
          down_more = c.up_more;
        }
