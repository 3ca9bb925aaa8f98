-- A range joins a run, or it closes it: then two ranges of the run and the new one already have no line. And the polygon of a run, range by range.
--
--     neg-fits_range         the image of a line fits the image of a range that the line fits
--     Closed rs r            two ranges of rs that have no line together with r
--     closed_none            no line fits rs and r; closed-map: of a run with the same ranges
--     Verdict   r joins, and the polygon is known again, or it closes
--     Later, InOrder         the run's ranges, the last one first, in order: no low above its high, times that fall strictly along the list
--     run_of r s ws           the run r, s, and then ws, the last one first
--     polygon_of r s ws       its polygon: the start from r and s, and each of ws joined
--     last_time, run-until, last-earlier   the time of the last range, which no range of the run passes; a later range is after it
--
-- Further laws stand in proofs/Closing.antt.
-- Assumes nothing.
use Rattle.std.proofs.Common.{subst, ◌∙◌, ap, arith}
use Rattle.std.specs.Prelude.{◌≡◌, List, [], ◌∷◌, ℕ, ◌<◌, ◌≤◌, pos, ◌≤ℤ◌, ◌<ℤ◌}
use Rattle.integers.specs.Lists.{In, All, nil, cons, All_in, All-head, All-tail, All_imp}
use Rattle.definitions.specs.Ranges.{Range}
use Rattle.definitions.specs.Lines.{Line}
use Rattle.definitions.specs.Fit.{FitsRange, InFit, HasLine}
use Rattle.chains.specs.Points.{gap, Touches, Point}
use Rattle.chains.specs.Mirror.{negL, negR, neg_touches, neg_under, neg_over, neg_below}
use Rattle.chains.specs.Ends.{H, L, under_H, over_L, fits_range_is, time<, time≤, un-time<}
use Rattle.chains.specs.Extremes.{closed}
use Rattle.chains.specs.Chain.{Polygon}
use Rattle.chains.specs.Run.{source, Until, RunState, join, EndOf}
use Rattle.chains.specs.Start.{start}

-- ---- no line fits three ranges
abbrev pub NoLine : Range → Range → Range → Type 0
NoLine i j r = (l : Line) → pos 0 <ℤ l.d → FitsRange l i → FitsRange l j → FitsRange l r → ⊥

-- s touches the high end of i and the low end of the later j, and is above the high end of r
pub no_line-above : (s : Line) (i j r : Range) → pos 0 <ℤ s.d → i.time < j.time → j.time ≤ r.time → Touches s (H i) → Touches s (L j) → pos 0 <ℤ gap s (H r)
    → NoLine i j r
no_line-above s i j r s-over lt le a b k l l-over f g h =
    closed s l (H i) (L j) s-over l-over (time< _ _ lt) a b (under_H f) (over_L g) (H r) (time≤ _ _ le) k (under_H h)

pub neg-fits_range : {l : Line} {r : Range} → FitsRange l r → FitsRange (negL l) (negR r)
neg-fits_range {l} {r} f = fits_range_is (neg_under l (H r) (under_H f)) (neg_over l (L r) (over_L f))

-- s touches the low end of i and the high end of the later j, and is below the low end of r: the mirror image
pub no_line-below : (s : Line) (i j r : Range) → pos 0 <ℤ s.d → i.time < j.time → j.time ≤ r.time → Touches s (L i) → Touches s (H j) → gap s (L r) <ℤ pos 0
    → NoLine i j r
no_line-below s i j r s-over lt le a b k l l-over f g h =
    no_line-above (negL s) (negR i) (negR j) (negR r) s-over lt le (neg_touches s (L i) a) (neg_touches s (H j) b) (neg_below s (L r) k) (negL l) l-over (neg-fits_range f) (neg-fits_range g) (neg-fits_range h)

pub record Closed (rs : List Range) (r : Range) : Type 0 where
  pub first : Range
  pub second : Range
  pub first_in : In first rs
  pub second_in : In second rs
  pub earlier : first.time < second.time
  pub no_line : HasLine (first ∷ second ∷ r ∷ []) → ⊥

no-line-of : (i j r : Range) → NoLine i j r → HasLine (i ∷ j ∷ r ∷ []) → ⊥
no-line-of i j r none h = let e = h.fit.each in none h.line h.fit.positive (All-head e) (All-head (All-tail e)) (All-head (All-tail (All-tail e)))

until-then : (i j k : ℕ) → i ≤ j → j ≤ k → i ≤ k
until-then i j k h l = omega arith

module _ (rs : List Range) (T : ℕ) (u : Until rs T) (r : Range) (le : T ≤ r.time) where
  -- from two ends of the run, of which the first is the earlier one
  pub closed_of : (P Q : Range → Point) (P-time : (i : Range) → (P i).t ≡ pos i.time) (Q-time : (i : Range) → (Q i).t ≡ pos i.time) (A B : Point)
      → EndOf P rs A → EndOf Q rs B → A.t <ℤ B.t
      → ((i j : Range) → i.time < j.time → j.time ≤ r.time → A ≡ P i → B ≡ Q j → NoLine i j r)
      → Closed rs r
  closed_of P Q P-time Q-time A B a b rise none =
      let i = source P rs A a in
      let j = source Q rs B b in
      let earlier : i.range.time < j.range.time = un-time< _ _ (subst (λ t. t <ℤ pos j.range.time) (ap (λ C. C.t) i.is ∙ P-time i.range) (subst (λ t. A.t <ℤ t) (ap (λ C. C.t) j.is ∙ Q-time j.range) rise)) in
      record {
        first = i.range;
        second = j.range;
        first_in = i.among;
        second_in = j.among;
        earlier = earlier;
        no_line = no-line-of i.range j.range r (none i.range j.range earlier (until-then _ _ _ (All_in u j.among) le) i.is j.is);
      }

pub closed_none : (rs : List Range) (r : Range) → Closed rs r → (l : Line) → InFit (r ∷ rs) l → ⊥
closed_none rs r c l f =
    let rest = All-tail f.each in
    c.no_line (record { line = l; fit = record { positive = f.positive; each = cons (All_in rest c.first_in) (cons (All_in rest c.second_in) (cons (All-head f.each) nil)) } })

pub closed-map : {rs qs : List Range} {r : Range} → ((q : Range) → In q rs → In q qs) → Closed rs r → Closed qs r
closed-map f c = record { first = c.first; second = c.second; first_in = f _ c.first_in; second_in = f _ c.second_in; earlier = c.earlier; no_line = c.no_line }

-- ---- a range joins, and its polygon is known, or it closes
pub data Verdict (rs : List Range) (r : Range) (x : Polygon) : Type 0 where
  joins : RunState (r ∷ rs) (join r x) → Verdict rs r x
  closes : Closed rs r → Verdict rs r x

-- ---- the polygon of a run, the last range first
abbrev pub polygon_of : Range → Range → List Range → Polygon
polygon_of r s [] = start r s
polygon_of r s (w ∷ ws) = join w (polygon_of r s ws)

abbrev pub run_of : Range → Range → List Range → List Range
run_of r s [] = s ∷ r ∷ []
run_of r s (w ∷ ws) = w ∷ run_of r s ws

-- the ranges rs are earlier than r
abbrev pub Later : Range → List Range → Type 0
Later r rs = All (λ s. s.time < r.time) rs

abbrev pub InOrder : List Range → Type 0
InOrder [] = Unit {0}
InOrder (r ∷ rs) = (r.low ≤ℤ r.high) × Later r rs × InOrder rs

abbrev pub last_time : Range → List Range → ℕ
last_time s [] = s.time
last_time s (w ∷ ws) = w.time

until-head : (s : Range) (rs : List Range) → Later s rs → Until (s ∷ rs) s.time
until-head s rs a = cons {x = s} (omega arith) (All_imp (λ r h. earlier_until r.time s.time h) a)
  where
    earlier_until : (i j : ℕ) → i < j → i ≤ j
    earlier_until i j h = omega arith

pub run-until : (r s : Range) (ws : List Range) → InOrder (run_of r s ws) → Until (run_of r s ws) (last_time s ws)
run-until r s [] o = until-head s (r ∷ []) o.1
run-until r s (w ∷ ws) o = until-head w (run_of r s ws) o.1

pub last-earlier : (r s : Range) (ws : List Range) (w : Range) → Later w (run_of r s ws) → last_time s ws < w.time
last-earlier r s [] w a = All-head a
last-earlier r s (v ∷ ws) w a = All-head a
