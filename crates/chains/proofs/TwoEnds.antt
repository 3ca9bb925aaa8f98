-- Laws that rest on those of specs/TwoEnds.antt.
--
--     same_ends, ends_fit  the line through the two ends, with the numbers that the candidates have; l is this line; it fits where l does
--     same-through  a line is the line through two of its points; its d is above 0; the same line fits the same ranges
--     top_then_bottom, bottom_then_top   slow and fast by their ends
--
-- Assumes nothing.
use Rattle.std.specs.Prelude.{◌≡◌, List, ℕ, ◌<◌, ℤ, pos, ◌*ℤ◌, ◌<ℤ◌}
use Rattle.std.proofs.Common.{sym, subst}
use Rattle.definitions.specs.Ranges.{Range}
use Rattle.definitions.specs.Lines.{Line, reading, through}
use Rattle.definitions.specs.Fit.{InFit, SameLine}
use Rattle.chains.specs.Points.{Point, Touches, same_line, through-first, through-second}
use Rattle.chains.specs.Mirror.{image_touches, neg_p}
use Rattle.chains.specs.Ends.{time<, un-time<}
use Rattle.chains.specs.Extremes.{BottomThenTop, TopThenBottom}
use Rattle.chains.specs.Run.{BotOf, EndOf, TopOf, source}
use Rattle.chains.specs.TwoEnds.{joined_ends, point_at, reading_touches, same-fits, through-positive, ThroughEnds, ThroughTwoEnds, touches_reading}

pub same-through : (l : Line) (i j : ℕ) (u v : ℤ) → i < j → reading l i ≡ l.d *ℤ u → reading l j ≡ l.d *ℤ v → SameLine l (through i u j v)
unfolding through
same-through l i j u v lt a b =
    let A : Point = record { t = pos i; u = u } in
    let B : Point = record { t = pos j; u = v } in
    same_line l (through i u j v) A B (time< i j lt) (reading_touches l i u a) (reading_touches l j v b) (through-first A B) (through-second A B)

module _ {rs : List Range} {l : Line} (t : ThroughTwoEnds rs l) where
  pub same_ends : SameLine (joined_ends t) l
  same_ends =
      let s = same-through l t.first.time t.second.time t.first_value t.second_value t.earlier t.on_first t.on_second in
      record { slope = sym s.slope; intercept = sym s.intercept }

  pub ends_fit : InFit rs l → InFit rs (joined_ends t)
  ends_fit f = same-fits rs (joined_ends t) l same_ends (through-positive t.first.time t.second.time t.first_value t.second_value t.earlier) f

-- slow and fast
module _ (P Q : Range → ℤ) (rs : List Range) (l : Line) where
  ends_of : (A B : Point) → EndOf (λ r. point_at r (P r)) rs A → EndOf (λ r. point_at r (Q r)) rs B → A.t <ℤ B.t → Touches l A → Touches l B → ThroughEnds P Q rs l
  ends_of A B a b rise on-a on-b =
      let i = source (λ r. point_at r (P r)) rs A a in
      let j = source (λ r. point_at r (Q r)) rs B b in
      let earlier : i.range.time < j.range.time = un-time< _ _ (subst (λ C. pos i.range.time <ℤ C.t) j.is (subst (λ C. C.t <ℤ B.t) i.is rise)) in
      record {
        first = i.range;
        second = j.range;
        first_in = i.among;
        second_in = j.among;
        earlier = earlier;
        same =
            same-through l i.range.time j.range.time (P i.range) (Q j.range) earlier
            (touches_reading l i.range.time (P i.range) (subst (Touches l) i.is on-a))
            (touches_reading l j.range.time (Q j.range) (subst (Touches l) j.is on-b));
      }

pub top_then_bottom : (rs : List Range) (l : Line) → TopThenBottom (TopOf rs) (BotOf rs) l → ThroughEnds (λ r. r.high) (λ r. r.low) rs l
top_then_bottom rs l e = ends_of (λ r. r.high) (λ r. r.low) rs l e.first e.second e.top e.bot e.rise e.on_first e.on_second

pub bottom_then_top : (rs : List Range) (l : Line) → BottomThenTop (TopOf rs) (BotOf rs) l → ThroughEnds (λ r. r.low) (λ r. r.high) rs l
bottom_then_top rs l e =
    ends_of (λ r. r.low) (λ r. r.high) rs l (neg_p e.first) (neg_p e.second) e.top e.bot e.rise (image_touches l e.first e.on_first) (image_touches l e.second e.on_second)
