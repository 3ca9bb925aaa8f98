-- The fit of a run of ranges, the last range first, and one more range.
--
--     EndOf P rs A               A is the end P of one of the ranges rs; TopOf rs the high ends, BotOf rs the low ends
--     Source, source, end_in     the range whose end A is; the end of a range
--     Until rs T                 no range is later than T
--     run-laws                   the fit of a run is a set of lines that the geometry takes
--     RunState rs x              x is the polygon of the fit of rs
--     join r x, join_by, join_if   one more range: the cut above at its high end and the cut below at its low end, or the lines through its one point
--
-- Further laws stand in proofs/Run.antt.
-- Assumes nothing.
use Rattle.std.specs.Prelude.{◌≡◌, refl, List, [], ◌∷◌, ◌⊎◌, ℕ, zero, suc, ◌≤◌, ℤ, pos, negsuc, ◌-ℤ◌, ◌≤ℤ◌}
use Rattle.std.proofs.Common.{sym, subst, ap, inl, inr}
use Rattle.integers.specs.Lists.{In, here, there, All, All_in, All_imp}
use Rattle.definitions.specs.Ranges.{Range}
use Rattle.definitions.specs.Fit.{InFit}
use Rattle.chains.specs.Points.{Point, gap}
use Rattle.chains.specs.Ends.{H, L, under_H, over_L, mean_fits, time≤}
use Rattle.chains.specs.Extremes.{Laws}
use Rattle.chains.specs.Chain.{Polygon}
use Rattle.chains.specs.Cut.{keep_under}
use Rattle.chains.specs.State.{State, Shorten, cut_above_by, cut_below_by}
use Rattle.chains.specs.Spot.{spot_by}

-- ---- the ends of a run's ranges
-- A is the end P of one of the ranges
abbrev pub EndOf : (Range → Point) → List Range → Point → Type 0
EndOf P [] A = ⊥
EndOf P (r ∷ rs) A = EndOf P rs A ⊎ (A ≡ P r)

abbrev pub TopOf : List Range → Point → Type 0
TopOf rs A = EndOf H rs A

abbrev pub BotOf : List Range → Point → Type 0
BotOf rs A = EndOf L rs A

-- the range whose end A is
pub record Source (P : Range → Point) (rs : List Range) (A : Point) : Type 0 where
  pub range : Range
  pub among : In range rs
  pub is : A ≡ P range

pub source : (P : Range → Point) (rs : List Range) (A : Point) → EndOf P rs A → Source P rs A
source P [] A a = absurd a
source P (r ∷ rs) A (inl a) = let s = source P rs A a in record { range = s.range; among = there s.among; is = s.is }
source P (r ∷ rs) A (inr e) = record { range = r; among = here refl; is = e }

pub end_in : (P : Range → Point) {r : Range} {rs : List Range} → In r rs → EndOf P rs (P r)
end_in P (here e) = inr (ap P e)
end_in P (there i) = inl (end_in P i)

-- what holds of the ends P of all the ranges
end-all : (P : Range → Point) (Q : Point → Type 0) {rs : List Range} → All (λ r. Q (P r)) rs → (A : Point) → EndOf P rs A → Q A
end-all P Q {rs} h A a = let s = source P rs A a in subst Q (sym s.is) (All_in h s.among)

-- no range is later than T
abbrev pub Until : List Range → ℕ → Type 0
Until rs T = All (λ r. r.time ≤ T) rs

end-until : (P : Range → Point) (rs : List Range) (T : ℕ) → ((r : Range) → (P r).t ≡ pos r.time) → Until rs T → (A : Point) → EndOf P rs A → A.t ≤ℤ pos T
end-until P rs T e u = end-all P (λ B. B.t ≤ℤ pos T) (All_imp (λ r h. subst (λ t. t ≤ℤ pos T) (sym (e r)) (time≤ r.time T h)) u)

pub run-laws : (rs : List Range) (T : ℕ) → Until rs T → Laws (InFit rs) (TopOf rs) (BotOf rs) (pos T)
run-laws rs T u =
    record {
      positive = λ l f. f.positive;
      under = λ l A a f. end-all H (λ B. gap l B ≤ℤ pos 0) (All_imp (λ r. under_H) f.each) A a;
      over = λ l A a f. end-all L (λ B. pos 0 ≤ℤ gap l B) (All_imp (λ r. over_L) f.each) A a;
      top_early = end-until H rs T (λ r. refl) u;
      bot_early = end-until L rs T (λ r. refl) u;
      mean = λ l v w c α β m h f g. mean_fits l v w c α β rs m h f g;
    }

abbrev pub RunState : List Range → Polygon → Type 0
RunState rs x = State (InFit rs) (TopOf rs) (BotOf rs) x

-- ---- one more range
abbrev pub join_if : Shorten → ℤ → Range → Polygon → Polygon
join_if shorten (pos zero) r x = spot_by shorten (H r) x
join_if shorten (pos (suc n)) r x = cut_below_by shorten (L r) (cut_above_by shorten (H r) x)
join_if shorten (negsuc n) r x = x

abbrev pub join_by : Shorten → Range → Polygon → Polygon
join_by shorten r x = join_if shorten (r.high -ℤ r.low) r x

abbrev pub join : Range → Polygon → Polygon
join r x = join_by keep_under r x
