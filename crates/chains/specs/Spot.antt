-- The lines through a later point N: the polygon after a range whose low is its high.
--
--     On F N                    the lines of F through N
--     spot_cut N x               where slow is below N and fast above it: slow and fast are the lines from the upper chain's new end and from the lower chain's new head to N, and both chains are N alone
--     spot_with ks N x           the same with ks left of the upper chain
--     spot N x, spot_by          (spot_slow, spot_fast) slow alone or fast alone where one of them touches N, and spot_cut else
--
-- Further laws stand in proofs/Spot.antt.
-- Assumes nothing.
use Rattle.std.specs.Prelude.{refl, [], ◌∷◌, List, zero, suc, ℤ, pos, negsuc, ◌<ℤ◌}
use Rattle.std.proofs.Common.{subst, inr}
use Rattle.integers.specs.OrderLaws.{≤ℤ_<ℤ-trans}
use Rattle.definitions.specs.Lines.{Line}
use Rattle.chains.specs.Points.{Point, gap, Touches, through}
use Rattle.chains.specs.Mirror.{neg_p, negL, neg_touches, neg_l_neg_l, neg_p-neg_p}
use Rattle.chains.specs.Extremes.{Laws, TopThenBottom, BottomThenTop, mirror-laws, bottom-top}
use Rattle.chains.specs.Chain.{ends-map, head_of, last_of, Polygon}
use Rattle.chains.specs.Cut.{With, keep_under, drop_over}
use Rattle.chains.specs.State.{alone, un-with, Shorten}

abbrev pub On : (Line → Type 0) → Point → Line → Type 0
On F N l = F l × Touches l N

-- with ks left of the upper chain
abbrev pub spot_with : List Point → Point → Polygon → Polygon
spot_with ks N x = record { upper = N ∷ []; lower = N ∷ []; slow = through (last_of ks) N; fast = through (head_of (drop_over N x.lower)) N }

abbrev pub spot_cut : Point → Polygon → Polygon
spot_cut N x = spot_with (keep_under N x.upper) N x

-- a point of P from which the line to N is in F
pub record Anchor (F : Line → Type 0) (P : Point → Type 0) (N A : Point) : Type 0 where
  pub is : P A
  pub before : A.t <ℤ N.t
  pub fits : F (through A N)

-- ---- a line that touches N: N is its later end
module _ {F : Line → Type 0} {Top Bot : Point → Type 0} {T : ℤ} (laws : Laws F Top Bot T) (N : Point) (late : T <ℤ N.t) (l : Line) (h : Touches l N) where
  pub ends_then_top : TopThenBottom Top Bot l → BottomThenTop (With Top N) Bot l
  ends_then_top e = bottom-top (With Top N) Bot l e.second N e.bot (inr refl) (≤ℤ_<ℤ-trans (laws.bot_early _ e.bot) late) e.on_second h

pub ends_then-bottom : {F : Line → Type 0} {Top Bot : Point → Type 0} {T : ℤ} → Laws F Top Bot T → (N : Point) → T <ℤ N.t → (l : Line) → Touches l N
    → BottomThenTop Top Bot l
    → TopThenBottom Top (With Bot N) l
ends_then-bottom {F} {Top} {Bot} laws N late l h e =
    subst (TopThenBottom Top (With Bot N)) (neg_l_neg_l l)
    (ends-map (λ A a. subst Top (neg_p-neg_p A) a) (un-with Bot N) (ends_then_top (mirror-laws laws) (neg_p N) late (negL l) (neg_touches l N h) e))

-- ---- on any state
abbrev pub spot_fast : Shorten → ℤ → Point → Polygon → Polygon
spot_fast shorten (pos zero) N x = alone x.fast x
spot_fast shorten (pos (suc n)) N x = spot_with (shorten N x.upper) N x
spot_fast shorten (negsuc n) N x = x

abbrev pub spot_slow : Shorten → ℤ → Point → Polygon → Polygon
spot_slow shorten (pos n) N x = alone x.slow x
spot_slow shorten (negsuc n) N x = spot_fast shorten (gap x.fast N) N x

abbrev pub spot_by : Shorten → Point → Polygon → Polygon
spot_by shorten N x = spot_slow shorten (gap x.slow N) N x

abbrev pub spot : Point → Polygon → Polygon
spot N x = spot_by keep_under N x
