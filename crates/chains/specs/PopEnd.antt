-- The step as code does it: the upper chain is popped from its end. On a polygon that keeps the invariant it is the step of `State`, `Spot` and `Run`.
--
--     pop_above, pop_below, pop_spot, pop_join   cut_above, cut_below, spot and join, with pop_end for keep_under
--     above_same, below-same, spot_same   they are the same on a state
--
-- The code's contracts are equations with these, and so none of them asks for the invariant.
-- Further laws stand in proofs/PopEnd.antt.
-- Assumes nothing.
use Rattle.std.specs.Prelude.{◌≡◌, zero, suc, ℤ, negsuc, ◌≤ℤ◌, ◌<ℤ◌}
use Rattle.std.proofs.Math.Path.{refl, ap}
use Rattle.std.proofs.Math.IntN.{pos}
use Rattle.integers.specs.OrderLaws.{<ℤ→≤ℤ}
use Rattle.definitions.specs.Ranges.{Range}
use Rattle.definitions.specs.Lines.{Line}
use Rattle.chains.specs.Signs.{negsuc<0, suc>0}
use Rattle.chains.specs.Points.{Point, gap}
use Rattle.chains.specs.Mirror.{neg_p}
use Rattle.chains.specs.Extremes.{Laws, mirror-laws}
use Rattle.chains.specs.Chain.{mirror_polygon, Polygon}
use Rattle.chains.specs.Cut.{keep_under}
use Rattle.chains.specs.Step.{cut_with}
use Rattle.chains.specs.State.{Single, State, same-under, cut_above, cut_fast, cut_slow, cut_below, state-mirror, one_line, with_chains, cut_above_by, cut_below_by}
use Rattle.chains.specs.Spot.{spot, spot_slow, spot_fast, spot_by, spot_with}
use Rattle.chains.specs.Run.{join_by}
use Rattle.chains.specs.Pop.{pop_keep, pop_end}

unfoldable pub pop_above : Point → Polygon → Polygon
pop_above N x = cut_above_by pop_end N x

unfoldable pub pop_below : Point → Polygon → Polygon
pop_below N x = cut_below_by pop_end N x

unfoldable pub pop_spot : Point → Polygon → Polygon
pop_spot N x = spot_by pop_end N x

unfoldable pub pop_join : Range → Polygon → Polygon
pop_join r x = join_by pop_end r x

-- ---- on a state they are the same
module _ {F : Line → Type 0} {Top Bot : Point → Type 0} {T : ℤ} (laws : Laws F Top Bot T) (N : Point) (late : T ≤ℤ N.t) where
  no_single : (x : Polygon) → Single F Top Bot x → gap x.slow N <ℤ pos 0 → pos 0 <ℤ gap x.fast N → ⊥
  no_single x o h k = same-under x.slow x.fast N (laws.positive _ o.slow_fits) (laws.positive _ o.fast_fits) o.same.slope o.same.intercept (<ℤ→≤ℤ h) k

  pub above_same : (x : Polygon) → State F Top Bot x → pop_above N x ≡ cut_above N x
  unfolding pop_above
  above_same x z = by (gap x.fast N) refl
    where
      inner : State F Top Bot x → pos 0 <ℤ gap x.fast N → (g : ℤ) → gap x.slow N ≡ g → cut_slow pop_end g N x ≡ cut_slow keep_under g N x
      inner z k (pos n) e = refl
      inner (with_chains c) k (negsuc n) e = ap (λ ks. cut_with ks N x) (pop_keep laws N late c.up)
      inner (one_line o) k (negsuc n) e = absurd (no_single x o (negsuc<0 _ n e) k)

      by : (g : ℤ) → gap x.fast N ≡ g → cut_fast pop_end g N x ≡ cut_fast keep_under g N x
      by (pos zero) e = refl
      by (pos (suc n)) e = inner z (suc>0 _ n e) (gap x.slow N) refl
      by (negsuc n) e = refl

  pub spot_same : (x : Polygon) → State F Top Bot x → pop_spot N x ≡ spot N x
  unfolding pop_spot
  spot_same x z = by (gap x.slow N) refl
    where
      inner : State F Top Bot x → gap x.slow N <ℤ pos 0 → (g : ℤ) → gap x.fast N ≡ g → spot_fast pop_end g N x ≡ spot_fast keep_under g N x
      inner z k (pos zero) e = refl
      inner (with_chains c) k (pos (suc n)) e = ap (λ ks. spot_with ks N x) (pop_keep laws N late c.up)
      inner (one_line o) k (pos (suc n)) e = absurd (no_single x o k (suc>0 _ n e))
      inner z k (negsuc n) e = refl

      by : (g : ℤ) → gap x.slow N ≡ g → spot_slow pop_end g N x ≡ spot_slow keep_under g N x
      by (pos n) e = refl
      by (negsuc n) e = inner z (negsuc<0 _ n e) (gap x.fast N) refl

pub below-same : {F : Line → Type 0} {Top Bot : Point → Type 0} {T : ℤ} → Laws F Top Bot T → (N : Point) → T ≤ℤ N.t → (x : Polygon) → State F Top Bot x
    → pop_below N x ≡ cut_below N x
unfolding pop_above pop_below
below-same laws N late x z = ap mirror_polygon (above_same (mirror-laws laws) (neg_p N) late (mirror_polygon x) (state-mirror x z))
