-- Laws that rest on those of specs/State.antt.
--
--     cut_above_is, cut_below_lem     both keep the state
--
-- Assumes nothing.
use Rattle.std.specs.Prelude.{◌≡◌, refl, ◌⊎◌, zero, suc, ℤ, pos, negsuc, ◌≤ℤ◌, ◌<ℤ◌}
use Rattle.std.proofs.Common.{subst, inl, inr}
use Rattle.integers.specs.OrderLaws.{<ℤ→≤ℤ, ≤ℤ_of_≡, ≤ℤ_antisym}
use Rattle.definitions.specs.Lines.{Line}
use Rattle.chains.specs.Signs.{negsuc<0, pos≥0, suc>0}
use Rattle.chains.specs.Points.{Point, gap}
use Rattle.chains.specs.Mirror.{neg_p, neg_over, un_under, neg_l_neg_l, neg_p-neg_p, neg_<_flip}
use Rattle.chains.specs.Extremes.{Laws, mirror-laws}
use Rattle.chains.specs.Chain.{Polygon, mirror_polygon}
use Rattle.chains.specs.Cut.{Under, Over, With, keep_under}
use Rattle.chains.proofs.Step.{cut_chains}
use Rattle.chains.specs.State.{cut_above, cut_below, cut_fast, cut_slow, no_cut, one_line, only_slow, same-under, State, state-map, state-mirror, un-with, with_chains}

module _ {F : Line → Type 0} {Top Bot : Point → Type 0} {T : ℤ} (laws : Laws F Top Bot T) (N : Point) (late : T ≤ℤ N.t) where
  pub cut_above_is : ((B : Point) → Bot B → (B.t <ℤ N.t) ⊎ (B.u <ℤ N.u)) → (x : Polygon) → State F Top Bot x → gap x.slow N ≤ℤ pos 0
      → State (Under F N) (With Top N) Bot (cut_above N x)
  cut_above_is apart x z h = by (gap x.fast N) refl
    where
      inner : State F Top Bot x → pos 0 <ℤ gap x.fast N → (g : ℤ) → gap x.slow N ≡ g → State (Under F N) (With Top N) Bot (cut_slow keep_under g N x)
      inner (one_line o) k g e = absurd (same-under x.slow x.fast N (laws.positive _ o.slow_fits) (laws.positive _ o.fast_fits) o.same.slope o.same.intercept h k)
      inner (with_chains c) k (pos n) e = only_slow laws N late apart x (with_chains c) (≤ℤ_antisym h (pos≥0 _ n e))
      inner (with_chains c) k (negsuc n) e = with_chains (cut_chains laws N late x c (negsuc<0 _ n e) k)

      by : (g : ℤ) → gap x.fast N ≡ g → State (Under F N) (With Top N) Bot (cut_fast keep_under g N x)
      by (pos zero) e = no_cut laws N late x z (≤ℤ_of_≡ e)
      by (pos (suc n)) e = inner z (suc>0 _ n e) (gap x.slow N) refl
      by (negsuc n) e = no_cut laws N late x z (<ℤ→≤ℤ (negsuc<0 _ n e))

pub cut_below_lem : {F : Line → Type 0} {Top Bot : Point → Type 0} {T : ℤ} → Laws F Top Bot T → (N : Point) → T ≤ℤ N.t
    → ((B : Point) → Top B → (B.t <ℤ N.t) ⊎ (N.u <ℤ B.u)) → (x : Polygon) → State F Top Bot x → pos 0 ≤ℤ gap x.fast N
    → State (Over F N) Top (With Bot N) (cut_below N x)
cut_below_lem {F} {Top} {Bot} laws N late apart x z h =
    state-map (λ l f. (subst F (neg_l_neg_l l) f.0, un_under l N f.1)) (λ A a. subst Top (neg_p-neg_p A) a) (un-with Bot N)
    (state-mirror (cut_above (neg_p N) (mirror_polygon x)) (cut_above_is (mirror-laws laws) (neg_p N) late (λ B b. elim (apart (neg_p B) b) [ inl k ↦ inl k | inr k ↦ inr (neg_<_flip N.u B.u k) ]) (mirror_polygon x) (state-mirror x z) (neg_over x.fast N h)))
