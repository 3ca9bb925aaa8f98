-- One step of the polygon as code takes it: each branch by the tests that lead to it.
--
--     above-none, above_one, above_cut             the cut above at N: fast is not above N; slow touches it; the chains are cut
--     spot_slow_is, spot_cut, spot_fast_is, spot_none    the lines through N: slow touches it; both are cut; fast touches it; fast is below it
--     push_on, push_off                            N goes on the chain, or does not
--     join_wide, join_point                        a further range: with a low below its high, with one value
--     start_first, start_second, start_both        two ranges: the first has one value, only the second has, neither has
--     list_one, list-many                          the listed corners: slow and fast have one slope, or not
--
-- Assumes nothing.
use Rattle.std.specs.Prelude.{◌≡◌, true, false, List, [], ◌∷◌, ◌++◌, ℕ, zero, suc, ℤ, pos, negsuc, ◌-ℤ◌, ◌<ℤ◌}
use Rattle.std.proofs.Math.Path.{refl, ap}
use Rattle.std.proofs.Common.{◌∙◌}
use Rattle.std.specs.Int.Signed.{le_z, lt_z}
use Rattle.integers.specs.RingSolver.{lit}
use Rattle.integers.specs.Certificates.{hyp, num, eqn, ◌⊞◌}
use Rattle.integers.specs.Solve.{claims, certify! }
use Rattle.definitions.specs.Ranges.{Range}
use Rattle.chains.specs.Signs.{negsuc<0}
use Rattle.chains.specs.Points.{Point, gap, turn}
use Rattle.chains.specs.Ends.{H, L}
use Rattle.chains.specs.Chain.{Polygon}
use Rattle.chains.specs.Step.{push_if, cut_with}
use Rattle.chains.specs.State.{alone, cut_fast, cut_slow}
use Rattle.chains.specs.Spot.{spot_with, spot_fast, spot_slow}
use Rattle.chains.specs.Run.{join_if}
use Rattle.chains.specs.Start.{start, start_if, start_with}
use Rattle.chains.specs.Pop.{pop_end}
use Rattle.chains.specs.PopEnd.{pop_above, pop_below, pop_spot, pop_join}
use Rattle.chains.specs.Hull.{corners_of}
use Rattle.chains.specs.Listing.{list_if, list_of}
use Rattle.drift_laws.specs.TestedSigns.{by_over, by_not_over, by_not_under, by_under, by_on}

module _ (N : Point) (x : Polygon) where
  pub above-none : lt_z (pos 0) (gap x.fast N) ≡ false → pop_above N x ≡ x
  unfolding pop_above
  above-none e = by_not_over (λ g. cut_fast pop_end g N x ≡ x) (gap x.fast N) e refl (λ n. refl)

  above_some : lt_z (pos 0) (gap x.fast N) ≡ true → pop_above N x ≡ cut_slow pop_end (gap x.slow N) N x
  unfolding pop_above
  above_some e = by_over (λ g. cut_fast pop_end g N x ≡ cut_slow pop_end (gap x.slow N) N x) (gap x.fast N) e (λ n. refl)

  pub above_one : lt_z (pos 0) (gap x.fast N) ≡ true → le_z (pos 0) (gap x.slow N) ≡ true → pop_above N x ≡ alone x.slow x
  above_one e h = above_some e ∙ by_not_under (λ g. cut_slow pop_end g N x ≡ alone x.slow x) (gap x.slow N) h (λ n. refl)

  pub above_cut : lt_z (pos 0) (gap x.fast N) ≡ true → le_z (pos 0) (gap x.slow N) ≡ false → pop_above N x ≡ cut_with (pop_end N x.upper) N x
  above_cut e h = above_some e ∙ by_under (λ g. cut_slow pop_end g N x ≡ cut_with (pop_end N x.upper) N x) (gap x.slow N) h (λ n. refl)

  pub spot_slow_is : le_z (pos 0) (gap x.slow N) ≡ true → pop_spot N x ≡ alone x.slow x
  unfolding pop_spot
  spot_slow_is e = by_not_under (λ g. spot_slow pop_end g N x ≡ alone x.slow x) (gap x.slow N) e (λ n. refl)

  module _ (e : le_z (pos 0) (gap x.slow N) ≡ false) where
    spot_past : pop_spot N x ≡ spot_fast pop_end (gap x.fast N) N x
    unfolding pop_spot
    spot_past = by_under (λ g. spot_slow pop_end g N x ≡ spot_fast pop_end (gap x.fast N) N x) (gap x.slow N) e (λ n. refl)

    pub spot_cut : lt_z (pos 0) (gap x.fast N) ≡ true → pop_spot N x ≡ spot_with (pop_end N x.upper) N x
    spot_cut h = spot_past ∙ by_over (λ g. spot_fast pop_end g N x ≡ spot_with (pop_end N x.upper) N x) (gap x.fast N) h (λ n. refl)

    pub spot_fast_is : lt_z (pos 0) (gap x.fast N) ≡ false → le_z (pos 0) (gap x.fast N) ≡ true → pop_spot N x ≡ alone x.fast x
    spot_fast_is h k = spot_past ∙ by_on (λ g. spot_fast pop_end g N x ≡ alone x.fast x) (gap x.fast N) h k refl

    pub spot_none : le_z (pos 0) (gap x.fast N) ≡ false → pop_spot N x ≡ x
    spot_none h = spot_past ∙ by_under (λ g. spot_fast pop_end g N x ≡ x) (gap x.fast N) h (λ n. refl)

module _ (g : ℤ) (ks : List Point) (N : Point) where
  pub push_on : lt_z (pos 0) g ≡ true → push_if g ks N ≡ ks ++ (N ∷ [])
  push_on e = by_over (λ g. push_if g ks N ≡ ks ++ (N ∷ [])) g e (λ n. refl)

  pub push_off : lt_z (pos 0) g ≡ false → push_if g ks N ≡ ks
  push_off e = by_not_over (λ g. push_if g ks N ≡ ks) g e refl (λ n. refl)

-- ---- by the width of a range
wide-zero : (h l : ℤ) → h -ℤ l ≡ pos 0 → l <ℤ h → ⊥
wide-zero h l = certify! (h ∷ l ∷ []) (search claims depth 40) (num 1) (hyp 1 ⊞ eqn 0 (lit (pos 1))) tt

wide-neg : (h l : ℤ) → (h -ℤ l) <ℤ pos 0 → l <ℤ h → ⊥
wide-neg h l = certify! (h ∷ l ∷ []) (search claims depth 40) (num 1) (hyp 0 ⊞ hyp 1) tt

point-zero : (h l : ℤ) → l ≡ h → h -ℤ l ≡ pos 0
point-zero h l = certify! (h ∷ l ∷ []) (search claims depth 40) (num 1) (eqn 0 (lit (negsuc 0))) tt

-- a low below its high
by_wide : (P : ℤ → Type 0) (r : Range) → r.low <ℤ r.high → ((n : ℕ) → P (pos (suc n))) → P (r.high -ℤ r.low)
by_wide P r h f = by (r.high -ℤ r.low) refl
  where
    by : (g : ℤ) → r.high -ℤ r.low ≡ g → P g
    by (pos zero) e = absurd (wide-zero r.high r.low e h)
    by (pos (suc n)) e = f n
    by (negsuc n) e = absurd (wide-neg r.high r.low (negsuc<0 _ n e) h)

module _ (r : Range) (x : Polygon) where
  pub join_wide : r.low <ℤ r.high → pop_join r x ≡ pop_below (L r) (pop_above (H r) x)
  unfolding pop_join pop_above pop_below
  join_wide h = by_wide (λ g. join_if pop_end g r x ≡ pop_below (L r) (pop_above (H r) x)) r h (λ n. refl)

  pub join_point : r.low ≡ r.high → pop_join r x ≡ pop_spot (H r) x
  unfolding pop_join pop_spot
  join_point e = ap (λ g. join_if pop_end g r x) (point-zero r.high r.low e)

module _ (r s : Range) where
  pub start_first : r.low ≡ r.high → start r s ≡ start_with (H r ∷ []) (L r ∷ []) r s
  start_first e = ap (λ g. start_if g (s.high -ℤ s.low) r s) (point-zero r.high r.low e)

  pub start_second : r.low <ℤ r.high → s.low ≡ s.high → start r s ≡ start_with (H s ∷ []) (L s ∷ []) r s
  start_second h e = ap (λ g. start_if (r.high -ℤ r.low) g r s) (point-zero s.high s.low e) ∙ by_wide (λ g. start_if g (pos 0) r s ≡ start_with (H s ∷ []) (L s ∷ []) r s) r h (λ n. refl)

  pub start_both : r.low <ℤ r.high → s.low <ℤ s.high → start r s ≡ start_with (H r ∷ H s ∷ []) (L r ∷ L s ∷ []) r s
  start_both h k =
      by_wide (λ g. start_if g (s.high -ℤ s.low) r s ≡ start_with (H r ∷ H s ∷ []) (L r ∷ L s ∷ []) r s) r h
      (λ m. by_wide (λ j. start_if (pos (suc m)) j r s ≡ start_with (H r ∷ H s ∷ []) (L r ∷ L s ∷ []) r s) s k (λ n. refl))

-- ---- the list of corners
module _ (x : Polygon) where
  pub list-many : lt_z (pos 0) (turn x.slow x.fast) ≡ true → list_of x ≡ corners_of x
  list-many e = by_over (λ g. list_if g x ≡ corners_of x) (turn x.slow x.fast) e (λ n. refl)

  pub list_one : lt_z (pos 0) (turn x.slow x.fast) ≡ false → list_of x ≡ x.slow ∷ []
  list_one e = by_not_over (λ g. list_if g x ≡ x.slow ∷ []) (turn x.slow x.fast) e refl (λ n. refl)
