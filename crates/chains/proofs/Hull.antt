-- Laws that rest on those of specs/Hull.antt.
--
--     lines-negs                   the lines of the mirror image
--     hull                         every line of the fit is a weighted mean of the corners
--
-- Assumes nothing.
use Rattle.std.specs.Prelude.{◌≡◌, refl, List, [], ◌∷◌, map, ℤ}
use Rattle.std.proofs.Common.{sym, ap₂, subst}
use Rattle.integers.specs.Lists.{In, here, there, in_append_left, in_append_right, All, All_of, All-map}
use Rattle.definitions.specs.Lines.{Line}
use Rattle.chains.specs.Points.{Point, SlopeAtMost}
use Rattle.chains.specs.Mirror.{neg_p, negL, negs, neg_l_neg_l, through-neg, neg_slope≤}
use Rattle.chains.specs.Extremes.{Laws, mirror-laws, slowest, fastest}
use Rattle.chains.specs.Chain.{Polygon, Chains, first_fits, last_fits}
use Rattle.chains.specs.Weights.{WholeMean}
use Rattle.chains.specs.Hull.{above_of, beneath-of, combine, corners_of, lines_from, lines_of, Two, two}

lines_from-negs : (A : Point) (xs : List Point) → lines_from (neg_p A) (negs xs) ≡ map negL (lines_from A xs)
lines_from-negs A [] = refl
lines_from-negs A (B ∷ xs) = ap₂ (λ l ls. l ∷ ls) (sym (through-neg A B)) (lines_from-negs B xs)

pub lines-negs : (xs : List Point) → lines_of (negs xs) ≡ map negL (lines_of xs)
lines-negs [] = refl
lines-negs (A ∷ xs) = lines_from-negs A xs

module _ {F : Line → Type 0} {Top Bot : Point → Type 0} {T : ℤ} (laws : Laws F Top Bot T) (x : Polygon) (ch : Chains F Top Bot x) where
  pub hull : (l : Line) → F l → WholeMean (corners_of x) l
  hull l fl = combine (above_of above) (beneath-of beneath)
    where
      lo : SlopeAtMost x.slow l
      lo = slowest laws x.slow (first_fits ch.up) ch.slow_ends l fl

      hi : SlopeAtMost l x.fast
      hi = fastest laws x.fast (last_fits ch.up) ch.fast_ends l fl

      in_fast : In x.fast (corners_of x)
      in_fast = there (in_append_right (lines_of x.upper) (here refl))

      twice : (m : Line) → In m (corners_of x) → In (negL (negL m)) (corners_of x)
      twice m i = subst (λ k. In k (corners_of x)) (sym (neg_l_neg_l m)) i

      above : Two (λ m. In m (corners_of x)) l
      above = two laws (λ m. In m (corners_of x)) l fl ch.up (here refl) (All_of (lines_of x.upper) (λ m i. there (in_append_left _ i))) in_fast lo hi

      beneath : Two (λ m. In (negL m) (corners_of x)) (negL l)
      beneath =
          two (mirror-laws laws) (λ m. In (negL m) (corners_of x)) (negL l) (subst F (sym (neg_l_neg_l l)) fl) ch.down (twice x.fast in_fast)
          (subst (All (λ m. In (negL m) (corners_of x))) (sym (lines-negs x.lower)) (All-map negL (All_of (lines_of x.lower) (λ m i. twice m (there (in_append_right (lines_of x.upper) (there i)))))))
          (twice x.slow (here refl)) (neg_slope≤ l x.fast hi) (neg_slope≤ x.slow l lo)
