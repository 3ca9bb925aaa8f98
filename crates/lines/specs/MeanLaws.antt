-- Laws of weighted means of lines: they do not depend on the terms in which lines are given, and the test `between` finds means.
--
--     mean-reduced           a weighted mean of lines is one of the same lines in lowest terms
--     mean-same              lines that restate each other are means of the same lines, with the same weights
--     Corner_same            a line that restates a corner is a corner
--     MeanOfTwo              the mean of two lines, in slope or in intercept, with integers for weights
--     mean-of_two            with weights that are not below 0, nor both 0, it is a weighted mean; two_of_mean: the other way round
--     between_means          a line that passes the test `between` for two others is strictly between them
--
-- Assumes nothing.
use Rattle.std.specs.Prelude.{◌≡◌, ◌&&◌, ℕ, ◌+◌, ◌<◌, ℤ, pos, negsuc, ◌+ℤ◌, ◌-ℤ◌, ◌*ℤ◌, ◌≤ℤ◌, ◌<ℤ◌}
use Rattle.std.proofs.Math.Path.{refl}
use Rattle.std.proofs.Common.{sym, ◌∙◌, ap, subst, subst₂, add-zero}
use mathlib.Core.List.{List, [], ◌∷◌, map}
use Rattle.std.proofs.Math.Dec.{T}
use Rattle.std.proofs.Math.IntN.{nat_abs}
use Rattle.std.proofs.lemmas.List.{length-map}
use Rattle.integers.specs.Parts.{ints}
use Rattle.integers.specs.OrderLaws.{nonneg_pos, <ℤ→≤ℤ, mul-pos, sub-pos}
use Rattle.integers.specs.RingSolver.{var, lit, :neg, ◌:*◌, ◌:-◌}
use Rattle.integers.specs.Certificates.{hyp, num, eqn, ◌⊞◌, ◌⊠◌}
use Rattle.integers.specs.Quotes.{quotes, ring! }
use Rattle.integers.specs.Solve.{claims, certify! }
use Rattle.integers.specs.Tests.{eq_z, eq_z-yes}
use Rattle.integers.specs.Booleans.{and_left, and_right}
use Rattle.integers.specs.Lists.{All, nil, cons}
use Rattle.integers.specs.Divides.{abs_above_0}
use Rattle.definitions.specs.Ranges.{Range}
use Rattle.definitions.specs.Lines.{Line}
use Rattle.definitions.specs.Corners.{reduced, before, side, between}
use Rattle.definitions.specs.Fit.{SameLine, total, weighted_sum, MeanOf, IsMean, WeightedMean, StrictlyBetween, Corner}
use Rattle.lines.specs.LineOrder.{Positive, Restates, restates_sym, same-trans, same-sym, reduced_restates, InFit_same, Precedes, by_slope_is, by_intercept, before_means, precedes-distinct, below_equal, equal-below}

-- ---- the mean of lines in other terms

sum-cross : (w fl ld fm md sn sd sn' sd' : ℤ) → fl *ℤ md ≡ fm *ℤ ld → sn *ℤ sd' ≡ sn' *ℤ sd
    → (w *ℤ fl *ℤ sd +ℤ sn *ℤ ld) *ℤ (md *ℤ sd') ≡ (w *ℤ fm *ℤ sd' +ℤ sn' *ℤ md) *ℤ (ld *ℤ sd)
sum-cross w fl ld fm md sn sd sn' sd' =
    certify! (w ∷ fl ∷ ld ∷ fm ∷ md ∷ sn ∷ sd ∷ sn' ∷ sd' ∷ []) (search claims depth 60) (num 1)
    (eqn 0 (var 0 :* var 6 :* var 8) ⊞ eqn 1 (var 2 :* var 4)) tt

cross-lines : (sn sd sn' sd' w fl ld : ℤ) → pos 0 <ℤ sd → sn *ℤ sd' ≡ sn' *ℤ sd → sn *ℤ ld ≡ w *ℤ fl *ℤ sd → sn' *ℤ ld ≡ w *ℤ fl *ℤ sd'
cross-lines sn sd sn' sd' w fl ld =
    certify! (sn ∷ sd ∷ sn' ∷ sd' ∷ w ∷ fl ∷ ld ∷ []) (search claims depth 60) (hyp 0) (eqn 1 (:neg (var 6)) ⊞ eqn 2 (var 3)) tt

cross-mean : (sn sd w fl ld fm md : ℤ) → pos 0 <ℤ ld → fl *ℤ md ≡ fm *ℤ ld → sn *ℤ ld ≡ w *ℤ fl *ℤ sd → sn *ℤ md ≡ w *ℤ fm *ℤ sd
cross-mean sn sd w fl ld fm md =
    certify! (sn ∷ sd ∷ w ∷ fl ∷ ld ∷ fm ∷ md ∷ []) (search claims depth 60) (hyp 0) (eqn 1 (var 1 :* var 2) ⊞ eqn 2 (var 6)) tt

-- f of a line over its d is slope or intercept: the same for the same line
module _ (f : Line → ℤ) (of-line : (l m : Line) → SameLine l m → f l *ℤ m.d ≡ f m *ℤ l.d) where
  den_positive : (ws : List ℕ) {ls : List Line} → All Positive ls → pos 0 <ℤ (weighted_sum f ws ls).den
  unfolding weighted_sum
  den_positive [] h = omega ints
  den_positive (w ∷ ws) nil = omega ints
  den_positive (w ∷ ws) (cons h hs) = mul-pos h (den_positive ws hs)

  sum_reduced : (ws : List ℕ) {ls : List Line} → All Positive ls
      → (weighted_sum f ws ls).num *ℤ (weighted_sum f ws (map reduced ls)).den ≡ (weighted_sum f ws (map reduced ls)).num *ℤ (weighted_sum f ws ls).den
  unfolding weighted_sum
  sum_reduced [] h = refl
  sum_reduced (w ∷ ws) nil = refl
  sum_reduced (w ∷ ws) (cons {x = l} {xs = ls} h hs) =
      let s = weighted_sum f ws ls in
      let s' = weighted_sum f ws (map reduced ls) in
      sum-cross (pos w) (f l) l.d (f (reduced l)) (reduced l).d s.num s.den s'.num s'.den (of-line l (reduced l) (reduced_restates h).same) (sum_reduced ws hs)

  mean_of_reduced : (ws : List ℕ) {ls : List Line} (l : Line) → All Positive ls → MeanOf f ws ls l → MeanOf f ws (map reduced ls) l
  mean_of_reduced ws {ls} l h =
      let s = weighted_sum f ws ls in
      let s' = weighted_sum f ws (map reduced ls) in
      cross-lines s.num s.den s'.num s'.den (pos (total ws)) (f l) l.d (den_positive ws h) (sum_reduced ws h)

  mean_of_same : (ws : List ℕ) (ls : List Line) {l m : Line} → Restates l m → MeanOf f ws ls l → MeanOf f ws ls m
  mean_of_same ws ls {l} {m} r =
      let s = weighted_sum f ws ls in
      cross-mean s.num s.den (pos (total ws)) (f l) l.d (f m) m.d r.left_positive (of-line l m r.same)

pub mean-reduced : {ls : List Line} {l : Line} → All Positive ls → WeightedMean ls l → WeightedMean (map reduced ls) l
mean-reduced {ls} {l} h m =
    let e = m.mean in
    record {
      weights = m.weights;
      mean =
          record {
            one_each = e.one_each ∙ sym (length-map ls reduced);
            not_all-0 = e.not_all-0;
            slope = mean_of_reduced (λ k. k.p) (λ x y s. s.slope) m.weights l h e.slope;
            intercept = mean_of_reduced (λ k. k.q) (λ x y s. s.intercept) m.weights l h e.intercept;
          };
    }

pub mean-same : {ws : List ℕ} {ls : List Line} {l m : Line} → Restates l m → IsMean ws ls l → IsMean ws ls m
mean-same {ws} {ls} r e =
    record {
      one_each = e.one_each;
      not_all-0 = e.not_all-0;
      slope = mean_of_same (λ k. k.p) (λ x y s. s.slope) ws ls r e.slope;
      intercept = mean_of_same (λ k. k.q) (λ x y s. s.intercept) ws ls r e.intercept;
    }

between-same : {j k l m : Line} → Restates l m → StrictlyBetween j k l → StrictlyBetween j k m
between-same r b =
    record {
      first = b.first;
      second = b.second;
      first_over = b.first_over;
      second_over = b.second_over;
      mean = mean-same r b.mean;
      not_first = λ s. b.not_first (same-trans r.right_positive s (same-sym r.same));
      not-second = λ s. b.not-second (same-trans r.right_positive s (same-sym r.same));
    }

pub Corner_same : {rs : List Range} {l m : Line} → Restates l m → Corner rs l → Corner rs m
Corner_same r c = record { fit = InFit_same r c.fit; extreme = λ j k f g b. c.extreme j k f g (between-same (restates_sym r) b) }

-- ---- the mean of two lines

-- v · (f of j)/(j's d) + w · (f of k)/(k's d) is (v + w) · (f of l)/(l's d), multiplied out
abbrev pub MeanOfTwo : (Line → ℤ) → ℤ → ℤ → Line → Line → Line → Type 0
MeanOfTwo f v w j k l = v *ℤ f j *ℤ k.d *ℤ l.d +ℤ w *ℤ f k *ℤ j.d *ℤ l.d ≡ (v +ℤ w) *ℤ f l *ℤ j.d *ℤ k.d

-- the sum of two fractions as `weighted_sum` has it, and s for the total of the weights
mean-written : (v w s fj jd fk kd fl ld : ℤ) → s ≡ v +ℤ w → v *ℤ fj *ℤ kd *ℤ ld +ℤ w *ℤ fk *ℤ jd *ℤ ld ≡ (v +ℤ w) *ℤ fl *ℤ jd *ℤ kd
    → (v *ℤ fj *ℤ (kd *ℤ pos 1) +ℤ (w *ℤ fk *ℤ pos 1 +ℤ pos 0 *ℤ kd) *ℤ jd) *ℤ ld ≡ s *ℤ fl *ℤ (jd *ℤ (kd *ℤ pos 1))
mean-written v w s fj jd fk kd fl ld =
    certify! (v ∷ w ∷ s ∷ fj ∷ jd ∷ fk ∷ kd ∷ fl ∷ ld ∷ []) (search claims depth 60) (num 1) (eqn 1 (lit (pos 1)) ⊞ eqn 0 (:neg (var 7 :* var 4 :* var 6))) tt

mean-read : (v w s fj jd fk kd fl ld : ℤ) → s ≡ v +ℤ w → (v *ℤ fj *ℤ (kd *ℤ pos 1) +ℤ (w *ℤ fk *ℤ pos 1 +ℤ pos 0 *ℤ kd) *ℤ jd) *ℤ ld ≡ s *ℤ fl *ℤ (jd *ℤ (kd *ℤ pos 1))
    → v *ℤ fj *ℤ kd *ℤ ld +ℤ w *ℤ fk *ℤ jd *ℤ ld ≡ (v +ℤ w) *ℤ fl *ℤ jd *ℤ kd
mean-read v w s fj jd fk kd fl ld =
    certify! (v ∷ w ∷ s ∷ fj ∷ jd ∷ fk ∷ kd ∷ fl ∷ ld ∷ []) (search claims depth 60) (num 1) (eqn 1 (lit (pos 1)) ⊞ eqn 0 (var 7 :* var 4 :* var 6)) tt

total-two : (v w : ℕ) → pos (total (v ∷ w ∷ [])) ≡ pos v +ℤ pos w
unfolding total
total-two v w = ap (λ n. pos (v + n)) (add-zero w)

module _ (f : Line → ℤ) (j k l : Line) where
  mean_given : (v w : ℤ) → pos 0 ≤ℤ v → pos 0 ≤ℤ w → MeanOfTwo f v w j k l → MeanOf f (nat_abs v ∷ nat_abs w ∷ []) (j ∷ k ∷ []) l
  unfolding weighted_sum
  mean_given v w g h m =
      mean-written (pos (nat_abs v)) (pos (nat_abs w)) (pos (total (nat_abs v ∷ nat_abs w ∷ []))) (f j) j.d (f k) k.d (f l) l.d (total-two (nat_abs v) (nat_abs w))
      (subst₂ (λ x y. MeanOfTwo f x y j k l) (nonneg_pos g) (nonneg_pos h) m)

  pub two_of_mean : (v w : ℕ) → MeanOf f (v ∷ w ∷ []) (j ∷ k ∷ []) l → MeanOfTwo f (pos v) (pos w) j k l
  unfolding weighted_sum
  two_of_mean v w = mean-read (pos v) (pos w) (pos (total (v ∷ w ∷ []))) (f j) j.d (f k) k.d (f l) l.d (total-two v w)

some-weight : (v w : ℕ) → pos 0 <ℤ (pos v +ℤ pos w) → 0 < total (v ∷ w ∷ [])
some-weight v w h = abs_above_0 (pos (total (v ∷ w ∷ []))) (subst (λ x. pos 0 <ℤ x) (sym (total-two v w)) h)

-- weights that are not below 0, nor both 0
pub mean-of_two : (j k l : Line) (v w : ℤ) → pos 0 ≤ℤ v → pos 0 ≤ℤ w → pos 0 <ℤ (v +ℤ w) → MeanOfTwo (λ x. x.p) v w j k l → MeanOfTwo (λ x. x.q) v w j k l
    → IsMean (nat_abs v ∷ nat_abs w ∷ []) (j ∷ k ∷ []) l
mean-of_two j k l v w g h over slope intercept =
    record {
      one_each = refl;
      not_all-0 = some-weight (nat_abs v) (nat_abs w) (subst₂ (λ x y. pos 0 <ℤ (x +ℤ y)) (nonneg_pos g) (nonneg_pos h) over);
      slope = mean_given (λ x. x.p) j k l v w g h slope;
      intercept = mean_given (λ x. x.q) j k l v w g h intercept;
    }

-- ---- what the test `between` means

-- lines in two coordinates a and b, which are slope and intercept or intercept and slope: from the differences in a come the weights of the mean
module _ (ja jb jd ka kb kd la lb ld : ℤ) where
  abbrev left_weight : ℤ
  left_weight = jd *ℤ (ka *ℤ ld -ℤ la *ℤ kd)

  abbrev right_weight : ℤ
  right_weight = kd *ℤ (la *ℤ jd -ℤ ja *ℤ ld)

  abbrev determinant : ℤ
  determinant = la *ℤ (jb *ℤ kd -ℤ kb *ℤ jd) -ℤ lb *ℤ (ja *ℤ kd -ℤ ka *ℤ jd) +ℤ ld *ℤ (ja *ℤ kb -ℤ ka *ℤ jb)

  mean_along : left_weight *ℤ ja *ℤ kd *ℤ ld +ℤ right_weight *ℤ ka *ℤ jd *ℤ ld ≡ (left_weight +ℤ right_weight) *ℤ la *ℤ jd *ℤ kd
  mean_along = ring! (ja ∷ jd ∷ ka ∷ kd ∷ la ∷ ld ∷ []) (search quotes depth 60) (search quotes depth 60) tt

  mean_across : determinant ≡ pos 0 → left_weight *ℤ jb *ℤ kd *ℤ ld +ℤ right_weight *ℤ kb *ℤ jd *ℤ ld ≡ (left_weight +ℤ right_weight) *ℤ lb *ℤ jd *ℤ kd
  mean_across = certify! (ja ∷ jb ∷ jd ∷ ka ∷ kb ∷ kd ∷ la ∷ lb ∷ ld ∷ []) (search claims depth 60) (num 1) (eqn 0 (:neg (var 2 :* var 5 :* var 8))) tt

  exchanged : determinant ≡ pos 0 → lb *ℤ (ja *ℤ kd -ℤ ka *ℤ jd) -ℤ la *ℤ (jb *ℤ kd -ℤ kb *ℤ jd) +ℤ ld *ℤ (jb *ℤ ka -ℤ kb *ℤ ja) ≡ pos 0
  exchanged = certify! (ja ∷ jb ∷ jd ∷ ka ∷ kb ∷ kd ∷ la ∷ lb ∷ ld ∷ []) (search claims depth 60) (num 1) (eqn 0 (lit (negsuc 0))) tt

  -- on the diagonal there is no second line of an end's a
  not_first_end : ja *ℤ ld ≡ la *ℤ jd → (jb *ℤ ld) <ℤ (lb *ℤ jd) → (ja *ℤ kd) <ℤ (ka *ℤ jd) → determinant ≡ pos 0 → ⊥
  not_first_end =
      certify! (ja ∷ jb ∷ jd ∷ ka ∷ kb ∷ kd ∷ la ∷ lb ∷ ld ∷ []) (search claims depth 60) (num 1)
      (hyp 1 ⊠ hyp 2 ⊞ eqn 3 (var 2) ⊞ eqn 0 (var 1 :* var 5 :- var 4 :* var 2)) tt

  not_last_end : la *ℤ kd ≡ ka *ℤ ld → (lb *ℤ kd) <ℤ (kb *ℤ ld) → (ja *ℤ kd) <ℤ (ka *ℤ jd) → determinant ≡ pos 0 → ⊥
  not_last_end =
      certify! (ja ∷ jb ∷ jd ∷ ka ∷ kb ∷ kd ∷ la ∷ lb ∷ ld ∷ []) (search claims depth 60) (num 1)
      (hyp 1 ⊠ hyp 2 ⊞ eqn 3 (:neg (var 5)) ⊞ eqn 0 (var 1 :* var 5 :- var 4 :* var 2)) tt

sum_over : (v w : ℤ) → pos 0 <ℤ v → pos 0 <ℤ w → pos 0 <ℤ (v +ℤ w)
sum_over v w = certify! (v ∷ w ∷ []) (search claims depth 40) (num 1) (hyp 0 ⊞ hyp 1) tt

-- two weights above 0 with which l is the mean of j and k in slope and in intercept
record Weights (a b : Line → ℤ) (j k l : Line) : Type 0 where
  first : ℤ
  second : ℤ
  first_over : pos 0 <ℤ first
  second_over : pos 0 <ℤ second
  along : MeanOfTwo a first second j k l
  across : MeanOfTwo b first second j k l

module _ {j k l : Line} (j-over : Positive j) (k-over : Positive k) (l-over : Positive l) where
  weights : (a b : Line → ℤ) → (a j *ℤ l.d) <ℤ (a l *ℤ j.d) → (a l *ℤ k.d) <ℤ (a k *ℤ l.d)
      → determinant (a j) (b j) j.d (a k) (b k) k.d (a l) (b l) l.d ≡ pos 0 → Weights a b j k l
  weights a b g h e =
      record {
        first = left_weight (a j) (b j) j.d (a k) (b k) k.d (a l) (b l) l.d;
        second = right_weight (a j) (b j) j.d (a k) (b k) k.d (a l) (b l) l.d;
        first_over = mul-pos j-over (sub-pos h);
        second_over = mul-pos k-over (sub-pos g);
        along = mean_along (a j) (b j) j.d (a k) (b k) k.d (a l) (b l) l.d;
        across = mean_across (a j) (b j) j.d (a k) (b k) k.d (a l) (b l) l.d e;
      }

  between_weights : Precedes j l → Precedes l k → side j k l ≡ pos 0 → Weights (λ x. x.p) (λ x. x.q) j k l
  unfolding side
  between_weights (by_slope_is g) (by_slope_is h) e = weights (λ x. x.p) (λ x. x.q) g h e
  between_weights (by_slope_is g) (by_intercept s h) e =
      absurd (not_last_end j.p j.q j.d k.p k.q k.d l.p l.q l.d s h (below_equal j.p j.d l.p l.d k.p k.d l-over k-over g s) e)
  between_weights (by_intercept s g) (by_slope_is h) e =
      absurd (not_first_end j.p j.q j.d k.p k.q k.d l.p l.q l.d s g (equal-below j.p j.d l.p l.d k.p k.d j-over l-over s h) e)
  between_weights (by_intercept r g) (by_intercept s h) e =
      let m = weights (λ x. x.q) (λ x. x.p) g h (exchanged j.p j.q j.d k.p k.q k.d l.p l.q l.d e) in
      record { first = m.first; second = m.second; first_over = m.first_over; second_over = m.second_over; along = m.across; across = m.along }

  pub between_means : T (between j k l) → StrictlyBetween j k l
  unfolding between
  between_means t =
      record {
        first = nat_abs m.first;
        second = nat_abs m.second;
        first_over = abs_above_0 m.first m.first_over;
        second_over = abs_above_0 m.second m.second_over;
        mean = mean-of_two j k l m.first m.second (<ℤ→≤ℤ m.first_over) (<ℤ→≤ℤ m.second_over) (sum_over m.first m.second m.first_over m.second_over) m.along m.across;
        not_first = precedes-distinct j_before;
        not-second = λ s. precedes-distinct k_after (same-sym s);
      }
    where
      more : T (before l k && eq_z (side j k l) (pos 0))
      more = and_right (before j l) (before l k && eq_z (side j k l) (pos 0)) t

      j_before : Precedes j l
      j_before = before_means j l (and_left (before j l) (before l k && eq_z (side j k l) (pos 0)) t)

      k_after : Precedes l k
      k_after = before_means l k (and_left (before l k) (eq_z (side j k l) (pos 0)) more)

      m : Weights (λ x. x.p) (λ x. x.q) j k l
      m = between_weights j_before k_after (eq_z-yes (and_right (before l k) (eq_z (side j k l) (pos 0)) more))
