-- The diagonal: the weighted means of two lines, which are those of least and of greatest slope. What the scope calls above it and below it, by intercepts at one slope; the determinant `side` tells which.
--
--     OnDiagonal j k l m         m is the line of the diagonal from j to k that has l's slope
--     diagonal_line              there is one, for every l whose slope is from that of j to that of k; diagonal_only: all such lines are the same
--     AboveDiagonal, BelowDiagonal   l's intercept is greater, or smaller, than that of the diagonal's line of l's slope
--     ByDiagonal                 corner order in these words
--
-- Further laws stand in proofs/Diagonal.antt.
-- Assumes nothing.
use Rattle.std.specs.Prelude.{◌≡◌, List, [], ◌∷◌, ◌++◌, reverse, ℕ, ◌+◌, ◌<◌, ℤ, pos, ◌+ℤ◌, ◌-ℤ◌, ◌*ℤ◌, ◌≤ℤ◌, ◌<ℤ◌}
use Rattle.std.proofs.Common.{subst, arith}
use Rattle.std.proofs.lemmas.List.{reverse-reverse}
use Rattle.std.proofs.Math.IntN.{nat_abs}
use Rattle.integers.specs.Parts.{<_fromℕ}
use Rattle.integers.specs.OrderLaws.{<ℤ→≤ℤ, sub-pos, sub-nonneg, mul-pos, mul-nonneg}
use Rattle.integers.specs.RingSolver.{var, :neg, ◌:*◌, ◌:-◌}
use Rattle.integers.specs.Certificates.{hyp, num, eqn, ◌⊞◌, ◌⊠◌}
use Rattle.integers.specs.Quotes.{quotes, ring! }
use Rattle.integers.specs.Solve.{claims, certify! }
use Rattle.integers.specs.Lists.{All, nil, cons, All-head, All-tail, All_imp, All_append_left, All_append_right, All-reverse}
use Rattle.definitions.specs.Lines.{Line}
use Rattle.definitions.specs.Corners.{side}
use Rattle.definitions.specs.Fit.{SameLine, SlopeBelow, total, IsMean, WeightedMean, RisingSlopes}
use Rattle.lines.specs.LineOrder.{Positive, slope-trans}
use Rattle.lines.specs.MeanLaws.{MeanOfTwo, two_of_mean, mean-of_two}

-- ---- the diagonal

-- m is a weighted mean of j and k, and has l's slope
pub record OnDiagonal (j k l m : Line) : Type 0 where
  pub positive : Positive m
  pub mean : WeightedMean (j ∷ k ∷ []) m
  pub same_slope : m.p *ℤ l.d ≡ l.p *ℤ m.d

-- how far the slope of k is from that of j
abbrev pub rise : Line → Line → ℤ
rise j k = k.p *ℤ j.d -ℤ j.p *ℤ k.d

module _ (j k l : Line) where
  -- the diagonal's line of l's slope; its weights are j.d · rise l k for j and k.d · rise j l for k
  diagonal_at : Line
  diagonal_at = record { p = l.p *ℤ rise j k; q = rise l k *ℤ j.q +ℤ rise j l *ℤ k.q; d = l.d *ℤ rise j k }

  weights_over : Positive l → SlopeBelow j k → pos 0 <ℤ (j.d *ℤ rise l k +ℤ k.d *ℤ rise j l)
  weights_over = certify! (j.p ∷ j.d ∷ k.p ∷ k.d ∷ l.p ∷ l.d ∷ []) (search claims depth 60) (num 1) (hyp 0 ⊠ hyp 1) tt

  slope_mean : MeanOfTwo (λ x. x.p) (j.d *ℤ rise l k) (k.d *ℤ rise j l) j k diagonal_at
  unfolding diagonal_at
  slope_mean = ring! (j.p ∷ j.d ∷ k.p ∷ k.d ∷ l.p ∷ l.d ∷ []) (search quotes depth 60) (search quotes depth 60) tt

  intercept_mean : MeanOfTwo (λ x. x.q) (j.d *ℤ rise l k) (k.d *ℤ rise j l) j k diagonal_at
  unfolding diagonal_at
  intercept_mean = ring! (j.p ∷ j.q ∷ j.d ∷ k.p ∷ k.q ∷ k.d ∷ l.p ∷ l.d ∷ []) (search quotes depth 60) (search quotes depth 60) tt

  slope_kept : diagonal_at.p *ℤ l.d ≡ l.p *ℤ diagonal_at.d
  unfolding diagonal_at
  slope_kept = ring! (j.p ∷ j.d ∷ k.p ∷ k.d ∷ l.p ∷ l.d ∷ []) (search quotes depth 60) (search quotes depth 60) tt

slopes-meet : (l m n : Line) → Positive l → m.p *ℤ l.d ≡ l.p *ℤ m.d → n.p *ℤ l.d ≡ l.p *ℤ n.d → m.p *ℤ n.d ≡ n.p *ℤ m.d
slopes-meet l m n = certify! (m.p ∷ m.d ∷ n.p ∷ n.d ∷ l.p ∷ l.d ∷ []) (search claims depth 60) (hyp 0) (eqn 1 (var 3) ⊞ eqn 2 (:neg (var 1))) tt

module _ (j k m : Line) where
  mean_side : (v w : ℤ) → pos 0 <ℤ (v +ℤ w) → Positive j → Positive k → MeanOfTwo (λ x. x.p) v w j k m → MeanOfTwo (λ x. x.q) v w j k m → side j k m ≡ pos 0
  unfolding side
  mean_side v w =
      certify! (j.p ∷ j.q ∷ j.d ∷ k.p ∷ k.q ∷ k.d ∷ m.p ∷ m.q ∷ m.d ∷ v ∷ w ∷ []) (search claims depth 60) (hyp 0 ⊠ hyp 1 ⊠ hyp 2)
      (eqn 3 (var 4 :* var 2 :- var 1 :* var 5) ⊞ eqn 4 (var 0 :* var 5 :- var 3 :* var 2)) tt

  -- at one slope, the side tells how the intercepts differ
  pub intercepts_differ : (l : Line) → side j k m ≡ pos 0 → m.p *ℤ l.d ≡ l.p *ℤ m.d → m.d *ℤ (side j k l -ℤ pos 0) ≡ rise j k *ℤ (l.q *ℤ m.d -ℤ m.q *ℤ l.d)
  unfolding side
  intercepts_differ l =
      certify! (j.p ∷ j.q ∷ j.d ∷ k.p ∷ k.q ∷ k.d ∷ m.p ∷ m.q ∷ m.d ∷ l.p ∷ l.q ∷ l.d ∷ []) (search claims depth 60) (num 1)
      (eqn 0 (var 11) ⊞ eqn 1 (var 4 :* var 2 :- var 1 :* var 5)) tt

  intercepts_same : (n : Line) → SlopeBelow j k → side j k m ≡ pos 0 → side j k n ≡ pos 0 → m.p *ℤ n.d ≡ n.p *ℤ m.d → m.q *ℤ n.d ≡ n.q *ℤ m.d
  unfolding side
  intercepts_same n =
      certify! (j.p ∷ j.q ∷ j.d ∷ k.p ∷ k.q ∷ k.d ∷ m.p ∷ m.q ∷ m.d ∷ n.p ∷ n.q ∷ n.d ∷ []) (search claims depth 60) (hyp 0)
      (eqn 1 (var 11) ⊞ eqn 2 (:neg (var 8)) ⊞ eqn 3 (var 4 :* var 2 :- var 1 :* var 5)) tt

weight-over : (v w : ℕ) → 0 < total (v ∷ w ∷ []) → pos 0 <ℤ (pos v +ℤ pos w)
unfolding total
weight-over v w h = <_fromℕ (pos 0) (pos (v + w)) (omega arith)

module _ {j k : Line} (j-over : Positive j) (k-over : Positive k) (rises : SlopeBelow j k) where
  pub diagonal_line : (l : Line) → Positive l → (j.p *ℤ l.d) ≤ℤ (l.p *ℤ j.d) → (l.p *ℤ k.d) ≤ℤ (k.p *ℤ l.d) → (m : Line) × OnDiagonal j k l m
  unfolding diagonal_at
  diagonal_line l l-over from to = (
    diagonal_at j k l,
    record {
      positive = mul-pos l-over (sub-pos rises);
      mean =
          record {
            weights = nat_abs (j.d *ℤ rise l k) ∷ nat_abs (k.d *ℤ rise j l) ∷ [];
            mean =
                mean-of_two j k (diagonal_at j k l) (j.d *ℤ rise l k) (k.d *ℤ rise j l) (mul-nonneg (<ℤ→≤ℤ j-over) (sub-nonneg to)) (mul-nonneg (<ℤ→≤ℤ k-over) (sub-nonneg from))
                (weights_over j k l l-over rises) (slope_mean j k l) (intercept_mean j k l);
          };
      same_slope = slope_kept j k l;
    },
  )

  mean_on : (m : Line) (ws : List ℕ) → IsMean ws (j ∷ k ∷ []) m → side j k m ≡ pos 0
  mean_on m [] e = absurd (omega (arith, e.one_each))
  mean_on m (v ∷ []) e = absurd (omega (arith, e.one_each))
  mean_on m (v ∷ w ∷ []) e =
      mean_side j k m (pos v) (pos w) (weight-over v w e.not_all-0) j-over k-over (two_of_mean (λ x. x.p) j k m v w e.slope) (two_of_mean (λ x. x.q) j k m v w e.intercept)
  mean_on m (v ∷ w ∷ x ∷ ws) e = absurd (omega (arith, e.one_each))

  pub diagonal_on : {l m : Line} → OnDiagonal j k l m → side j k m ≡ pos 0
  diagonal_on {m = m} o = mean_on m o.mean.weights o.mean.mean

  pub diagonal_only : {l m n : Line} → Positive l → OnDiagonal j k l m → OnDiagonal j k l n → SameLine m n
  diagonal_only {l} {m} {n} l-over a b =
      let same = slopes-meet l m n l-over a.same_slope b.same_slope in
      record { slope = same; intercept = intercepts_same j k m n rises (diagonal_on a) (diagonal_on b) same }

-- ---- corner order

-- l's intercept is greater than that of the diagonal's line of l's slope
pub record AboveDiagonal (j k l : Line) : Type 0 where
  pub line : Line
  pub on_diagonal : OnDiagonal j k l line
  pub greater : (line.q *ℤ l.d) <ℤ (l.q *ℤ line.d)

-- and smaller
pub record BelowDiagonal (j k l : Line) : Type 0 where
  pub line : Line
  pub on_diagonal : OnDiagonal j k l line
  pub smaller : (l.q *ℤ line.d) <ℤ (line.q *ℤ l.d)

-- slow, the lines above the diagonal by rising slope, fast, those below it by falling slope
pub data ByDiagonal : List Line → Type 0 where
  one_line : (l : Line) → ByDiagonal (l ∷ [])
  two_sides : (slow : Line) (above : List Line) (fast : Line) (below : List Line)
      → RisingSlopes (slow ∷ above ++ (fast ∷ []))
      → RisingSlopes (slow ∷ reverse below ++ (fast ∷ []))
      → All (AboveDiagonal slow fast) above
      → All (BelowDiagonal slow fast) below
      → ByDiagonal (slow ∷ above ++ (fast ∷ below))

-- l's slope is between those of slow and fast
pub record Within (slow fast l : Line) : Type 0 where
  pub positive : Positive l
  over : SlopeBelow slow l
  pub under : SlopeBelow l fast

module _ (fast : Line) (fast-over : Positive fast) where
  ends_rise : (slow : Line) {ls : List Line} → Positive slow → All Positive ls → RisingSlopes (slow ∷ ls ++ (fast ∷ [])) → SlopeBelow slow fast
  ends_rise slow h nil r = r.0
  ends_rise slow h (cons {x = l} g gs) r = slope-trans slow l fast h g fast-over r.0 (ends_rise l g gs r.1)

  all_within : (slow : Line) {ls : List Line} → Positive slow → All Positive ls → RisingSlopes (slow ∷ ls ++ (fast ∷ [])) → All (Within slow fast) ls
  all_within slow h nil r = nil
  all_within slow h (cons {x = l} g gs) r =
      cons (record { positive = g; over = r.0; under = ends_rise l g gs r.1 })
      (All_imp (λ x w. record { positive = w.positive; over = slope-trans slow l x h g w.positive r.0 w.over; under = w.under }) (all_within l g gs r.1))

module _
    (slow : Line) (above : List Line) (fast : Line) (below : List Line) (h : All Positive (slow ∷ above ++ (fast ∷ below)))
    (rises : RisingSlopes (slow ∷ above ++ (fast ∷ []))) (falls : RisingSlopes (slow ∷ reverse below ++ (fast ∷ []))) where
  pub slow_over : Positive slow
  slow_over = All-head h

  pub fast-over : Positive fast
  fast-over = All-head (All_append_right above (fast ∷ below) (All-tail h))

  pub above_within : All (Within slow fast) above
  above_within = all_within fast fast-over slow slow_over (All_append_left above (fast ∷ below) (All-tail h)) rises

  pub below_within : All (Within slow fast) below
  below_within = subst (All (Within slow fast)) (reverse-reverse below) (All-reverse (all_within fast fast-over slow slow_over (All-reverse (All-tail (All_append_right above (fast ∷ below) (All-tail h)))) falls))

  pub from_slow : SlopeBelow slow fast
  from_slow = ends_rise fast fast-over slow slow_over (All_append_left above (fast ∷ below) (All-tail h)) rises

  pub met : {l : Line} → Within slow fast l → (m : Line) × OnDiagonal slow fast l m
  met {l} w = diagonal_line slow_over fast-over from_slow l w.positive (<ℤ→≤ℤ w.over) (<ℤ→≤ℤ w.under)
