-- Lines against lines: when two are the same line, their order by slope and intercept, and what does not depend on the terms in which a line is given.
--
--     Positive l                             d is above 0
--     same_refl, same-sym, same-trans        SameLine is an equivalence of lines with d above 0
--     slope-trans                            SlopeBelow is transitive among them
--     Proper l                               d is above 0, and p, q and d are in lowest terms
--     proper-equal                           lines in lowest terms that are the same line are equal
--     reduced_proper, reduced_same           `reduced l` is in lowest terms, and the same line as l
--     reduced-alike, reduced-is              it is equal for lines that are the same, and the only such line in lowest terms
--
--     Precedes k l (by_slope_is, by_intercept)  what the test `before` means: a lower slope, or the same slope and a lower intercept; before_means, before_passes
--     precedes-distinct                      then they are not the same line
--     line-order                             `before` is a strict order of the lines in lowest terms, as `Sorting` of integers wants it
--     equal-below, below_equal               of fractions a/d, b/e, c/f: the first is below the third where it is equal to or below the second, which is below or equal to the third
--
--     SameOrder x y x' y'                    x is to y as x' is to y': below, equal or above; order-≤, order-<, order_flip, order_sym
--     Restates l m                           l and m are the same line, both with d above 0; restates_refl, restates_sym, reduced_restates: a line and its lowest terms
--     slope-same, reading_same, side_same    slope against slope, value against level, side of the diagonal: alike for lines that restate each other
--     SlopeBelow-same, Reaches_same, FitsRange_same, InFit_same   so each of these passes from a line to one that restates it
--
-- Example: with h : Positive l and f : InFit rs l, `InFit_same (reduced_restates h) f : InFit rs (reduced l)`.
-- Assumes nothing.
use Rattle.std.specs.Prelude.{◌≡◌, refl, ◌⊎◌, Bool, ◌&&◌, List, [], ◌∷◌, ℕ, ℤ, pos, negsuc, ◌+ℤ◌, ◌-ℤ◌, ◌*ℤ◌, ◌≤ℤ◌, ◌<ℤ◌}
use Rattle.std.proofs.Common.{sym, subst₂, inl, inr}
use Rattle.std.proofs.Math.Dec.{T}
use Rattle.std.specs.Int.Signed.{<ℤ_irrefl, lt_z}
use Rattle.integers.specs.OrderLaws.{≤ℤ_antisym, ≤ℤ_of_≡, ≤ℤ_or_<ℤ, ≤ℤ-<ℤ-⊥, mul-pos}
use Rattle.integers.specs.RingSolver.{var, lit, :neg, ◌:*◌}
use Rattle.integers.specs.Certificates.{hyp, num, eqn, ◌⊞◌, ◌⊠◌}
use Rattle.integers.specs.Quotes.{quotes, ring! }
use Rattle.integers.specs.Solve.{claims, certify! }
use Rattle.integers.specs.Tests.{eq_z, eq_z-yes, eq_z-of}
use Rattle.integers.specs.Booleans.{and_intro, and_left, and_right, or_left, or_right, or_cases}
use Rattle.integers.specs.Lists.{All_imp}
use Rattle.integers.specs.Sorting.{StrictOrder}
use Rattle.integers.specs.LowestTerms.{InLowestTerms, lowest-unique, divided_lowest}
use Rattle.definitions.specs.Ranges.{Range}
use Rattle.definitions.specs.Lines.{Line, reading}
use Rattle.definitions.specs.Corners.{reduced, before, side}
use Rattle.definitions.specs.Fit.{FitsRange, InFit, SameLine, SlopeBelow, Reaches}

-- ---- fractions a/d, b/e, c/f

equal-trans : (a d b e c f : ℤ) → pos 0 <ℤ e → a *ℤ e ≡ b *ℤ d → b *ℤ f ≡ c *ℤ e → a *ℤ f ≡ c *ℤ d
equal-trans a d b e c f = certify! (a ∷ d ∷ b ∷ e ∷ c ∷ f ∷ []) (search claims depth 60) (hyp 0) (eqn 1 (var 5) ⊞ eqn 2 (var 1)) tt

below-trans : (a d b e c f : ℤ) → pos 0 <ℤ d → pos 0 <ℤ e → pos 0 <ℤ f → (a *ℤ e) <ℤ (b *ℤ d) → (b *ℤ f) <ℤ (c *ℤ e) → (a *ℤ f) <ℤ (c *ℤ d)
below-trans a d b e c f = certify! (a ∷ d ∷ b ∷ e ∷ c ∷ f ∷ []) (search claims depth 60) (hyp 1) (hyp 0 ⊠ hyp 4 ⊞ hyp 2 ⊠ hyp 3) tt

pub equal-below : (a d b e c f : ℤ) → pos 0 <ℤ d → pos 0 <ℤ e → a *ℤ e ≡ b *ℤ d → (b *ℤ f) <ℤ (c *ℤ e) → (a *ℤ f) <ℤ (c *ℤ d)
equal-below a d b e c f = certify! (a ∷ d ∷ b ∷ e ∷ c ∷ f ∷ []) (search claims depth 60) (hyp 1) (hyp 0 ⊠ hyp 3 ⊞ eqn 2 (var 5)) tt

pub below_equal : (a d b e c f : ℤ) → pos 0 <ℤ e → pos 0 <ℤ f → (a *ℤ e) <ℤ (b *ℤ d) → b *ℤ f ≡ c *ℤ e → (a *ℤ f) <ℤ (c *ℤ d)
below_equal a d b e c f = certify! (a ∷ d ∷ b ∷ e ∷ c ∷ f ∷ []) (search claims depth 60) (hyp 0) (hyp 1 ⊠ hyp 2 ⊞ eqn 3 (var 1)) tt

-- ---- the same line

-- d is above 0
abbrev pub Positive : Line → Type 0
Positive l = pos 0 <ℤ l.d

pub same_refl : (l : Line) → SameLine l l
same_refl l = record { slope = refl; intercept = refl }

pub same-sym : {k l : Line} → SameLine k l → SameLine l k
same-sym s = record { slope = sym s.slope; intercept = sym s.intercept }

pub same-trans : {j k l : Line} → Positive k → SameLine j k → SameLine k l → SameLine j l
same-trans {j} {k} {l} h s t =
    record {
      slope = equal-trans j.p j.d k.p k.d l.p l.d h s.slope t.slope;
      intercept = equal-trans j.q j.d k.q k.d l.q l.d h s.intercept t.intercept;
    }

pub slope-trans : (j k l : Line) → Positive j → Positive k → Positive l → SlopeBelow j k → SlopeBelow k l → SlopeBelow j l
slope-trans j k l = below-trans j.p j.d k.p k.d l.p l.d

-- ---- lowest terms
pub record Proper (l : Line) : Type 0 where
  pub positive : Positive l
  pub lowest : InLowestTerms l.p l.q l.d

pub proper-equal : {k l : Line} → Proper k → Proper l → SameLine k l → k ≡ l
proper-equal {k} {l} m n s = let (ep, eq, ed) = lowest-unique m.positive n.positive s.slope s.intercept m.lowest n.lowest in λ i. record { p = ep i; q = eq i; d = ed i }

module _ (l : Line) (h : Positive l) where
  pub reduced_proper : Proper (reduced l)
  unfolding reduced
  reduced_proper = let e = divided_lowest l.p l.q l.d h in record { positive = e.above-0; lowest = e.lowest }

  pub reduced_same : SameLine l (reduced l)
  unfolding reduced
  reduced_same = let e = divided_lowest l.p l.q l.d h in record { slope = e.same_p; intercept = e.same_q }

pub reduced-alike : {k l : Line} → Positive k → Positive l → SameLine k l → reduced k ≡ reduced l
reduced-alike {k} {l} h g s =
    proper-equal (reduced_proper k h) (reduced_proper l g) (same-trans g (same-trans h (same-sym (reduced_same k h)) s) (reduced_same l g))

pub reduced-is : {k l : Line} → Positive k → Proper l → SameLine k l → reduced k ≡ l
reduced-is {k} {l} h n s = proper-equal (reduced_proper k h) n (same-trans h (same-sym (reduced_same k h)) s)

-- ---- the order of lines

-- what the test `before` means: a lower slope, or the same slope and a lower intercept
pub data Precedes (k l : Line) : Type 0 where
  by_slope_is : SlopeBelow k l → Precedes k l
  by_intercept : k.p *ℤ l.d ≡ l.p *ℤ k.d → (k.q *ℤ l.d) <ℤ (l.q *ℤ k.d) → Precedes k l

module _ (k l : Line) where
  abbrev lower_slope : Bool
  lower_slope = lt_z (k.p *ℤ l.d) (l.p *ℤ k.d)

  abbrev same_slope : Bool
  same_slope = eq_z (k.p *ℤ l.d) (l.p *ℤ k.d)

  abbrev lower_intercept : Bool
  lower_intercept = lt_z (k.q *ℤ l.d) (l.q *ℤ k.d)

  pub before_means : T (before k l) → Precedes k l
  unfolding before
  before_means t = by (or_cases lower_slope (same_slope && lower_intercept) t)
    where
      by : T lower_slope ⊎ T (same_slope && lower_intercept) → Precedes k l
      by (inl s) = by_slope_is (record { lt = s })
      by (inr s) = by_intercept (eq_z-yes (and_left same_slope lower_intercept s)) (record { lt = and_right same_slope lower_intercept s })

  pub before_passes : Precedes k l → T (before k l)
  unfolding before
  before_passes (by_slope_is h) = or_left lower_slope (same_slope && lower_intercept) h.lt
  before_passes (by_intercept e h) = or_right lower_slope (same_slope && lower_intercept) (and_intro same_slope lower_intercept (eq_z-of e) h.lt)

precedes-irrefl : (l : Line) → ¬ Precedes l l
precedes-irrefl l (by_slope_is h) = <ℤ_irrefl h
precedes-irrefl l (by_intercept e h) = <ℤ_irrefl h

precedes-trans : {j k l : Line} → Positive j → Positive k → Positive l → Precedes j k → Precedes k l → Precedes j l
precedes-trans {j} {k} {l} g h m (by_slope_is s) (by_slope_is t) = by_slope_is (slope-trans j k l g h m s t)
precedes-trans {j} {k} {l} g h m (by_slope_is s) (by_intercept e t) = by_slope_is (below_equal j.p j.d k.p k.d l.p l.d h m s e)
precedes-trans {j} {k} {l} g h m (by_intercept e s) (by_slope_is t) = by_slope_is (equal-below j.p j.d k.p k.d l.p l.d g h e t)
precedes-trans {j} {k} {l} g h m (by_intercept e s) (by_intercept f t) =
    by_intercept (equal-trans j.p j.d k.p k.d l.p l.d h e f) (below-trans j.q j.d k.q k.d l.q l.d g h m s t)

pub precedes-distinct : {k l : Line} → Precedes k l → ¬ SameLine k l
precedes-distinct {k} {l} (by_slope_is h) s = ≤ℤ-<ℤ-⊥ (≤ℤ_of_≡ (sym s.slope)) h
precedes-distinct {k} {l} (by_intercept e h) s = ≤ℤ-<ℤ-⊥ (≤ℤ_of_≡ (sym s.intercept)) h

neither-below : {x y : ℤ} → ¬ (x <ℤ y) → ¬ (y <ℤ x) → x ≡ y
neither-below {x} {y} m n = by (≤ℤ_or_<ℤ x y) (≤ℤ_or_<ℤ y x)
  where
    by : (x ≤ℤ y) ⊎ (y <ℤ x) → (y ≤ℤ x) ⊎ (x <ℤ y) → x ≡ y
    by (inl h) (inl k) = ≤ℤ_antisym h k
    by (inl h) (inr k) = absurd (m k)
    by (inr h) k = absurd (n h)

neither-precedes : {k l : Line} → ¬ Precedes k l → ¬ Precedes l k → SameLine k l
neither-precedes {k} {l} m n =
    let e = neither-below (λ h. m (by_slope_is h)) (λ h. n (by_slope_is h)) in
    record { slope = e; intercept = neither-below (λ h. m (by_intercept e h)) (λ h. n (by_intercept (sym e) h)) }

pub line-order : StrictOrder Proper before
line-order =
    record {
      irreflexive = λ x p t. precedes-irrefl x (before_means x x t);
      transitive = λ x y z p q r s t. before_passes x z (precedes-trans p.positive q.positive r.positive (before_means x y s) (before_means y z t));
      trichotomous = λ x y p q m n. proper-equal p q (neither-precedes (λ b. m (before_passes x y b)) (λ b. n (before_passes y x b)));
    }

-- ---- what does not change with the line's terms

-- x is to y as x' is to y': below, equal or above
pub record SameOrder (x y x' y' : ℤ) : Type 0 where
  pub left : ℤ
  pub right : ℤ
  pub left_positive : pos 0 <ℤ left
  pub right_positive : pos 0 <ℤ right
  pub scaled : left *ℤ (y -ℤ x) ≡ right *ℤ (y' -ℤ x')

module _ (a b x y x' y' : ℤ) where
  scaled-≤ : pos 0 <ℤ a → pos 0 <ℤ b → a *ℤ (y -ℤ x) ≡ b *ℤ (y' -ℤ x') → x ≤ℤ y → x' ≤ℤ y'
  scaled-≤ = certify! (a ∷ b ∷ x ∷ y ∷ x' ∷ y' ∷ []) (search claims depth 60) (hyp 1) (hyp 0 ⊠ hyp 3 ⊞ eqn 2 (lit (pos 1))) tt

  scaled-< : pos 0 <ℤ a → pos 0 <ℤ b → a *ℤ (y -ℤ x) ≡ b *ℤ (y' -ℤ x') → x <ℤ y → x' <ℤ y'
  scaled-< = certify! (a ∷ b ∷ x ∷ y ∷ x' ∷ y' ∷ []) (search claims depth 60) (hyp 1) (hyp 0 ⊠ hyp 3 ⊞ eqn 2 (lit (pos 1))) tt

  scaled_flip : a *ℤ (y -ℤ x) ≡ b *ℤ (y' -ℤ x') → a *ℤ (x -ℤ y) ≡ b *ℤ (x' -ℤ y')
  scaled_flip = certify! (a ∷ b ∷ x ∷ y ∷ x' ∷ y' ∷ []) (search claims depth 60) (num 1) (eqn 0 (lit (negsuc 0))) tt

scaled-trans : (a b e f u v w : ℤ) → a *ℤ u ≡ b *ℤ v → e *ℤ v ≡ f *ℤ w → (e *ℤ a) *ℤ u ≡ (b *ℤ f) *ℤ w
scaled-trans a b e f u v w = certify! (a ∷ b ∷ e ∷ f ∷ u ∷ v ∷ w ∷ []) (search claims depth 60) (num 1) (eqn 0 (var 2) ⊞ eqn 1 (var 1)) tt

module _ {x y x' y' : ℤ} where
  pub order-≤ : SameOrder x y x' y' → x ≤ℤ y → x' ≤ℤ y'
  order-≤ s = scaled-≤ s.left s.right x y x' y' s.left_positive s.right_positive s.scaled

  pub order-< : SameOrder x y x' y' → x <ℤ y → x' <ℤ y'
  order-< s = scaled-< s.left s.right x y x' y' s.left_positive s.right_positive s.scaled

  pub order_flip : SameOrder x y x' y' → SameOrder y x y' x'
  order_flip s =
      record {
        left = s.left;
        right = s.right;
        left_positive = s.left_positive;
        right_positive = s.right_positive;
        scaled = scaled_flip s.left s.right x y x' y' s.scaled;
      }

  pub order_sym : SameOrder x y x' y' → SameOrder x' y' x y
  order_sym s = record { left = s.right; right = s.left; left_positive = s.right_positive; right_positive = s.left_positive; scaled = sym s.scaled }

  order_trans : {x'' y'' : ℤ} → SameOrder x y x' y' → SameOrder x' y' x'' y'' → SameOrder x y x'' y''
  order_trans {x''} {y''} s t =
      record {
        left = t.left *ℤ s.left;
        right = s.right *ℤ t.right;
        left_positive = mul-pos t.left_positive s.left_positive;
        right_positive = mul-pos s.right_positive t.right_positive;
        scaled = scaled-trans s.left s.right t.left t.right (y -ℤ x) (y' -ℤ x') (y'' -ℤ x'') s.scaled t.scaled;
      }

-- ---- one line in other terms

-- the same line, with d above 0 in both
pub record Restates (l m : Line) : Type 0 where
  pub same : SameLine l m
  pub left_positive : Positive l
  pub right_positive : Positive m

pub restates_refl : {l : Line} → Positive l → Restates l l
restates_refl {l} h = record { same = same_refl l; left_positive = h; right_positive = h }

pub restates_sym : {l m : Line} → Restates l m → Restates m l
restates_sym r = record { same = same-sym r.same; left_positive = r.right_positive; right_positive = r.left_positive }

pub reduced_restates : {l : Line} → Positive l → Restates l (reduced l)
reduced_restates {l} h = record { same = reduced_same l h; left_positive = h; right_positive = (reduced_proper l h).positive }

scaled-slope : (kp kd kp' kd' lp ld lp' ld' : ℤ) → kp *ℤ kd' ≡ kp' *ℤ kd → lp *ℤ ld' ≡ lp' *ℤ ld
    → (kd' *ℤ ld') *ℤ (lp *ℤ kd -ℤ kp *ℤ ld) ≡ (kd *ℤ ld) *ℤ (lp' *ℤ kd' -ℤ kp' *ℤ ld')
scaled-slope kp kd kp' kd' lp ld lp' ld' =
    certify! (kp ∷ kd ∷ kp' ∷ kd' ∷ lp ∷ ld ∷ lp' ∷ ld' ∷ []) (search claims depth 60) (num 1) (eqn 0 (:neg (var 5 :* var 7)) ⊞ eqn 1 (var 1 :* var 3)) tt

-- slope against slope
pub slope-same : {k k' l l' : Line} → Restates k k' → Restates l l' → SameOrder (k.p *ℤ l.d) (l.p *ℤ k.d) (k'.p *ℤ l'.d) (l'.p *ℤ k'.d)
slope-same {k} {k'} {l} {l'} r s =
    record {
      left = k'.d *ℤ l'.d;
      right = k.d *ℤ l.d;
      left_positive = mul-pos r.right_positive s.right_positive;
      right_positive = mul-pos r.left_positive s.left_positive;
      scaled = scaled-slope k.p k.d k'.p k'.d l.p l.d l'.p l'.d r.same.slope s.same.slope;
    }

pub SlopeBelow-same : {k k' l l' : Line} → Restates k k' → Restates l l' → SlopeBelow k l → SlopeBelow k' l'
SlopeBelow-same r s h = order-< (slope-same r s) h

scaled-reading : (lp lq ld mp mq md t u : ℤ) → lp *ℤ md ≡ mp *ℤ ld → lq *ℤ md ≡ mq *ℤ ld → md *ℤ ((lp *ℤ t +ℤ lq) -ℤ ld *ℤ u) ≡ ld *ℤ ((mp *ℤ t +ℤ mq) -ℤ md *ℤ u)
scaled-reading lp lq ld mp mq md t u = certify! (lp ∷ lq ∷ ld ∷ mp ∷ mq ∷ md ∷ t ∷ u ∷ []) (search claims depth 60) (num 1) (eqn 0 (var 6) ⊞ eqn 1 (lit (pos 1))) tt

scaled-side : (lp lq ld mp mq md a b c : ℤ) → lp *ℤ md ≡ mp *ℤ ld → lq *ℤ md ≡ mq *ℤ ld
    → md *ℤ ((lp *ℤ a -ℤ lq *ℤ b +ℤ ld *ℤ c) -ℤ pos 0) ≡ ld *ℤ ((mp *ℤ a -ℤ mq *ℤ b +ℤ md *ℤ c) -ℤ pos 0)
scaled-side lp lq ld mp mq md a b c = certify! (lp ∷ lq ∷ ld ∷ mp ∷ mq ∷ md ∷ a ∷ b ∷ c ∷ []) (search claims depth 60) (num 1) (eqn 0 (var 6) ⊞ eqn 1 (:neg (var 7))) tt

module _ {l m : Line} (r : Restates l m) where
  -- value against level
  pub reading_same : (t : ℕ) (u : ℤ) → SameOrder (l.d *ℤ u) (reading l t) (m.d *ℤ u) (reading m t)
  unfolding reading
  reading_same t u =
      record {
        left = m.d;
        right = l.d;
        left_positive = r.right_positive;
        right_positive = r.left_positive;
        scaled = scaled-reading l.p l.q l.d m.p m.q m.d (pos t) u r.same.slope r.same.intercept;
      }

  pub Reaches_same : (level : ℤ) (t : ℕ) → Reaches level t l → Reaches level t m
  Reaches_same level t h = order-≤ (reading_same t level) h

  pub FitsRange_same : (x : Range) → FitsRange l x → FitsRange m x
  FitsRange_same x f =
      record {
        over_low = order-≤ (reading_same x.time x.low) f.over_low;
        under_high = order-≤ (order_flip (reading_same x.time x.high)) f.under_high;
      }

  pub InFit_same : {rs : List Range} → InFit rs l → InFit rs m
  InFit_same f = record { positive = r.right_positive; each = All_imp FitsRange_same f.each }

  side_last : (j k : Line) → SameOrder (pos 0) (side j k l) (pos 0) (side j k m)
  unfolding side
  side_last j k =
      record {
        left = m.d;
        right = l.d;
        left_positive = r.right_positive;
        right_positive = r.left_positive;
        scaled =
            scaled-side l.p l.q l.d m.p m.q m.d
            (j.q *ℤ k.d -ℤ k.q *ℤ j.d) (j.p *ℤ k.d -ℤ k.p *ℤ j.d) (j.p *ℤ k.q -ℤ k.p *ℤ j.q)
            r.same.slope r.same.intercept;
      }

-- a determinant does not change when its rows are turned round
side-turn : (j k l : Line) → side j k l ≡ side k l j
unfolding side
side-turn j k l = ring! (j.p ∷ j.q ∷ j.d ∷ k.p ∷ k.q ∷ k.d ∷ l.p ∷ l.q ∷ l.d ∷ []) (search quotes depth 60) (search quotes depth 60) tt

side-first : {j j' : Line} → Restates j j' → (k l : Line) → SameOrder (pos 0) (side j k l) (pos 0) (side j' k l)
side-first {j} {j'} r k l = subst₂ (λ x y. SameOrder (pos 0) x (pos 0) y) (sym (side-turn j k l)) (sym (side-turn j' k l)) (side_last r k l)

-- the side of the diagonal from one line to another
pub side_same : {j j' k k' l l' : Line} → Restates j j' → Restates k k' → Restates l l' → SameOrder (pos 0) (side j k l) (pos 0) (side j' k' l')
side_same {j} {j'} {k} {k'} {l} {l'} r s t =
    order_trans (side_last t j k)
    (order_trans (side-first r k l')
    (subst₂ (λ x y. SameOrder (pos 0) x (pos 0) y) (side-turn l' j' k) (side-turn l' j' k') (side_last s l' j')))
