-- Weighted means as the scope has them, with natural weights and fractions, against sums of whole lines, c·l = Σ wᵢ·lᵢ.
--
--     natural_weights ws          the scope's weights wᵢ·dᵢ
--     mean_of_whole              a mean by sums of whole lines is a mean with these weights
--     weighted_mean              so WholeMean gives WeightedMean
--     mean_of_between            a line strictly between two others is a mean of them by whole lines, with weights above 0
--     corner_of, of_corner       a corner of the fit as the scope means it, and as `CornersOfChains` has it, are one thing
--     same-dec                   whether two lines are the same line
--
-- Assumes nothing.
use Rattle.std.specs.Prelude.{◌≡◌, refl, List, [], ◌∷◌, ◌⊎◌, ℕ, suc, ◌<◌, ℤ, negsuc, ◌+ℤ◌, ◌*ℤ◌, length, ◌≤ℤ◌, ◌<ℤ◌}
use Rattle.std.proofs.Common.{sym, ◌∙◌, ap, ap₂, subst, inl, inr}
use Rattle.std.proofs.Math.IntN.{pos, nat_abs}
use Rattle.integers.specs.OrderLaws.{≤ℤ_or_<ℤ, ≤ℤ_antisym, ≤ℤ_of_≡, ≤ℤ-<ℤ-⊥, <ℤ→≤ℤ, mul-pos, mul-nonneg, nonneg_pos}
use Rattle.integers.specs.RingSolver.{var, lit, ◌:*◌}
use Rattle.integers.specs.Certificates.{hyp, num, eqn, ◌⊞◌, ◌⊠◌}
use Rattle.integers.specs.Quotes.{quotes, ring! }
use Rattle.integers.specs.Solve.{claims, certify! }
use Rattle.integers.specs.Lists.{All, nil, cons, All-head, All-tail}
use Rattle.definitions.specs.Ranges.{Range}
use Rattle.definitions.specs.Lines.{Line}
use Rattle.definitions.specs.Fit.{InFit, SameLine, total, weighted_sum, MeanOf, IsMean, WeightedMean, StrictlyBetween, Corner}
use Rattle.chains.specs.Points.{Mean}
use Rattle.chains.specs.Ends.{time<, un-time<}
use Rattle.chains.specs.Weights.{Weights, none, more, weighted, WholeMean}
use Rattle.chains.specs.CornersOfChains.{CornerOf}

-- ---- from whole lines to fractions
unfoldable pub natural_weights : {ls : List Line} → Weights ls → List ℕ
natural_weights none = []
natural_weights (more {l} w h ws) = nat_abs (w *ℤ l.d) ∷ natural_weights ws

one_weight-each : {ls : List Line} (ws : Weights ls) → length (natural_weights ws) ≡ length ls
unfolding natural_weights
one_weight-each none = refl
one_weight-each (more w h ws) = ap suc (one_weight-each ws)

abbrev Positive : List Line → Type 0
Positive ls = All (λ l. pos 0 <ℤ l.d) ls

natural-is : (w d : ℤ) → pos 0 ≤ℤ w → pos 0 <ℤ d → pos (nat_abs (w *ℤ d)) ≡ w *ℤ d
natural-is w d h k = sym (nonneg_pos (mul-nonneg h (<ℤ→≤ℤ k)))

total-is : {ls : List Line} (ws : Weights ls) → Positive ls → pos (total (natural_weights ws)) ≡ weighted (λ l. l.d) ws
unfolding natural_weights total
total-is none ps = refl
total-is (more {l} w h ws) ps = ap₂ (λ x y. x +ℤ y) (natural-is w l.d h (All-head ps)) (total-is ws (All-tail ps))

sum_more : (W w d x n e t : ℤ) → W ≡ w *ℤ d → n ≡ e *ℤ t → W *ℤ x *ℤ e +ℤ n *ℤ d ≡ (d *ℤ e) *ℤ (w *ℤ x +ℤ t)
sum_more W w d x n e t = certify! (W ∷ w ∷ d ∷ x ∷ n ∷ e ∷ t ∷ []) (search claims depth 60) (num 1) (eqn 0 (var 3 :* var 5) ⊞ eqn 1 (var 2)) tt

sum_is : (f : Line → ℤ) {ls : List Line} (ws : Weights ls) → Positive ls
    → (weighted_sum f (natural_weights ws) ls).num ≡ (weighted_sum f (natural_weights ws) ls).den *ℤ weighted f ws
unfolding natural_weights weighted_sum
sum_is f none ps = refl
sum_is f (more {l} {ls} w h ws) ps =
    sum_more (pos (nat_abs (w *ℤ l.d))) w l.d (f l) (weighted_sum f (natural_weights ws) ls).num (weighted_sum f (natural_weights ws) ls).den (weighted f ws) (natural-is w l.d h (All-head ps)) (sum_is f ws (All-tail ps))

mean-eq : (n e s t c d x : ℤ) → n ≡ e *ℤ s → c *ℤ x ≡ s → c *ℤ d ≡ t → n *ℤ d ≡ t *ℤ x *ℤ e
mean-eq n e s t c d x = certify! (n ∷ e ∷ s ∷ t ∷ c ∷ d ∷ x ∷ []) (search claims depth 60) (num 1) (eqn 0 (var 5) ⊞ eqn 1 (lit (negsuc 0) :* var 1 :* var 5) ⊞ eqn 2 (var 1 :* var 6)) tt

module _ {ls : List Line} {l : Line} (ps : Positive ls) (l-over : pos 0 <ℤ l.d) (m : WholeMean ls l) where
  total_eq : m.c *ℤ l.d ≡ pos (total (natural_weights m.weights))
  total_eq = m.on_d ∙ sym (total-is m.weights ps)

  mean_of : (f : Line → ℤ) → m.c *ℤ f l ≡ weighted f m.weights → MeanOf f (natural_weights m.weights) ls l
  mean_of f e = mean-eq _ _ (weighted f m.weights) (pos (total (natural_weights m.weights))) m.c l.d (f l) (sum_is f m.weights ps) e total_eq

  pub mean_of_whole : IsMean (natural_weights m.weights) ls l
  mean_of_whole =
      record {
        one_each = one_weight-each m.weights;
        not_all-0 = un-time< 0 (total (natural_weights m.weights)) (subst (λ z. pos 0 <ℤ z) total_eq (mul-pos m.c_over l-over));
        slope = mean_of (λ k. k.p) m.on_p;
        intercept = mean_of (λ k. k.q) m.on_q;
      }

  pub weighted_mean : WeightedMean ls l
  weighted_mean = record { weights = natural_weights m.weights; mean = mean_of_whole }

-- ---- strictly between, from fractions to whole lines
between-eq : (a b x y z i k d : ℤ) → (a *ℤ x *ℤ (k *ℤ pos 1) +ℤ (b *ℤ y *ℤ pos 1 +ℤ pos 0 *ℤ k) *ℤ i) *ℤ d ≡ (a +ℤ (b +ℤ pos 0)) *ℤ z *ℤ (i *ℤ (k *ℤ pos 1))
    → ((a +ℤ b) *ℤ i *ℤ k) *ℤ z ≡ (a *ℤ k *ℤ d) *ℤ x +ℤ (b *ℤ i *ℤ d) *ℤ y
between-eq a b x y z i k d = certify! (a ∷ b ∷ x ∷ y ∷ z ∷ i ∷ k ∷ d ∷ []) (search claims depth 80) (num 1) (eqn 0 (lit (negsuc 0))) tt

between-d : (a b i k d : ℤ) → ((a +ℤ b) *ℤ i *ℤ k) *ℤ d ≡ (a *ℤ k *ℤ d) *ℤ i +ℤ (b *ℤ i *ℤ d) *ℤ k
between-d a b i k d = ring! (a ∷ b ∷ i ∷ k ∷ d ∷ []) (search quotes depth 60) (search quotes depth 60) tt

between-over : (a b i k : ℤ) → pos 0 <ℤ a → pos 0 <ℤ b → pos 0 <ℤ i → pos 0 <ℤ k → pos 0 <ℤ ((a +ℤ b) *ℤ i *ℤ k)
between-over a b i k = certify! (a ∷ b ∷ i ∷ k ∷ []) (search claims depth 60) (num 1) (hyp 0 ⊠ hyp 2 ⊠ hyp 3 ⊞ hyp 1 ⊠ hyp 2 ⊠ hyp 3) tt

-- l is strictly between j and k
module _ (j k l : Line) (j-over : pos 0 <ℤ j.d) (k-over : pos 0 <ℤ k.d) (l-over : pos 0 <ℤ l.d) (s : StrictlyBetween j k l) where
  a_over : pos 0 <ℤ pos s.first
  a_over = time< 0 s.first s.first_over

  b_over : pos 0 <ℤ pos s.second
  b_over = time< 0 s.second s.second_over

  weight-over : (w d : ℤ) → pos 0 <ℤ w → pos 0 <ℤ d → pos 0 <ℤ (w *ℤ d *ℤ l.d)
  weight-over w d h i = mul-pos (mul-pos h i) l-over

  mean_of_between : Mean l ((pos s.first +ℤ pos s.second) *ℤ j.d *ℤ k.d) j (pos s.first *ℤ k.d *ℤ l.d) k (pos s.second *ℤ j.d *ℤ l.d)
  unfolding weighted_sum total
  mean_of_between =
      record {
        c_over = between-over (pos s.first) (pos s.second) j.d k.d a_over b_over j-over k-over;
        α-over = <ℤ→≤ℤ (weight-over (pos s.first) k.d a_over k-over);
        β-over = <ℤ→≤ℤ (weight-over (pos s.second) j.d b_over j-over);
        on_p = between-eq (pos s.first) (pos s.second) j.p k.p l.p j.d k.d l.d s.mean.slope;
        on_q = between-eq (pos s.first) (pos s.second) j.q k.q l.q j.d k.d l.d s.mean.intercept;
        on_d = between-d (pos s.first) (pos s.second) j.d k.d l.d;
      }

  -- so it is no corner of a set with j and k
  not_corner : {F : Line → Type 0} → F j → F k → CornerOf F l → ⊥
  not_corner fj fk c =
      s.not_first
      (c.sharp j k _ _ _ fj fk mean_of_between (weight-over (pos s.first) k.d a_over k-over) (weight-over (pos s.second) j.d b_over j-over))

-- ---- the same line
eq-dec : (x y : ℤ) → (x ≡ y) ⊎ (x ≡ y → ⊥)
eq-dec x y = by (≤ℤ_or_<ℤ x y) (≤ℤ_or_<ℤ y x)
  where
    by : (x ≤ℤ y) ⊎ (y <ℤ x) → (y ≤ℤ x) ⊎ (x <ℤ y) → (x ≡ y) ⊎ (x ≡ y → ⊥)
    by (inl h) (inl k) = inl (≤ℤ_antisym h k)
    by (inl h) (inr k) = inr (λ e. ≤ℤ-<ℤ-⊥ (≤ℤ_of_≡ (sym e)) k)
    by (inr h) k = inr (λ e. ≤ℤ-<ℤ-⊥ (≤ℤ_of_≡ e) h)

pub same-dec : (k l : Line) → SameLine k l ⊎ (SameLine k l → ⊥)
same-dec k l = by (eq-dec (k.p *ℤ l.d) (l.p *ℤ k.d)) (eq-dec (k.q *ℤ l.d) (l.q *ℤ k.d))
  where
    by : (k.p *ℤ l.d ≡ l.p *ℤ k.d) ⊎ (k.p *ℤ l.d ≡ l.p *ℤ k.d → ⊥) → (k.q *ℤ l.d ≡ l.q *ℤ k.d) ⊎ (k.q *ℤ l.d ≡ l.q *ℤ k.d → ⊥)
        → SameLine k l ⊎ (SameLine k l → ⊥)
    by (inl e) (inl f) = inl (record { slope = e; intercept = f })
    by (inl e) (inr f) = inr (λ s. f s.intercept)
    by (inr e) f = inr (λ s. e s.slope)

-- c·x = α·y + β·z and c·d = α·e + β·h, and z : h is x : d, so y : e is
other-same : (c α β x y z d e h : ℤ) → pos 0 <ℤ α → c *ℤ x ≡ α *ℤ y +ℤ β *ℤ z → c *ℤ d ≡ α *ℤ e +ℤ β *ℤ h → z *ℤ d ≡ x *ℤ h → y *ℤ d ≡ x *ℤ e
other-same c α β x y z d e h =
    certify! (c ∷ α ∷ β ∷ x ∷ y ∷ z ∷ d ∷ e ∷ h ∷ []) (search claims depth 80) (hyp 0) (eqn 1 (lit (negsuc 0) :* var 6) ⊞ eqn 2 (var 3) ⊞ eqn 3 (lit (negsuc 0) :* var 2)) tt

plus-0 : (c x α y β z : ℤ) → c *ℤ x ≡ α *ℤ y +ℤ β *ℤ z → c *ℤ x ≡ α *ℤ y +ℤ (β *ℤ z +ℤ pos 0)
plus-0 c x α y β z = certify! (c ∷ x ∷ α ∷ y ∷ β ∷ z ∷ []) (search claims depth 40) (num 1) (eqn 0 (lit (pos 1))) tt

-- a mean of two lines as one of a list
whole_of : (l a b : Line) (c α β : ℤ) → Mean l c a α b β → WholeMean (a ∷ b ∷ []) l
whole_of l a b c α β m =
    record {
      weights = more α m.α-over (more β m.β-over none);
      c = c;
      c_over = m.c_over;
      on_p = plus-0 c l.p α a.p β b.p m.on_p;
      on_q = plus-0 c l.q α a.q β b.q m.on_q;
      on_d = plus-0 c l.d α a.d β b.d m.on_d;
    }

natural-over : (w d : ℤ) → pos 0 <ℤ w → pos 0 <ℤ d → 0 < nat_abs (w *ℤ d)
natural-over w d h k = un-time< 0 (nat_abs (w *ℤ d)) (subst (λ z. pos 0 <ℤ z) (nonneg_pos (<ℤ→≤ℤ (mul-pos h k))) (mul-pos h k))

-- ---- corners
module _ {rs : List Range} {l : Line} where
  pub of_corner : CornerOf (InFit rs) l → Corner rs l
  of_corner c = record { fit = c.fits; extreme = λ j k fj fk s. not_corner j k l fj.positive fk.positive c.fits.positive s fj fk c }

  pub corner_of : Corner rs l → CornerOf (InFit rs) l
  unfolding natural_weights whole_of
  corner_of c = record { fits = c.fit; sharp = λ a b g α β fa fb m h k. first-same a b g α β fa fb m h k (same-dec a l) (same-dec b l) }
    where
      between : (a b : Line) (g α β : ℤ) → InFit rs a → InFit rs b → Mean l g a α b β → pos 0 <ℤ α → pos 0 <ℤ β → (SameLine a l → ⊥) → (SameLine b l → ⊥)
          → StrictlyBetween a b l
      between a b g α β fa fb m h k na nb =
          record {
            first = nat_abs (α *ℤ a.d);
            second = nat_abs (β *ℤ b.d);
            first_over = natural-over α a.d h fa.positive;
            second_over = natural-over β b.d k fb.positive;
            mean = mean_of_whole (cons fa.positive (cons fb.positive nil)) c.fit.positive (whole_of l a b g α β m);
            not_first = na;
            not-second = nb;
          }

      first-same : (a b : Line) (g α β : ℤ) → InFit rs a → InFit rs b → Mean l g a α b β → pos 0 <ℤ α → pos 0 <ℤ β → SameLine a l ⊎ (SameLine a l → ⊥)
          → SameLine b l ⊎ (SameLine b l → ⊥) → SameLine a l
      first-same a b g α β fa fb m h k (inl s) d = s
      first-same a b g α β fa fb m h k (inr na) (inl s) =
          record {
            slope = other-same g α β l.p a.p b.p l.d a.d b.d h m.on_p m.on_d s.slope;
            intercept = other-same g α β l.q a.q b.q l.d a.d b.d h m.on_q m.on_d s.intercept;
          }
      first-same a b g α β fa fb m h k (inr na) (inr nb) = absurd (c.extreme a b fa fb (between a b g α β fa fb m h k na nb))
