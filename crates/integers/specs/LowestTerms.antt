-- Three integers p, q, d with d above 0, read as the two fractions p/d and q/d: their lowest terms, and that these are the only ones. That p/d = r/e is said by the products, p · e = r · d.
--
--     DividesAll k p q d                      k divides p, q and d
--     common_divisor p q d                     the greatest such k
--     common_divisor_divides, common_divisor_greatest  it is one, and every other divides it
--     common_divisor_scale                     that of m · p, m · q, m · d is |m| times that of p, q, d
--     common_divisor_above_0, common_divisor_le where d is above 0, so is it, and it is at most d
--     InLowestTerms p q d                     the only common divisor is 1
--     lowest-iff                              exactly when common_divisor p q d = 1
--     lowest-unique                           if p/d = p'/d' and q/d = q'/d', both in lowest terms, then p = p', q = q' and d = d'
--     cross-trans                             p/d = p'/d' and p'/d' = r/e give p/d = r/e
--     LowestTermsOf p q d r s e               r, s, e are p, q, d in lowest terms: r/e = p/d, s/e = q/d, e above 0, in lowest terms
--     LowestTermsOf_unique                    there is only one such r, s, e
--     LowestTermsOf_same                      it is the same for every p, q, d with the same p/d and q/d
--     divided p q d x                         x divided by the common divisor of p, q and d
--     ScaledBy g r s e p q d                  p, q, d are g times r, s, e
--     divided_times                           so are p, q, d, of p, q, d divided by their common divisor
--     divided_lowest                          and the divided ones are p, q, d in lowest terms
--     divided_unique                          so whatever is p, q, d in lowest terms, is the divided ones
--     divided-same, divided-id                equal fractions give equal divided ones; what is in lowest terms is left as it is
--     in_divided                              what is within a bound is so when divided
--
-- Example: the common divisor of 6, −4 and 10 is 2, and `divided_lowest (pos 6) (negsuc 3) (pos 10) h` says that 3, −2 and 5 are their lowest terms. Two lines given by p, q, d are one when `lowest-unique h h' same_p same_q lowest lowest'` applies.
-- Assumes nothing.
use Rattle.std.specs.Prelude.{◌≡◌, refl, ◌↔◌, [], ◌∷◌, ℕ, ◌*◌, ◌<◌, ◌≤◌, ℤ, pos, negsuc, nat_abs, ◌*ℤ◌, ◌<ℤ◌}
use Rattle.std.proofs.Common.{sym, ap, ◌∙◌, subst, arith}
use Rattle.std.proofs.Math.Path.{ap₂}
use Rattle.std.specs.Int.{◌∣◌}
use Rattle.std.proofs.Math.Nat as NatL
use Rattle.std.proofs.Math.IntN.{*ℤ_comm}
use Rattle.std.specs.Int.Signed.{quot_z}
use Rattle.integers.specs.Parts.{ints}
use Rattle.integers.specs.OrderLaws.{nonneg_pos, <ℤ→≤ℤ, *ℤ_cancel_≡}
use Rattle.integers.specs.RingSolver.{var, lit, :neg}
use Rattle.integers.specs.Certificates.{hyp, num, eqn, ◌⊞◌}
use Rattle.integers.specs.Solve.{claims, certify! }
use Rattle.integers.specs.Bounds.{Within}
use Rattle.integers.specs.Division.{in_quot}
use Rattle.integers.specs.Divides.{◌∣ℤ◌, dvd_trans, abs-mul_is, abs_above_0, ∣ℤ_quot}
use Rattle.integers.specs.Gcd.{gcd, gcd-left, gcd-right, gcd-greatest, gcd-mul, gcd_above_0_right, gcd-le_right}

-- ---- the common divisor
pub record DividesAll (k : ℕ) (p q d : ℤ) : Type 0 where
  pub of_p : k ∣ℤ p
  pub of_q : k ∣ℤ q
  pub of_d : k ∣ℤ d

unfoldable pub common_divisor : ℤ → ℤ → ℤ → ℕ
common_divisor p q d = gcd (gcd (nat_abs p) (nat_abs q)) (nat_abs d)

module _ (p q d : ℤ) where
  pub common_divisor_divides : DividesAll (common_divisor p q d) p q d
  unfolding common_divisor
  common_divisor_divides =
      let both = gcd (nat_abs p) (nat_abs q) in
      record {
        of_p = dvd_trans (gcd both (nat_abs d)) (gcd-left both (nat_abs d)) (gcd-left (nat_abs p) (nat_abs q));
        of_q = dvd_trans (gcd both (nat_abs d)) (gcd-left both (nat_abs d)) (gcd-right (nat_abs p) (nat_abs q));
        of_d = gcd-right both (nat_abs d);
      }

  pub common_divisor_greatest : {k : ℕ} → DividesAll k p q d → k ∣ common_divisor p q d
  unfolding common_divisor
  common_divisor_greatest {k} h = gcd-greatest k (gcd-greatest k h.of_p h.of_q) h.of_d

  pub common_divisor_scale : (m : ℤ) → common_divisor (m *ℤ p) (m *ℤ q) (m *ℤ d) ≡ nat_abs m * common_divisor p q d
  unfolding common_divisor
  common_divisor_scale m =
      ap₂ gcd (ap₂ gcd (abs-mul_is m p) (abs-mul_is m q) ∙ gcd-mul (nat_abs m) (nat_abs p) (nat_abs q)) (abs-mul_is m d)
      ∙ gcd-mul (nat_abs m) (gcd (nat_abs p) (nat_abs q)) (nat_abs d)

  pub common_divisor_above_0 : pos 0 <ℤ d → 0 < common_divisor p q d
  unfolding common_divisor
  common_divisor_above_0 h = gcd_above_0_right (gcd (nat_abs p) (nat_abs q)) (nat_abs d) (abs_above_0 d h)

  pub common_divisor_le : pos 0 <ℤ d → common_divisor p q d ≤ nat_abs d
  unfolding common_divisor
  common_divisor_le h = gcd-le_right (gcd (nat_abs p) (nat_abs q)) (nat_abs d) (abs_above_0 d h)

-- ---- lowest terms

-- p/d = p'/d' and p'/d' = r/e give p/d = r/e
pub cross-trans : (p d p' d' r e : ℤ) → pos 0 <ℤ d' → p *ℤ d' ≡ p' *ℤ d → p' *ℤ e ≡ r *ℤ d' → p *ℤ e ≡ r *ℤ d
cross-trans p d p' d' r e = certify! (p ∷ d ∷ p' ∷ d' ∷ r ∷ e ∷ []) (search claims depth 60) (hyp 0) (eqn 1 (var 5) ⊞ eqn 2 (var 1)) tt

pub record InLowestTerms (p q d : ℤ) : Type 0 where
  pub only_one : (k : ℕ) → DividesAll k p q d → k ≡ 1

pub lowest-iff : (p q d : ℤ) → InLowestTerms p q d ↔ (common_divisor p q d ≡ 1)
lowest-iff p q d = (λ h. h.only_one (common_divisor p q d) (common_divisor_divides p q d), λ e. record { only_one = λ k h. NatL.eq-one_of_dvd-one (subst (λ n. k ∣ n) e (common_divisor_greatest p q d h)) })

scaled-lowest : (m p q d : ℤ) → InLowestTerms p q d → common_divisor (m *ℤ p) (m *ℤ q) (m *ℤ d) ≡ nat_abs m
scaled-lowest m p q d h = let e : common_divisor p q d ≡ 1 = (lowest-iff p q d).0 h in common_divisor_scale p q d m ∙ ap (λ n. nat_abs m * n) e ∙ omega arith

above_0_same : {d e : ℤ} → pos 0 <ℤ d → pos 0 <ℤ e → nat_abs d ≡ nat_abs e → d ≡ e
above_0_same h k s = nonneg_pos (<ℤ→≤ℤ h) ∙ ap pos s ∙ sym (nonneg_pos (<ℤ→≤ℤ k))

pub lowest-unique : {p q d p' q' d' : ℤ} → pos 0 <ℤ d → pos 0 <ℤ d' → p *ℤ d' ≡ p' *ℤ d → q *ℤ d' ≡ q' *ℤ d → InLowestTerms p q d → InLowestTerms p' q' d' → (p ≡ p') × (q ≡ q') × (d ≡ d')
lowest-unique {p} {q} {d} {p'} {q'} {d'} h h' same_p same_q lowest lowest' = (part p p' same_p, part q q' same_q, same_d)
  where
    -- d' is the common divisor of d' · p, d' · q and d' · d, and d that of d · p', d · q' and d · d': the same three numbers
    same_size : nat_abs d ≡ nat_abs d'
    same_size =
        sym (scaled-lowest d p' q' d' lowest')
        ∙ ap (λ x. common_divisor x (d *ℤ q') (d *ℤ d')) (*ℤ_comm d p' ∙ sym same_p ∙ *ℤ_comm p d')
        ∙ ap₂ (common_divisor (d' *ℤ p)) (*ℤ_comm d q' ∙ sym same_q ∙ *ℤ_comm q d') (*ℤ_comm d d')
        ∙ scaled-lowest d' p q d lowest

    same_d : d ≡ d'
    same_d = above_0_same h h' same_size

    part : (x y : ℤ) → x *ℤ d' ≡ y *ℤ d → x ≡ y
    part x y e = *ℤ_cancel_≡ {a = x} {b = y} d h (ap (λ z. z *ℤ x) same_d ∙ *ℤ_comm d' x ∙ e ∙ *ℤ_comm y d)

-- ---- p, q, d in lowest terms
pub record LowestTermsOf (p q d r s e : ℤ) : Type 0 where
  pub above-0 : pos 0 <ℤ e
  pub same_p : p *ℤ e ≡ r *ℤ d
  pub same_q : q *ℤ e ≡ s *ℤ d
  pub lowest : InLowestTerms r s e

pub LowestTermsOf_unique : {p q d r s e r' s' e' : ℤ} → pos 0 <ℤ d → LowestTermsOf p q d r s e → LowestTermsOf p q d r' s' e' → (r ≡ r') × (s ≡ s') × (e ≡ e')
LowestTermsOf_unique {p} {q} {d} {r} {s} {e} {r'} {s'} {e'} h x y =
    lowest-unique x.above-0 y.above-0
    (cross-trans r e p d r' e' h (sym x.same_p) y.same_p)
    (cross-trans s e q d s' e' h (sym x.same_q) y.same_q)
    x.lowest y.lowest

pub LowestTermsOf_same : {p q d p' q' d' r s e : ℤ} → pos 0 <ℤ d' → p *ℤ d' ≡ p' *ℤ d → q *ℤ d' ≡ q' *ℤ d → LowestTermsOf p' q' d' r s e → LowestTermsOf p q d r s e
LowestTermsOf_same {p} {q} {d} {p'} {q'} {d'} {r} {s} {e} h same_p same_q x =
    record { above-0 = x.above-0; same_p = cross-trans p d p' d' r e h same_p x.same_p; same_q = cross-trans q d q' d' s e h same_q x.same_q; lowest = x.lowest }

-- ---- dividing by the common divisor
pub record ScaledBy (g : ℕ) (r s e p q d : ℤ) : Type 0 where
  pub p_is : r *ℤ pos g ≡ p
  pub q_is : s *ℤ pos g ≡ q
  pub d_is : e *ℤ pos g ≡ d

scaled-cross : (g p d r e : ℤ) → r *ℤ g ≡ p → e *ℤ g ≡ d → p *ℤ e ≡ r *ℤ d
scaled-cross g p d r e = certify! (g ∷ p ∷ d ∷ r ∷ e ∷ []) (search claims depth 60) (num 1) (eqn 0 (:neg (var 4)) ⊞ eqn 1 (var 3)) tt

scaled_above_0 : (g d e : ℤ) → pos 0 <ℤ g → e *ℤ g ≡ d → pos 0 <ℤ d → pos 0 <ℤ e
scaled_above_0 g d e = certify! (g ∷ d ∷ e ∷ []) (search claims depth 60) (hyp 0) (hyp 2 ⊞ eqn 1 (lit (negsuc 0))) tt

scaled-common_divisor : {g : ℕ} {r s e p q d : ℤ} → ScaledBy g r s e p q d → g * common_divisor r s e ≡ common_divisor p q d
scaled-common_divisor {g} {r} {s} {e} {p} {q} {d} h =
    sym (common_divisor_scale r s e (pos g))
    ∙ ap (λ x. common_divisor x (pos g *ℤ s) (pos g *ℤ e)) (*ℤ_comm (pos g) r ∙ h.p_is)
    ∙ ap₂ (common_divisor p) (*ℤ_comm (pos g) s ∙ h.q_is) (*ℤ_comm (pos g) e ∙ h.d_is)

abbrev pub divided : ℤ → ℤ → ℤ → ℤ → ℤ
divided p q d x = quot_z x (pos (common_divisor p q d))

module _ (p q d : ℤ) where
  pub divided_times : ScaledBy (common_divisor p q d) (divided p q d p) (divided p q d q) (divided p q d d) p q d
  divided_times =
      let g = common_divisor p q d in
      let c = common_divisor_divides p q d in
      record { p_is = ∣ℤ_quot g p c.of_p; q_is = ∣ℤ_quot g q c.of_q; d_is = ∣ℤ_quot g d c.of_d }

  module _ (h : pos 0 <ℤ d) where
    divided_one : common_divisor (divided p q d p) (divided p q d q) (divided p q d d) ≡ 1
    divided_one =
        let g = common_divisor p q d in
        NatL.eq_of_mul-eq-mul_left g (common_divisor_above_0 p q d h) _ 1 (scaled-common_divisor divided_times ∙ sym (NatL.mul-one g))

    pub divided_lowest : LowestTermsOf p q d (divided p q d p) (divided p q d q) (divided p q d d)
    divided_lowest =
        let g = common_divisor p q d in
        let m = common_divisor_above_0 p q d h in
        let t = divided_times in
        record {
          above-0 = scaled_above_0 (pos g) d (divided p q d d) (omega ints) t.d_is h;
          same_p = scaled-cross (pos g) p d (divided p q d p) (divided p q d d) t.p_is t.d_is;
          same_q = scaled-cross (pos g) q d (divided p q d q) (divided p q d d) t.q_is t.d_is;
          lowest = (lowest-iff (divided p q d p) (divided p q d q) (divided p q d d)).1 divided_one;
        }

    pub divided_unique : {r s e : ℤ} → LowestTermsOf p q d r s e → (r ≡ divided p q d p) × (s ≡ divided p q d q) × (e ≡ divided p q d d)
    divided_unique x = LowestTermsOf_unique h x divided_lowest

pub divided-same : (p q d p' q' d' : ℤ) → pos 0 <ℤ d → pos 0 <ℤ d' → p *ℤ d' ≡ p' *ℤ d → q *ℤ d' ≡ q' *ℤ d
    → (divided p q d p ≡ divided p' q' d' p') × (divided p q d q ≡ divided p' q' d' q') × (divided p q d d ≡ divided p' q' d' d')
divided-same p q d p' q' d' h h' same_p same_q = LowestTermsOf_unique h (divided_lowest p q d h) (LowestTermsOf_same h' same_p same_q (divided_lowest p' q' d' h'))

pub divided-id : {p q d : ℤ} → pos 0 <ℤ d → InLowestTerms p q d → (divided p q d p ≡ p) × (divided p q d q ≡ q) × (divided p q d d ≡ d)
divided-id {p} {q} {d} h l = LowestTermsOf_unique h (divided_lowest p q d h) (record { above-0 = h; same_p = refl; same_q = refl; lowest = l })

pub in_divided : {x : ℤ} {A : ℕ} (p q d : ℤ) → Within A x → Within A (divided p q d x)
in_divided p q d w = in_quot (pos (common_divisor p q d)) w
