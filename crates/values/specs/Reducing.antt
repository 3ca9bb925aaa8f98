-- Dividing a line's numbers by their common divisor in i64: nothing wraps, and the line stays within its bounds.
--
--     DivisorOf l n       n is the common divisor of the line's numbers
--     divisor_of          so is what Euclid's rule gives of their absolute values, as they are read
--     divisor_in          it is within the bound of d
--     divided_by n x       x / n as it is computed
--     divided_fits        what a division by it asks
--     reduced_by          the line of the three quotients is the line in lowest terms
--
-- Assumes nothing.
use Rattle.std.specs.Prelude.{◌≡◌, ℕ, ◌^◌, ◌<◌, T, ltb, ℤ, nat_abs}
use Rattle.std.proofs.Common.{ap, ap₂, ◌∙◌, arith}
use Rattle.std.proofs.Math.IntN.{pos}
use Rattle.std.specs.Int.Signed.{quot_z}
use Rattle.std.specs.Int.{w64}
use mir.Val.{SFits, hbits, to_z}
use Rattle.std.proofs.Math.Facts.{to_z_pos}
use Rattle.integers.specs.Bounds.{Within, fits}
use Rattle.integers.specs.Division.{in_quot}
use Rattle.integers.specs.Gcd.{gcd}
use Rattle.integers.specs.LowestTerms.{common_divisor, common_divisor_above_0, common_divisor_le, divided_lowest}
use Rattle.definitions.specs.Spans.{most_time}
use Rattle.definitions.specs.Corners.{reduced}
use Rattle.values.specs.declared.Line.{Line}
use Rattle.values.specs.Signed.{as_i64, read_back}
use Rattle.values.specs.Small.{Small, Reduced}

pub record DivisorOf (l : Line) (n : ℕ) : Type 0 where
  pub is : n ≡ common_divisor l.p l.q l.d

pub divisor_of : {l : Line} {a b e g n : ℕ} → Small l → a ≡ nat_abs (as_i64 l.p) → b ≡ nat_abs (as_i64 l.q) → g ≡ gcd a b → e ≡ nat_abs (as_i64 l.d) → n ≡ gcd g e → DivisorOf l n
unfolding common_divisor
divisor_of s p q r d h =
    record {
      is =
          h
          ∙ ap₂ gcd (r ∙ ap₂ gcd (p ∙ ap nat_abs (read_back w64 s.bounds.p_in tt)) (q ∙ ap nat_abs (read_back w64 s.bounds.q_in tt))) (d ∙ ap nat_abs (read_back w64 s.bounds.d_in tt));
    }

-- x / n as it is computed
abbrev pub divided_by : ℕ → ℤ → ℤ
divided_by n x = as_i64 (quot_z (as_i64 x) (to_z w64 n))

module _ {l : Line} {n : ℕ} (s : Small l) (g : DivisorOf l n) where
  pub divisor_in : Within most_time (pos n)
  divisor_in = record { within = omega (arith, g.is, common_divisor_le l.p l.q l.d s.d_above_0, s.bounds.d_in.within) }

  above-0 : 0 < n
  above-0 = rw g.is (common_divisor_above_0 l.p l.q l.d s.d_above_0)

  divisor_read : to_z w64 n ≡ pos n
  divisor_read = let h = divisor_in.within in to_z_pos w64 (omega arith)

  -- x / n, of a number that an i64 holds
  module _ {x : ℤ} {A : ℕ} (h : Within A x) (t : T (ltb A (2 ^ hbits w64))) where
    quotient_is : quot_z (as_i64 x) (to_z w64 n) ≡ quot_z x (pos n)
    quotient_is = rw (read_back w64 h t, divisor_read)

    pub divided_fits : (0 < n) × SFits w64 (quot_z (as_i64 x) (to_z w64 n))
    divided_fits = (above-0, rw quotient_is (fits (in_quot (pos n) h) t))

    divided_is : divided_by n x ≡ quot_z x (pos (common_divisor l.p l.q l.d))
    divided_is = ap as_i64 quotient_is ∙ read_back w64 (in_quot (pos n) h) t ∙ ap (λ m. quot_z x (pos m)) g.is

  pub reduced_by : Reduced l (record { p = divided_by n l.p; q = divided_by n l.q; d = divided_by n l.d })
  unfolding reduced
  reduced_by =
      let p_is = divided_is s.bounds.p_in tt in
      let q_is = divided_is s.bounds.q_in tt in
      let d_is = divided_is s.bounds.d_in tt in
      let m = pos (common_divisor l.p l.q l.d) in
      record {
        is = λ i. record { p = p_is i; q = q_is i; d = d_is i };
        small =
            record {
              bounds = record { p_in = rw p_is (in_quot m s.bounds.p_in); q_in = rw q_is (in_quot m s.bounds.q_in); d_in = rw d_is (in_quot m s.bounds.d_in) };
              d_above_0 = rw d_is (divided_lowest l.p l.q l.d s.d_above_0).above-0;
            };
      }
