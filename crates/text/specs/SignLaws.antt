-- Laws of decimal numbers with a sign, as code computes them: by their size, or from 64 bits.
--
--     from_zero-text         the text of a number that is not below 0 is that of its size
--     below_zero-text        the text of a number below 0 is a minus sign and that of its size
--     NotBelow, not-below    a number that is not below 0: it can be cast, and its text is that of the cast number
--     opposite               −1 − z, which is not below 0 where z is below 0, and does not wrap even for the least z
--     Below, below           a number below 0: its text is a minus sign and the text of one more than what is opposite
--     signed-long            a number of 64 bits has at most 20 bytes
--
-- Assumes nothing.
use Rattle.std.specs.Prelude.{suc, ◌+◌, ◌≤◌, ◌≡◌, refl, ◌++◌, T, ℤ, pos, negsuc, nat_abs, ◌-ℤ◌, length, ◌≤ℤ◌, ◌<ℤ◌}
use Rattle.std.proofs.Common.{sym, ap, ◌∙◌, arith, add-one, ltb→lt, Fits, SFits, to_z-of_z}
use Rattle.std.proofs.Math.IntN.{+ℤ_comm, -ℤ_one}
use Rattle.std.specs.Int.Signed.{non_neg}
use Rattle.std.specs.Int.{w64}
use Rattle.integers.specs.Machine.{read}
use Rattle.definitions.specs.Report.{ascii, decimal, signed_decimal}
use Rattle.text.specs.DecimalLaws.{decimal-long}

pub from_zero-text : (z : ℤ) → pos 0 ≤ℤ z → signed_decimal z ≡ decimal (nat_abs z)
unfolding signed_decimal
from_zero-text (pos n) h = refl
from_zero-text (negsuc n) h = absurd h.le

pub below_zero-text : (z : ℤ) → z <ℤ pos 0 → signed_decimal z ≡ ascii "-" ++ decimal (nat_abs z)
unfolding signed_decimal
below_zero-text (pos n) h = absurd (omega (arith, ltb→lt n 0 h.lt))
below_zero-text (negsuc n) h = refl

pub record NotBelow (z : ℤ) : Type 0 where
  pub cast_fits : T (non_neg (read w64 z)) × Fits w64 (nat_abs (read w64 z))
  pub text_is : signed_decimal z ≡ decimal (nat_abs (read w64 z))

pub not-below : (z : ℤ) → SFits w64 z → pos 0 ≤ℤ z → NotBelow z
unfolding signed_decimal
not-below (pos n) h k = let back = to_z-of_z h in record { cast_fits = rw back (tt, record { fits = omega (arith, h.sfits) }); text_is = ap (λ y. decimal (nat_abs y)) (sym back) }
not-below (negsuc n) h k = absurd k.le

abbrev pub opposite : ℤ → ℤ
opposite z = read w64 (negsuc 0 -ℤ read w64 z)

pub record Below (z : ℤ) : Type 0 where
  pub sub-fits : SFits w64 (negsuc 0 -ℤ read w64 z)
  pub cast_fits : T (non_neg (opposite z)) × Fits w64 (nat_abs (opposite z))
  pub add-fits : Fits w64 (nat_abs (opposite z) + 1)
  pub text_is : signed_decimal z ≡ ascii "-" ++ decimal (nat_abs (opposite z) + 1)

pub below : (z : ℤ) → SFits w64 z → z <ℤ pos 0 → Below z
unfolding signed_decimal
below (pos n) h k = absurd (omega (arith, ltb→lt n 0 k.lt))
below (negsuc n) h k =
    let back = to_z-of_z h in
    let fit : SFits w64 (pos n) = record { sfits = h.sfits } in
    let difference : negsuc 0 -ℤ negsuc n ≡ pos n = +ℤ_comm (negsuc 0) (pos (suc n)) ∙ -ℤ_one (pos (suc n)) in
    let is : opposite (negsuc n) ≡ pos n = ap (λ y. read w64 (negsuc 0 -ℤ y)) back ∙ ap (read w64) difference ∙ to_z-of_z fit in
    record {
      sub-fits = rw (back, difference) fit;
      cast_fits = rw is (tt, record { fits = omega (arith, h.sfits) });
      add-fits = rw is (record { fits = omega (arith, h.sfits) });
      text_is = ap (λ m. ascii "-" ++ decimal m) (sym (add-one n)) ∙ ap (λ y. ascii "-" ++ decimal (nat_abs y + 1)) (sym is);
    }

pub signed-long : (z : ℤ) → SFits w64 z → length (signed_decimal z) ≤ 20
unfolding signed_decimal
signed-long (pos n) h = omega (arith, decimal-long 18 n (omega (arith, h.sfits)))
signed-long (negsuc n) h = omega (arith, decimal-long 18 (suc n) (omega (arith, h.sfits)))
