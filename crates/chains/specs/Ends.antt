-- The ends of a range as points, and the lines that fit it, by gaps.
--
--     H r, L r                     the high end of range r, the point (time, high), and its low end, (time, low)
--     under_H, over_L, fits_range_is  a line fits a range exactly when it is not above H and not below L
--     on_value, touch-over         a line through a value is over every lower value of that time; a line through a value between low and high fits
--     mean_fits                    a weighted mean of lines that fit some ranges fits them
--     time<, time≤, un-time<       the order of times as natural numbers and as whole numbers
--
-- Assumes nothing.
use Rattle.std.specs.Prelude.{◌≡◌, List, [], ◌∷◌, ℕ, ◌<◌, ◌≤◌, ℤ, negsuc, ◌+ℤ◌, ◌-ℤ◌, ◌*ℤ◌, ◌≤ℤ◌, ◌<ℤ◌}
use Rattle.std.proofs.Math.IntN.{pos}
use Rattle.integers.specs.Parts.{ints}
use Rattle.integers.specs.RingSolver.{lit}
use Rattle.integers.specs.Certificates.{hyp, num, eqn, ◌⊞◌, ◌⊠◌}
use Rattle.integers.specs.Solve.{claims, certify!, certify_from! }
use Rattle.integers.specs.Lists.{All_imp₂}
use Rattle.definitions.specs.Ranges.{Range}
use Rattle.definitions.specs.Lines.{Line, reading}
use Rattle.definitions.specs.Fit.{FitsRange, InFit}
use Rattle.chains.specs.Points.{Point, gap, Touches, Mean, mean_under, mean_over}

abbrev pub H : Range → Point
H r = record { t = pos r.time; u = r.high }

abbrev pub L : Range → Point
L r = record { t = pos r.time; u = r.low }

-- ---- a line that fits
module _ {l : Line} {r : Range} where
  pub under_H : FitsRange l r → gap l (H r) ≤ℤ pos 0
  unfolding reading
  under_H f = certify_from! (l.p ∷ l.q ∷ l.d ∷ pos r.time ∷ r.high ∷ []) f.under_high (search claims depth 40) (num 1) (hyp 0) tt

  pub over_L : FitsRange l r → pos 0 ≤ℤ gap l (L r)
  unfolding reading
  over_L f = certify_from! (l.p ∷ l.q ∷ l.d ∷ pos r.time ∷ r.low ∷ []) f.over_low (search claims depth 40) (num 1) (hyp 0) tt

  pub fits_range_is : pos 0 ≤ℤ gap l (L r) → gap l (H r) ≤ℤ pos 0 → FitsRange l r
  unfolding reading
  fits_range_is h k =
      record {
        over_low = certify_from! (l.p ∷ l.q ∷ l.d ∷ pos r.time ∷ r.low ∷ []) h (search claims depth 40) (num 1) (hyp 0) tt;
        under_high = certify_from! (l.p ∷ l.q ∷ l.d ∷ pos r.time ∷ r.high ∷ []) k (search claims depth 40) (num 1) (hyp 0) tt;
      }

-- a line that touches a point is over every lower point of that time, and under every higher one
pub touch-over : (l : Line) (t u v : ℤ) → pos 0 <ℤ l.d → l.p *ℤ t +ℤ l.q -ℤ l.d *ℤ v ≡ pos 0 → u ≤ℤ v → pos 0 ≤ℤ (l.p *ℤ t +ℤ l.q -ℤ l.d *ℤ u)
touch-over l t u v = certify! (l.p ∷ l.q ∷ l.d ∷ t ∷ u ∷ v ∷ []) (search claims depth 40) (num 1) (hyp 0 ⊠ hyp 2 ⊞ eqn 1 (lit (negsuc 0))) tt

touch-under : (l : Line) (t u v : ℤ) → pos 0 <ℤ l.d → l.p *ℤ t +ℤ l.q -ℤ l.d *ℤ u ≡ pos 0 → u ≤ℤ v → (l.p *ℤ t +ℤ l.q -ℤ l.d *ℤ v) ≤ℤ pos 0
touch-under l t u v = certify! (l.p ∷ l.q ∷ l.d ∷ t ∷ u ∷ v ∷ []) (search claims depth 40) (num 1) (hyp 0 ⊠ hyp 2 ⊞ eqn 1 (lit (pos 1))) tt

pub on_value : (l : Line) (r : Range) (u : ℤ) → r.low ≤ℤ u → u ≤ℤ r.high → pos 0 <ℤ l.d → Touches l (record { t = pos r.time; u = u }) → FitsRange l r
on_value l r u a b d-over e = fits_range_is (touch-over l (pos r.time) r.low u d-over e a) (touch-under l (pos r.time) u r.high d-over e b)

-- ---- a mean fits
module _ (l v w : Line) (c α β : ℤ) where
  mean_fits_range : (r : Range) → Mean l c v α w β → FitsRange v r → FitsRange w r → FitsRange l r
  mean_fits_range r m f g = fits_range_is (mean_over l v w c α β (L r) m (over_L f) (over_L g)) (mean_under l v w c α β (H r) m (under_H f) (under_H g))

  pub mean_fits : (rs : List Range) → Mean l c v α w β → pos 0 <ℤ l.d → InFit rs v → InFit rs w → InFit rs l
  mean_fits rs m h f g = record { positive = h; each = All_imp₂ (λ r. mean_fits_range r m) f.each g.each }

-- ---- times
pub time< : (i j : ℕ) → i < j → pos i <ℤ pos j
time< i j h = omega ints

pub time≤ : (i j : ℕ) → i ≤ j → pos i ≤ℤ pos j
time≤ i j h = omega ints

pub un-time< : (i j : ℕ) → pos i <ℤ pos j → i < j
un-time< i j h = omega ints
