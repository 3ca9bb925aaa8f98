-- One range: its fit is an endless strip, and has no corner. No range: every line is in its fit, and none is a corner.
--
--     turned t e l           l with e more of p, and with the same value at t
--     turned-between         each line is strictly between two that are turned about one time, either way
--     no_range_open   every line is in the fit of no range; fewer than two ranges have no corner
--
-- Further laws stand in proofs/OneRange.antt.
-- Assumes nothing.
use Rattle.std.specs.Prelude.{◌≡◌, [], ◌∷◌, ℕ, ℤ, pos, negsuc, ◌+ℤ◌, ◌-ℤ◌, ◌*ℤ◌, ◌<ℤ◌}
use Rattle.std.proofs.Common.{arith}
use Rattle.integers.specs.RingSolver.{var}
use Rattle.integers.specs.Certificates.{hyp, num, eqn, ◌⊞◌, ◌⊠◌}
use Rattle.integers.specs.Quotes.{quotes, ring! }
use Rattle.integers.specs.Solve.{claims, certify! }
use Rattle.integers.specs.Lists.{nil}
use Rattle.definitions.specs.Lines.{Line, reading}
use Rattle.definitions.specs.Fit.{InFit, StrictlyBetween}
use Rattle.lines.specs.LineOrder.{Positive}
use Rattle.lines.specs.MeanLaws.{mean-of_two}

unfoldable pub turned : ℕ → ℤ → Line → Line
turned t e l = record { p = l.p +ℤ e; q = l.q -ℤ e *ℤ pos t; d = l.d }

pub turned-reading : (t : ℕ) (e : ℤ) (l : Line) → reading (turned t e l) t ≡ reading l t
unfolding turned reading
turned-reading t e l = ring! (l.p ∷ l.q ∷ e ∷ pos t ∷ []) (search quotes depth 40) (search quotes depth 40) tt

-- ---- strictly between

other-slope : (p e d : ℤ) → pos 0 <ℤ (e *ℤ e) → pos 0 <ℤ d → (p +ℤ e) *ℤ d ≡ p *ℤ d → ⊥
other-slope p e d = certify! (p ∷ e ∷ d ∷ []) (search claims depth 40) (num 1) (hyp 0 ⊠ hyp 1 ⊞ eqn 2 (var 1)) tt

slopes-mean : (p d : ℤ) → pos 1 *ℤ (p +ℤ pos 1) *ℤ d *ℤ d +ℤ pos 1 *ℤ (p +ℤ negsuc 0) *ℤ d *ℤ d ≡ (pos 1 +ℤ pos 1) *ℤ p *ℤ d *ℤ d
slopes-mean p d = ring! (p ∷ d ∷ []) (search quotes depth 40) (search quotes depth 40) tt

intercepts_mean : (q t d : ℤ) → pos 1 *ℤ (q -ℤ pos 1 *ℤ t) *ℤ d *ℤ d +ℤ pos 1 *ℤ (q -ℤ negsuc 0 *ℤ t) *ℤ d *ℤ d ≡ (pos 1 +ℤ pos 1) *ℤ q *ℤ d *ℤ d
intercepts_mean q t d = ring! (q ∷ t ∷ d ∷ []) (search quotes depth 40) (search quotes depth 40) tt

pub turned-between : (t : ℕ) (l : Line) → Positive l → StrictlyBetween (turned t (pos 1) l) (turned t (negsuc 0) l) l
unfolding turned
turned-between t l h =
    record {
      first = 1;
      second = 1;
      first_over = omega arith;
      second_over = omega arith;
      mean =
          mean-of_two (turned t (pos 1) l) (turned t (negsuc 0) l) l (pos 1) (pos 1) (record { le = tt }) (record { le = tt }) (record { lt = tt })
          (slopes-mean l.p l.d) (intercepts_mean l.q (pos t) l.d);
      not_first = λ s. other-slope l.p (pos 1) l.d (record { lt = tt }) h s.slope;
      not-second = λ s. other-slope l.p (negsuc 0) l.d (record { lt = tt }) h s.slope;
    }

pub no_range_open : (l : Line) → Positive l → InFit [] l
no_range_open l h = record { positive = h; each = nil }
