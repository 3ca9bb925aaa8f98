-- One cut: the polygon of the lines at or below a later point N, where slow is below N and fast above it.
--
--     push_if g ks N        N at the end of the chain, where g is above 0
--     cut N x              the upper chain loses its end and the lower chain its head, both as far as N cuts them off; fast becomes the line through the lower chain's head and N; N goes on the upper chain unless the line to it from the chain's end has fast's slope. Then the fit is a mere segment of lines, through one point that is both a high and a low end
--     cut_with ks N x       the same with ks left of the upper chain
--
-- Further laws stand in proofs/Step.antt.
-- Assumes nothing.
use Rattle.std.specs.Prelude.{◌≡◌, List, [], ◌∷◌, ◌++◌, ℕ, zero, suc, ℤ, pos, negsuc, ◌*ℤ◌, ◌≤ℤ◌, ◌<ℤ◌}
use Rattle.std.proofs.Common.{sym, subst}
use Rattle.integers.specs.Parts.{ints}
use Rattle.integers.specs.OrderLaws.{pos-sub}
use Rattle.integers.specs.RingSolver.{lit}
use Rattle.integers.specs.Certificates.{hyp, num, eqn}
use Rattle.integers.specs.Solve.{claims, certify! }
use Rattle.definitions.specs.Lines.{Line}
use Rattle.definitions.specs.Fit.{SlopeBelow}
use Rattle.chains.specs.Points.{Point, through, turn, SlopeAtMost}
use Rattle.chains.specs.Chain.{head_of, last_of, Polygon}
use Rattle.chains.specs.Cut.{keep_under, drop_over}

abbrev pub push_if : ℤ → List Point → Point → List Point
push_if (pos zero) ks N = ks
push_if (pos (suc n)) ks N = ks ++ N ∷ []
push_if (negsuc n) ks N = ks

-- with ks left of the upper chain
abbrev pub cut_with : List Point → Point → Polygon → Polygon
cut_with ks N x =
    record {
      upper = push_if (turn (through (last_of ks) N) (through (head_of (drop_over N x.lower)) N)) ks N;
      lower = drop_over N x.lower;
      slow = x.slow;
      fast = through (head_of (drop_over N x.lower)) N;
    }

abbrev pub cut : Point → Polygon → Polygon
cut N x = cut_with (keep_under N x.upper) N x

pub turn-above : (v w : Line) (n : ℕ) → turn v w ≡ pos (suc n) → SlopeBelow v w
turn-above v w n e = pos-sub (subst (λ z. pos 0 <ℤ z) (sym e) (omega ints))

pub turn-zero : (v w : Line) → turn v w ≡ pos 0 → v.p *ℤ w.d ≡ w.p *ℤ v.d
turn-zero v w = certify! (v.p ∷ v.d ∷ w.p ∷ w.d ∷ []) (search claims depth 40) (num 1) (eqn 0 (lit (negsuc 0))) tt

pub turn-not_below : (v w : Line) (n : ℕ) → SlopeAtMost v w → turn v w ≡ negsuc n → ⊥
turn-not_below v w n h e = no (subst (λ z. pos 0 ≤ℤ z) e (nonneg v w h))
  where
    nonneg : (v w : Line) → SlopeAtMost v w → pos 0 ≤ℤ turn v w
    nonneg v w = certify! (v.p ∷ v.d ∷ w.p ∷ w.d ∷ []) (search claims depth 40) (num 1) (hyp 0) tt

    no : pos 0 ≤ℤ negsuc n → ⊥
    no h = h.le
