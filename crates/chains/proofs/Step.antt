-- Laws that rest on those of specs/Step.antt.
--
--     cut_chains           the cut keeps the invariant
--
-- Assumes nothing.
use Rattle.std.specs.Prelude.{◌≡◌, refl, List, zero, suc, ℤ, pos, negsuc, ◌≤ℤ◌, ◌<ℤ◌}
use Rattle.std.proofs.Common.{sym, subst, inl, inr}
use Rattle.integers.specs.OrderLaws.{sub-pos, <ℤ→≤ℤ, ≤ℤ_of_≡}
use Rattle.definitions.specs.Lines.{Line}
use Rattle.chains.specs.Points.{Point, gap, Touches, through, turn, SlopeAtMost, through-first, through-second, through-steeper, touches_too}
use Rattle.chains.specs.Extremes.{Laws, bottom-top}
use Rattle.chains.specs.Chain.{Chain, Chains, ends-map, head_of, Polygon}
use Rattle.chains.specs.Cut.{Under, With, keep_under, Kept, drop_over, Dropped}
use Rattle.chains.proofs.Cut.{kept, dropped}
use Rattle.chains.specs.Step.{cut, push_if, turn-above, turn-not_below, turn-zero}

module _ {F : Line → Type 0} {Top Bot : Point → Type 0} {T : ℤ} (laws : Laws F Top Bot T) (N : Point) (late : T ≤ℤ N.t) where
  -- the upper chain, ended by a line y through a lower end and N
  cut_up : {s : Line} {ks : List Point} (k : Kept F Top N s ks) (y : Line) → Under F N y → Touches y N → SlopeAtMost (through k.end N) y
      → Chain (Under F N) (With Top N) s (push_if (turn (through k.end N) y) ks N) y
  cut_up {s} {ks} k y gy yn le = by (turn (through k.end N) y) refl
    where
      by : (g : ℤ) → turn (through k.end N) y ≡ g → Chain (Under F N) (With Top N) s (push_if g ks N) y
      by (pos zero) e =
          k.stop y gy (touches_too (through k.end N) y k.end N (sub-pos k.before) (turn-zero (through k.end N) y e) (through-second k.end N) yn (through-first k.end N)) le
      by (pos (suc n)) e = k.push y gy yn (turn-above (through k.end N) y n e)
      by (negsuc n) e = absurd (turn-not_below (through k.end N) y n le e)

  pub cut_chains : (x : Polygon) → Chains F Top Bot x → gap x.slow N <ℤ pos 0 → pos 0 <ℤ gap x.fast N → Chains (Under F N) (With Top N) Bot (cut N x)
  cut_chains x c h k =
      let ks = keep_under N x.upper in
      let ls = drop_over N x.lower in
      let y = through (head_of ls) N in
      let K : Kept F Top N x.slow (keep_under N x.upper) = kept laws N c.up h (<ℤ→≤ℤ k) in
      let D : Dropped F Bot N (drop_over N x.lower) x.slow = dropped laws N late x.lower x.fast x.slow c.down (<ℤ→≤ℤ k) h in
      let gy : Under F N (through (head_of (drop_over N x.lower)) N) = (D.fits, ≤ℤ_of_≡ (through-second (head_of ls) N)) in
      let le : SlopeAtMost (through K.end N) (through (head_of (drop_over N x.lower)) N) = through-steeper (through K.end N) (head_of ls) N (laws.over _ _ D.bot K.fits) (through-second K.end N) in
      record {
        slow_ends = ends-map (λ A a. inl a) (λ A a. a) c.slow_ends;
        fast_ends = bottom-top (With Top N) Bot y (head_of ls) N D.bot (inr refl) D.before (through-first (head_of ls) N) (through-second (head_of ls) N);
        up = subst (λ A. Chain (Under F N) (With Top N) x.slow (push_if (turn (through A N) y) ks N) y) (sym K.is_end) (cut_up K y gy (through-second (head_of ls) N) le);
        down = D.chain;
      }
