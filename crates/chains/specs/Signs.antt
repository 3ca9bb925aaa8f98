-- Whole numbers that a definition matched on. A definition that branches on a computed number g hands g and its equation to a helper; these say what the equation means.
--
--     negsuc<0, pos≥0, suc>0             g is −(n + 1), n, or n + 1
--     diff-zero, diff_pos, diff_neg      the order of h and l by their difference
--
-- Assumes nothing.
use Rattle.std.specs.Prelude.{◌≡◌, [], ◌∷◌, ℕ, suc, ℤ, pos, negsuc, ◌-ℤ◌, ◌≤ℤ◌, ◌<ℤ◌}
use Rattle.std.proofs.Common.{sym, subst}
use Rattle.integers.specs.Parts.{ints}
use Rattle.integers.specs.RingSolver.{lit}
use Rattle.integers.specs.Certificates.{hyp, num, eqn}
use Rattle.integers.specs.Solve.{claims, certify! }

module _ (g : ℤ) (n : ℕ) where
  pub negsuc<0 : g ≡ negsuc n → g <ℤ pos 0
  negsuc<0 e = subst (λ z. z <ℤ pos 0) (sym e) (omega ints)

  pub pos≥0 : g ≡ pos n → pos 0 ≤ℤ g
  pos≥0 e = subst (λ z. pos 0 ≤ℤ z) (sym e) (omega ints)

  pub suc>0 : g ≡ pos (suc n) → pos 0 <ℤ g
  suc>0 e = subst (λ z. pos 0 <ℤ z) (sym e) (omega ints)

module _ (h l : ℤ) where
  pub diff-zero : h -ℤ l ≡ pos 0 → l ≡ h
  diff-zero = certify! (h ∷ l ∷ []) (search claims depth 40) (num 1) (eqn 0 (lit (negsuc 0))) tt

  pub diff_pos : pos 0 <ℤ (h -ℤ l) → l <ℤ h
  diff_pos = certify! (h ∷ l ∷ []) (search claims depth 40) (num 1) (hyp 0) tt

  pub diff_neg : (h -ℤ l) <ℤ pos 0 → h <ℤ l
  diff_neg = certify! (h ∷ l ∷ []) (search claims depth 40) (num 1) (hyp 0) tt
