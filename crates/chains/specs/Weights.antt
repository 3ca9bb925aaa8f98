-- Weighted sums over a list of lines, with whole weights that are not below 0.
--
--     Weights ls                          a weight for each line of ls
--     weighted f ws                       Σ wᵢ·f(lᵢ)
--     no_weights, one_weight, mix_weights    all 0; 1 at an entry and 0 elsewhere; α·u + β·v
--     weighted-none, weighted-one, weighted-mix   their sums
--     WholeMean ls l                      c·l = Σ wᵢ·lᵢ in p, q and d with c above 0: l is a weighted mean of ls, in whole numbers and without a fraction
--
-- Assumes nothing.
use Rattle.std.specs.Prelude.{◌≡◌, refl, List, [], ◌∷◌, ℤ, pos, ◌+ℤ◌, ◌*ℤ◌, ◌≤ℤ◌, ◌<ℤ◌}
use Rattle.std.proofs.Common.{sym, ◌∙◌, ap}
use Rattle.integers.specs.Parts.{ints}
use Rattle.integers.specs.RingSolver.{lit}
use Rattle.integers.specs.Certificates.{hyp, num, eqn, ◌⊞◌, ◌⊠◌}
use Rattle.integers.specs.Quotes.{quotes, ring! }
use Rattle.integers.specs.Solve.{claims, certify! }
use Rattle.integers.specs.Lists.{In, here, there}
use Rattle.definitions.specs.Lines.{Line}

pub data Weights : List Line → Type 0 where
  none : Weights []
  more : {l : Line} {ls : List Line} (w : ℤ) → pos 0 ≤ℤ w → Weights ls → Weights (l ∷ ls)

abbrev pub weighted : (Line → ℤ) → {ls : List Line} → Weights ls → ℤ
weighted f none = pos 0
weighted f (more {l} w h ws) = w *ℤ f l +ℤ weighted f ws

pub record WholeMean (ls : List Line) (l : Line) : Type 0 where
  pub weights : Weights ls
  pub c : ℤ
  pub c_over : pos 0 <ℤ c
  pub on_p : c *ℤ l.p ≡ weighted (λ m. m.p) weights
  pub on_q : c *ℤ l.q ≡ weighted (λ m. m.q) weights
  pub on_d : c *ℤ l.d ≡ weighted (λ m. m.d) weights

-- ---- all 0
zero≥0 : pos 0 ≤ℤ pos 0
zero≥0 = omega ints

pub no_weights : (ls : List Line) → Weights ls
no_weights [] = none
no_weights (l ∷ ls) = more (pos 0) zero≥0 (no_weights ls)

skip-term : (x t y : ℤ) → t ≡ y → pos 0 *ℤ x +ℤ t ≡ y
skip-term x t y = certify! (x ∷ t ∷ y ∷ []) (search claims depth 40) (num 1) (eqn 0 (lit (pos 1))) tt

weighted-none : (f : Line → ℤ) (ls : List Line) → weighted f (no_weights ls) ≡ pos 0
unfolding no_weights
weighted-none f [] = refl
weighted-none f (l ∷ ls) = skip-term (f l) (weighted f (no_weights ls)) (pos 0) (weighted-none f ls)

-- ---- 1 at an entry
one≥0 : pos 0 ≤ℤ pos 1
one≥0 = omega ints

pub one_weight : {m : Line} {ls : List Line} → In m ls → Weights ls
one_weight (here {xs = ls} e) = more (pos 1) one≥0 (no_weights ls)
one_weight (there i) = more (pos 0) zero≥0 (one_weight i)

one-term : (x t : ℤ) → t ≡ pos 0 → pos 1 *ℤ x +ℤ t ≡ x
one-term x t = certify! (x ∷ t ∷ []) (search claims depth 40) (num 1) (eqn 0 (lit (pos 1))) tt

pub weighted-one : (f : Line → ℤ) {m : Line} {ls : List Line} (i : In m ls) → weighted f (one_weight i) ≡ f m
unfolding one_weight
weighted-one f (here {x} {xs = ls} e) = one-term (f x) (weighted f (no_weights ls)) (weighted-none f ls) ∙ ap f (sym e)
weighted-one f {m} (there {x} i) = skip-term (f x) (weighted f (one_weight i)) (f m) (weighted-one f i)

-- ---- α · u + β · v
pub mix_weights : {ls : List Line} (α β : ℤ) → pos 0 ≤ℤ α → pos 0 ≤ℤ β → Weights ls → Weights ls → Weights ls
mix_weights α β a b none none = none
mix_weights α β a b (more v h vs) (more w k ws) = more (α *ℤ v +ℤ β *ℤ w) (nonneg α β v w a b h k) (mix_weights α β a b vs ws)
  where
    nonneg : (α β v w : ℤ) → pos 0 ≤ℤ α → pos 0 ≤ℤ β → pos 0 ≤ℤ v → pos 0 ≤ℤ w → pos 0 ≤ℤ (α *ℤ v +ℤ β *ℤ w)
    nonneg α β v w = certify! (α ∷ β ∷ v ∷ w ∷ []) (search claims depth 40) (num 1) (hyp 0 ⊠ hyp 2 ⊞ hyp 1 ⊠ hyp 3) tt

mix-none : (α β : ℤ) → pos 0 ≡ α *ℤ pos 0 +ℤ β *ℤ pos 0
mix-none α β = ring! (α ∷ β ∷ []) (search quotes depth 40) (search quotes depth 40) tt

mix-more : (α β v w x t r s : ℤ) → t ≡ α *ℤ r +ℤ β *ℤ s → (α *ℤ v +ℤ β *ℤ w) *ℤ x +ℤ t ≡ α *ℤ (v *ℤ x +ℤ r) +ℤ β *ℤ (w *ℤ x +ℤ s)
mix-more α β v w x t r s = certify! (α ∷ β ∷ v ∷ w ∷ x ∷ t ∷ r ∷ s ∷ []) (search claims depth 60) (num 1) (eqn 0 (lit (pos 1))) tt

pub weighted-mix : (f : Line → ℤ) {ls : List Line} (α β : ℤ) (a : pos 0 ≤ℤ α) (b : pos 0 ≤ℤ β) (u v : Weights ls)
    → weighted f (mix_weights α β a b u v) ≡ α *ℤ weighted f u +ℤ β *ℤ weighted f v
unfolding mix_weights
weighted-mix f α β a b none none = mix-none α β
weighted-mix f α β a b (more {l} v h vs) (more w k ws) =
    mix-more α β v w (f l) (weighted f (mix_weights α β a b vs ws)) (weighted f vs) (weighted f ws) (weighted-mix f α β a b vs ws)
