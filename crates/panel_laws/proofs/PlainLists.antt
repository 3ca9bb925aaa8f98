-- Laws that rest on those of specs/PlainLists.antt.
--
--     held_plain                        how many ranges a head has, from the addresses alone
--
-- Assumes nothing.
use Rattle.std.specs.Prelude.{ℕ, ◌≡◌, refl, List, [], ◌∷◌, eqb, ℤ, length}
use Rattle.std.proofs.Common.{arith, ◌∙◌}
use Rattle.std.proofs.Math.Path.{ap}
use Rattle.definitions.specs.Panels.{zip_taken, head_ranges, counted_in, occurrences}
use Rattle.panel_laws.specs.PlainLists.{kept-length}

-- four lists of one length
pub held_plain : (a : ℕ) (bs ts : List ℕ) (us vs : List ℤ) → length ts ≡ length bs → length us ≡ length bs → length vs ≡ length bs → length (head_ranges a (zip_taken bs ts us vs)) ≡ occurrences a bs
unfolding head_ranges zip_taken occurrences
held_plain a [] ts us vs p q r = refl
held_plain a (b ∷ bs) [] us vs p q r = absurd (omega (arith, p))
held_plain a (b ∷ bs) (t ∷ ts) [] vs p q r = absurd (omega (arith, q))
held_plain a (b ∷ bs) (t ∷ ts) (u ∷ us) [] p q r = absurd (omega (arith, r))
held_plain a (b ∷ bs) (t ∷ ts) (u ∷ us) (v ∷ vs) p q r =
    kept-length (eqb b a) (record { time = t; low = u; high = v }) (head_ranges a (zip_taken bs ts us vs)) ∙ ap (counted_in (eqb b a)) (held_plain a bs ts us vs (omega (arith, p)) (omega (arith, q)) (omega (arith, r)))
