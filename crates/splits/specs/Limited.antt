-- Runs of at most so many elements: a limit passes on to consecutive parts, so all that is proved of greedy cutting holds of it too.
--
--     Limited, limited         good, and at most so many elements: the property and its test
--     limited_decides          where a test decides a property, the limited test decides the limited property
--     limited_closes           a run that closes below the limit closes because it would not be good
--
-- Further laws stand in proofs/Limited.antt.
-- Assumes nothing.
use Rattle.std.specs.Prelude.{◌≡◌, Bool, ◌&&◌, List, [], ◌∷◌, ◌++◌, ℕ, ◌≤◌, ◌<◌, leb, length}
use native.Mathlib.Omega.{arith}
use Rattle.std.proofs.Math.Dec.{leb→le}
use Rattle.std.proofs.Common.{le→leb}
use Rattle.std.proofs.Math.ListN.{length-append}
use Rattle.integers.specs.Booleans.{and_intro, and_left, and_right}
use Rattle.definitions.specs.Splits.{cut}
use Rattle.splits.specs.Greedy.{Decides, cut_closes}

module _ {A : Type 0} where
  pub record Limited (most : ℕ) (Good : List A → Type 0) (run : List A) : Type 0 where
    pub is_good : Good run
    pub within : length run ≤ most

  unfoldable pub limited : ℕ → (List A → Bool) → List A → Bool
  limited most good run = good run && leb (length run) most

  module _ {Ok Good : List A → Type 0} {good : List A → Bool} (d : Decides Ok Good good) (most : ℕ) (some : 0 < most) where
    pub limited_decides : Decides Ok (Limited most Good) (limited most good)
    unfolding limited
    limited_decides =
        record {
          ok_part = d.ok_part;
          part = λ xs ys zs g. record { is_good = d.part xs ys zs g.is_good; within = omega (arith, g.within, length-append (xs ++ ys) zs, length-append xs ys) };
          one = λ x o. record { is_good = d.one x o; within = omega arith };
          passes = λ xs o g. and_intro (good xs) (leb (length xs) most) (d.passes xs o g.is_good) (le→leb (length xs) most g.within);
          means = λ xs o t. record { is_good = d.means xs o (and_left (good xs) (leb (length xs) most) t); within = leb→le (length xs) most (and_right (good xs) (leb (length xs) most) t) };
        }

    pub limited_closes : (xs : List A) (before : List (List A)) (run : List A) (x : A) (more : List A) (after : List (List A)) → Ok xs
        → cut (limited most good) xs ≡ before ++ (run ∷ (x ∷ more) ∷ after) → length run < most → Good (run ++ (x ∷ [])) → ⊥
    limited_closes xs before run x more after o e below g =
        cut_closes limited_decides xs before run x more after o e (record { is_good = g; within = omega (arith, length-append run (x ∷ [])) })
