-- Laws that rest on those of specs/Backward.antt.
--
--     cut_back                 cutting from the end gives as many runs as cutting from the start
--
-- Assumes nothing.
use Rattle.std.specs.Prelude.{◌≡◌, Bool, ◌≤◌, length}
use Rattle.std.proofs.Math.Path.{sym, ap, subst, fun_ext}
use Rattle.std.proofs.Common.{ap₂, arith}
use mathlib.Core.List.{List, reverse, reverse-reverse}
use Rattle.definitions.specs.Splits.{cut}
use Rattle.splits.specs.Greedy.{Decides, cut_split}
use Rattle.splits.proofs.Greedy.{cut_fewest}
use Rattle.splits.specs.Backward.{decides_turned, length_turned, split_turned, turned}

module _ {A : Type 0} where
  back_fewer : {Ok Good : List A → Type 0} {good : List A → Bool} (d : Decides Ok Good good) (xs : List A) → Ok xs → length (cut (λ run. good (reverse run)) (reverse xs)) ≤ length (cut good xs)
  back_fewer {Ok} {Good} {good} d xs o =
      omega (
        arith,
        cut_fewest (decides_turned d) (reverse xs) (turned (cut good xs)) (subst Ok (sym (reverse-reverse xs)) o) (split_turned Good xs (cut good xs) (cut_split d xs o)),
        length_turned (cut good xs),
      )

  pub cut_back : {Ok Good : List A → Type 0} {good : List A → Bool} (d : Decides Ok Good good) (xs : List A) → Ok xs → length (cut (λ run. good (reverse run)) (reverse xs)) ≡ length (cut good xs)
  cut_back {Ok} {Good} {good} d xs o = omega (arith, back_fewer d xs o, back_more)
    where
      twice : (λ run. good (reverse (reverse run))) ≡ good
      twice = fun_ext (λ run. ap good (reverse-reverse run))

      -- cutting backward what was read backward is cutting forward
      back_more : length (cut good xs) ≤ length (cut (λ run. good (reverse run)) (reverse xs))
      back_more =
          subst (λ n. n ≤ length (cut (λ run. good (reverse run)) (reverse xs))) (ap₂ (λ (test : List A → Bool) l. length (cut test l)) twice (reverse-reverse xs))
          (back_fewer (decides_turned d) (reverse xs) (subst Ok (sym (reverse-reverse xs)) o))
