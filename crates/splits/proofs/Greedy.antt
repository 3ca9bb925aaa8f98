-- Laws that rest on those of specs/Greedy.antt.
--
--     cut_ahead                the j-th run of `cut` ends at or after the j-th run of any split, for every j
--     cut_fewest               no split has fewer runs
--     cut_longest              no good front of the list is longer than the first run
--
-- Assumes nothing.
use Rattle.std.specs.Prelude.{Bool, ℕ, ◌≤◌, length}
use Rattle.std.proofs.Common.{sym, ap, ◌∙◌, subst, arith}
use mathlib.Core.List.{List, [], ◌∷◌, ◌++◌}
use Rattle.definitions.specs.Splits.{cut, Split, end_of}
use Rattle.splits.specs.Runs.{flatten_cons, end_suc}
use Rattle.splits.specs.Cutting.{cut-whole}
use Rattle.splits.specs.Greedy.{Ahead, ahead, cut_good, Decides, ok_back}

module _ {A : Type 0} where
  module _ {Ok Good : List A → Type 0} {good : List A → Bool} (d : Decides Ok Good good) where
    split_ahead : (xs : List A) (runs : List (List A)) → Ok xs → Split Good xs runs → Ahead good runs [] xs
    split_ahead xs runs o s = ahead d runs [] xs (subst Ok (sym s.whole) o) s.each s.whole

    pub cut_ahead : (xs : List A) (runs : List (List A)) → Ok xs → Split Good xs runs → (j : ℕ) → end_of j runs ≤ end_of j (cut good xs)
    cut_ahead xs runs o s j = omega (arith, (split_ahead xs runs o s).ends j)

    pub cut_fewest : (xs : List A) (runs : List (List A)) → Ok xs → Split Good xs runs → length (cut good xs) ≤ length runs
    cut_fewest xs runs o s = (split_ahead xs runs o s).fewer

    pub cut_longest : (us vs : List A) → Ok (us ++ vs) → Good us → length us ≤ end_of 1 (cut good (us ++ vs))
    cut_longest [] vs o g = omega arith
    cut_longest (u ∷ us) vs o g = omega (arith, cut_ahead (u ∷ us ++ vs) ((u ∷ us) ∷ cut good vs) o taken_first 1, end_suc 0 (u ∷ us) (cut good vs))
      where
        taken_first : Split Good (u ∷ us ++ vs) ((u ∷ us) ∷ cut good vs)
        taken_first = record { whole = flatten_cons (u ∷ us) (cut good vs) ∙ ap (λ l. u ∷ us ++ l) (cut-whole good vs); each = (g, cut_good d vs (ok_back d (u ∷ us) vs o)) }
