-- Cutting from the end: the same list read backward, with the same test on each run in its own order, gives as many runs as cutting from the start.
--
--     turned                   runs read backward: the last one first, and each from its end
--     run_turned               a good run, read backward, is a run of which the same holds read backward
--     split_turned             the runs of a split, turned, are a split of the list read backward
--     decides_turned           a test that decides a property decides it of runs read backward
--
-- Further laws stand in proofs/Backward.antt.
-- Assumes nothing.
use Rattle.std.specs.Prelude.{◌≡◌, Bool, length}
use Rattle.std.proofs.Math.Path.{refl, sym, ap, subst}
use Rattle.std.proofs.Common.{◌∙◌}
use mathlib.Core.List.{List, [], ◌∷◌, ◌++◌, map, reverse, flatten, append_assoc, reverse-append, reverse-cons, reverse-reverse}
use Rattle.std.proofs.Math.ListN.{length-map, length-reverse}
use Rattle.definitions.specs.Splits.{GoodRun, GoodRuns, Split}
use Rattle.splits.specs.Runs.{flatten_snoc, good_snoc, good_runs_append}
use Rattle.splits.specs.Greedy.{Decides}

module _ {A : Type 0} where
  unfoldable pub turned : List (List A) → List (List A)
  turned runs = reverse (map reverse runs)

  turned_cons : (run : List A) (runs : List (List A)) → turned (run ∷ runs) ≡ turned runs ++ (reverse run ∷ [])
  unfolding turned
  turned_cons run runs = reverse-cons (reverse run) (map reverse runs)

  pub length_turned : (runs : List (List A)) → length (turned runs) ≡ length runs
  unfolding turned
  length_turned runs = length-reverse (map reverse runs) ∙ length-map runs reverse

  flatten_turned : (runs : List (List A)) → flatten (turned runs) ≡ reverse (flatten runs)
  unfolding turned flatten
  flatten_turned [] = refl
  flatten_turned (run ∷ runs) = ap flatten (turned_cons run runs) ∙ flatten_snoc (turned runs) (reverse run) ∙ ap (λ l. l ++ reverse run) (flatten_turned runs) ∙ sym (reverse-append run (flatten runs))

  -- ---- splits
  module _ (Good : List A → Type 0) where
    pub run_turned : (run : List A) → GoodRun Good run → GoodRun (λ l. Good (reverse l)) (reverse run)
    run_turned [] g = absurd g
    run_turned (x ∷ xs) g =
        let back = sym (reverse-reverse (x ∷ xs)) ∙ ap reverse (reverse-cons x xs) in
        subst (GoodRun (λ l. Good (reverse l))) (sym (reverse-cons x xs)) (good_snoc (λ l. Good (reverse l)) (reverse xs) x (subst Good back g))

    runs_turned : (runs : List (List A)) → GoodRuns Good runs → GoodRuns (λ l. Good (reverse l)) (turned runs)
    unfolding turned
    runs_turned [] gs = tt
    runs_turned (run ∷ runs) gs =
        subst (GoodRuns (λ l. Good (reverse l))) (sym (turned_cons run runs))
        (good_runs_append (λ l. Good (reverse l)) (turned runs) (reverse run ∷ []) (runs_turned runs gs.1) (run_turned run gs.0, tt))

    pub split_turned : (xs : List A) (runs : List (List A)) → Split Good xs runs → Split (λ l. Good (reverse l)) (reverse xs) (turned runs)
    split_turned xs runs s = record { whole = flatten_turned runs ∙ ap reverse s.whole; each = runs_turned runs s.each }

  -- ---- tests
  reverse_parts : (xs ys zs : List A) → reverse (xs ++ ys ++ zs) ≡ reverse zs ++ reverse ys ++ reverse xs
  reverse_parts xs ys zs = reverse-append (xs ++ ys) zs ∙ ap (λ l. reverse zs ++ l) (reverse-append xs ys) ∙ sym (append_assoc (reverse zs) (reverse ys) (reverse xs))

  pub decides_turned : {Ok Good : List A → Type 0} {good : List A → Bool} → Decides Ok Good good → Decides (λ l. Ok (reverse l)) (λ l. Good (reverse l)) (λ l. good (reverse l))
  decides_turned {Ok} {Good} d =
      record {
        ok_part = λ xs ys zs o. d.ok_part (reverse zs) (reverse ys) (reverse xs) (subst Ok (reverse_parts xs ys zs) o);
        part = λ xs ys zs g. d.part (reverse zs) (reverse ys) (reverse xs) (subst Good (reverse_parts xs ys zs) g);
        one = d.one;
        passes = λ xs. d.passes (reverse xs);
        means = λ xs. d.means (reverse xs);
      }
