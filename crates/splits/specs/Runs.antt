-- Lists of runs: where they end, which is the last, and which of them are good. Nothing here knows how a list was cut.
--
--     flatten_nil, flatten_cons, flatten_snoc      the runs one after the other
--     flatten_about                                what stands before a run, the run, and what follows it
--     flatten_closing                              the same of a run with the first element of the next one
--     end-nil, end_zero, end_suc, end_rises        where the j-th run ends: `end_of j`
--     end_take                                     the first j runs are the first `end_of j` elements
--     last_run_snoc, last_run_split                  the last run; all runs are all but the last, and the last
--     RunWith, run_with                            the run that has the k-th element of all, counted from 1; there is one for each k up to the number of elements
--     FrontOf                                      a list is the front, up to the k-th element, of the run that has it
--     same_place                                   two fronts of one list of runs that end at the same element, inside a run, are the same
--     good-run, good_snoc                          a run of a split is good; a good list that is not empty is a run of a split
--     good_runs_append, good_at                    the runs of two splits; a run among those of a split
--
-- Assumes nothing.
use Rattle.std.specs.Prelude.{◌≡◌, Bool, true, false, ℕ, zero, suc, ◌+◌, ◌-◌, ◌≤◌, ◌<◌, ltb, length, take}
use Rattle.std.proofs.Math.Path.{refl, ap}
use Rattle.std.proofs.Common.{sym, ap₂, ◌∙◌, inl, inr, arith, ltb-true, ltb-false}
use mathlib.Core.List.{List, [], ◌∷◌, ◌++◌, flatten, drop_last, append-nil, append_assoc, append_cancel_left, head-eq_of_cons-eq}
use Rattle.std.proofs.Math.ListN.{length-append}
use Rattle.std.proofs.Math.Seq.{append_snoc, take-nil, take-append-add}
use Rattle.integers.specs.Lists.{Levi, levi, flatten_append}
use Rattle.definitions.specs.Splits.{GoodRun, GoodRuns, end_of, last_run}

-- ---- one after the other

module _ {A : Type 0} where
  pub flatten_nil : flatten {A = A} [] ≡ []
  unfolding flatten
  flatten_nil = refl

  pub flatten_cons : (run : List A) (runs : List (List A)) → flatten (run ∷ runs) ≡ run ++ flatten runs
  unfolding flatten
  flatten_cons run runs = refl

  pub flatten_about : (before : List (List A)) (run : List A) (after : List (List A)) → flatten (before ++ (run ∷ after)) ≡ flatten before ++ (run ++ flatten after)
  flatten_about before run after = flatten_append before (run ∷ after) ∙ ap (λ l. flatten before ++ l) (flatten_cons run after)

  pub flatten_closing : (before : List (List A)) (run : List A) (x : A) (more : List A) (after : List (List A))
      → flatten (before ++ (run ∷ (x ∷ more) ∷ after)) ≡ flatten before ++ (run ++ (x ∷ [])) ++ (more ++ flatten after)
  flatten_closing before run x more after =
      flatten_about before run ((x ∷ more) ∷ after)
      ∙ ap (λ l. flatten before ++ l) (ap (λ l. run ++ l) (flatten_cons (x ∷ more) after) ∙ sym (append_snoc run x (more ++ flatten after)))
      ∙ sym (append_assoc (flatten before) (run ++ (x ∷ [])) (more ++ flatten after))

  pub flatten_snoc : (runs : List (List A)) (run : List A) → flatten (runs ++ (run ∷ [])) ≡ flatten runs ++ run
  flatten_snoc runs run = flatten_about runs run [] ∙ ap (λ l. flatten runs ++ l) (ap (λ l. run ++ l) flatten_nil ∙ append-nil run)

-- ---- where the j-th run ends

pub end-nil : (A : Type 0) (j : ℕ) → end_of {A = A} j [] ≡ 0
unfolding end_of flatten
end-nil A zero = refl
end-nil A (suc j) = refl

module _ {A : Type 0} where
  pub end_zero : (runs : List (List A)) → end_of zero runs ≡ 0
  unfolding end_of flatten
  end_zero runs = refl

  pub end_suc : (j : ℕ) (run : List A) (runs : List (List A)) → end_of (suc j) (run ∷ runs) ≡ length run + end_of j runs
  unfolding end_of flatten
  end_suc j run runs = length-append run (flatten (take j runs))

  pub end_rises : (j : ℕ) (runs : List (List A)) → end_of j runs ≤ end_of (suc j) runs
  end_rises j [] = omega (arith, end-nil A j, end-nil A (suc j))
  end_rises zero (run ∷ runs) = omega (arith, end_zero (run ∷ runs))
  end_rises (suc j) (run ∷ runs) = omega (arith, end_suc j run runs, end_suc (suc j) run runs, end_rises j runs)

  pub end_take : (j : ℕ) (runs : List (List A)) → flatten (take j runs) ≡ take (end_of j runs) (flatten runs)
  end_take zero runs = flatten_nil ∙ rw (end_zero runs) refl
  end_take (suc j) [] = flatten_nil ∙ sym (ap (take (end_of (suc j) [])) flatten_nil ∙ take-nil (end_of {A = A} (suc j) []))
  end_take (suc j) (run ∷ runs) =
      flatten_cons run (take j runs)
      ∙ ap (λ l. run ++ l) (end_take j runs)
      ∙ sym (take-append-add run (flatten runs) (end_of j runs))
      ∙ rw (end_suc j run runs, flatten_cons run runs)

  -- ---- the last run
  pub last_run_snoc : (runs : List (List A)) (run : List A) → last_run (runs ++ (run ∷ [])) ≡ run
  unfolding last_run
  last_run_snoc [] run = refl
  last_run_snoc (r ∷ []) run = refl
  last_run_snoc (r ∷ s ∷ runs) run = last_run_snoc (s ∷ runs) run

  pub last_run_split : (run : List A) (runs : List (List A)) → drop_last (run ∷ runs) ++ (last_run (run ∷ runs) ∷ []) ≡ run ∷ runs
  unfolding last_run
  last_run_split run [] = refl
  last_run_split run (next ∷ runs) = ap (λ l. run ∷ l) (last_run_split next runs)

  -- ---- the run that has the k-th element

  -- what stands before `run` ends before the k-th element of all, and `run` at it or after it
  pub record RunWith (k : ℕ) (runs : List (List A)) : Type 0 where
    pub before : List (List A)
    pub run : List A
    pub after : List (List A)
    pub runs_are : runs ≡ before ++ (run ∷ after)
    pub over : length (flatten before) < k
    pub within : k ≤ length (flatten before) + length run

  pub record FrontOf (k : ℕ) (runs : List (List A)) (front : List A) : Type 0 where
    pub has : RunWith k runs
    pub is : front ≡ take (k - length (flatten has.before)) has.run

  flatten_longer : (run : List A) (runs : List (List A)) → length (flatten (run ∷ runs)) ≡ length run + length (flatten runs)
  flatten_longer run runs = ap length (flatten_cons run runs) ∙ length-append run (flatten runs)

  with_first : (k : ℕ) (run : List A) (runs : List (List A)) → 0 < k → k ≤ length run → RunWith k (run ∷ runs)
  with_first k run runs h b = let none = ap length (flatten_nil {A = A}) in record { before = []; run = run; after = runs; runs_are = refl; over = omega arith; within = omega arith }

  with_later : (k : ℕ) (run : List A) (runs : List (List A)) → length run < k → RunWith (k - length run) runs → RunWith k (run ∷ runs)
  with_later k run runs h w =
      let longer = flatten_longer run w.before in
      record { before = run ∷ w.before; run = w.run; after = w.after; runs_are = ap (λ l. run ∷ l) w.runs_are; over = omega arith; within = omega arith }

  pub run_with : (k : ℕ) (runs : List (List A)) → 0 < k → k ≤ length (flatten runs) → RunWith k runs
  run_with k [] h b = absurd (omega (arith, ap length (flatten_nil {A = A})))
  run_with k (run ∷ runs) h b = by (ltb (length run) k) refl (run_with (k - length run) runs)
    where
      by : (later : Bool) → ltb (length run) k ≡ later → (0 < k - length run → k - length run ≤ length (flatten runs) → RunWith (k - length run) runs) → RunWith k (run ∷ runs)
      by false e ih = with_first k run runs h (ltb-false (length run) k e)
      by true e ih = let beyond = ltb-true (length run) k e in with_later k run runs beyond (ih (omega arith) (omega (arith, flatten_longer run runs)))

  -- ---- one place in two ways

  -- where us and a front u of the next run end, no more runs can have ended
  too_far : (us : List (List A)) (u m : List A) (ms vs : List (List A)) (v : List A) → vs ≡ us ++ ((u ++ m) ∷ ms) → flatten us ++ u ≡ flatten vs ++ v → 0 < length v → ⊥
  too_far us u m ms vs v e f h =
      omega (
        arith,
        length-append (flatten us) u,
        length-append (flatten vs) v,
        ap length f,
        ap length (ap flatten e ∙ flatten_about us (u ++ m) ms),
        length-append (flatten us) ((u ++ m) ++ flatten ms),
        length-append (u ++ m) (flatten ms),
        length-append u m,
      )

  pub same_place : (us : List (List A)) (u m : List A) (ms vs : List (List A)) (v n : List A) (ns : List (List A)) → us ++ ((u ++ m) ∷ ms) ≡ vs ++ ((v ++ n) ∷ ns)
      → flatten us ++ u ≡ flatten vs ++ v → 0 < length u → 0 < length v → us ++ (u ∷ []) ≡ vs ++ (v ∷ [])
  same_place us u m ms vs v n ns e f hu hv = by (levi us ((u ++ m) ∷ ms) vs ((v ++ n) ∷ ns) e)
    where
      by : Levi us ((u ++ m) ∷ ms) vs ((v ++ n) ∷ ns) → us ++ (u ∷ []) ≡ vs ++ (v ∷ [])
      by (inl ([], p, q)) =
          let same = sym (append-nil us) ∙ sym p in
          ap₂ (λ l r. l ++ (r ∷ [])) same (append_cancel_left (flatten vs) u v (ap (λ l. flatten l ++ u) (sym same) ∙ f))
      by (inl (k ∷ ks, p, q)) = absurd (too_far us u m ks vs v (p ∙ ap (λ l. us ++ (l ∷ ks)) (sym (head-eq_of_cons-eq q))) f hv)
      by (inr (k, ks, p, q)) = absurd (too_far vs v n ks us u (p ∙ ap (λ l. vs ++ (l ∷ ks)) (sym (head-eq_of_cons-eq q))) (sym f) hu)

  -- ---- good runs
  module _ (Good : List A → Type 0) where
    pub good-run : (run : List A) → GoodRun Good run → Good run
    good-run (x ∷ run) g = g
    good-run [] g = absurd g

    pub good_snoc : (run : List A) (x : A) → Good (run ++ (x ∷ [])) → GoodRun Good (run ++ (x ∷ []))
    good_snoc [] x g = g
    good_snoc (y ∷ run) x g = g

    pub good_runs_append : (us vs : List (List A)) → GoodRuns Good us → GoodRuns Good vs → GoodRuns Good (us ++ vs)
    good_runs_append [] vs gs hs = hs
    good_runs_append (u ∷ us) vs gs hs = (gs.0, good_runs_append us vs gs.1 hs)

    pub good_at : (before : List (List A)) (run : List A) (after : List (List A)) → GoodRuns Good (before ++ (run ∷ after)) → GoodRun Good run
    good_at [] run after gs = gs.0
    good_at (r ∷ before) run after gs = good_at before run after gs.1
