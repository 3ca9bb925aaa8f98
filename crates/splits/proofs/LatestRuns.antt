-- Laws that rest on those of specs/LatestRuns.antt.
--
--     latest_cut               the latest run is the first of these, and what stands before it is cut in the same manner
--
-- Assumes nothing.
use Rattle.std.specs.Prelude.{◌≡◌, Bool, ◌<◌, length}
use Rattle.std.proofs.Math.Path.{ap}
use Rattle.std.proofs.Common.{sym, ◌∙◌, subst, arith}
use mathlib.Core.List.{List, [], ◌∷◌, ◌++◌, reverse, reverse-append, reverse-cons, reverse-reverse}
use Rattle.std.proofs.Math.Seq.{append_snoc}
use Rattle.definitions.specs.Splits.{cut, GoodRun}
use Rattle.definitions.specs.Latest.{latest_by}
use Rattle.splits.specs.Greedy.{Decides, ok_back, cut_one_run, cut_first_run}
use Rattle.splits.specs.Backward.{run_turned, decides_turned}
use Rattle.splits.specs.LatestRuns.{cut_back, ended, latest-suffix, latest_good, latest_longest, LatestAt}

module _ {A : Type 0} where
  module _ {Ok Good : List A → Type 0} {good : List A → Bool} (d : Decides Ok Good good) where
    -- the end is not good with the element before it
    latest_stops : (fs : List A) (x : A) (xs : List A) → Ok xs → xs ≡ (fs ++ (x ∷ [])) ++ latest_by good xs → Good (x ∷ latest_by good xs) → ⊥
    latest_stops fs x xs o e g =
        let whole : xs ≡ fs ++ (x ∷ latest_by good xs) = e ∙ append_snoc fs x (latest_by good xs) in
        let long = latest_longest d fs (x ∷ latest_by good xs) (subst Ok whole o) g in
        absurd (omega (arith, long, ap (λ l. length (latest_by good l)) whole))

    pub latest_cut : (xs : List A) → Ok xs → 0 < length xs → LatestAt good xs
    unfolding cut_back cut
    latest_cut xs o h = by (latest-suffix good xs).0 (latest-suffix good xs).1
      where
        back : List A
        back = latest_by good xs

        turned_good : GoodRun (λ l. Good (reverse l)) (reverse back)
        turned_good = run_turned Good back (latest_good d xs o h)

        ok_turned : (ys : List A) → Ok ys → Ok (reverse (reverse ys))
        ok_turned ys = subst Ok (sym (reverse-reverse ys))

        at-end : (fs : List A) (x : A) → xs ≡ (fs ++ (x ∷ [])) ++ back → cut_back good xs ≡ reverse back ∷ cut_back good (fs ++ (x ∷ []))
        at-end fs x e =
            let whole : xs ≡ fs ++ (x ∷ back) = e ∙ append_snoc fs x back in
            let turned : reverse back ++ (x ∷ []) ≡ reverse (x ∷ back) = sym (reverse-cons x back) in
            let ok : Ok (x ∷ back) = ok_back d fs (x ∷ back) (subst Ok whole o) in
            let first = cut_first_run (decides_turned d) (reverse back) x (reverse fs) (subst (λ l. Ok (reverse l)) (sym turned) (ok_turned (x ∷ back) ok)) turned_good
            (λ g. latest_stops fs x xs o e (subst Good (reverse-reverse (x ∷ back)) (subst (λ l. Good (reverse l)) turned g))) in
            let over : reverse xs ≡ reverse back ++ (x ∷ reverse fs) = ap reverse e ∙ reverse-append (fs ++ (x ∷ [])) back ∙ ap (λ l. reverse back ++ l) (reverse-append fs (x ∷ [])) in
            let rest : x ∷ reverse fs ≡ reverse (fs ++ (x ∷ [])) = sym (reverse-append fs (x ∷ [])) in
            ap (cut (λ run. good (reverse run))) over ∙ first ∙ ap (λ l. reverse back ∷ cut (λ run. good (reverse run)) l) rest

        by : (front : List A) → xs ≡ front ++ back → LatestAt good xs
        by [] e =
            record {
              front = [];
              whole = e;
              cuts = ap (λ l. cut (λ run. good (reverse run)) (reverse l)) e ∙ cut_one_run (decides_turned d) (reverse back) (ok_turned back (subst Ok e o)) turned_good;
            }
        by (x ∷ front) e =
            let v = ended x front in
            record { front = x ∷ front; whole = e; cuts = at-end v.front v.end (e ∙ ap (λ l. l ++ back) v.is) ∙ ap (λ l. reverse back ∷ cut_back good l) (sym v.is) }
