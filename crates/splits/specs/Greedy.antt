-- Greedy cutting, for any property of runs that consecutive parts inherit and any test that decides it: the runs of `cut` are a split,
-- no run of another split ends later, and no split has fewer runs. Segments are one case; runs of a limited length are another.
--
--     Decides                  among the lists that are Ok, the test decides Good, which parts of a good list inherit
--     ok_front, ok_back, ok_closing    parts that are Ok too: of two lists one after the other, and a run with the first element of the next one
--     cut_split                the runs of `cut` are a split
--     cut_closes               a run with the first element of the next one is not good
--     last_run_good             the last run is not empty, and good
--     cut_first_run            how to know the first run: it is good, and not with the element after it
--     cut_one_run              a good list is one run
--
-- Example: with d : Decides Ordered HasLine has_line, `cut_fewest d rs runs` says that no split into runs with a line has fewer runs than `cut has_line rs`.
-- Further laws stand in proofs/Greedy.antt.
-- Assumes nothing.
use Rattle.std.specs.Prelude.{◌≡◌, refl, Bool, true, false, ℕ, zero, suc, ◌+◌, ◌≤◌, ◌<◌, T, length}
use Rattle.std.proofs.Common.{sym, ap, ◌∙◌, subst, inl, inr, arith, length-append}
use mathlib.Core.List.{List, [], ◌∷◌, ◌++◌, flatten, drop_last, append-nil, nil≢cons}
use Rattle.std.proofs.Math.Seq.{append_snoc}
use Rattle.integers.specs.Booleans.{T→true, true→T, ¬T→false, false→¬T}
use Rattle.integers.specs.Lists.{Levi, levi}
use Rattle.definitions.specs.Splits.{cut_from, cut, GoodRun, GoodRuns, Split, end_of, last_run}
use Rattle.splits.specs.Runs.{flatten_nil, flatten_cons, flatten_closing, end-nil, end_zero, end_suc, end_rises, good-run, good_snoc, good_at}
use Rattle.splits.specs.Cutting.{FirstRun, first_run, cut_nil, cut_cons, cut_from_nil, cut_from_joins, cut_from_begins, cut-whole, cut_stops, cut_last}

module _ {A : Type 0} where
  pub record Decides (Ok Good : List A → Type 0) (good : List A → Bool) : Type 0 where
    pub ok_part : (xs ys zs : List A) → Ok (xs ++ ys ++ zs) → Ok ys
    pub part : (xs ys zs : List A) → Good (xs ++ ys ++ zs) → Good ys
    pub one : (x : A) → Ok (x ∷ []) → Good (x ∷ [])
    pub passes : (xs : List A) → Ok xs → Good xs → T (good xs)
    pub means : (xs : List A) → Ok xs → T (good xs) → Good xs

  -- cutting ys, which follows ws, is not behind the runs
  pub record Ahead (good : List A → Bool) (runs : List (List A)) (ws ys : List A) : Type 0 where
    pub ends : (j : ℕ) → end_of j runs ≤ length ws + end_of j (cut good ys)
    pub fewer : length (cut good ys) ≤ length runs

  module _ {Ok Good : List A → Type 0} {good : List A → Bool} (d : Decides Ok Good good) where
    pub ok_front : (xs ys : List A) → Ok (xs ++ ys) → Ok xs
    ok_front xs ys o = d.ok_part [] xs ys o

    pub ok_back : (xs ys : List A) → Ok (xs ++ ys) → Ok ys
    ok_back xs ys o = d.ok_part xs ys [] (rw append-nil o)

    -- ---- a split
    cut_from_good : (run xs : List A) → Ok (run ++ xs) → GoodRun Good run → GoodRuns Good (cut_from good run xs)
    cut_from_good run [] o g = rw (cut_from_nil good run) (g, tt)
    cut_from_good run (x ∷ xs) o g =
        let grown : Ok ((run ++ (x ∷ [])) ++ xs) = rw append_snoc o in
        let anew = ok_back run (x ∷ xs) o in
        by (good (run ++ (x ∷ []))) refl (ok_front (run ++ (x ∷ [])) xs grown) (cut_from_good (run ++ (x ∷ [])) xs grown) (cut_from_good (x ∷ []) xs anew (d.one x (ok_front (x ∷ []) xs anew)))
      where
        by : (b : Bool) → good (run ++ (x ∷ [])) ≡ b → Ok (run ++ (x ∷ [])) → (GoodRun Good (run ++ (x ∷ [])) → GoodRuns Good (cut_from good (run ++ (x ∷ [])) xs))
            → GoodRuns Good (cut_from good (x ∷ []) xs) → GoodRuns Good (cut_from good run (x ∷ xs))
        by true e k grown anew = rw (cut_from_joins good run x xs e) (grown (good_snoc Good run x (d.means (run ++ (x ∷ [])) k (true→T e))))
        by false e k grown anew = rw (cut_from_begins good run x xs e, cut_cons good x xs) (g, anew)

    pub cut_good : (xs : List A) → Ok xs → GoodRuns Good (cut good xs)
    cut_good [] o = rw cut_nil tt
    cut_good (x ∷ xs) o = rw (cut_cons good x xs) (cut_from_good (x ∷ []) xs o (d.one x (ok_front (x ∷ []) xs o)))

    pub cut_split : (xs : List A) → Ok xs → Split Good xs (cut good xs)
    cut_split xs o = record { whole = cut-whole good xs; each = cut_good xs o }

    pub last_run_good : (xs : List A) → 0 < length xs → Ok xs → GoodRun Good (last_run (cut good xs))
    last_run_good xs h o = good_at Good (drop_last (cut good xs)) (last_run (cut good xs)) [] (subst (GoodRuns Good) (cut_last good xs h) (cut_good xs o))

    -- ---- where a run ends
    pub ok_closing : (xs : List A) (before : List (List A)) (run : List A) (x : A) (more : List A) (after : List (List A)) → Ok xs
        → cut good xs ≡ before ++ (run ∷ (x ∷ more) ∷ after) → Ok (run ++ (x ∷ []))
    ok_closing xs before run x more after o e =
        let parts = sym (cut-whole good xs) ∙ ap flatten e ∙ flatten_closing before run x more after in
        d.ok_part (flatten before) (run ++ (x ∷ [])) (more ++ flatten after) (subst Ok parts o)

    pub cut_closes : (xs : List A) (before : List (List A)) (run : List A) (x : A) (more : List A) (after : List (List A)) → Ok xs
        → cut good xs ≡ before ++ (run ∷ (x ∷ more) ∷ after) → Good (run ++ (x ∷ [])) → ⊥
    cut_closes xs before run x more after o e g = false→¬T (cut_stops good xs before run x more after e) (d.passes (run ++ (x ∷ [])) (ok_closing xs before run x more after o e) g)

    -- ---- a good run that is begun is gone through
    cut_from_through : (run us xs : List A) → Ok (run ++ us) → Good (run ++ us) → cut_from good run (us ++ xs) ≡ cut_from good (run ++ us) xs
    cut_from_through run [] xs o g = rw append-nil refl
    cut_from_through run (u ∷ us) xs o g =
        let more-good : Good ((run ++ (u ∷ [])) ++ us) = rw append_snoc g in
        let more-ok : Ok ((run ++ (u ∷ [])) ++ us) = rw append_snoc o in
        let joins = d.passes (run ++ (u ∷ [])) (ok_front (run ++ (u ∷ [])) us more-ok) (d.part [] (run ++ (u ∷ [])) us more-good) in
        cut_from_joins good run u (us ++ xs) (T→true joins) ∙ cut_from_through (run ++ (u ∷ [])) us xs more-ok more-good ∙ ap (λ l. cut_from good l xs) (append_snoc run u us)

    cut_through : (x : A) (us xs : List A) → Ok (x ∷ us) → Good (x ∷ us) → cut good (x ∷ us ++ xs) ≡ cut_from good (x ∷ us) xs
    cut_through x us xs o g = cut_cons good x (us ++ xs) ∙ cut_from_through (x ∷ []) us xs o g

    pub cut_one_run : (run : List A) → Ok run → GoodRun Good run → cut good run ≡ run ∷ []
    cut_one_run [] o g = absurd g
    cut_one_run (x ∷ us) o g = rw append-nil at (cut_through x us [] o g) ∙ cut_from_nil good (x ∷ us)

    pub cut_first_run : (run : List A) (x : A) (xs : List A) → Ok (run ++ (x ∷ [])) → GoodRun Good run → (Good (run ++ (x ∷ [])) → ⊥) → cut good (run ++ (x ∷ xs)) ≡ run ∷ cut good (x ∷ xs)
    cut_first_run [] x xs o g n = absurd g
    cut_first_run (u ∷ us) x xs o g n =
        cut_through u us (x ∷ xs) (ok_front (u ∷ us) (x ∷ []) o) g ∙ cut_from_begins good (u ∷ us) x xs (¬T→false (λ t. n (d.means (u ∷ us ++ (x ∷ [])) o t)))

    -- ---- never behind
    behind : (r : List A) (runs : List (List A)) (ws ys vs : List A) → ws ≡ r ++ vs → Ahead good runs vs ys → Ahead good (r ∷ runs) ws ys
    behind r runs ws ys vs p h = record { ends = ends; fewer = omega (arith, h.fewer) }
      where
        ends : (j : ℕ) → end_of j (r ∷ runs) ≤ length ws + end_of j (cut good ys)
        ends zero = omega (arith, end_zero (r ∷ runs))
        ends (suc j) = omega (arith, end_suc j r runs, h.ends j, end_rises j (cut good ys), ap length p, length-append r vs)

    -- the run r ends behind ws; the first run of the cutting goes at least through it
    beyond : (r : List A) (runs : List (List A)) (ws : List A) (x : A) (us : List A) → r ≡ ws ++ (x ∷ us) → Ok r → Good r
        → ((vs zs : List A) → flatten runs ≡ vs ++ zs → Ahead good runs vs zs) → Ahead good (r ∷ runs) ws (x ∷ us ++ flatten runs)
    beyond r runs ws x us p o g ih = record { ends = ends; fewer = omega (arith, h.fewer, ap length is) }
      where
        f : FirstRun good (x ∷ us) (flatten runs) (cut_from good (x ∷ us) (flatten runs))
        f = first_run good (x ∷ us) (flatten runs)

        is : cut good (x ∷ us ++ flatten runs) ≡ ((x ∷ us) ++ f.gets) ∷ cut good f.rest
        is = cut_through x us (flatten runs) (ok_back ws (x ∷ us) (subst Ok p o)) (d.part ws (x ∷ us) [] (rw append-nil (subst Good p g))) ∙ f.is

        h : Ahead good runs f.gets f.rest
        h = ih f.gets f.rest f.splits

        ends : (j : ℕ) → end_of j (r ∷ runs) ≤ length ws + end_of j (cut good (x ∷ us ++ flatten runs))
        ends zero = omega (arith, end_zero (r ∷ runs))
        ends (suc j) =
            omega (
              arith,
              end_suc j r runs,
              h.ends j,
              ap length p,
              length-append ws (x ∷ us),
              length-append (x ∷ us) f.gets,
              ap (end_of (suc j)) is,
              end_suc j ((x ∷ us) ++ f.gets) (cut good f.rest),
            )

    -- the list ws ++ ys is split into runs; cutting only ys is not behind
    pub ahead : (runs : List (List A)) (ws ys : List A) → Ok (flatten runs) → GoodRuns Good runs → flatten runs ≡ ws ++ ys → Ahead good runs ws ys
    ahead [] [] [] o gs e = record { ends = λ j. omega (arith, end-nil A j); fewer = rw cut_nil (omega arith) }
    ahead [] [] (y ∷ ys) o gs e = absurd (nil≢cons (sym flatten_nil ∙ e))
    ahead [] (w ∷ ws) ys o gs e = absurd (nil≢cons (sym flatten_nil ∙ e))
    ahead (r ∷ runs) ws ys o gs e = by (levi r (flatten runs) ws ys (sym (flatten_cons r runs) ∙ e)) (λ vs zs q. ahead runs vs zs (ok_back r (flatten runs) (rw flatten_cons at o)) gs.1 q)
      where
        by : Levi r (flatten runs) ws ys → ((vs zs : List A) → flatten runs ≡ vs ++ zs → Ahead good runs vs zs) → Ahead good (r ∷ runs) ws ys
        by (inl (vs, p, q)) ih = behind r runs ws ys vs p (ih vs ys q)
        by (inr (x, us, p, q)) ih = rw q (beyond r runs ws x us p (ok_front r (flatten runs) (rw flatten_cons at o)) (good-run Good r gs.0) ih)
