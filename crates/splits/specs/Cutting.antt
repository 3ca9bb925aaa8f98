-- Cutting a list greedily by any test of runs: what `cut` does element by element. No law here asks what the test means.
--
--     cut_nil, cut_cons, cut_from_nil, cut_from_joins, cut_from_begins   one step of the cutting
--     cut-whole                        the runs one after the other are the list
--     FirstRun, first_run              the first run: how far it goes, why it stops there, and that the rest is cut anew
--     cut_after                        the runs from one on are those of their own elements
--     cut_stops                        the test refuses a run with the first element of the next one
--     cut_not_empty                    no run is empty
--     cut-append                       a list with more behind it: its last run goes on with what follows, and the earlier ones stay
--     cut_joins, cut_begins            one more element: the last run grows by it if the test passes, and else the element begins a run
--     cut_last, cut_ends               a list that is not empty has a last run, and ends with it
--     last_run_joins, last_run_begins    the last run after one more element
--     Running, running                 the last run of a front of the list is a part of a run of the whole list, and the runs before it are the same
--     cut_resume                       cutting goes on from the last run of the first k elements
--     cut_front                        the runs of a front that ends inside a run: those before, and the run up to there
--     cut-take, last_run_take           the same of the first k elements, of which the k-th is in the run
--     cut_map                          of a list of images, by a test that passes the images of the runs that another test passes: the images of the runs
--     last_run-map                      the last of the images of some runs is the image of the last
--
-- Example: with e : good (last_run (cut good xs) ++ (x ∷ [])) ≡ true, `last_run_joins good xs x e` says that x joins the last run.
-- Assumes nothing.
use Rattle.std.specs.Prelude.{◌≡◌, Bool, true, false, ℕ, ◌+◌, ◌-◌, ◌≤◌, ◌<◌, length, take, drop}
use Rattle.std.proofs.Math.Path.{refl, ap}
use Rattle.std.proofs.Common.{sym, ap₂, ◌∙◌, subst, arith, length-append, take-append-drop, length-take-le}
use mathlib.Core.List.{List, [], ◌∷◌, ◌++◌, map, flatten, drop_last, append-nil, map-append, concat-ne-nil, head-eq_of_cons-eq, tail-eq_of_cons-eq, nil≢cons}
use Rattle.std.proofs.Math.Seq.{append_snoc, take-append-add}
use Rattle.std.proofs.lemmas.List.{take-append-le}
use Rattle.definitions.specs.Splits.{cut_from, cut, last_run}
use Rattle.splits.specs.Runs.{flatten_nil, flatten_cons, flatten_about, flatten_snoc, last_run_snoc, last_run_split, same_place}

module _ {A : Type 0} where
  -- the first of the runs is `run` with what it gets of `more`, and the rest of `more` is cut anew
  pub record FirstRun (good : List A → Bool) (run more : List A) (runs : List (List A)) : Type 0 where
    pub gets : List A
    pub rest : List A
    pub splits : more ≡ gets ++ rest
    pub is : runs ≡ (run ++ gets) ∷ cut good rest
    pub stops : (x : A) (xs : List A) → rest ≡ x ∷ xs → good ((run ++ gets) ++ (x ∷ [])) ≡ false

  -- the last run of the front is a part of a run of the whole list, the earlier ones are runs of it, and the rest is cut anew
  pub record Running (good : List A → Bool) (front back : List A) : Type 0 where
    pub earlier : List (List A)
    pub run : List A
    pub front_is : cut good front ≡ earlier ++ (run ∷ [])
    pub gets : List A
    pub rest : List A
    pub splits : back ≡ gets ++ rest
    pub whole_is : cut good (front ++ back) ≡ earlier ++ ((run ++ gets) ∷ cut good rest)

  module _ (good : List A → Bool) where
    -- ---- one step
    pub cut_nil : cut good [] ≡ []
    unfolding cut
    cut_nil = refl

    pub cut_cons : (x : A) (xs : List A) → cut good (x ∷ xs) ≡ cut_from good (x ∷ []) xs
    unfolding cut
    cut_cons x xs = refl

    pub cut_from_nil : (run : List A) → cut_from good run [] ≡ run ∷ []
    unfolding cut_from
    cut_from_nil run = refl

    pub cut_from_joins : (run : List A) (x : A) (xs : List A) → good (run ++ (x ∷ [])) ≡ true → cut_from good run (x ∷ xs) ≡ cut_from good (run ++ (x ∷ [])) xs
    unfolding cut_from
    cut_from_joins run x xs e = rw (e, cut_from)

    pub cut_from_begins : (run : List A) (x : A) (xs : List A) → good (run ++ (x ∷ [])) ≡ false → cut_from good run (x ∷ xs) ≡ run ∷ cut good (x ∷ xs)
    unfolding cut_from cut
    cut_from_begins run x xs e = rw (e, cut_from)

    -- ---- the whole list
    cut_from_whole : (run xs : List A) → flatten (cut_from good run xs) ≡ run ++ xs
    cut_from_whole run [] = ap flatten (cut_from_nil run) ∙ flatten_cons run [] ∙ ap (λ l. run ++ l) flatten_nil
    cut_from_whole run (x ∷ xs) = by (good (run ++ (x ∷ []))) refl (cut_from_whole (run ++ (x ∷ [])) xs) (cut_from_whole (x ∷ []) xs)
      where
        by : (b : Bool) → good (run ++ (x ∷ [])) ≡ b → flatten (cut_from good (run ++ (x ∷ [])) xs) ≡ (run ++ (x ∷ [])) ++ xs → flatten (cut_from good (x ∷ []) xs) ≡ x ∷ xs → flatten (cut_from good run (x ∷ xs)) ≡ run ++ (x ∷ xs)
        by true e grown anew = ap flatten (cut_from_joins run x xs e) ∙ grown ∙ append_snoc run x xs
        by false e grown anew = ap flatten (cut_from_begins run x xs e) ∙ flatten_cons run (cut good (x ∷ xs)) ∙ ap (λ l. run ++ l) (ap flatten (cut_cons x xs) ∙ anew)

    pub cut-whole : (xs : List A) → flatten (cut good xs) ≡ xs
    cut-whole [] = ap flatten cut_nil ∙ flatten_nil
    cut-whole (x ∷ xs) = ap flatten (cut_cons x xs) ∙ cut_from_whole (x ∷ []) xs

    -- ---- the first run
    pub first_run : (run more : List A) → FirstRun good run more (cut_from good run more)
    first_run run [] = record { gets = []; rest = []; splits = refl; is = rw (append-nil, cut_nil) (cut_from_nil run); stops = λ x xs e. absurd (nil≢cons e) }
    first_run run (x ∷ xs) = by (good (run ++ (x ∷ []))) refl (first_run (run ++ (x ∷ [])) xs)
      where
        by : (b : Bool) → good (run ++ (x ∷ [])) ≡ b → FirstRun good (run ++ (x ∷ [])) xs (cut_from good (run ++ (x ∷ [])) xs) → FirstRun good run (x ∷ xs) (cut_from good run (x ∷ xs))
        by true e f =
            record {
              gets = x ∷ f.gets;
              rest = f.rest;
              splits = ap (λ l. x ∷ l) f.splits;
              is = cut_from_joins run x xs e ∙ f.is ∙ ap (λ l. l ∷ cut good f.rest) (append_snoc run x f.gets);
              stops = λ y ys p. subst (λ l. good (l ++ (y ∷ [])) ≡ false) (append_snoc run x f.gets) (f.stops y ys p);
            }
        by false e f =
            record {
              gets = [];
              rest = x ∷ xs;
              splits = refl;
              is = rw append-nil (cut_from_begins run x xs e);
              stops = λ y ys p. rw append-nil (subst (λ z. good (run ++ (z ∷ [])) ≡ false) (head-eq_of_cons-eq p) e);
            }

    -- ---- runs after others
    pub cut_after : (xs : List A) (before after : List (List A)) → cut good xs ≡ before ++ after → cut good (flatten after) ≡ after
    cut_after xs [] after e = ap (cut good) (ap flatten (sym e) ∙ cut-whole xs) ∙ e
    cut_after [] (run ∷ before) after e = absurd (nil≢cons (sym cut_nil ∙ e))
    cut_after (x ∷ xs) (run ∷ before) after e =
        let f = first_run (x ∷ []) xs in
        cut_after f.rest before after (tail-eq_of_cons-eq (sym f.is ∙ sym (cut_cons x xs) ∙ e))

    stops_first : (xs run : List A) (x : A) (more : List A) (after : List (List A)) → cut good xs ≡ run ∷ (x ∷ more) ∷ after → good (run ++ (x ∷ [])) ≡ false
    stops_first [] run x more after e = absurd (nil≢cons (sym cut_nil ∙ e))
    stops_first (y ∷ ys) run x more after e =
        let f = first_run (y ∷ []) ys in
        let all_runs = sym f.is ∙ sym (cut_cons y ys) ∙ e in
        let rest-is = sym (cut-whole f.rest) ∙ ap flatten (tail-eq_of_cons-eq all_runs) ∙ flatten_cons (x ∷ more) after in
        subst (λ l. good (l ++ (x ∷ [])) ≡ false) (head-eq_of_cons-eq all_runs) (f.stops x (more ++ flatten after) rest-is)

    pub cut_stops : (xs : List A) (before : List (List A)) (run : List A) (x : A) (more : List A) (after : List (List A))
        → cut good xs ≡ before ++ (run ∷ (x ∷ more) ∷ after) → good (run ++ (x ∷ [])) ≡ false
    cut_stops xs before run x more after e = stops_first (flatten (run ∷ (x ∷ more) ∷ after)) run x more after (cut_after xs before (run ∷ (x ∷ more) ∷ after) e)

    pub cut_not_empty : (xs : List A) (before : List (List A)) (run : List A) (after : List (List A)) → cut good xs ≡ before ++ (run ∷ after) → 0 < length run
    cut_not_empty xs before run after e = begins (flatten (run ∷ after)) (cut_after xs before (run ∷ after) e)
      where
        begins : (ys : List A) → cut good ys ≡ run ∷ after → 0 < length run
        begins [] e = absurd (nil≢cons (sym cut_nil ∙ e))
        begins (y ∷ ys) e =
            let f = first_run (y ∷ []) ys in
            omega (arith, ap length (head-eq_of_cons-eq (sym f.is ∙ sym (cut_cons y ys) ∙ e)))

    -- ---- more elements behind

    -- where `run` is the last run that xs gives after the run begun, it goes on with ys, and the earlier ones stay
    abbrev GoesOn : List A → List A → List A → List A → Type 0
    GoesOn begun xs ys run = (earlier : List (List A)) → cut_from good begun xs ≡ earlier ++ (run ∷ []) → cut_from good begun (xs ++ ys) ≡ earlier ++ cut_from good run ys

    goes_on : (begun xs ys run : List A) → GoesOn begun xs ys run
    goes_on begun [] ys run [] e = ap (λ l. cut_from good l ys) (head-eq_of_cons-eq (sym (cut_from_nil begun) ∙ e))
    goes_on begun [] ys run (r ∷ earlier) e = absurd (concat-ne-nil run earlier (sym (tail-eq_of_cons-eq (sym (cut_from_nil begun) ∙ e))))
    goes_on begun (x ∷ xs) ys run earlier e = by (good (begun ++ (x ∷ []))) refl (goes_on (begun ++ (x ∷ [])) xs ys run) (goes_on (x ∷ []) xs ys run) earlier e
      where
        by : (b : Bool) → good (begun ++ (x ∷ [])) ≡ b → GoesOn (begun ++ (x ∷ [])) xs ys run → GoesOn (x ∷ []) xs ys run → GoesOn begun (x ∷ xs) ys run
        by true t grown anew earlier e = cut_from_joins begun x (xs ++ ys) t ∙ grown earlier (sym (cut_from_joins begun x xs t) ∙ e)
        by false t grown anew [] e =
            let alone = sym (cut_cons x xs) ∙ tail-eq_of_cons-eq (sym (cut_from_begins begun x xs t) ∙ e) in
            absurd (nil≢cons (sym alone ∙ (first_run (x ∷ []) xs).is))
        by false t grown anew (r ∷ earlier) e =
            let both = sym (cut_from_begins begun x xs t) ∙ e in
            let later = cut_cons x (xs ++ ys) ∙ anew earlier (sym (cut_cons x xs) ∙ tail-eq_of_cons-eq both) in
            cut_from_begins begun x (xs ++ ys) t ∙ ap₂ (λ l ls. l ∷ ls) (head-eq_of_cons-eq both) later

    pub cut-append : (xs ys : List A) (earlier : List (List A)) (run : List A) → cut good xs ≡ earlier ++ (run ∷ []) → cut good (xs ++ ys) ≡ earlier ++ cut_from good run ys
    cut-append [] ys earlier run e = absurd (concat-ne-nil run earlier (sym e ∙ cut_nil))
    cut-append (x ∷ xs) ys earlier run e = cut_cons x (xs ++ ys) ∙ goes_on (x ∷ []) xs ys run earlier (sym (cut_cons x xs) ∙ e)

    pub cut_joins : (xs : List A) (x : A) (earlier : List (List A)) (run : List A) → cut good xs ≡ earlier ++ (run ∷ [])
        → good (run ++ (x ∷ [])) ≡ true → cut good (xs ++ (x ∷ [])) ≡ earlier ++ ((run ++ (x ∷ [])) ∷ [])
    cut_joins xs x earlier run e t = cut-append xs (x ∷ []) earlier run e ∙ ap (λ l. earlier ++ l) (cut_from_joins run x [] t ∙ cut_from_nil (run ++ (x ∷ [])))

    pub cut_begins : (xs : List A) (x : A) (earlier : List (List A)) (run : List A) → cut good xs ≡ earlier ++ (run ∷ [])
        → good (run ++ (x ∷ [])) ≡ false → cut good (xs ++ (x ∷ [])) ≡ earlier ++ (run ∷ (x ∷ []) ∷ [])
    cut_begins xs x earlier run e t =
        cut-append xs (x ∷ []) earlier run e ∙ ap (λ l. earlier ++ l) (cut_from_begins run x [] t ∙ ap (λ l. run ∷ l) (cut_cons x [] ∙ cut_from_nil (x ∷ [])))

    -- ---- the last run
    pub cut_last : (xs : List A) → 0 < length xs → cut good xs ≡ drop_last (cut good xs) ++ (last_run (cut good xs) ∷ [])
    cut_last [] h = absurd (omega arith)
    cut_last (x ∷ xs) h =
        let f = first_run (x ∷ []) xs in
        let runs_are = cut_cons x xs ∙ f.is in
        subst (λ runs. runs ≡ drop_last runs ++ (last_run runs ∷ [])) (sym runs_are) (sym (last_run_split (x ∷ f.gets) (cut good f.rest)))

    pub cut_ends : (xs : List A) → 0 < length xs → flatten (drop_last (cut good xs)) ++ last_run (cut good xs) ≡ xs
    cut_ends xs h = sym (flatten_snoc (drop_last (cut good xs)) (last_run (cut good xs))) ∙ ap flatten (sym (cut_last xs h)) ∙ cut-whole xs

    last_run_one : (x : A) → last_run (cut good (x ∷ [])) ≡ x ∷ []
    unfolding last_run
    last_run_one x = ap last_run (cut_cons x [] ∙ cut_from_nil (x ∷ []))

    pub last_run_joins : (xs : List A) (x : A) → good (last_run (cut good xs) ++ (x ∷ [])) ≡ true → last_run (cut good (xs ++ (x ∷ []))) ≡ last_run (cut good xs) ++ (x ∷ [])
    unfolding last_run
    last_run_joins [] x t = last_run_one x ∙ ap (λ runs. last_run runs ++ (x ∷ [])) (sym cut_nil)
    last_run_joins (y ∷ ys) x t =
        let earlier = drop_last (cut good (y ∷ ys)) in
        let run = last_run (cut good (y ∷ ys)) in
        ap last_run (cut_joins (y ∷ ys) x earlier run (cut_last (y ∷ ys) (omega arith)) t) ∙ last_run_snoc earlier (run ++ (x ∷ []))

    pub last_run_begins : (xs : List A) (x : A) → good (last_run (cut good xs) ++ (x ∷ [])) ≡ false → last_run (cut good (xs ++ (x ∷ []))) ≡ x ∷ []
    last_run_begins [] x t = last_run_one x
    last_run_begins (y ∷ ys) x t =
        let earlier = drop_last (cut good (y ∷ ys)) in
        let run = last_run (cut good (y ∷ ys)) in
        let begins = cut_begins (y ∷ ys) x earlier run (cut_last (y ∷ ys) (omega arith)) t in
        ap last_run (begins ∙ sym (append_snoc earlier run ((x ∷ []) ∷ []))) ∙ last_run_snoc (earlier ++ (run ∷ [])) (x ∷ [])

    -- ---- the front of a list
    pub running : (front back : List A) → 0 < length front → Running good front back
    running front back h =
        let earlier = drop_last (cut good front) in
        let run = last_run (cut good front) in
        let f = first_run run back in
        record {
          earlier = earlier;
          run = run;
          front_is = cut_last front h;
          gets = f.gets;
          rest = f.rest;
          splits = f.splits;
          whole_is = cut-append front back earlier run (cut_last front h) ∙ ap (λ l. earlier ++ l) f.is;
        }

    pub cut_resume : (k : ℕ) (xs : List A) → 0 < k → k ≤ length xs → cut good xs ≡ drop_last (cut good (take k xs)) ++ cut_from good (last_run (cut good (take k xs))) (drop k xs)
    cut_resume k xs h b =
        let last = cut_last (take k xs) (omega (arith, length-take-le k xs b)) in
        ap (cut good) (sym (take-append-drop k xs)) ∙ cut-append (take k xs) (drop k xs) (drop_last (cut good (take k xs))) (last_run (cut good (take k xs))) last

    pub cut_front : (front back : List A) (before : List (List A)) (run more : List A) (after : List (List A))
        → cut good (front ++ back) ≡ before ++ ((run ++ more) ∷ after) → front ≡ flatten before ++ run → 0 < length run → cut good front ≡ before ++ (run ∷ [])
    cut_front front back before run more after e p h = by (running front back (omega (arith, length-append (flatten before) run, ap length p)))
      where
        by : Running good front back → cut good front ≡ before ++ (run ∷ [])
        by r =
            let ends = sym (flatten_snoc r.earlier r.run) ∙ ap flatten (sym r.front_is) ∙ cut-whole front ∙ p in
            let not-empty = cut_not_empty front r.earlier r.run [] r.front_is in
            r.front_is ∙ same_place r.earlier r.run r.gets (cut good r.rest) before run more after (sym r.whole_is ∙ e) ends not-empty h

    pub cut-take : (k : ℕ) (xs : List A) (before : List (List A)) (run : List A) (after : List (List A)) → cut good xs ≡ before ++ (run ∷ after)
        → length (flatten before) < k → k ≤ length (flatten before) + length run → cut good (take k xs) ≡ before ++ (take (k - length (flatten before)) run ∷ [])
    cut-take k xs before run after e over within = cut_front (take k xs) (drop k xs) before (take n run) (drop n run) after runs_are taken (omega (arith, length-take-le n run short))
      where
        n : ℕ
        n = k - length (flatten before)

        short : n ≤ length run
        short = omega arith

        runs_are : cut good (take k xs ++ drop k xs) ≡ before ++ ((take n run ++ drop n run) ∷ after)
        runs_are = ap (cut good) (take-append-drop k xs) ∙ e ∙ ap (λ l. before ++ (l ∷ after)) (sym (take-append-drop n run))

        k_is : k ≡ length (flatten before) + n
        k_is = omega arith

        parts : xs ≡ flatten before ++ (run ++ flatten after)
        parts = sym (cut-whole xs) ∙ ap flatten e ∙ flatten_about before run after

        taken : take k xs ≡ flatten before ++ take n run
        taken = ap₂ take k_is parts ∙ take-append-add (flatten before) (run ++ flatten after) n ∙ ap (λ l. flatten before ++ l) (take-append-le n run (flatten after) short)

    pub last_run_take : (k : ℕ) (xs : List A) (before : List (List A)) (run : List A) (after : List (List A)) → cut good xs ≡ before ++ (run ∷ after)
        → length (flatten before) < k → k ≤ length (flatten before) + length run → last_run (cut good (take k xs)) ≡ take (k - length (flatten before)) run
    last_run_take k xs before run after e over within = ap last_run (cut-take k xs before run after e over within) ∙ last_run_snoc before (take (k - length (flatten before)) run)

-- ---- a list of images
pub last_run-map : {A B : Type 0} (f : A → B) (runs : List (List A)) → last_run (map (map f) runs) ≡ map f (last_run runs)
unfolding last_run
last_run-map f [] = refl
last_run-map f (run ∷ []) = refl
last_run-map f (run ∷ next ∷ runs) = last_run-map f (next ∷ runs)

module _ {A B : Type 0} (f : A → B) (good : List A → Bool) (image : List B → Bool) (same : (xs : List A) → image (map f xs) ≡ good xs) where
  from_map : (run xs : List A) → cut_from image (map f run) (map f xs) ≡ map (map f) (cut_from good run xs)
  from_map run [] = cut_from_nil image (map f run) ∙ sym (ap (map (map f)) (cut_from_nil good run))
  from_map run (x ∷ xs) = by (good (run ++ (x ∷ []))) refl (λ next. from_map next xs)
    where
      longer : map f (run ++ (x ∷ [])) ≡ map f run ++ (f x ∷ [])
      longer = map-append f run (x ∷ [])

      test : image (map f run ++ (f x ∷ [])) ≡ good (run ++ (x ∷ []))
      test = ap image (sym longer) ∙ same (run ++ (x ∷ []))

      by : (b : Bool) → good (run ++ (x ∷ [])) ≡ b → ((next : List A) → cut_from image (map f next) (map f xs) ≡ map (map f) (cut_from good next xs))
          → cut_from image (map f run) (f x ∷ map f xs) ≡ map (map f) (cut_from good run (x ∷ xs))
      by true e rest =
          cut_from_joins image (map f run) (f x) (map f xs) (test ∙ e)
          ∙ ap (λ next. cut_from image next (map f xs)) (sym longer)
          ∙ rest (run ++ (x ∷ []))
          ∙ sym (ap (map (map f)) (cut_from_joins good run x xs e))
      by false e rest =
          cut_from_begins image (map f run) (f x) (map f xs) (test ∙ e)
          ∙ ap (λ runs. map f run ∷ runs) (cut_cons image (f x) (map f xs) ∙ rest (x ∷ []) ∙ ap (map (map f)) (sym (cut_cons good x xs)))
          ∙ sym (ap (map (map f)) (cut_from_begins good run x xs e))

  pub cut_map : (xs : List A) → cut image (map f xs) ≡ map (map f) (cut good xs)
  cut_map [] = cut_nil image ∙ sym (ap (map (map f)) (cut_nil good))
  cut_map (x ∷ xs) = cut_cons image (f x) (map f xs) ∙ from_map (x ∷ []) xs ∙ ap (map (map f)) (sym (cut_cons good x xs))
