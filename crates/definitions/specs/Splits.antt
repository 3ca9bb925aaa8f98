-- Cutting a list into runs, greedily, and splits of a list into good runs, for any test of runs.
--
--     cut                    each element joins the run before it if the test passes the run with it, and else begins a new run
--     Split                  the scope's split: runs, none empty and each good, that one after the other are the whole list
--     end_of                  how many elements the first j runs have, so where the j-th run ends
--     last_run                the run that ends last
--
-- Assumes nothing.
use Rattle.std.specs.Prelude.{◌≡◌, Bool, true, false, ℕ, length, take}
use mathlib.Core.List.{List, [], ◌∷◌, ◌++◌, flatten}

module _ {A : Type 0} where
  -- the run so far, and the elements that follow it
  unfoldable pub cut_from : (List A → Bool) → List A → List A → List (List A)
  cut_from good run [] = run ∷ []
  cut_from good run (x ∷ xs) = elim (good (run ++ (x ∷ []))) [ true ↦ cut_from good (run ++ (x ∷ [])) xs | false ↦ run ∷ cut_from good (x ∷ []) xs ]

  unfoldable pub cut : (List A → Bool) → List A → List (List A)
  cut good [] = []
  cut good (x ∷ xs) = cut_from good (x ∷ []) xs

  -- a run that is not empty, and good
  abbrev pub GoodRun : (List A → Type 0) → List A → Type 0
  GoodRun Good [] = ⊥
  GoodRun Good (x ∷ xs) = Good (x ∷ xs)

  abbrev pub GoodRuns : (List A → Type 0) → List (List A) → Type 0
  GoodRuns Good [] = Unit
  GoodRuns Good (run ∷ runs) = GoodRun Good run × GoodRuns Good runs

  pub record Split (Good : List A → Type 0) (xs : List A) (runs : List (List A)) : Type 0 where
    pub whole : flatten runs ≡ xs
    pub each : GoodRuns Good runs

  unfoldable pub end_of : ℕ → List (List A) → ℕ
  end_of j runs = length (flatten (take j runs))

  unfoldable pub last_run : List (List A) → List A
  last_run [] = []
  last_run (run ∷ []) = run
  last_run (run ∷ next ∷ runs) = last_run (next ∷ runs)
