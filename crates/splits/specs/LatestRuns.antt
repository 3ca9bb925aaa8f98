-- The latest run, for any property of runs that consecutive parts inherit and any test that decides it.
--
--     latest-suffix            it is an end of the list
--     latest_good              it is good, and not empty where the list is not
--     latest_longest           no good end of the list is longer
--     latest_all, latest_drop  how to know it: the whole list is good; or an end is good, and not with the element before it
--     cut_back                  the list cut from its end: the runs from the last on, each from its end
--
-- Further laws stand in proofs/LatestRuns.antt.
-- Assumes nothing.
use Rattle.std.specs.Prelude.{◌≡◌, Bool, ℕ, zero, suc, ◌≤◌, ◌<◌, length, take, drop}
use Rattle.std.proofs.Math.Path.{refl, ap}
use Rattle.std.proofs.Common.{sym, ◌∙◌, subst, arith, length-append, take-append-drop}
use Rattle.std.proofs.Math.Bool.{true, false}
use mathlib.Core.List.{List, [], ◌∷◌, ◌++◌, reverse, append-nil}
use Rattle.integers.specs.Booleans.{T→true, true→T, ¬T→false}
use Rattle.definitions.specs.Splits.{cut, GoodRun}
use Rattle.definitions.specs.Latest.{latest_by}
use Rattle.splits.specs.Greedy.{Decides, ok_back}

module _ {A : Type 0} where
  unfoldable pub cut_back : (List A → Bool) → List A → List (List A)
  cut_back good xs = cut (λ run. good (reverse run)) (reverse xs)

  -- a list that is not empty, by its last element
  pub record Ended (xs : List A) : Type 0 where
    pub front : List A
    pub end : A
    pub is : xs ≡ front ++ (end ∷ [])

  pub ended : (x : A) (xs : List A) → Ended (x ∷ xs)
  ended x [] = record { front = []; end = x; is = refl }
  ended x (y ∷ ys) = let e = ended y ys in record { front = x ∷ e.front; end = e.end; is = ap (λ l. x ∷ l) e.is }

  -- the latest run, what stands before it, and how cutting from the end goes on
  pub record LatestAt (good : List A → Bool) (xs : List A) : Type 0 where
    pub front : List A
    pub whole : xs ≡ front ++ latest_by good xs
    pub cuts : cut_back good xs ≡ reverse (latest_by good xs) ∷ cut_back good front

  module _ (good : List A → Bool) where
    pub latest-suffix : (xs : List A) → (front : List A) × (xs ≡ front ++ latest_by good xs)
    unfolding latest_by
    latest-suffix [] = ([], refl)
    latest-suffix (x ∷ xs) = by (good (x ∷ xs)) (latest-suffix xs)
      where
        by : (b : Bool) → (front : List A) × (xs ≡ front ++ latest_by good xs) → (front : List A) × (x ∷ xs ≡ front ++ elim b [ true ↦ x ∷ xs | false ↦ latest_by good xs ])
        by true more = ([], refl)
        by false more = (x ∷ more.0, ap (λ l. x ∷ l) more.1)

    latest_step : (x : A) (xs : List A) → good (x ∷ xs) ≡ false → latest_by good (x ∷ xs) ≡ latest_by good xs
    unfolding latest_by
    latest_step x xs e = ap (λ (b : Bool). elim b [ true ↦ x ∷ xs | false ↦ latest_by good xs ]) e

    latest_here : (x : A) (xs : List A) → good (x ∷ xs) ≡ true → latest_by good (x ∷ xs) ≡ x ∷ xs
    unfolding latest_by
    latest_here x xs e = ap (λ (b : Bool). elim b [ true ↦ x ∷ xs | false ↦ latest_by good xs ]) e

  module _ {Ok Good : List A → Type 0} {good : List A → Bool} (d : Decides Ok Good good) where
    pub latest_good : (xs : List A) → Ok xs → 0 < length xs → GoodRun Good (latest_by good xs)
    latest_good [] o h = absurd (omega (arith, h))
    latest_good (x ∷ []) o h = subst (GoodRun Good) (sym (latest_here good x [] (T→true (d.passes (x ∷ []) o (d.one x o))))) (d.one x o)
    latest_good (x ∷ y ∷ ys) o h = by (good (x ∷ y ∷ ys)) refl (latest_good (y ∷ ys) (ok_back d (x ∷ []) (y ∷ ys) o) (omega arith))
      where
        by : (b : Bool) → good (x ∷ y ∷ ys) ≡ b → GoodRun Good (latest_by good (y ∷ ys)) → GoodRun Good (latest_by good (x ∷ y ∷ ys))
        by true e more = subst (GoodRun Good) (sym (latest_here good x (y ∷ ys) e)) (d.means (x ∷ y ∷ ys) o (true→T e))
        by false e more = subst (GoodRun Good) (sym (latest_step good x (y ∷ ys) e)) more

    pub latest_longest : (front back : List A) → Ok (front ++ back) → Good back → length back ≤ length (latest_by good (front ++ back))
    latest_longest [] [] o g = omega arith
    latest_longest [] (x ∷ xs) o g = omega (arith, ap length (latest_here good x xs (T→true (d.passes (x ∷ xs) o g))))
    latest_longest (x ∷ front) back o g = by (good (x ∷ (front ++ back))) refl (latest_longest front back (ok_back d (x ∷ []) (front ++ back) o) g)
      where
        by : (b : Bool) → good (x ∷ (front ++ back)) ≡ b → length back ≤ length (latest_by good (front ++ back)) → length back ≤ length (latest_by good (x ∷ (front ++ back)))
        by true e more = omega (arith, ap length (latest_here good x (front ++ back) e), length-append front back)
        by false e more = omega (arith, more, ap length (latest_step good x (front ++ back) e))

    pub latest_all : (xs : List A) → Ok xs → Good xs → latest_by good xs ≡ xs
    unfolding latest_by
    latest_all [] o g = refl
    latest_all (x ∷ xs) o g = latest_here good x xs (T→true (d.passes (x ∷ xs) o g))

    -- a good end that is not good with the element before it: longer ends are not good either
    pub latest_drop : (xs : List A) (k : ℕ) → Ok xs → k ≤ length xs → Good (drop k xs) → ((j : ℕ) → k ≡ suc j → Good (drop j xs) → ⊥) → latest_by good xs ≡ drop k xs
    latest_drop xs zero o h g n = latest_all xs o g
    latest_drop [] (suc k) o h g n = absurd (omega arith)
    latest_drop (x ∷ xs) (suc zero) o h g n =
        latest_step good x xs (¬T→false (λ t. n 0 refl (d.means (x ∷ xs) o t))) ∙ latest_all xs (ok_back d (x ∷ []) xs o) g
    latest_drop (x ∷ xs) (suc (suc k)) o h g n =
        latest_step good x xs (¬T→false (λ t. n (suc k) refl (end_good (d.means (x ∷ xs) o t))))
        ∙ latest_drop xs (suc k) (ok_back d (x ∷ []) xs o) (omega arith) g (λ j e. n (suc j) (ap suc e))
      where
        -- the longer end is an end of the whole
        end_good : Good (x ∷ xs) → Good (drop k xs)
        end_good w = d.part (x ∷ take k xs) (drop k xs) [] (subst Good (ap (λ l. x ∷ l) (sym (take-append-drop k xs) ∙ sym (append-nil (take k xs ++ drop k xs)))) w)
