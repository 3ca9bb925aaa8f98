-- The runs of a split of ordered ranges, by their times.
--
--     in_span                       the range's time is from a first to a last time
--     split_run_good               the j-th run is not empty, and good
--     split_ranges                 the ranges from the j-th run's first time to its last time are that run
--     split_last_time              the j-th run's last time is that of the last of the first `end_of (j + 1)` ranges
--     split_ahead_times            of two splits, the one whose j-th run ends at more ranges has the later last time there
--
-- Assumes nothing.
use Rattle.std.specs.Prelude.{◌≡◌, Bool, ◌&&◌, ℕ, suc, ◌≤◌, ◌<◌, T, leb, length, get_or, take, drop}
use Rattle.std.proofs.Common.{sym, ap, ap₂, ◌∙◌, subst, arith, leb→le, le→leb, take-suc}
use mathlib.Core.List.{List, [], ◌∷◌, ◌++◌, flatten, append-nil}
use Rattle.std.proofs.Math.Seq.{split_at}
use Rattle.integers.specs.Booleans.{and_intro, and_left, and_right}
use Rattle.integers.specs.Lists.{All_imp, All_imp₂, filter, filter-append, filter_all, filter_none}
use Rattle.definitions.specs.Ranges.{Range}
use Rattle.definitions.specs.Fit.{Ordered}
use Rattle.definitions.specs.Splits.{GoodRun, GoodRuns, Split, end_of}
use Rattle.splits.specs.Runs.{flatten_about, flatten_snoc, end_take, good_at}
use Rattle.splits.specs.OrderedRanges.{first_time_of, last_time_of, ordered-left, ordered-right, last-append, last_take_rises, times-from_first, times-to_last, times-before_first, times-after_last}

-- ---- the ranges from a first to a last time

unfoldable pub in_span : ℕ → ℕ → Range → Bool
in_span from to r = leb from r.time && leb r.time to

in_span_lem : (from to : ℕ) (r : Range) → from ≤ r.time → r.time ≤ to → T (in_span from to r)
unfolding in_span
in_span_lem from to r h k = and_intro (leb from r.time) (leb r.time to) (le→leb from r.time h) (le→leb r.time to k)

too_early : (from to : ℕ) (r : Range) → r.time < from → T (in_span from to r) → ⊥
unfolding in_span
too_early from to r h t = omega (arith, leb→le from r.time (and_left (leb from r.time) (leb r.time to) t))

too_late : (from to : ℕ) (r : Range) → to < r.time → T (in_span from to r) → ⊥
unfolding in_span
too_late from to r h t = omega (arith, leb→le r.time to (and_right (leb from r.time) (leb r.time to) t))

span_of_run : (xs : List Range) (r : Range) (rs ys : List Range) → Ordered (xs ++ (r ∷ rs ++ ys)) → filter (in_span (first_time_of (r ∷ rs)) (last_time_of (r ∷ rs))) (xs ++ (r ∷ rs ++ ys)) ≡ r ∷ rs
unfolding first_time_of
span_of_run xs r rs ys o =
    filter-append test xs (r ∷ rs ++ ys)
    ∙ ap₂ (λ a b. a ++ b) (filter_none test (All_imp (too_early from to) (times-before_first xs r (rs ++ ys) o))) (filter-append test (r ∷ rs) ys)
    ∙ ap₂ (λ a b. a ++ b) (filter_all test (All_imp₂ (in_span_lem from to) (times-from_first r rs inner) (times-to_last r rs inner))) (filter_none test (All_imp (too_late from to) (times-after_last r rs ys outer)))
    ∙ append-nil (r ∷ rs)
  where
    from : ℕ
    from = first_time_of (r ∷ rs)

    to : ℕ
    to = last_time_of (r ∷ rs)

    test : Range → Bool
    test = in_span from to

    outer : Ordered (r ∷ rs ++ ys)
    outer = ordered-right xs (r ∷ rs ++ ys) o

    inner : Ordered (r ∷ rs)
    inner = ordered-left (r ∷ rs) ys outer

-- ---- the runs of a split

module _ {Good : List Range → Type 0} {rs : List Range} {runs : List (List Range)} (s : Split Good rs runs) (j : ℕ) (h : j < length runs) where
  pub split_run_good : GoodRun Good (get_or runs j [])
  split_run_good = good_at Good (take j runs) (get_or runs j []) (drop (suc j) runs) (subst (GoodRuns Good) (split_at runs j [] h) s.each)

  pub split_ranges : Ordered rs → filter (in_span (first_time_of (get_or runs j [])) (last_time_of (get_or runs j []))) rs ≡ get_or runs j []
  split_ranges o = by (get_or runs j []) split_run_good (sym s.whole ∙ ap flatten (split_at runs j [] h) ∙ flatten_about (take j runs) (get_or runs j []) (drop (suc j) runs))
    where
      by : (run : List Range) → GoodRun Good run → rs ≡ flatten (take j runs) ++ (run ++ flatten (drop (suc j) runs)) → filter (in_span (first_time_of run) (last_time_of run)) rs ≡ run
      by [] g e = absurd g
      by (r ∷ run) g e =
          ap (filter (in_span (first_time_of (r ∷ run)) (last_time_of (r ∷ run)))) e ∙ span_of_run (flatten (take j runs)) r run (flatten (drop (suc j) runs)) (subst Ordered e o)

  pub split_last_time : last_time_of (get_or runs j []) ≡ last_time_of (take (end_of (suc j) runs) rs)
  split_last_time = by (get_or runs j []) split_run_good ∙ ap last_time_of (sym (flatten_snoc (take j runs) (get_or runs j [])) ∙ ap flatten (sym (take-suc runs j [] h)) ∙ end_take (suc j) runs ∙ ap (take (end_of (suc j) runs)) s.whole)
    where
      by : (run : List Range) → GoodRun Good run → last_time_of run ≡ last_time_of (flatten (take j runs) ++ run)
      by [] g = absurd g
      by (r ∷ run) g = sym (last-append (flatten (take j runs)) r run)

pub split_ahead_times : {Good : List Range → Type 0} {rs : List Range} {us vs : List (List Range)} → Ordered rs → Split Good rs us → Split Good rs vs
    → (j : ℕ) → end_of (suc j) us ≤ end_of (suc j) vs → j < length us → j < length vs → last_time_of (get_or us j []) ≤ last_time_of (get_or vs j [])
split_ahead_times {rs} {us} {vs} o s t j e h k = omega (arith, split_last_time s j h, split_last_time t j k, last_take_rises rs (end_of (suc j) us) (end_of (suc j) vs) o e)
