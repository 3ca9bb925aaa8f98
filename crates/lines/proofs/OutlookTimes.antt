-- Laws that rest on those of specs/OutlookTimes.antt.
--
--     reach_time-same                       it is the same of every p, q, d that is the same line
--     reach_time_least                      on a rising trace it is the least multiple at which l reaches the level
--     decided_reach  so the first multiple at which it passes is the least of which P holds, and is l's reach_time
--     some_decided, all_decided            then fast decides the test of *some* on ls, and slow that of *all*
--     some_least, all_least                so each is the least multiple of the scope, and none exactly if there is no such multiple
--     some_by_fast, all_by_slow            and each is the reach_time of one line
--
-- Assumes nothing.
use Rattle.std.specs.Prelude.{◌≡◌, ◌↔◌, Bool, List, ℕ, ◌≤◌, ◌<◌, ℤ}
use Rattle.std.proofs.Math.Dec.{T}
use Rattle.integers.specs.Lists.{all, any, any_means, any_passes, all_means, all_passes, All_in}
use Rattle.integers.specs.Least.{least-unique}
use Rattle.integers.specs.Multiples.{LeastMultiple, first_multiple}
use Rattle.definitions.specs.Services.{Service, direction_of}
use Rattle.definitions.specs.Spans.{most_time}
use Rattle.definitions.specs.Ranges.{Range}
use Rattle.definitions.specs.Lines.{Line}
use Rattle.definitions.specs.Fit.{Reaches, SomeReached, AllReached}
use Rattle.definitions.specs.Outlook.{has_reached, some_time, all_time}
use Rattle.lines.specs.LineOrder.{Restates}
use Rattle.lines.proofs.Levels.{has_reached-iff, has_reached-same}
use Rattle.lines.specs.OutlookTimes.{decided_least, decided_line, DecidedBy, ExtremesOf, Listed, listed_reaches, reach_time, rises}

rises-iff : (level : ℤ) (step t : ℕ) (l : Line) → T (has_reached (rises level step) t l) ↔ Reaches level t l
unfolding direction_of
rises-iff level step t l = has_reached-iff (rises level step) t l

pub reach_time-same : (v : Service) (from : ℕ) {k l : Line} → Restates k l → reach_time v from k ≡ reach_time v from l
unfolding reach_time
reach_time-same v from r = λ i. first_multiple v.step (λ t. has_reached-same v r t i) from most_time

module _ (step : ℕ) (over : 0 < step) where
  -- a line decides when it reaches the level itself
  itself : (level : ℤ) (l : Line) (from : ℕ) → DecidedBy level l from (λ t. has_reached (rises level step) t l) (λ t. Reaches level t l)
  itself level l from = record { test_iff = λ t a. rises-iff level step t l; holds_iff = λ t a. (λ r. r, λ r. r) }

  pub reach_time_least : (level : ℤ) (from : ℕ) (l : Line) → LeastMultiple step (λ t. Reaches level t l) from most_time (reach_time (rises level step) from l)
  unfolding reach_time
  reach_time_least level from l = decided_least step over (itself level l from)

  pub decided_reach : {level : ℤ} {l : Line} {from : ℕ} {test : ℕ → Bool} {P : ℕ → Type 0} → DecidedBy level l from test P → first_multiple step test from most_time ≡ reach_time (rises level step) from l
  decided_reach {level} {l} {from} d = least-unique (decided_line step over d) (reach_time_least level from l)

module _ {rs : List Range} {from : ℕ} {slow fast : Line} (e : ExtremesOf rs from slow fast) {ls : List Line} (among : Listed rs slow fast ls) (level : ℤ) (step : ℕ) where
  pub some_decided : DecidedBy level fast from (λ t. any (has_reached (rises level step) t) ls) (SomeReached rs (rises level step))
  unfolding direction_of
  some_decided = record { test_iff = λ t a. (λ p. reaches t a (found t p), listed t); holds_iff = λ t a. (reaches t a, λ r. record { line = fast; fit = e.fast_fit; reached = r }) }
    where
      found : (t : ℕ) → T (any (has_reached (rises level step) t) ls) → SomeReached rs (rises level step) t
      found t p =
          let k = any_means (has_reached (rises level step) t) (λ l. (has_reached-iff (rises level step) t l).0) ls p in
          record { line = k.entry; fit = All_in among.fit k.among; reached = k.holds }

      reaches : (t : ℕ) → from ≤ t → SomeReached rs (rises level step) t → Reaches level t fast
      reaches t a s = e.fast_highest level t a s.line s.fit s.reached

      listed : (t : ℕ) → Reaches level t fast → T (any (has_reached (rises level step) t) ls)
      listed t r =
          let k = among.has_fast in
          any_passes (has_reached (rises level step) t) (λ l. (rises-iff level step t l).1) (record { entry = k.entry; among = k.among; holds = (listed_reaches e among level step e.fast_fit k t).0 r })

  pub all_decided : DecidedBy level slow from (λ t. all (has_reached (rises level step) t) ls) (AllReached rs (rises level step))
  unfolding direction_of
  all_decided = record { test_iff = λ t a. (listed t, λ r. passes t (e.slow_lowest level t a r)); holds_iff = λ t a. (λ every. every slow e.slow_fit, e.slow_lowest level t a) }
    where
      passes : (t : ℕ) → AllReached rs (rises level step) t → T (all (has_reached (rises level step) t) ls)
      passes t every = all_passes (has_reached (rises level step) t) (λ l f. (rises-iff level step t l).1 (every l f)) among.fit

      listed : (t : ℕ) → T (all (has_reached (rises level step) t) ls) → Reaches level t slow
      listed t p =
          let k = among.has_slow in
          (listed_reaches e among level step e.slow_fit k t).1 (All_in (all_means (has_reached (rises level step) t) (λ l. (rises-iff level step t l).0) ls p) k.among)

  module _ (over : 0 < step) where
    pub some_least : LeastMultiple step (SomeReached rs (rises level step)) from most_time (some_time (rises level step) from ls)
    unfolding some_time
    some_least = decided_least step over some_decided

    pub all_least : LeastMultiple step (AllReached rs (rises level step)) from most_time (all_time (rises level step) from ls)
    unfolding all_time
    all_least = decided_least step over all_decided

    pub some_by_fast : some_time (rises level step) from ls ≡ reach_time (rises level step) from fast
    unfolding some_time
    some_by_fast = decided_reach step over some_decided

    pub all_by_slow : all_time (rises level step) from ls ≡ reach_time (rises level step) from slow
    unfolding all_time
    all_by_slow = decided_reach step over all_decided
