-- Where the latest run begins, and the run from there on.
--
--     LatestStart ls s         the latest run goes from s up to the last range
--     start-two                it has two ranges or more where there are so many
--     start_found              so it does where the run over the trace read backward stops
--     rest-run                 the ranges from s on are the run from s up to the last range
--     run_whole                a run from s that has a line up to the last range goes so far
--
-- Assumes nothing.
use Rattle.std.specs.Prelude.{◌≡◌, refl, Bool, true, false, [], ◌∷◌, ◌++◌, ℕ, suc, ◌+◌, ◌-◌, ◌≤◌, ◌<◌, ltb, length, take, drop}
use Rattle.std.proofs.Common.{sym, ap, ap₂, ◌∙◌, subst, add-one, le_refl, arith, ltb-true, ltb-false, length-drop, take_all}
use Rattle.definitions.specs.Spans.{most_time}
use Rattle.definitions.specs.Ranges.{Lists, ranges_of}
use Rattle.definitions.specs.Fit.{HasLine}
use Rattle.definitions.specs.Latest.{latest_run}
use Rattle.trial_laws.specs.RangeLists.{range_at, first_entries, ranges_length}
use Rattle.trial_laws.specs.Accepted.{AcceptedLists}
use Rattle.lines.specs.HasLine.{HasLine_left}
use Rattle.lines.specs.BackwardTimes.{backward, backward_length}
use Rattle.lines.proofs.BackwardTimes.{latest_by_backward}
use Rattle.lines.specs.LatestTrend.{latest_two}
use Rattle.drift_laws.specs.ChainParts.{Chain}
use Rattle.drift_laws.specs.RunsByPlace.{run, run_more, run_length}
use Rattle.fit.specs.declared.run.Reach.{Reach}
use Rattle.fit.specs.RunsFrom.{RunFrom}
use Rattle.fit.specs.LastRuns.{run_joined}
use Rattle.latest.specs.ReadBackward.{ReadBackward, backward-ranges, backward-accepted}

pub record LatestStart (ls : Lists) (s : ℕ) : Type 0 where
  pub run_is : latest_run (ranges_of ls) ≡ run ls s (length ls.times)

-- the ranges from s on are the run up to the last
pub rest-run : {ls : Lists} → AcceptedLists ls → (s : ℕ) → drop s (ranges_of ls) ≡ run ls s (length ls.times)
rest-run {ls} a s = sym (take_all (length ls.times - s) (drop s (ranges_of ls)) (omega (arith, length-drop s (ranges_of ls), ranges_length ls a.same)))

pub start-two : {ls : Lists} → AcceptedLists ls → 2 ≤ length ls.times → {s : ℕ} → LatestStart ls s → s + 2 ≤ length ls.times
start-two {ls} a two {s} z =
    let n = length ls.times in
    let long = ranges_length ls a.same in
    omega (arith, latest_two (ranges_of ls) a.ranges.ordered (omega arith), ap length z.run_is, run_length ls a s n (le_refl n))

module _ {ls bs : Lists} (a : AcceptedLists ls) (copied : ReadBackward ls bs) {up down : Chain} {f : Reach} (r : RunFrom (first_entries (length ls.times) bs) 0 (length ls.times) up down f) where
  abbrev n : ℕ
  n = length ls.times

  abbrev copy : Lists
  copy = first_entries n bs

  good : AcceptedLists copy
  good = backward-accepted a copied

  -- the first of the ranges read backward
  first_run : (e : ℕ) → run copy 0 e ≡ take e (backward most_time (ranges_of ls))
  first_run e = let m : e - 0 ≡ e = omega arith in ap₂ (λ i rs. take i (drop 0 rs)) m (backward-ranges copied)

  one_more : f.end < n → run copy 0 f.end ++ (range_at copy f.end ∷ []) ≡ take (suc f.end) (backward most_time (ranges_of ls))
  one_more h =
      let long : length copy.times ≡ n = sym (ranges_length copy good.same) ∙ ap length (backward-ranges copied) ∙ backward_length most_time (ranges_of ls) ∙ ranges_length ls a.same in
      sym (run_more copy good 0 f.end (omega arith) (omega arith)) ∙ first_run (f.end + 1) ∙ ap (λ i. take i (backward most_time (ranges_of ls))) (add-one f.end)

  pub start_found : LatestStart ls (n - f.end)
  start_found =
      let long = ranges_length ls a.same in
      let within = r.within in
      let found = latest_by_backward most_time (ranges_of ls) f.end copied.until a.ranges.ordered (omega arith) (subst HasLine (first_run f.end) r.line)
      (λ less line. r.closed (omega arith) (subst HasLine (sym (one_more (omega arith))) line)) in
      record { run_is = found ∙ ap (λ i. drop (i - f.end) (ranges_of ls)) long ∙ rest-run a (n - f.end) }

module _ {ls : Lists} (a : AcceptedLists ls) {s n : ℕ} {up down : Chain} {f : Reach} (upto : n ≤ length ls.times) (line : HasLine (run ls s n)) (r : RunFrom ls s n up down f) where
  -- it is the front of a run that has a line
  longer : f.end < n → HasLine (run ls s f.end ++ (range_at ls f.end ∷ []))
  longer h =
      let begins = r.begins in
      subst HasLine (run_more ls a s f.end (omega arith) (omega arith))
      (HasLine_left (run ls s (f.end + 1)) (run ls (f.end + 1) n) (subst HasLine (run_joined a n upto s (f.end + 1) (omega arith) (omega arith)) line))

  pub run_whole : f.end ≡ n
  run_whole = by (ltb f.end n) refl
    where
      by : (b : Bool) → ltb f.end n ≡ b → f.end ≡ n
      by true e = absurd (r.closed (ltb-true f.end n e) (longer (ltb-true f.end n e)))
      by false e = omega (arith, ltb-false f.end n e, r.within)
