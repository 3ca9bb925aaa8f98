-- When Latest refuses and when it accepts, as theorems about the answer that a caller holds.
--
--     latest-refused         refused with n exactly if a row with the number n holds and no row that is tried earlier does
--     latest-accepted        accepted, with what is told of the trend, exactly if no row holds
--     service-refused        refused with 4 for a level, a direction or a step outside its span, unless 8, 10 or 7 comes before
--
-- Assumes nothing.
use Rattle.definitions.specs.declared.refusals.Refusal.{Refusal}
use Rattle.std.specs.Prelude.{◌≡◌, ◌↔◌, List, ℕ, ℤ, Result}
use Rattle.std.proofs.Math.Path.{ap}
use Rattle.std.proofs.Common.{◌∙◌}
use Rattle.definitions.specs.Spans.{corner_room}
use Rattle.definitions.specs.Services.{Service}
use Rattle.definitions.specs.Ranges.{Lists, ranges_of}
use Rattle.definitions.specs.Answers.{refused, accepted, ◌>>=◌}
use Rattle.definitions.specs.Trial.{list_rows, latest_rows}
use Rattle.definitions.specs.Latest.{latest_run, trend_of, latest_call}
use Rattle.trial_laws.specs.Rows.{NoneHolds, FirstAt}
use Rattle.trial_laws.specs.CallLaws.{told_refused, told_accepted}
use Rattle.trial_laws.specs.ListTrial.{latest_trial, bad-refused}
use Rattle.trial_laws.specs.Accepted.{GoodService, service-bad}
use Rattle.drift.specs.CornersPromise.{three_lengths}
use Rattle.latest.specs.declared.Trend.{Trend}
use Rattle.latest.specs.LatestPromise.{told_of, latest_meaning, LatestPromise}

module _ {v : Service} {ls : Lists} {ps qs ds ps' qs' ds' : List ℤ} {answer : Result Trend Refusal} (promise : LatestPromise v ls ps qs ds ps' qs' ds' answer) where
  abbrev ns : List ℕ
  ns = three_lengths ps qs ds

  pub latest-refused : (n : ℕ) → (latest_meaning answer ≡ refused n) ↔ FirstAt n (latest_rows ns v ls)
  unfolding latest_call
  latest-refused = told_refused (latest_rows ns v ls) (trend_of v (latest_run (ranges_of ls))) told_of promise.answer_is

  pub latest-accepted : (latest_meaning answer ≡ accepted (told_of (trend_of v (latest_run (ranges_of ls))))) ↔ NoneHolds (latest_rows ns v ls)
  unfolding latest_call
  latest-accepted = told_accepted (latest_rows ns v ls) (trend_of v (latest_run (ranges_of ls))) told_of promise.answer_is

  pub service-refused : NoneHolds (list_rows corner_room ns ls) → ¬ GoodService v → latest_meaning answer ≡ refused 4
  unfolding latest_call list_rows ◌>>=◌
  service-refused none bad =
      promise.answer_is
      ∙ ap (λ a. a >>= (λ ok. accepted (trend_of v (latest_run (ranges_of ls)))) >>= λ t. accepted (told_of t)) (latest_trial ns v ls ∙ bad-refused ls none.0 none.1.0 none.1.1.0 (service-bad v bad))
