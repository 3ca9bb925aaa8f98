-- When the report is refused and when it is given, as theorems about the answer that a caller holds.
--
--     report-refused         refused with n exactly if n is 8 and the text is too short
--     report_accepted        accepted, with the number of the report's bytes, exactly if the text is long enough
--
-- Assumes nothing.
use Rattle.definitions.specs.declared.refusals.Refusal.{Refusal}
use Rattle.std.specs.Prelude.{◌≡◌, ◌↔◌, List, [], ◌∷◌, ℕ, Result}
use Rattle.std.proofs.Math.ListN.{length}
use Rattle.definitions.specs.Answers.{Row, ◌if◌, refused, accepted}
use Rattle.definitions.specs.Trial.{too_short}
use Rattle.definitions.specs.Report.{report, report_room, report_call}
use Rattle.trial_laws.specs.Rows.{NoneHolds, FirstAt}
use Rattle.trial_laws.specs.CallLaws.{told_refused, told_accepted}
use Rattle.report_text.specs.ReportPromise.{report_meaning, ReportPromise}

module _ {file text₀ text : List ℕ} {r : Result ℕ Refusal} (promise : ReportPromise file text₀ text r) where
  abbrev rows : List Row
  rows = 8 if too_short report_room (length text₀ ∷ []) ∷ []

  pub report-refused : (n : ℕ) → (report_meaning r ≡ refused n) ↔ FirstAt n rows
  unfolding report_call
  report-refused = told_refused rows (report file) length promise.answer_is

  pub report_accepted : (report_meaning r ≡ accepted (length (report file))) ↔ NoneHolds rows
  unfolding report_call
  report_accepted = told_accepted rows (report file) length promise.answer_is
