-- When Add and Head ranges refuse and when they accept, as theorems about the answers that a caller holds.
--
--     add_refused, head_ranges_refused       refused with n exactly if a row with the number n holds and no row that is tried earlier does
--     add_accepted, head_ranges_accepted     accepted, with the number of the head's ranges, exactly if no row holds
--
-- Assumes nothing.
use Rattle.std.specs.Prelude.{◌≡◌, ◌↔◌, List, ◌++◌, ℕ, Result}
use Rattle.std.proofs.Math.ListN.{length}
use Rattle.definitions.specs.Ranges.{Range, Lists}
use Rattle.definitions.specs.Answers.{Row, refused, accepted}
use Rattle.definitions.specs.Panels.{Panel, on_panel, head_ranges}
use Rattle.definitions.specs.PanelCalls.{room_of, panel_rows, add_rows, added, add_call, head_ranges_call}
use Rattle.trial_laws.specs.Rows.{NoneHolds, FirstAt}
use Rattle.trial_laws.specs.CallLaws.{told_refused, told_accepted}
use Rattle.definitions.specs.declared.refusals.Refusal.{Refusal}
use Rattle.panel.specs.Promises.{add_meaning, head_ranges_meaning, lengths_of, AddPromise, HeadRangesPromise}

module _ {s t : Panel} {a : ℕ} {r : Range} {answer : Result Unit Refusal} (promise : AddPromise s a r answer t) where
  pub add_refused : (n : ℕ) → (add_meaning answer ≡ refused n) ↔ FirstAt n (add_rows s a r)
  unfolding add_call
  add_refused = told_refused (add_rows s a r) (added s a r) (λ u. tt) promise.answer_is

  pub add_accepted : (add_meaning answer ≡ accepted tt) ↔ NoneHolds (add_rows s a r)
  unfolding add_call
  add_accepted = told_accepted (add_rows s a r) (added s a r) (λ u. tt) promise.answer_is

module _ {s : Panel} {a : ℕ} {old new : Lists} {answer : Result ℕ Refusal} (promise : HeadRangesPromise s a old new answer) where
  abbrev rows : List Row
  rows = panel_rows (room_of s.places ++ lengths_of old) s a

  pub head_ranges_refused : (n : ℕ) → (head_ranges_meaning answer ≡ refused n) ↔ FirstAt n rows
  unfolding head_ranges_call
  head_ranges_refused = told_refused rows (head_ranges a (on_panel s)) length promise.answer_is

  pub head_ranges_accepted : (head_ranges_meaning answer ≡ accepted (length (head_ranges a (on_panel s)))) ↔ NoneHolds rows
  unfolding head_ranges_call
  head_ranges_accepted = told_accepted rows (head_ranges a (on_panel s)) length promise.answer_is
