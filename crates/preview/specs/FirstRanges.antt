-- A preview of a range of accepted lists, after those before it.
--
--     first_rows             where lists are acceptable, no row holds of a preview of range k after the first k, counted from 0
--
-- Assumes nothing.
use Rattle.std.specs.Prelude.{◌≡◌, ℕ, suc, ◌<◌, ◌≤◌, pos, length}
use Rattle.std.proofs.Math.Path.{sym, subst}
use Rattle.std.proofs.Common.{arith, take-suc}
use Rattle.std.proofs.Math.Seq.{length-take-le}
use Rattle.definitions.specs.Services.{Service}
use Rattle.definitions.specs.Spans.{most_ranges}
use Rattle.definitions.specs.Ranges.{Lists}
use Rattle.definitions.specs.Previews.{longer, preview_rows}
use Rattle.trial_laws.specs.Rows.{NoneHolds, first_row-accepted}
use Rattle.trial_laws.specs.RangeLists.{SameLength, range_at, first_entries}
use Rattle.trial_laws.specs.Accepted.{GoodService, AcceptedLists}
use Rattle.trial_laws.specs.LongerLists.{preview-accepted}
use Rattle.drift_laws.specs.FirstRanges.{first-accepted}

module _ (ls : Lists) (same : SameLength ls) (k : ℕ) where
  first_longer : k < length ls.times → longer (first_entries k ls) (range_at ls k) ≡ first_entries (suc k) ls
  unfolding longer first_entries
  first_longer h =
      let times_are = sym (take-suc ls.times k 0 h) in
      let lows_are = sym (take-suc ls.lows k (pos 0) (omega (arith, same.lows_long))) in
      let highs_are = sym (take-suc ls.highs k (pos 0) (omega (arith, same.highs_long))) in
      λ i. record { times = times_are i; lows = lows_are i; highs = highs_are i }

module _ {ls : Lists} (a : AcceptedLists ls) where
  pub first_rows : (v : Service) → GoodService v → length ls.times ≤ most_ranges → (k : ℕ) → k < length ls.times → NoneHolds (preview_rows v (first_entries k ls) (range_at ls k))
  unfolding first_entries
  first_rows v good few k h =
      (first_row-accepted (preview_rows v (first_entries k ls) (range_at ls k))).0
      ((preview-accepted v (first_entries k ls) (range_at ls k)).1
      (good, subst AcceptedLists (sym (first_longer ls a.same k h)) (first-accepted a (suc k) (omega arith)), omega (arith, length-take-le k ls.times (omega arith))))
