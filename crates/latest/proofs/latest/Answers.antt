-- `latest::latest` meets its contract: the trial answers with the first row that holds; where none does, fewer than two ranges are open, and of more the trend is found.
-- Assumes nothing.
use Rattle.std.proofs.Common.{◌≡◌, sym, ap, ◌∙◌, subst, ℕ, ◌≤◌, List, length}
use Rattle.std.proofs.lemmas.Result.{err_from_is_err_and}
use mir.Syntax.{w32}
use mir.Val.{to_z, of_z}
use mir.Facts.{to_z-of_z}
use Rattle.definitions.specs.Services.{Service}
use Rattle.definitions.specs.Ranges.{Lists}
use Rattle.definitions.specs.Answers.{accepted, firstRow}
use Rattle.definitions.specs.Refusals.{answered}
use Rattle.definitions.specs.Trial.{latest_rows}
use Rattle.trial_laws.specs.ListTrial.{bad_service}
use Rattle.trial_laws.specs.Accepted.{latest-accepted}
use Rattle.drift.specs.CornersPromise.{three_lengths}
use Rattle.drift.specs.CornersPromiseLaws.{room-tested}
use Rattle.drift.specs.Filling.{Tried}
use Rattle.values.specs.Meanings.{service_of}
use Rattle.latest.specs.FoundTrends.{Ready, TrendGiven}
use Rattle.latest.specs.LatestPromiseLaws.{rows_are, promise_refused, promise_open, promise_trend}
use Rattle.latest.proofs.latest.Goals.{After-new-v, After-try_lists, Start}
use Rattle.latest.proofs.latest.Goals as goal

abbrev service : Start → Service
service s = record { level = s.args.level; direction = s.args.direction; step = s.args.step }

abbrev lists : Start → Lists
lists s = record { times = s.args.times.now; lows = s.args.lows.now; highs = s.args.highs.now }

abbrev lengths : Start → List ℕ
lengths s = three_lengths s.args.ps.now s.args.qs.now s.args.ds.now

-- the level is passed on as bits

level-read : (s : Start) → to_z w32 (of_z w32 s.args.level) ≡ s.args.level
level-read s = to_z-of_z s.ranges.level

-- what the trial told, and what the lists are where it turned nothing down
module _ (c : After-try_lists) where
  abbrev entry : Start
  entry = (goal.at.After-try_lists c).Start

  told : firstRow (latest_rows (lengths entry) (service entry) (lists entry)) ≡ answered c.try_lists.result
  told =
      let level = ap (λ z. bad_service (record { level = z; direction = (service entry).direction; step = (service entry).step })) (level-read entry) in
      rows_are (lengths entry) (service entry) (lists entry) c.some_short-short.ensures (c.service_outside-outside.ensures ∙ level) ∙ sym c.try_lists.ensures

  module _ (none : firstRow (latest_rows (lengths entry) (service entry) (lists entry)) ≡ accepted tt) where
    tried : Tried (service entry) (lists entry)
    tried = let p = (latest-accepted (lengths entry) (service entry) (lists entry)).0 none in record { good = p.1; lists_accepted = p.2; few = p.3 }

    ready : 2 ≤ length (lists entry).times → Ready (service entry) (lists entry) entry.args.ps.now entry.args.qs.now entry.args.ds.now
    ready two =
        let long = ((latest-accepted (lengths entry) (service entry) (lists entry)).0 none).0 in
        record { tried = tried; two = two; room = room-tested entry.args.ps.now entry.args.qs.now entry.args.ds.now long }

pub returns-in_err-try_lists : goal.returns-in_err-try_lists
returns-in_err-try_lists c =
    let t = (goal.at.returns-in_err-try_lists c).After-try_lists in
    let s = entry t in
    let p = err_from_is_err_and c.from_residual.result c.from_residual.ensures.1 in
    rw (p.1, p.2) (promise_refused (service s) (lists s) s.args.ps.now s.args.qs.now s.args.ds.now c.in_err-try_lists.field-0.0 (told t ∙ ap answered c.in_err-try_lists.was))

pub returns-then-n-lt2 : goal.returns-then-n-lt2
returns-then-n-lt2 c =
    let t = (goal.at.returns-then-n-lt2 c).After-try_lists in
    let s = entry t in
    let none = told t ∙ ap answered c.in_ok-try_lists.was in
    promise_open (service s) (lists s) s.args.ps.now s.args.qs.now s.args.ds.now none (tried t none).lists_accepted c.if-n-lt2.true

pub new-v-requires : goal.new-v-requires
new-v-requires c = let t = (goal.at.new-v-requires c).After-try_lists in (tried t (told t ∙ ap answered c.in_ok-try_lists.was)).good.direction_in_is

-- the trend is found for the service as it was given
made : (c : After-new-v) → service_of c.new-v.result ≡ service (goal.at.After-new-v c).Start
made c = let s = (goal.at.After-new-v c).Start in c.new-v.ensures ∙ ap (λ l. record { level = l; direction = (service s).direction; step = (service s).step }) (level-read s)

pub find_trend-requires : goal.find_trend-requires
find_trend-requires c =
    let t = (goal.at.find_trend-requires c).After-try_lists in
    let s = entry t in
    subst (λ v. Ready v (lists s) s.args.ps.now s.args.qs.now s.args.ds.now) (sym (made (goal.at.find_trend-requires c).After-new-v)) (ready t (told t ∙ ap answered c.in_ok-try_lists.was) c.if-n-lt2.false)

pub returns : goal.returns
returns c =
    let t = (goal.at.returns c).After-try_lists in
    let s = entry t in
    let found = c.find_trend in
    promise_trend (service s) (lists s) s.args.ps.now s.args.qs.now s.args.ds.now (told t ∙ ap answered c.in_ok-try_lists.was)
    (subst (λ v. TrendGiven v (lists s) s.args.ps.now s.args.qs.now s.args.ds.now found.new.ps found.new.qs found.new.ds found.result) (made (goal.at.returns c).After-new-v) found.ensures)
