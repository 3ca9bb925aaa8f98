-- `preview::preview` meets its contract: the trial answers with the first row that holds; where none does, the answer is the effect of the range.
-- Assumes nothing.
use Rattle.std.proofs.Common.{◌≡◌, sym, ap, ◌∙◌, subst, ◌<◌, false, length, arith, Result}
use Rattle.std.proofs.lemmas.Result.{err_from_is_err_and}
use mir.Syntax.{w32}
use mir.Val.{to_z, of_z}
use mir.Facts.{to_z-of_z}
use Rattle.definitions.specs.Services.{Service}
use Rattle.definitions.specs.Ranges.{Range, Lists}
use Rattle.definitions.specs.Answers.{accepted, firstRow}
use Rattle.definitions.specs.Refusals.{answered}
use Rattle.definitions.specs.declared.refusals.Refusal.{Refusal}
use Rattle.definitions.specs.Previews.{longer, preview_rows}
use Rattle.trial_laws.specs.ListTrial.{trial_rows}
use Rattle.trial_laws.specs.LongerLists.{shorter_accepted, preview_trial, preview-accepted}
use Rattle.preview.specs.declared.Effect.{Effect as EffectOfCode}
use Rattle.preview.specs.PreviewPromise.{PreviewPromise}
use Rattle.preview.specs.FoundEffects.{Unrefused, EffectGiven, promise_refused, promise_empty, promise_effect}
use Rattle.preview.proofs.preview.Goals.{After-try_longer, Start}
use Rattle.preview.proofs.preview.Goals as goal

-- numbers with a sign are passed on as bits
abbrev lists : Start → Lists
lists s = record { times = s.args.times.now; lows = s.args.lows.now; highs = s.args.highs.now }

abbrev service : Start → Service
service s = record { level = to_z w32 (of_z w32 s.args.level); direction = s.args.direction; step = s.args.step }

abbrev range : Start → Range
range s = record { time = s.args.time; low = to_z w32 (of_z w32 s.args.low); high = to_z w32 (of_z w32 s.args.high) }

-- what is promised of the numbers as they are passed on is promised of them as they were given

as-given : (s : Start) {answer : Result EffectOfCode Refusal} → PreviewPromise (service s) (lists s) (range s) answer
    → PreviewPromise (record { level = s.args.level; direction = s.args.direction; step = s.args.step }) (lists s) (record { time = s.args.time; low = s.args.low; high = s.args.high }) answer
as-given s {answer} =
    subst (λ (n : Service × Range). PreviewPromise n.0 (lists s) n.1 answer)
    (λ j. (record { level = to_z-of_z s.ranges.level j; direction = s.args.direction; step = s.args.step }, record { time = s.args.time; low = to_z-of_z s.ranges.low j; high = to_z-of_z s.ranges.high j }))

-- what the trial told
told : (c : After-try_longer) → let s = (goal.at.After-try_longer c).Start in firstRow (preview_rows (service s) (lists s) (range s)) ≡ answered c.try_longer.result
told c =
    let s = (goal.at.After-try_longer c).Start in
    preview_trial (service s) (lists s) (range s) ∙ ap (λ o. firstRow (trial_rows false o (longer (lists s) (range s)))) (sym c.service_outside-outside.ensures) ∙ sym c.try_longer.ensures

unrefused : (s : Start) → firstRow (preview_rows (service s) (lists s) (range s)) ≡ accepted tt → 0 < length (lists s).times → Unrefused (service s) (lists s) (range s)
unrefused s none h = let p = (preview-accepted (service s) (lists s) (range s)).0 none in record { good = p.0; lists_accepted = p.1; room = p.2; some = h }

pub returns-in_err-try_longer : goal.returns-in_err-try_longer
returns-in_err-try_longer c =
    let t = (goal.at.returns-in_err-try_longer c).After-try_longer in
    let s = (goal.at.After-try_longer t).Start in
    let p = err_from_is_err_and c.from_residual.result c.from_residual.ensures.1 in
    rw (p.1, p.2) (as-given s (promise_refused (service s) (lists s) (range s) c.in_err-try_longer.field-0.0 (told t ∙ ap answered c.in_err-try_longer.was)))

pub returns-then-times-eq0 : goal.returns-then-times-eq0
returns-then-times-eq0 c =
    let t = (goal.at.returns-then-times-eq0 c).After-try_longer in
    let s = (goal.at.After-try_longer t).Start in
    let none = told t ∙ ap answered c.in_ok-try_longer.was in
    let p = (preview-accepted (service s) (lists s) (range s)).0 none in
    as-given s (promise_empty (service s) (lists s) (range s) none (shorter_accepted (lists s) (range s) p.1).same c.if-times-eq0.true)

pub new-v-requires : goal.new-v-requires
new-v-requires c =
    let t = (goal.at.new-v-requires c).After-try_longer in
    (unrefused (goal.at.After-try_longer t).Start (told t ∙ ap answered c.in_ok-try_longer.was) (omega (arith, c.if-times-eq0.false))).good.direction_in_is

pub find_effect-requires : goal.find_effect-requires
find_effect-requires c =
    let t = (goal.at.find_effect-requires c).After-try_longer in
    let s = (goal.at.After-try_longer t).Start in
    subst (λ v. Unrefused v (lists s) (range s)) (sym c.new-v.ensures) (unrefused s (told t ∙ ap answered c.in_ok-try_longer.was) (omega (arith, c.if-times-eq0.false)))

pub returns : goal.returns
returns c =
    let t = (goal.at.returns c).After-try_longer in
    let s = (goal.at.After-try_longer t).Start in
    as-given s (promise_effect (service s) (lists s) (range s) (told t ∙ ap answered c.in_ok-try_longer.was) (subst (λ v. EffectGiven v (lists s) (range s) c.find_effect.result) c.new-v.ensures c.find_effect.ensures))
