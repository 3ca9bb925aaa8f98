-- The effect of a range that is not refused, from the run that code found, and how Preview keeps its promise.
--
--     Unrefused          where no row holds and the lists are not empty: the service is good, the lists with the range are acceptable and have room
--     effect_on_lem          the effect on the lists is that after their ranges
--     EffectGiven        the answer is the effect of the range
--     given_closed       the last run ends before the range: it begins a segment, which is open
--     polygon_joined     it goes up to the range: its polygon
--     given_joined       the last run goes up to the range: it joins, with the outlook of the run's two lines
--     promise_refused    a row holds
--     promise_empty      none holds, and the lists are empty
--     promise_effect     none holds, and the answer is the effect
--
-- Assumes nothing.
use Rattle.definitions.specs.Refusals.{refusal_number}
use Rattle.definitions.specs.declared.refusals.Refusal.{Refusal}
use Rattle.std.specs.Prelude.{◌≡◌, Option, None, Some, ℕ, ◌+◌, ◌-◌, ◌≤◌, ◌<◌, Err, Ok}
use Rattle.std.proofs.Math.Path.{refl, sym, ap}
use Rattle.std.proofs.Common.{◌∙◌, subst, le_refl, le_of_lt, arith, take_all}
use Rattle.std.proofs.lemmas.Option.{MatchOption-at_some, MatchOption-at_none}
use mathlib.Core.List.{List, [], ◌∷◌, ◌++◌}
use Rattle.std.proofs.Math.ListN.{length}
use Rattle.integers.specs.Booleans.{T→true, ¬T→false}
use Rattle.definitions.specs.Spans.{most_ranges}
use Rattle.definitions.specs.Services.{Service}
use Rattle.definitions.specs.Ranges.{Range, Lists, ranges_of}
use Rattle.definitions.specs.Fit.{HasLine, Ordered}
use Rattle.definitions.specs.Splits.{last_run}
use Rattle.definitions.specs.Segments.{segments, running_after}
use Rattle.definitions.specs.Outlook.{outlook}
use Rattle.definitions.specs.Results.{segments_of}
use Rattle.definitions.specs.Answers.{Answer, refused, accepted, ◌>>=◌, firstRow}
use Rattle.definitions.specs.Previews.{longer, joins, effect_of, preview_rows, preview_call}
use Rattle.trial_laws.specs.RangeLists.{SameLength, range_at, ranges_length}
use Rattle.trial_laws.specs.Accepted.{GoodService, AcceptedLists}
use Rattle.trial_laws.specs.LongerLists.{longer_length, longer_ranges, longer_last, shorter_accepted, effect_on, preview_by_rows}
use Rattle.splits.specs.Effects.{effect_after, effect_first, effect_joins, effect_begins}
use Rattle.lines.specs.Polygon.{decides}
use Rattle.drift_laws.specs.ChainParts.{Chain}
use Rattle.drift_laws.specs.RunsByPlace.{run, run_more, run_ordered}
use Rattle.values.specs.declared.Outlook.{Outlook}
use Rattle.values.specs.declared.Outlook.TheVariants.{Open}
use Rattle.values.specs.Meanings.{line_of, outlook_of}
use Rattle.values.specs.Reach.{look_ahead}
use Rattle.fit.specs.declared.run.Reach.{Reach}
use Rattle.fit.specs.declared.last_run.Found.{Found}
use Rattle.fit.specs.declared.polygon.Polygon.{Polygon}
use Rattle.fit.specs.RunsFrom.{PolygonAt, polygon_some, RunFrom}
use Rattle.fit.specs.RunOutlooks.{run_outlook}
use Rattle.fit.specs.LastRuns.{LastRun}
use Rattle.preview.specs.declared.Effect.{Effect as EffectOfCode}
use Rattle.preview.specs.declared.Effect.TheVariants.{Joins, Begins}
use Rattle.preview.specs.PreviewPromise.{effect_meaning, preview_meaning, PreviewPromise}
use Rattle.preview.specs.LongerRuns.{run-longer, RunWith}

pub record Unrefused (v : Service) (ls : Lists) (r : Range) : Type 0 where
  pub good : GoodService v
  pub lists_accepted : AcceptedLists (longer ls r)
  pub room : length ls.times < most_ranges
  pub some : 0 < length ls.times

pub effect_on_lem : (v : Service) (ls : Lists) (r : Range) → SameLength ls → effect_on v ls r ≡ effect_after v (ranges_of ls) r
effect_on_lem v ls r same = ap (λ rs. effect_of (length (segments (ranges_of ls))) (segments_of v rs)) (longer_ranges ls r same)

pub record EffectGiven (v : Service) (ls : Lists) (r : Range) (effect : EffectOfCode) : Type 0 where
  pub effect_is : effect_meaning effect ≡ effect_on v ls r

-- ---- from the run that was found
module _ {v : Service} {ls : Lists} {r : Range} (u : Unrefused v ls r) where
  abbrev n : ℕ
  n = length ls.times

  abbrev more : Lists
  more = longer ls r

  abbrev last : List Range
  last = last_run (segments (ranges_of ls))

  a : AcceptedLists more
  a = u.lists_accepted

  same : SameLength ls
  same = (shorter_accepted ls r a).same

  module _ {up₀ down₀ : Chain} {found : Found} (z : LastRun ls n up₀ down₀ found) {up down : Chain} {joined : Option Polygon} (w : RunWith ls r found.start up down joined) where
    abbrev i : ℕ
    i = found.start

    abbrev reach : Reach
    reach = w.reach

    f : RunFrom more i (n + 1) up down reach
    f = w.found

    last_is : last ≡ run more i n
    unfolding running_after
    last_is =
        ap (λ rs. last_run (segments rs)) (sym (take_all n (ranges_of ls) (omega (arith, ranges_length ls same))))
        ∙ z.running_is
        ∙ sym (run-longer ls r same i n (le_of_lt z.begins) (le_refl _))

    -- the last run with the range
    with_range : last ++ (r ∷ []) ≡ run more i (n + 1)
    with_range =
        ap (λ rs. rs ++ (r ∷ [])) last_is
        ∙ ap (λ t. run more i n ++ (t ∷ [])) (sym (longer_last ls r same))
        ∙ sym (run_more more a i n (le_of_lt z.begins) (omega (arith, longer_length ls r)))

    order : Ordered (last ++ (r ∷ []))
    order = subst Ordered (sym with_range) (run_ordered more a i (n + 1))

    some_ranges : 0 < length (ranges_of ls)
    some_ranges = omega (arith, u.some, ranges_length ls same)

    pub given_closed : joined ≡ None → EffectGiven v ls r (Begins Open)
    unfolding outlook_of
    given_closed h =
        let end : reach.end ≡ n = MatchOption-at_none (reach.end ≡ n) (λ x. (reach.end ≡ n + 1) × (reach.polygon ≡ Some x)) h w.joined in
        record { effect_is = sym (effect_on_lem v ls r same ∙ effect_begins v (ranges_of ls) r some_ranges (¬T→false (λ t. no_line end (decides.means (last ++ (r ∷ [])) order t)))) }
      where
        no_line : reach.end ≡ n → HasLine (last ++ (r ∷ [])) → ⊥
        no_line end line =
            f.closed (omega arith) (subst HasLine (with_range ∙ run_more more a i n (le_of_lt z.begins) (omega (arith, longer_length ls r)) ∙ ap (λ e. run more i e ++ (range_at more e ∷ [])) (sym end)) line)

    module _ {x : Polygon} (h : joined ≡ Some x) where
      joins_with : (reach.end ≡ n + 1) × (reach.polygon ≡ Some x)
      joins_with = MatchOption-at_some (reach.end ≡ n) (λ x. (reach.end ≡ n + 1) × (reach.polygon ≡ Some x)) x h w.joined

      end_is : reach.end ≡ n + 1
      end_is = joins_with.0

      pub polygon_joined : (i + 2 ≤ reach.end) × PolygonAt more up down i reach.end x
      polygon_joined = polygon_some joins_with.1 f.polygon_is

      line : HasLine (last ++ (r ∷ []))
      line = subst HasLine (ap (run more i) end_is ∙ sym with_range) f.line

      time_is : (range_at more (reach.end - 1)).time ≡ r.time
      time_is =
          let k : reach.end - 1 ≡ n = omega (arith, end_is) in
          ap (λ t. t.time) (ap (range_at more) k ∙ longer_last ls r same)

      pub given_joined : {o : Outlook} → outlook_of o ≡ look_ahead (line_of x.slow) (line_of x.fast) v r.time → EffectGiven v ls r (Joins o)
      given_joined {o} e =
          let joined = effect_on_lem v ls r same ∙ effect_joins v (ranges_of ls) r some_ranges (T→true (decides.passes (last ++ (r ∷ [])) order line)) in
          let seen = run_outlook a (omega (arith, longer_length ls r)) f polygon_joined.0 v u.good polygon_joined.1 in
          record {
            effect_is =
                ap joins
                (e ∙ ap (look_ahead (line_of x.slow) (line_of x.fast) v) (sym time_is) ∙ sym seen ∙ ap (λ e. outlook v (run more i e)) end_is ∙ ap (outlook v) (sym with_range))
                ∙ sym joined;
          }

-- ---- the promise
module _ (v : Service) (ls : Lists) (r : Range) where
  called : {x : Answer Unit} → firstRow (preview_rows v ls r) ≡ x → (x >>= λ ok. accepted (effect_on v ls r)) ≡ preview_call v ls r
  called e = ap (λ x. x >>= λ ok. accepted (effect_on v ls r)) (sym e) ∙ sym (preview_by_rows v ls r)

  pub promise_refused : (e : Refusal) → firstRow (preview_rows v ls r) ≡ refused (refusal_number e) → PreviewPromise v ls r (Err e)
  unfolding preview_meaning ◌>>=◌
  promise_refused m e = record { answer_is = called e }

  pub promise_effect : {effect : EffectOfCode} → firstRow (preview_rows v ls r) ≡ accepted tt → EffectGiven v ls r effect → PreviewPromise v ls r (Ok effect)
  unfolding preview_meaning ◌>>=◌
  promise_effect e given = record { answer_is = ap accepted given.effect_is ∙ called e }

  pub promise_empty : firstRow (preview_rows v ls r) ≡ accepted tt → SameLength ls → length ls.times ≡ 0 → PreviewPromise v ls r (Ok (Begins Open))
  unfolding outlook_of
  promise_empty e same zero =
      promise_effect e (record { effect_is = sym (effect_on_lem v ls r same ∙ ap (λ rs. effect_after v rs r) (no-ranges (ranges_of ls) (ranges_length ls same ∙ zero)) ∙ effect_first v r) })
    where
      no-ranges : (rs : List Range) → length rs ≡ 0 → rs ≡ []
      no-ranges [] h = refl
      no-ranges (w ∷ ws) h = absurd (omega arith)
