-- How Latest keeps its promise: refused, open, or with the corners in the slices.
--
--     rows_are             the call's rows, from the trial that all calls share
--     promise_refused      a row holds
--     promise_open         none holds, and there are fewer than two ranges
--     promise_trend        none holds, and the trend is found
--
-- Assumes nothing.
use Rattle.definitions.specs.declared.refusals.Refusal.{Refusal}
use Rattle.definitions.specs.Refusals.{refusal_number}
use Rattle.std.specs.Prelude.{ℕ, ◌<◌, ◌≡◌, Bool, ℤ, Err, Ok}
use Rattle.std.proofs.Math.Path.{sym, ap}
use Rattle.std.proofs.Common.{ap₂, ◌∙◌, arith}
use mathlib.Core.List.{List, [], ◌++◌, map}
use Rattle.std.proofs.Math.ListN.{length, drop}
use Rattle.std.proofs.lemmas.List.{length-map}
use Rattle.definitions.specs.Spans.{corner_room}
use Rattle.definitions.specs.Services.{Service}
use Rattle.definitions.specs.Ranges.{Range, Lists, ranges_of}
use Rattle.definitions.specs.Lines.{Line}
use Rattle.definitions.specs.Outlook.{open_strip, outlook}
use Rattle.definitions.specs.Answers.{Answer, refused, accepted, ◌>>=◌, firstRow, filled}
use Rattle.definitions.specs.Trial.{too_short, latest_rows}
use Rattle.definitions.specs.Calls.{fit_of, corners_in}
use Rattle.definitions.specs.Latest.{latest_run, trend_of, latest_call}
use Rattle.trial_laws.specs.RangeLists.{ranges_length}
use Rattle.trial_laws.specs.ListTrial.{trial_rows, bad_service, latest_trial}
use Rattle.trial_laws.specs.Accepted.{AcceptedLists}
use Rattle.lines.specs.LatestTrend.{latest-short}
use Rattle.values.specs.declared.Outlook.TheVariants.{Open}
use Rattle.values.specs.Meanings.{outlook_of}
use Rattle.drift.specs.CornersPromise.{three_lengths}
use Rattle.latest.specs.declared.Trend.{Trend}
use Rattle.latest.specs.LatestPromise.{told_of, latest_meaning, LatestPromise}
use Rattle.latest.specs.FoundTrends.{TrendGiven, short_open}

pub rows_are : (ns : List ℕ) (v : Service) (ls : Lists) {short bad : Bool} → short ≡ too_short corner_room ns → bad ≡ bad_service v → firstRow (latest_rows ns v ls) ≡ firstRow (trial_rows short bad ls)
rows_are ns v ls e f = latest_trial ns v ls ∙ ap₂ (λ short bad. firstRow (trial_rows short bad ls)) (sym e) (sym f)

module _ (v : Service) (ls : Lists) (ps qs ds : List ℤ) where
  abbrev ns : List ℕ
  ns = three_lengths ps qs ds

  abbrev found : List Range
  found = latest_run (ranges_of ls)

  called : {x : Answer Unit} → firstRow (latest_rows ns v ls) ≡ x → (x >>= λ ok. accepted (trend_of v found)) ≡ latest_call ns v ls
  unfolding latest_call
  called e = ap (λ x. x >>= λ ok. accepted (trend_of v found)) (sym e)

  pub promise_refused : (n : Refusal) → firstRow (latest_rows ns v ls) ≡ refused (refusal_number n) → LatestPromise v ls ps qs ds ps qs ds (Err n)
  unfolding latest_meaning ◌>>=◌ filled
  promise_refused n e =
      record {
        answer_is = ap (λ x. x >>= λ t. accepted (told_of t)) (called e);
        ps_are = ap (λ x. filled x (λ t. map (λ l. l.p) t.corners) ps) (called e);
        qs_are = ap (λ x. filled x (λ t. map (λ l. l.q) t.corners) qs) (called e);
        ds_are = ap (λ x. filled x (λ t. map (λ l. l.d) t.corners) ds) (called e);
      }

  module _ (none : firstRow (latest_rows ns v ls) ≡ accepted tt) where
    -- one slice
    slice_filled : (number : Line → ℤ) (old : List ℤ) {new : List ℤ} → new ≡ map number (corners_in (fit_of found)) ++ drop (length (corners_in (fit_of found))) old
        → new ≡ filled (latest_call ns v ls) (λ t. map number t.corners) old
    unfolding filled trend_of ◌>>=◌
    slice_filled number old e =
        e ∙ ap (λ n. map number (corners_in (fit_of found)) ++ drop n old) (sym (length-map (corners_in (fit_of found)) number)) ∙ ap (λ x. filled x (λ t. map number t.corners) old) (called none)

    pub promise_trend : {ps' qs' ds' : List ℤ} {t : Trend} → TrendGiven v ls ps qs ds ps' qs' ds' t → LatestPromise v ls ps qs ds ps' qs' ds' (Ok t)
    unfolding latest_meaning ◌>>=◌
    promise_trend g =
        record {
          answer_is = ap accepted g.told ∙ ap (λ x. x >>= λ t. accepted (told_of t)) (called none);
          ps_are = slice_filled (λ l. l.p) ps g.rows.p_is;
          qs_are = slice_filled (λ l. l.q) qs g.rows.q_is;
          ds_are = slice_filled (λ l. l.d) ds g.rows.d_is;
        }

    pub promise_open : AcceptedLists ls → length ls.times < 2 → LatestPromise v ls ps qs ds ps qs ds (Ok (record { ranges = length ls.times; outlook = Open; corners = 0 }))
    unfolding outlook_of trend_of
    promise_open a few =
        let long = ranges_length ls a.same in
        let run_is : found ≡ ranges_of ls = latest-short (ranges_of ls) a.ranges.ordered (omega arith) in
        let bare = short_open v (ranges_of ls) (omega arith) in
        let no-corners : corners_in (fit_of found) ≡ [] = ap (λ rs. corners_in (fit_of rs)) run_is ∙ bare.1 in
        let ranges_are : length ls.times ≡ length found = sym (ap length run_is ∙ long) in
        let outlook_is : open_strip ≡ outlook v found = sym (ap (outlook v) run_is ∙ bare.0) in
        promise_trend (record {
          told = λ i. record { ranges = ranges_are i; outlook = outlook_is i; corners = ap length (sym no-corners) i };
          rows = record { p_is = kept (λ l. l.p) ps no-corners; q_is = kept (λ l. l.q) qs no-corners; d_is = kept (λ l. l.d) ds no-corners };
        })
      where
        kept : (number : Line → ℤ) (old : List ℤ) {ks : List Line} → ks ≡ [] → old ≡ map number ks ++ drop (length ks) old
        kept number old e = sym (ap (λ ks. map number ks ++ drop (length ks) old) e)
