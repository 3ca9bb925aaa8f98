-- The trend of two ranges or more, from the runs that code found.
--
--     Ready              where no row holds and there are two ranges or more: what finding the trend takes
--     TrendGiven         the trend that is told, and the corners in the slices
--     fit-corners, short_open   two ranges or more have corners; fewer are open, without corners
--     polygon_there, polygon_at, line_at   the run that begins where the latest run does goes up to the last range: its polygon, and that it has a line
--     trend_given        what its outlook and its listed corners tell is the trend
--
-- Assumes nothing.
use Rattle.std.specs.Prelude.{◌≡◌, refl, Option, None, Some, IsSome, List, [], ◌∷◌, ℕ, ◌+◌, ◌-◌, ◌<◌, ◌≤◌, ℤ, get_or}
use Rattle.std.proofs.Math.Path.{sym, ap, subst}
use Rattle.std.proofs.Common.{◌∙◌, le_refl, arith}
use Rattle.std.proofs.Math.ListN.{length}
use Rattle.definitions.specs.Spans.{corner_room}
use Rattle.definitions.specs.Services.{Service}
use Rattle.definitions.specs.Ranges.{Range, Lists, ranges_of}
use Rattle.definitions.specs.Fit.{HasLine}
use Rattle.definitions.specs.Corners.{corners}
use Rattle.definitions.specs.Calls.{fit_of, corners_in}
use Rattle.definitions.specs.Outlook.{open_strip, outlook}
use Rattle.definitions.specs.Latest.{latest_run, trend_of}
use Rattle.trial_laws.specs.RangeLists.{ranges_length}
use Rattle.trial_laws.specs.Accepted.{AcceptedLists}
use Rattle.splits.specs.Runs.{good-run}
use Rattle.lines.specs.LatestTrend.{latest_has_line}
use Rattle.drift_laws.specs.ChainParts.{Chain}
use Rattle.drift_laws.specs.LineRows.{RowRoom, RowsFirst}
use Rattle.drift_laws.specs.RunsByPlace.{run, run_length}
use Rattle.values.specs.declared.Outlook.{Outlook}
use Rattle.values.specs.Meanings.{line_of, outlook_of}
use Rattle.values.specs.Reach.{look_ahead}
use Rattle.fit.specs.declared.polygon.Polygon.{Polygon}
use Rattle.fit.specs.declared.run.Reach.{Reach}
use Rattle.fit.specs.RunsFrom.{RunFrom, PolygonAt, polygon_some, polygon_none}
use Rattle.fit.specs.RunOutlooks.{run_outlook}
use Rattle.corner_list.specs.RunCorners.{RunCorners}
use Rattle.drift.specs.Filling.{Tried}
use Rattle.latest.specs.declared.Trend.{Trend}
use Rattle.latest.specs.LatestPromise.{told_of, trend_meaning}
use Rattle.latest.specs.LatestStarts.{LatestStart, start-two, run_whole}

pub record Ready (v : Service) (ls : Lists) (ps qs ds : List ℤ) : Type 0 where
  pub tried : Tried v ls
  pub two : 2 ≤ length ls.times
  pub room : RowRoom corner_room ps qs ds

pub record TrendGiven (v : Service) (ls : Lists) (ps qs ds ps' qs' ds' : List ℤ) (t : Trend) : Type 0 where
  pub told : trend_meaning t ≡ told_of (trend_of v (latest_run (ranges_of ls)))
  pub rows : RowsFirst (corners_in (fit_of (latest_run (ranges_of ls)))) ps qs ds ps' qs' ds'

pub fit-corners : (rs : List Range) → 2 ≤ length rs → corners_in (fit_of rs) ≡ corners rs
unfolding fit_of corners_in
fit-corners [] h = absurd (omega arith)
fit-corners (r ∷ []) h = absurd (omega arith)
fit-corners (r ∷ s ∷ rs) h = refl

pub short_open : (v : Service) (rs : List Range) → length rs < 2 → (outlook v rs ≡ open_strip) × (corners_in (fit_of rs) ≡ [])
unfolding outlook fit_of corners_in
short_open v [] h = (refl, refl)
short_open v (r ∷ []) h = (refl, refl)
short_open v (r ∷ s ∷ rs) h = absurd (omega arith)

module _ {v : Service} {ls : Lists} (tried : Tried v ls) (more : 2 ≤ length ls.times) {s : ℕ} (z : LatestStart ls s) {up down : Chain} {r : Reach} (f : RunFrom ls s (length ls.times) up down r) where
  abbrev n : ℕ
  n = length ls.times

  a : AcceptedLists ls
  a = tried.lists_accepted

  two : s + 2 ≤ n
  two = start-two a more z

  pub line_at : HasLine (run ls s n)
  line_at =
      subst HasLine z.run_is (good-run HasLine (latest_run (ranges_of ls)) (latest_has_line (ranges_of ls) a.ranges.ordered (omega (arith, more, ranges_length ls a.same))))

  end_is : r.end ≡ n
  end_is = run_whole a (le_refl n) line_at f

  pub polygon_there : IsSome r.polygon
  polygon_there = by r.polygon refl
    where
      by : (o : Option Polygon) → r.polygon ≡ o → IsSome o
      by None e = let one = polygon_none e f.polygon_is in absurd (omega (arith, two, end_is))
      by (Some x) e = refl

  pub polygon_at : {x : Polygon} → r.polygon ≡ Some x → PolygonAt ls up down s n x
  polygon_at {x} e = subst (λ e. PolygonAt ls up down s e x) end_is (polygon_some e f.polygon_is).1

  corners_are : corners (run ls s n) ≡ corners_in (fit_of (latest_run (ranges_of ls)))
  corners_are = sym (fit-corners (run ls s n) (omega (arith, two, run_length ls a s n (le_refl n)))) ∙ ap (λ rs. corners_in (fit_of rs)) (sym z.run_is)

  module _ {x : Polygon} (e : r.polygon ≡ Some x) where
    outlook_is : (o : Outlook) → outlook_of o ≡ look_ahead (line_of x.slow) (line_of x.fast) v (get_or ls.times (n - 1) 0) → outlook_of o ≡ outlook v (latest_run (ranges_of ls))
    outlook_is o seen =
        let (more, p) = polygon_some e f.polygon_is in
        seen
        ∙ ap (λ k. look_ahead (line_of x.slow) (line_of x.fast) v (get_or ls.times (k - 1) 0)) (sym end_is)
        ∙ sym (run_outlook a (le_refl n) f more v tried.good p)
        ∙ ap (λ e. outlook v (run ls s e)) end_is
        ∙ ap (outlook v) (sym z.run_is)

    pub trend_given : {o : Outlook} {ps qs ds ps' qs' ds' : List ℤ} {c : ℕ} → outlook_of o ≡ look_ahead (line_of x.slow) (line_of x.fast) v (get_or ls.times (n - 1) 0)
        → RunCorners ls s n ps qs ds ps' qs' ds' c → TrendGiven v ls ps qs ds ps' qs' ds' (record { ranges = n - s; outlook = o; corners = c })
    unfolding trend_of
    trend_given {o} {ps} {qs} {ds} {ps'} {qs'} {ds'} seen listed =
        let ranges_are = sym (run_length ls a s n (le_refl n)) ∙ ap length (sym z.run_is) in
        record {
          told = λ i. record { ranges = ranges_are i; outlook = outlook_is o seen i; corners = (listed.count ∙ ap length corners_are) i };
          rows = subst (λ ks. RowsFirst ks ps qs ds ps' qs' ds') corners_are listed.rows;
        }
