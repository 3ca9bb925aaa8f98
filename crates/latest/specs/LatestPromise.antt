-- What Latest promises: its answer and the three slices, by equations with the scope's call.
--
--     Told, told_of           what the answer tells of a trend: how many ranges and corners it has, and its outlook
--     trend_meaning, latest_meaning   what the code's trend stands for, and the answer
--     LatestPromise          the answer is that of the call; each slice has its number of each corner and past these its old contents, and its old contents whole
--                            where the call is refused or the run has no corners
--
-- Example: with h : LatestPromise v ls ps qs ds ps' qs' ds' answer, `h.ps_are` is the equation of the slice that holds the p of each corner.
-- Assumes nothing.
use Rattle.definitions.specs.declared.refusals.Refusal.{Refusal}
use Rattle.std.specs.Prelude.{ℕ, ◌≡◌, List, map, ℤ, length, Result}
use Rattle.definitions.specs.Services.{Service}
use Rattle.definitions.specs.Ranges.{Lists}
use Rattle.definitions.specs.Outlook.{Outlook}
use Rattle.definitions.specs.Answers.{Answer, accepted, ◌>>=◌, filled}
use Rattle.definitions.specs.Latest.{latest_call, Trend as TrendTerm}
use Rattle.definitions.specs.Refusals.{meant}
use Rattle.values.specs.Meanings.{outlook_of}
use Rattle.drift.specs.CornersPromise.{three_lengths}
use Rattle.latest.specs.declared.Trend.{Trend}

pub record Told : Type 0 where
  pub ranges : ℕ
  pub outlook : Outlook
  pub corners : ℕ

abbrev pub told_of : TrendTerm → Told
told_of t = record { ranges = t.ranges; outlook = t.outlook; corners = length t.corners }

abbrev pub trend_meaning : Trend → Told
trend_meaning t = record { ranges = t.ranges; outlook = outlook_of t.outlook; corners = t.corners }

unfoldable pub latest_meaning : Result Trend Refusal → Answer Told
latest_meaning = meant trend_meaning

pub record LatestPromise (v : Service) (ls : Lists) (ps qs ds ps' qs' ds' : List ℤ) (answer : Result Trend Refusal) : Type 0 where
  pub answer_is : latest_meaning answer ≡ (latest_call (three_lengths ps qs ds) v ls >>= λ t. accepted (told_of t))
  pub ps_are : ps' ≡ filled (latest_call (three_lengths ps qs ds) v ls) (λ t. map (λ l. l.p) t.corners) ps
  pub qs_are : qs' ≡ filled (latest_call (three_lengths ps qs ds) v ls) (λ t. map (λ l. l.q) t.corners) qs
  pub ds_are : ds' ≡ filled (latest_call (three_lengths ps qs ds) v ls) (λ t. map (λ l. l.d) t.corners) ds
