-- The latest trend.
--
--     latest_by               the longest end of a list that passes a test: the ends are tried from the whole list on
--     latest_run              the longest run at the end of a trace that some line fits; an empty trace has a run of no range
--     Trend, trend_of         what is told of a run: its number of ranges, its outlook and its corners. A run of no range is open and has no corners, and so it is with one of a single range
--     latest_call             Latest: the trend of the latest run
--
-- Assumes nothing.
use Rattle.std.specs.Prelude.{ℕ, Bool, true, false, List, [], ◌∷◌, length}
use Rattle.definitions.specs.Ranges.{Range, Lists, ranges_of}
use Rattle.definitions.specs.Services.{Service}
use Rattle.definitions.specs.Lines.{Line, has_line}
use Rattle.definitions.specs.Outlook.{Outlook, outlook}
use Rattle.definitions.specs.Answers.{Answer, accepted, ◌>>=◌, firstRow}
use Rattle.definitions.specs.Trial.{latest_rows}
use Rattle.definitions.specs.Calls.{fit_of, corners_in}

unfoldable pub latest_by : {A : Type 0} → (List A → Bool) → List A → List A
latest_by test [] = []
latest_by test (x ∷ xs) = elim (test (x ∷ xs)) [ true ↦ x ∷ xs | false ↦ latest_by test xs ]

unfoldable pub latest_run : List Range → List Range
latest_run rs = latest_by has_line rs

pub record Trend : Type 0 where
  pub ranges : ℕ
  pub outlook : Outlook
  pub corners : List Line

unfoldable pub trend_of : Service → List Range → Trend
trend_of v run = record { ranges = length run; outlook = outlook v run; corners = corners_in (fit_of run) }

unfoldable pub latest_call : List ℕ → Service → Lists → Answer Trend
latest_call lengths v ls = firstRow (latest_rows lengths v ls) >>= λ ok. accepted (trend_of v (latest_run (ranges_of ls)))
