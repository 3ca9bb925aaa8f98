-- Laws that rest on those of specs/Mirrored.antt.
--
--     reached_mirrored, has_reached_mirrored, reach_time_mirrored   the image of a line has reached the image of the level exactly when the line has reached the level
--     reach_time-falling                so when a line falls to a level is when its image rises to the negated one
--
-- Assumes nothing.
use Rattle.std.specs.Prelude.{◌≡◌, ◌↔◌, ℕ, ◌≤◌, neg_ℤ}
use Rattle.std.proofs.Common.{sym, ◌∙◌, arith}
use Rattle.integers.specs.Booleans.{T_ext}
use Rattle.integers.specs.Multiples.{first_multiple}
use Rattle.definitions.specs.Spans.{most_time, most_direction}
use Rattle.definitions.specs.Services.{falling, direction_of, Service}
use Rattle.definitions.specs.Lines.{Line, side_at}
use Rattle.definitions.specs.Outlook.{passed, has_reached}
use Rattle.definitions.specs.Mirrors.{mirrored_line, mirrored_service}
use Rattle.definitions.specs.Fit.{Reached}
use Rattle.lines.proofs.Levels.{has_reached-iff}
use Rattle.lines.specs.OutlookTimes.{rises, reach_time}
use Rattle.lines.specs.Mirrored.{reached_by_mirrored}

module _ (v : Service) (good : v.direction ≤ most_direction) where
  pub reached_mirrored : (t : ℕ) (l : Line) → Reached v t l ↔ Reached (mirrored_service v) t (mirrored_line l)
  reached_mirrored t l = reached_by_mirrored v.direction good l v.level t

  pub has_reached_mirrored : (t : ℕ) (l : Line) → has_reached (mirrored_service v) t (mirrored_line l) ≡ has_reached v t l
  has_reached_mirrored t l =
      T_ext
      (λ h. (has_reached-iff v t l).1 ((reached_mirrored t l).1 ((has_reached-iff (mirrored_service v) t (mirrored_line l)).0 h)))
      (λ h. (has_reached-iff (mirrored_service v) t (mirrored_line l)).1 ((reached_mirrored t l).0 ((has_reached-iff v t l).0 h)))

  pub reach_time_mirrored : (from : ℕ) (l : Line) → reach_time (mirrored_service v) from (mirrored_line l) ≡ reach_time v from l
  unfolding reach_time
  reach_time_mirrored from l = λ i. first_multiple v.step (λ t. has_reached_mirrored t l i) from most_time

-- of every number that stands for falling
pub reach_time-falling : (v : Service) → direction_of v.direction ≡ falling → (from : ℕ) (l : Line) → reach_time v from l ≡ reach_time (rises (neg_ℤ v.level) v.step) from (mirrored_line l)
unfolding reach_time has_reached direction_of
reach_time-falling v e from l =
    (λ i. first_multiple v.step (λ t. passed (e i) (side_at l v.level t)) from most_time)
    ∙ sym (reach_time_mirrored (record { level = v.level; direction = 1; step = v.step }) (omega arith) from l)
