-- The outlook of a segment.
--
--     passed, has_reached     a line has reached the level at a time: on a rising trace it is at or above the level, on a falling one at or below it
--     some_time, all_time      the scope's *some* and *all*: the first multiple of the step, not before the segment's last time, at which some line, every line has reached the level
--     Outlook, outlook       the scope's outlook: open where there are fewer than two ranges, none at all included, else the slow line, the fast line, *some* and *all*
--     outlook_of, end_time     the outlook of lines by rising slope; the time of the last range
--
-- The lines asked are the fitting ones through two ends; that this decides it for every line of the fit is a theorem of `lines`.
-- Assumes nothing.
use Rattle.std.specs.Prelude.{ℕ, Bool}
use mathlib.Core.List.{List, [], ◌∷◌, get_last_d}
use Rattle.integers.specs.Lists.{all, any}
use Rattle.integers.specs.Multiples.{first_multiple}
use Rattle.definitions.specs.Spans.{most_time}
use Rattle.definitions.specs.Times.{Time}
use Rattle.definitions.specs.Services.{Direction, rising, falling, direction_of, Service}
use Rattle.definitions.specs.Ranges.{Range}
use Rattle.definitions.specs.Lines.{Line, Side, side_at, at_or_above, at_or_below}
use Rattle.definitions.specs.Corners.{fitting}

unfoldable pub passed : Direction → Side → Bool
passed rising s = at_or_above s
passed falling s = at_or_below s

unfoldable pub has_reached : Service → ℕ → Line → Bool
has_reached v t l = passed (direction_of v.direction) (side_at l v.level t)

-- Each test passes at the first or the last multiple of its span if it passes at one at all, and `first_multiple` then computes also where the answer is none.
unfoldable pub some_time : Service → ℕ → List Line → Time
some_time v from ls = first_multiple v.step (λ t. any (has_reached v t) ls) from most_time

unfoldable pub all_time : Service → ℕ → List Line → Time
all_time v from ls = first_multiple v.step (λ t. all (has_reached v t) ls) from most_time

pub data Outlook : Type 0 where
  open_strip : Outlook
  lines : Line → Line → Time → Time → Outlook

-- of lines by rising slope, of which the first is slow and the last fast
unfoldable pub outlook_of : Service → ℕ → List Line → Outlook
outlook_of v from [] = open_strip
outlook_of v from (l ∷ ls) = lines l (get_last_d ls l) (some_time v from (l ∷ ls)) (all_time v from (l ∷ ls))

-- the time of the last of r ∷ rs
unfoldable pub end_time : Range → List Range → ℕ
end_time r [] = r.time
end_time r (s ∷ rs) = end_time s rs

unfoldable pub outlook : Service → List Range → Outlook
outlook v [] = open_strip
outlook v (r ∷ []) = open_strip
outlook v (r ∷ s ∷ rs) = outlook_of v (end_time s rs) (fitting (r ∷ s ∷ rs))
