-- Laws that rest on those of specs/Levels.antt.
--
--     has_reached-iff                               has_reached passes exactly when the line has reached the level, in either direction
--     has_reached-same  the same line reaches a level at the same times
--
-- Assumes nothing.
use Rattle.std.specs.Prelude.{◌≡◌, ◌↔◌, ℕ, T}
use Rattle.integers.specs.Booleans.{T_ext}
use Rattle.definitions.specs.Services.{direction_of, Service}
use Rattle.definitions.specs.Lines.{Line}
use Rattle.definitions.specs.Outlook.{has_reached}
use Rattle.definitions.specs.Fit.{Reached}
use Rattle.lines.specs.LineOrder.{Restates, restates_sym}
use Rattle.lines.specs.Levels.{passed-iff, reached_by_same, side_at_is}

pub has_reached-iff : (v : Service) (t : ℕ) (l : Line) → T (has_reached v t l) ↔ Reached v t l
unfolding has_reached
has_reached-iff v t l = passed-iff (direction_of v.direction) l v.level t (side_at_is l v.level t)

pub has_reached-same : (v : Service) {k l : Line} → Restates k l → (t : ℕ) → has_reached v t k ≡ has_reached v t l
has_reached-same v {k} {l} r t =
    T_ext
    (λ h. (has_reached-iff v t l).1 (reached_by_same (direction_of v.direction) r v.level t ((has_reached-iff v t k).0 h)))
    (λ h. (has_reached-iff v t k).1 (reached_by_same (direction_of v.direction) (restates_sym r) v.level t ((has_reached-iff v t l).0 h)))
