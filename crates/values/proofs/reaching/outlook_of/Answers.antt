-- `values::reaching::outlook_of` meets its contract, by those of what it calls. Assumes nothing.
use mathlib.Core.Path.{ap, ◌∙◌}
use Rattle.definitions.specs.Services.{rising, falling, direction_of}
use Rattle.values.specs.Meanings.{line_of, service_of, outlook_of, direction_number, time_of}
use Rattle.values.specs.ReachLaws.{reach-first, looked-ahead}
use Rattle.values.proofs.reaching.outlook_of.Goals.{in-Rising, in-Falling}
use Rattle.values.proofs.reaching.outlook_of.Goals as goal

pub returns : goal.returns
unfolding outlook_of direction_of
returns c =
    let A = c.args in
    let v = service_of A.v in
    let over = c.requires.2.step_good.over in
    let first = c.turns_from-turns.ensures.first-is in
    let by_fast = reach-first v over A.last (line_of A.fast) first c.reach_time-by_fast.ensures in
    let by_slow = reach-first v over A.last (line_of A.slow) first c.reach_time-by_slow.ensures in
    elim c.match-v.branch [
      | in-Rising w ↦
          looked-ahead (line_of A.slow) (line_of A.fast) v A.last rising (ap (λ d. direction_of (direction_number d)) w.in-Rising.is) c.reduced.ensures.is c.reduced-2.ensures.is
          (ap (λ t. time_of t.0) w.some-is ∙ by_fast) (ap (λ t. time_of t.1) w.some-is ∙ by_slow)
      | in-Falling w ↦
          looked-ahead (line_of A.slow) (line_of A.fast) v A.last falling (ap (λ d. direction_of (direction_number d)) w.in-Falling.is) c.reduced.ensures.is c.reduced-2.ensures.is
          (ap (λ t. time_of t.0) w.some-is ∙ by_slow) (ap (λ t. time_of t.1) w.some-is ∙ by_fast)
    ]
