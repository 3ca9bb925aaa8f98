-- `values::reaching::reach_time` meets its contract: where the trace falls, the mirror image of the line rises to the level negated when the line falls to the level. Assumes nothing.
use mathlib.Core.Path.{sym, ap, ap₂, ◌∙◌}
use Prim.Native.Nat.{◌*◌}
use mir.Syntax.{w32}
use Rattle.integers.specs.Machine.{negated-is}
use Rattle.definitions.specs.Services.{direction_of}
use Rattle.lines.specs.OutlookTimes.{reach_time, rises}
use Rattle.lines.proofs.Mirrored.{reach_time-falling}
use Rattle.values.specs.Meanings.{line_of, service_of, direction_number}
use Rattle.values.proofs.reaching.reach_time.Goals as goal

pub returns-in-Falling : goal.returns-in-Falling
unfolding direction_of
returns-in-Falling c =
    let v = c.args.v in
    let from = c.args.turns.first * v.step in
    c.rise_time-in-Falling.ensures
    ∙ ap₂ (λ z k. reach_time (rises z v.step) from k) (negated-is w32 c.requires.1.level_within tt) c.neg.ensures
    ∙ sym (reach_time-falling (service_of v) (ap (λ d. direction_of (direction_number d)) c.in-Falling.is) from (line_of c.args.l))
