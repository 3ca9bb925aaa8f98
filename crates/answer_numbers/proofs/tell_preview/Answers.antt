-- Proof of `answer_numbers::tell_preview`, case by case. Assumes nothing.
use Rattle.std.proofs.Common.{ap, ◌∙◌}
use Rattle.definitions.specs.Previews.{kind_number, effect_outlook}
use Rattle.definitions.specs.Results.{OutlookNumbers}
use Rattle.definitions.specs.Answers.{accepted}
use Rattle.preview.specs.declared.Effect.{Effect}
use Rattle.preview.specs.PreviewPromise.{effect_meaning, preview_meaning}
use Rattle.answer_numbers.specs.Told.{eight}
use Rattle.answer_numbers.specs.ToldLaws.{preview-accepted, preview-refused}
use Rattle.answer_numbers.proofs.tell_preview.Goals.{Start}
use Rattle.answer_numbers.proofs.tell_preview.Goals as goal

abbrev lent : Start → OutlookNumbers
lent c = eight c.args.slow_p.now c.args.slow_q.now c.args.slow_d.now c.args.fast_p.now c.args.fast_q.now c.args.fast_d.now c.args.some.now c.args.all.now

pub returns-in-Joins : goal.returns-in-Joins
unfolding preview_meaning kind_number effect_outlook
returns-in-Joins c =
    let start = (goal.at.returns-in-Joins c).Start in
    preview-accepted (ap preview_meaning c.in-Ok.is ∙ ap (λ (e : Effect). accepted (effect_meaning e)) c.in-Joins.is) c.args.kind.now (lent start) c.tell_outlook.ensures

pub returns-in-Begins : goal.returns-in-Begins
unfolding preview_meaning kind_number effect_outlook
returns-in-Begins c =
    let start = (goal.at.returns-in-Begins c).Start in
    preview-accepted (ap preview_meaning c.in-Ok.is ∙ ap (λ (e : Effect). accepted (effect_meaning e)) c.in-Begins.is) c.args.kind.now (lent start) c.tell_outlook-in-Begins.ensures

pub returns-in-Err : goal.returns-in-Err
unfolding preview_meaning
returns-in-Err c = let start = (goal.at.returns-in-Err c).Start in rw c.from.ensures (preview-refused (ap preview_meaning c.in-Err.is) c.args.kind.now (lent start))
