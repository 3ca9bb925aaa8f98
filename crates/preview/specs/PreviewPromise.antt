-- What Preview promises: its answer, by an equation with the scope's call. It fills nothing; the three lists are lent to be read.
--
--     effect_meaning      what each case of the code's effect stands for
--     preview_meaning     what the answer stands for
--     PreviewPromise     the answer is the effect of the range, or the number of the refusal
--
-- Assumes nothing.
use Rattle.definitions.specs.declared.refusals.Refusal.{Refusal}
use Rattle.std.specs.Prelude.{◌≡◌, Result}
use Rattle.definitions.specs.Services.{Service}
use Rattle.definitions.specs.Ranges.{Range, Lists}
use Rattle.definitions.specs.Answers.{Answer}
use Rattle.definitions.specs.Previews.{Effect, joins, begins, preview_call}
use Rattle.definitions.specs.Refusals.{meant}
use Rattle.preview.specs.declared.Effect.{Effect as EffectOfCode}
use Rattle.preview.specs.declared.Effect.TheVariants.{Joins, Begins}
use Rattle.values.specs.Meanings.{outlook_of}

abbrev pub effect_meaning : EffectOfCode → Effect
effect_meaning (Joins o) = joins (outlook_of o)
effect_meaning (Begins o) = begins (outlook_of o)

unfoldable pub preview_meaning : Result EffectOfCode Refusal → Answer Effect
preview_meaning = meant effect_meaning

pub record PreviewPromise (v : Service) (ls : Lists) (r : Range) (answer : Result EffectOfCode Refusal) : Type 0 where
  pub answer_is : preview_meaning answer ≡ preview_call v ls r
