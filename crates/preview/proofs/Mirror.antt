-- Laws that rest on those of specs/Mirror.antt.
--
--     preview-mirrored         of two answers: refused with the same number; or the range joins in both or begins a segment in both, and the image has the same two times and the lines of the
--                              other negated, slow for fast (`mirrored_effect`)
--
-- Assumes nothing.
use Rattle.definitions.specs.declared.refusals.Refusal.{Refusal}
use Rattle.std.specs.Prelude.{◌≡◌}
use Rattle.std.proofs.Math.Path.{sym, ap}
use Rattle.std.proofs.Common.{◌∙◌, Result}
use Rattle.definitions.specs.Services.{Service}
use Rattle.definitions.specs.Ranges.{Range, Lists}
use Rattle.definitions.specs.Answers.{accepted, ◌>>=◌}
use Rattle.definitions.specs.Mirrors.{mirrored_range, mirrored_lists, mirrored_service, mirrored_effect}
use Rattle.preview.specs.declared.Effect.{Effect as EffectOfCode}
use Rattle.preview.specs.PreviewPromise.{preview_meaning, PreviewPromise}
use Rattle.preview.specs.Mirror.{preview_call_mirrored}

pub preview-mirrored : {v : Service} {ls : Lists} {r : Range} {answer answer' : Result EffectOfCode Refusal} → PreviewPromise v ls r answer → PreviewPromise (mirrored_service v) (mirrored_lists ls) (mirrored_range r) answer'
    → preview_meaning answer' ≡ (preview_meaning answer >>= λ e. accepted (mirrored_effect e))
preview-mirrored {v} {ls} {r} promise image = image.answer_is ∙ preview_call_mirrored v ls r ∙ ap (λ x. x >>= λ e. accepted (mirrored_effect e)) (sym promise.answer_is)
