-- Preview on a trace and on its mirror image: level, lows and highs negated, lows and highs exchanged, the direction turned, the step kept, and the range to be seen likewise.
--
--     preview_call_mirrored    the same of the scope's calls
--
-- Further laws stand in proofs/Mirror.antt.
-- Assumes nothing.
use Rattle.std.specs.Prelude.{◌≡◌, refl, Bool, true, false, cond, ℕ, suc, eqb}
use Rattle.std.proofs.Math.Path.{sym, ap}
use Rattle.std.proofs.Common.{◌∙◌}
use mathlib.Core.List.{List, [], ◌∷◌, map, get_last_d}
use Rattle.std.proofs.Math.ListN.{length}
use Rattle.std.proofs.lemmas.List.{length-map}
use Rattle.integers.specs.Images.{last_map}
use Rattle.definitions.specs.Services.{Service}
use Rattle.definitions.specs.Ranges.{Range, Lists, ranges_of}
use Rattle.definitions.specs.Segments.{segments}
use Rattle.definitions.specs.Outlook.{Outlook, open_strip}
use Rattle.definitions.specs.Results.{Segment}
use Rattle.definitions.specs.Answers.{accepted, ◌>>=◌}
use Rattle.definitions.specs.Calls.{segment_call}
use Rattle.definitions.specs.Previews.{longer, joins, begins, last_outlook, effect_of, preview_call}
use Rattle.definitions.specs.Mirrors.{mirrored_range, mirrored_lists, mirrored_service, mirrored_outlook, mirrored_segment, mirrored_effect}
use Rattle.trial_laws.specs.CallLaws.{then-then, then_same}
use Rattle.trial_laws.specs.MirroredTrial.{longer-mirrored}
use Rattle.trial_laws.proofs.MirroredTrial.{ranges-mirrored}
use Rattle.lines.specs.Mirrored.{mirrored}
use Rattle.lines.specs.MirroredFit.{segments-mirrored}
use Rattle.drift.specs.MirroredCalls.{segment_call_mirrored}

-- ---- the effect

outlooks_mirrored : (ss : List Segment) → map (λ s. s.outlook) (map mirrored_segment ss) ≡ map mirrored_outlook (map (λ s. s.outlook) ss)
unfolding mirrored_segment
outlooks_mirrored [] = refl
outlooks_mirrored (s ∷ ss) = ap (λ os. mirrored_outlook s.outlook ∷ os) (outlooks_mirrored ss)

last-mirrored : (ss : List Segment) → last_outlook (map mirrored_segment ss) ≡ mirrored_outlook (last_outlook ss)
unfolding last_outlook mirrored_outlook
last-mirrored ss = ap (λ os. get_last_d os open_strip) (outlooks_mirrored ss) ∙ last_map mirrored_outlook open_strip (map (λ s. s.outlook) ss)

effect_mirrored : (before : ℕ) (ss : List Segment) → effect_of before (map mirrored_segment ss) ≡ mirrored_effect (effect_of before ss)
unfolding effect_of mirrored_effect
effect_mirrored before ss =
    (λ i. cond (eqb (length-map ss mirrored_segment i) (suc before)) (begins (last-mirrored ss i)) (joins (last-mirrored ss i)))
    ∙ by (eqb (length ss) (suc before)) (last_outlook ss)
  where
    by : (new : Bool) (o : Outlook) → cond new (begins (mirrored_outlook o)) (joins (mirrored_outlook o)) ≡ mirrored_effect (cond new (begins o) (joins o))
    by true o = refl
    by false o = refl

-- ---- the call

module _ (v : Service) (ls : Lists) (r : Range) where
  before_mirrored : length (segments (ranges_of (mirrored_lists ls))) ≡ length (segments (ranges_of ls))
  before_mirrored = ap (λ rs. length (segments rs)) (ranges-mirrored ls) ∙ ap length (segments-mirrored (ranges_of ls)) ∙ length-map (segments (ranges_of ls)) mirrored

  pub preview_call_mirrored : preview_call (mirrored_service v) (mirrored_lists ls) (mirrored_range r) ≡ (preview_call v ls r >>= λ e. accepted (mirrored_effect e))
  unfolding preview_call ◌>>=◌
  preview_call_mirrored =
      let call = segment_call [] v (longer ls r) in
      let n = length (segments (ranges_of ls)) in
      (λ i. segment_call [] (mirrored_service v) (longer-mirrored ls r i) >>= λ ss. accepted (effect_of (before_mirrored i) ss))
      ∙ ap (λ x. x >>= λ ss. accepted (effect_of n ss)) (segment_call_mirrored v (longer ls r) [] [] refl)
      ∙ then-then call (λ ss. accepted (map mirrored_segment ss)) (λ ss. accepted (effect_of n ss))
      ∙ then_same call (λ ss. accepted (effect_of n (map mirrored_segment ss))) (λ ss. accepted (mirrored_effect (effect_of n ss))) (λ ss. ap accepted (effect_mirrored n ss))
      ∙ sym (then-then call (λ ss. accepted (effect_of n ss)) (λ e. accepted (mirrored_effect e)))
