-- Laws that rest on those of specs/Effects.antt.
--
--     next  these cases in one: a range joins and there are as many segments, or it begins one and there is one more
--     effects_begun                    as many of the effects begin a segment as there are segments
--     effects_outlooks                 the last outlooks are those of the segments
--
-- Assumes nothing.
use Rattle.std.specs.Prelude.{◌≡◌, Bool}
use Rattle.std.proofs.Math.Path.{refl, sym, ap}
use Rattle.std.proofs.Common.{◌∙◌, inl, inr, arith}
use Rattle.std.proofs.Math.Bool.{true, false}
use mathlib.Core.List.{List, [], ◌∷◌, ◌++◌, map, drop_last, append-nil}
use Prim.Native.Nat.{◌+◌, ◌<◌}
use Rattle.std.proofs.Math.Nat.{zero-add}
use Rattle.std.proofs.Math.ListN.{length}
use Rattle.std.proofs.Math.Seq.{append_snoc}
use Rattle.definitions.specs.Services.{Service}
use Rattle.definitions.specs.Ranges.{Range}
use Rattle.definitions.specs.Lines.{has_line}
use Rattle.definitions.specs.Splits.{last_run}
use Rattle.definitions.specs.Segments.{segments}
use Rattle.definitions.specs.Outlook.{open_strip, outlook}
use Rattle.definitions.specs.Results.{segments_of}
use Rattle.definitions.specs.Previews.{Effect, joins, begins, effect_outlook}
use Rattle.splits.specs.Cutting.{cut_nil, last_run_joins}
use Rattle.splits.specs.Effects.{begins-count, begun_in, drop_last-snoc, effect_after, effect_begins, effect_first, effect_joins, effects, effects_after, first_count, grown, joins-count, last_outlooks, Next, next_begins, next_joins, outlooks_are, segments-joins, segments-one, snoc-long, told_begins, told_front, ToldAfter}

pub next : (v : Service) (rs : List Range) (r : Range) → Next v rs r
next v [] r = next_begins (inl refl) (effect_first v r) (first_count r)
next v (s ∷ rs) r = by (has_line (grown (s ∷ rs) r)) refl
  where
    by : (b : Bool) → has_line (grown (s ∷ rs) r) ≡ b → Next v (s ∷ rs) r
    by true t = next_joins (omega arith) t (effect_joins v (s ∷ rs) r (omega arith) t) (joins-count (s ∷ rs) r (omega arith) t)
    by false t = next_begins (inr t) (effect_begins v (s ∷ rs) r (omega arith) t) (begins-count (s ∷ rs) r (omega arith) t)

module _ (v : Service) where
  begun_next : (front : List Range) (r : Range) (es : List Effect)
      → begun_in (effect_after v front r ∷ es) + length (segments front) ≡ begun_in es + length (segments (front ++ (r ∷ [])))
  unfolding begun_in
  begun_next front r es = by (next v front r)
    where
      by : Next v front r → begun_in (effect_after v front r ∷ es) + length (segments front) ≡ begun_in es + length (segments (front ++ (r ∷ [])))
      by (next_joins h t e c) = ap (λ x. begun_in (x ∷ es) + length (segments front)) e ∙ omega (arith, c)
      by (next_begins h e c) = ap (λ x. begun_in (x ∷ es) + length (segments front)) e ∙ omega (arith, c)

  begun_after : (front rs : List Range) → begun_in (effects_after v front rs) + length (segments front) ≡ length (segments (front ++ rs))
  unfolding effects_after begun_in
  begun_after front [] = zero-add (length (segments front)) ∙ ap (λ l. length (segments l)) (sym (append-nil front))
  begun_after front (r ∷ rs) =
      begun_next front r (effects_after v (front ++ (r ∷ [])) rs)
      ∙ begun_after (front ++ (r ∷ [])) rs
      ∙ ap (λ l. length (segments l)) (append_snoc front r rs)

  pub effects_begun : (rs : List Range) → begun_in (effects v rs) ≡ length (segments rs)
  unfolding effects segments
  effects_begun rs = omega (arith, begun_after [] rs, ap length (cut_nil has_line))

  told_joins : (e : Effect) (front : List Range) (r : Range) (rs : List Range) → 0 < length front → has_line (grown front r) ≡ true
      → (ToldAfter v) (joins (outlook v (grown front r))) (front ++ (r ∷ [])) rs → (ToldAfter v) e front (r ∷ rs)
  unfolding effects_after last_outlooks effect_outlook segments
  told_joins e front r rs h t later told =
      let o = outlook v (grown front r) in
      let es = effects_after v (front ++ (r ∷ [])) rs in
      ap (λ x. map (outlook v) (drop_last (segments front)) ++ last_outlooks (e ∷ x ∷ es)) (effect_joins v front r h t)
      ∙ ap (λ runs. map (outlook v) runs ++ last_outlooks (joins o ∷ es)) (sym (ap drop_last (segments-joins front r h t) ∙ drop_last-snoc (drop_last (segments front)) (grown front r)))
      ∙ later (ap (outlook v) (sym (last_run_joins has_line front r t)))
      ∙ ap (λ l. map (outlook v) (segments l)) (append_snoc front r rs)

  told_after : (e : Effect) (front rs : List Range) → 0 < length front → (ToldAfter v) e front rs
  unfolding effects_after last_outlooks
  told_after e front [] h told = told_front v front (effect_outlook e) h told ∙ ap (λ l. map (outlook v) (segments l)) (sym (append-nil front))
  told_after e front (r ∷ rs) h told =
      let long : 0 < length (front ++ (r ∷ [])) = omega (arith, snoc-long front r) in
      by (has_line (grown front r)) refl (told_after (joins (outlook v (grown front r))) (front ++ (r ∷ [])) rs long) (told_after (begins open_strip) (front ++ (r ∷ [])) rs long) told
    where
      by : (b : Bool) → has_line (grown front r) ≡ b → (ToldAfter v) (joins (outlook v (grown front r))) (front ++ (r ∷ [])) rs → (ToldAfter v) (begins open_strip) (front ++ (r ∷ [])) rs → (ToldAfter v) e front (r ∷ rs)
      by true t joined begun = told_joins e front r rs h t joined
      by false t joined begun = told_begins v e front r rs h t begun

  pub effects_outlooks : (rs : List Range) → last_outlooks (effects v rs) ≡ map (λ s. s.outlook) (segments_of v rs)
  unfolding effects effects_after last_outlooks segments last_run outlook effect_outlook
  effects_outlooks [] = ap (map (outlook v)) (sym (cut_nil has_line)) ∙ sym (outlooks_are v [])
  effects_outlooks (r ∷ rs) =
      let later = effects_after v (r ∷ []) rs in
      ap (λ x. last_outlooks (x ∷ later)) (effect_first v r)
      ∙ ap (λ runs. map (outlook v) (drop_last runs) ++ last_outlooks (begins open_strip ∷ later)) (sym (segments-one r))
      ∙ told_after (begins open_strip) (r ∷ []) rs (omega arith) (ap (λ runs. outlook v (last_run runs)) (sym (segments-one r)))
      ∙ sym (outlooks_are v (r ∷ rs))
