-- What one range more does to the segments, and the effects of the ranges of a list one after the other.
--
--     grown rs r                       the last segment of rs with r at its end
--     effect_after v rs r               the effect of r after rs
--     segments-some, segments_of-length where there is a range there is a segment; as many are given as there are
--     effect_first                     a first range begins a segment, open
--     effect_joins                     a range that some line fits together with the last segment joins it, and the outlook is that of the longer segment
--     effect_begins                    a range that no line fits so begins a segment, open
--     Next   these cases in one: a range joins and there are as many segments, or it begins one and there is one more
--     effects_after v front rs, effects v rs   the effects of rs, each after those before it: after the ranges in front, and after none
--     begun_in, last_outlooks            how many effects begin a segment; the outlook of the last effect before each further beginning, and of the last of all
--     effects_length, effects_at       there is an effect for each range, and the k-th is that of range k after the first k, counted from 0
--
-- Further laws stand in proofs/Effects.antt.
-- Assumes nothing.
use Rattle.std.specs.Prelude.{◌≡◌, ◌⊎◌, get_or, take}
use Rattle.std.proofs.Math.Path.{refl, sym, ap, ap₂}
use Rattle.std.proofs.Common.{◌∙◌, arith, add-one, eq-eqb, ne_eqb, length-append}
use Rattle.std.proofs.Math.Bool.{true, false}
use mathlib.Core.List.{List, [], ◌∷◌, ◌++◌, map, map-map, map-append, drop_last, get_last_d, append-nil}
use Prim.Native.Nat.{ℕ, zero, suc, ◌<◌}
use Rattle.std.proofs.Math.ListN.{length}
use Rattle.std.proofs.lemmas.List.{length-map}
use Rattle.std.proofs.Math.Seq.{append_snoc}
use Rattle.integers.specs.Lists.{last_snoc}
use Rattle.definitions.specs.Services.{Service}
use Rattle.definitions.specs.Ranges.{Range}
use Rattle.definitions.specs.Lines.{has_line}
use Rattle.definitions.specs.Splits.{last_run}
use Rattle.definitions.specs.Segments.{segments}
use Rattle.definitions.specs.Outlook.{Outlook, open_strip, outlook}
use Rattle.definitions.specs.Results.{Segment, segment_of, segments_of}
use Rattle.definitions.specs.Previews.{Effect, joins, begins, last_outlook, effect_of, effect_outlook}
use Rattle.splits.specs.Cutting.{cut_nil, cut_cons, cut_from_nil, cut_joins, cut_begins, cut_last, last_run_begins}

-- ---- one range more

abbrev pub grown : List Range → Range → List Range
grown rs r = last_run (segments rs) ++ (r ∷ [])

abbrev pub effect_after : Service → List Range → Range → Effect
effect_after v rs r = effect_of (length (segments rs)) (segments_of v (rs ++ (r ∷ [])))

pub snoc-long : {A : Type 0} (xs : List A) (x : A) → length (xs ++ (x ∷ [])) ≡ suc (length xs)
snoc-long xs x = length-append xs (x ∷ []) ∙ add-one (length xs)

pub segments-one : (r : Range) → segments (r ∷ []) ≡ (r ∷ []) ∷ []
unfolding segments
segments-one r = cut_cons has_line r [] ∙ cut_from_nil has_line (r ∷ [])

segments-last : (rs : List Range) → 0 < length rs → segments rs ≡ drop_last (segments rs) ++ (last_run (segments rs) ∷ [])
unfolding segments
segments-last rs h = cut_last has_line rs h

pub segments-some : (rs : List Range) → 0 < length rs → 0 < length (segments rs)
segments-some rs h = omega (arith, ap length (segments-last rs h), snoc-long (drop_last (segments rs)) (last_run (segments rs)))

pub segments-joins : (rs : List Range) (r : Range) → 0 < length rs → has_line (grown rs r) ≡ true → segments (rs ++ (r ∷ [])) ≡ drop_last (segments rs) ++ (grown rs r ∷ [])
unfolding segments
segments-joins rs r h t = cut_joins has_line rs r (drop_last (segments rs)) (last_run (segments rs)) (cut_last has_line rs h) t

segments-begins : (rs : List Range) (r : Range) → 0 < length rs → has_line (grown rs r) ≡ false → segments (rs ++ (r ∷ [])) ≡ segments rs ++ ((r ∷ []) ∷ [])
unfolding segments
segments-begins rs r h t =
    cut_begins has_line rs r (drop_last (segments rs)) (last_run (segments rs)) (cut_last has_line rs h) t
    ∙ sym (append_snoc (drop_last (segments rs)) (last_run (segments rs)) ((r ∷ []) ∷ []))
    ∙ ap (λ runs. runs ++ ((r ∷ []) ∷ [])) (sym (cut_last has_line rs h))

pub drop_last-snoc : {A : Type 0} (xs : List A) (x : A) → drop_last (xs ++ (x ∷ [])) ≡ xs
drop_last-snoc [] x = refl
drop_last-snoc (y ∷ []) x = refl
drop_last-snoc (y ∷ z ∷ xs) x = ap (λ l. y ∷ l) (drop_last-snoc (z ∷ xs) x)

pub joins-count : (rs : List Range) (r : Range) → 0 < length rs → has_line (grown rs r) ≡ true → length (segments (rs ++ (r ∷ []))) ≡ length (segments rs)
joins-count rs r h t =
    ap length (segments-joins rs r h t)
    ∙ snoc-long (drop_last (segments rs)) (grown rs r)
    ∙ sym (ap length (segments-last rs h) ∙ snoc-long (drop_last (segments rs)) (last_run (segments rs)))

pub begins-count : (rs : List Range) (r : Range) → 0 < length rs → has_line (grown rs r) ≡ false → length (segments (rs ++ (r ∷ []))) ≡ suc (length (segments rs))
begins-count rs r h t = ap length (segments-begins rs r h t) ∙ snoc-long (segments rs) (r ∷ [])

pub first_count : (r : Range) → length (segments (r ∷ [])) ≡ suc (length (segments []))
unfolding segments
first_count r = ap length (segments-one r) ∙ ap (λ runs. suc (length runs)) (sym (cut_nil has_line))

-- ---- the effect

told-last : (ss : List Segment) (s : Segment) → last_outlook (ss ++ (s ∷ [])) ≡ s.outlook
unfolding last_outlook
told-last ss s = ap (λ l. get_last_d l open_strip) (map-append (λ x. x.outlook) ss (s ∷ [])) ∙ last_snoc open_strip s.outlook (map (λ x. x.outlook) ss)

segment-outlook : (v : Service) (run : List Range) → (segment_of v run).outlook ≡ outlook v run
unfolding segment_of outlook
segment-outlook v [] = refl
segment-outlook v (r ∷ rs) = refl

pub segments_of-length : (v : Service) (rs : List Range) → length (segments_of v rs) ≡ length (segments rs)
unfolding segments_of
segments_of-length v rs = length-map (segments rs) (segment_of v)

-- the outlook of the last segment, from the last run
last-outlook : (v : Service) (rs : List Range) (earlier : List (List Range)) (run : List Range) → segments rs ≡ earlier ++ (run ∷ []) → last_outlook (segments_of v rs) ≡ outlook v run
unfolding segments_of
last-outlook v rs earlier run e =
    ap (λ runs. last_outlook (map (segment_of v) runs)) e
    ∙ ap last_outlook (map-append (segment_of v) earlier (run ∷ []))
    ∙ told-last (map (segment_of v) earlier) (segment_of v run)
    ∙ segment-outlook v run

effect_of-more : (n : ℕ) (ss : List Segment) → length ss ≡ suc n → effect_of n ss ≡ begins (last_outlook ss)
unfolding effect_of
effect_of-more n ss e = rw (eq-eqb (length ss) (suc n) e) refl

effect_of-same : (n : ℕ) (ss : List Segment) → length ss ≡ n → effect_of n ss ≡ joins (last_outlook ss)
unfolding effect_of
effect_of-same n ss e = rw (ne_eqb (length ss) (suc n) (λ f. omega arith)) refl

module _ (v : Service) where
  pub effect_first : (r : Range) → effect_after v [] r ≡ begins open_strip
  unfolding outlook
  effect_first r =
      effect_of-more (length (segments [])) (segments_of v (r ∷ [])) (segments_of-length v (r ∷ []) ∙ first_count r)
      ∙ ap begins (last-outlook v (r ∷ []) [] (r ∷ []) (segments-one r))

  pub effect_joins : (rs : List Range) (r : Range) → 0 < length rs → has_line (grown rs r) ≡ true → effect_after v rs r ≡ joins (outlook v (grown rs r))
  effect_joins rs r h t =
      effect_of-same (length (segments rs)) (segments_of v (rs ++ (r ∷ []))) (segments_of-length v (rs ++ (r ∷ [])) ∙ joins-count rs r h t)
      ∙ ap joins (last-outlook v (rs ++ (r ∷ [])) (drop_last (segments rs)) (grown rs r) (segments-joins rs r h t))

  pub effect_begins : (rs : List Range) (r : Range) → 0 < length rs → has_line (grown rs r) ≡ false → effect_after v rs r ≡ begins open_strip
  unfolding outlook
  effect_begins rs r h t =
      effect_of-more (length (segments rs)) (segments_of v (rs ++ (r ∷ []))) (segments_of-length v (rs ++ (r ∷ [])) ∙ begins-count rs r h t)
      ∙ ap begins (last-outlook v (rs ++ (r ∷ [])) (segments rs) (r ∷ []) (segments-begins rs r h t))

pub data Next (v : Service) (rs : List Range) (r : Range) : Type 0 where
  next_joins : 0 < length rs → has_line (grown rs r) ≡ true → effect_after v rs r ≡ joins (outlook v (grown rs r)) → length (segments (rs ++ (r ∷ []))) ≡ length (segments rs) → Next v rs r
  next_begins : (length rs ≡ 0) ⊎ (has_line (grown rs r) ≡ false) → effect_after v rs r ≡ begins open_strip → length (segments (rs ++ (r ∷ []))) ≡ suc (length (segments rs)) → Next v rs r

-- ---- the effects of ranges, one after the other

-- of rs, where the ranges in front stand before them
unfoldable pub effects_after : Service → List Range → List Range → List Effect
effects_after v front [] = []
effects_after v front (r ∷ rs) = effect_after v front r ∷ effects_after v (front ++ (r ∷ [])) rs

unfoldable pub effects : Service → List Range → List Effect
effects v rs = effects_after v [] rs

unfoldable pub begun_in : List Effect → ℕ
begun_in [] = 0
begun_in (begins o ∷ es) = suc (begun_in es)
begun_in (joins o ∷ es) = begun_in es

-- of each segment the last that was told of it: at the effect before the next beginning, and at the end
unfoldable pub last_outlooks : List Effect → List Outlook
last_outlooks [] = []
last_outlooks (e ∷ []) = effect_outlook e ∷ []
last_outlooks (e ∷ begins o ∷ es) = effect_outlook e ∷ last_outlooks (begins o ∷ es)
last_outlooks (e ∷ joins o ∷ es) = last_outlooks (joins o ∷ es)

module _ (v : Service) where
  after_length : (front rs : List Range) → length (effects_after v front rs) ≡ length rs
  unfolding effects_after
  after_length front [] = refl
  after_length front (r ∷ rs) = ap suc (after_length (front ++ (r ∷ [])) rs)

  pub effects_length : (rs : List Range) → length (effects v rs) ≡ length rs
  unfolding effects
  effects_length rs = after_length [] rs

  after_at : (front rs : List Range) (k : ℕ) (past : Effect) → k < length rs
      → get_or (effects_after v front rs) k past ≡ effect_of (length (segments (front ++ take k rs))) (segments_of v (front ++ take (suc k) rs))
  unfolding effects_after
  after_at front [] k past h = absurd (omega arith)
  after_at front (r ∷ rs) zero past h = ap (λ l. effect_of (length (segments l)) (segments_of v (front ++ (r ∷ [])))) (sym (append-nil front))
  after_at front (r ∷ rs) (suc k) past h =
      after_at (front ++ (r ∷ [])) rs k past (omega arith)
      ∙ ap₂ (λ l m. effect_of (length (segments l)) (segments_of v m)) (append_snoc front r (take k rs)) (append_snoc front r (take (suc k) rs))

  pub effects_at : (rs : List Range) (k : ℕ) (past : Effect) → k < length rs → get_or (effects v rs) k past ≡ effect_of (length (segments (take k rs))) (segments_of v (take (suc k) rs))
  unfolding effects
  effects_at rs k past h = after_at [] rs k past h

  -- ---- what is told last of each segment

  -- where e tells the last segment of the front, what follows tells the later ones
  abbrev pub ToldAfter : Effect → List Range → List Range → Type 0
  ToldAfter e front rs =
      effect_outlook e ≡ outlook v (last_run (segments front)) → map (outlook v) (drop_last (segments front)) ++ last_outlooks (e ∷ effects_after v front rs) ≡ map (outlook v) (segments (front ++ rs))

  -- all runs of a front, by the last one's outlook
  pub told_front : (front : List Range) (o : Outlook) → 0 < length front → o ≡ outlook v (last_run (segments front)) → map (outlook v) (drop_last (segments front)) ++ (o ∷ []) ≡ map (outlook v) (segments front)
  told_front front o h e =
      ap (λ x. map (outlook v) (drop_last (segments front)) ++ (x ∷ [])) e
      ∙ sym (map-append (outlook v) (drop_last (segments front)) (last_run (segments front) ∷ []))
      ∙ ap (map (outlook v)) (sym (segments-last front h))

  pub told_begins : (e : Effect) (front : List Range) (r : Range) (rs : List Range) → 0 < length front → has_line (grown front r) ≡ false
      → ToldAfter (begins open_strip) (front ++ (r ∷ [])) rs → ToldAfter e front (r ∷ rs)
  unfolding effects_after last_outlooks effect_outlook segments outlook
  told_begins e front r rs h t later told =
      let es = effects_after v (front ++ (r ∷ [])) rs in
      let rest = last_outlooks (begins open_strip ∷ es) in
      ap (λ x. map (outlook v) (drop_last (segments front)) ++ last_outlooks (e ∷ x ∷ es)) (effect_begins v front r h t)
      ∙ sym (append_snoc (map (outlook v) (drop_last (segments front))) (effect_outlook e) rest)
      ∙ ap (λ os. os ++ rest) (told_front front (effect_outlook e) h told)
      ∙ ap (λ runs. map (outlook v) runs ++ rest) (sym (ap drop_last (segments-begins front r h t) ∙ drop_last-snoc (segments front) (r ∷ [])))
      ∙ later (ap (outlook v) (sym (last_run_begins has_line front r t)))
      ∙ ap (λ l. map (outlook v) (segments l)) (append_snoc front r rs)

  pub outlooks_are : (rs : List Range) → map (λ s. s.outlook) (segments_of v rs) ≡ map (outlook v) (segments rs)
  unfolding segments_of
  outlooks_are rs = map-map (λ s. s.outlook) (segment_of v) (segments rs) ∙ map_same (segments rs)
    where
      map_same : (runs : List (List Range)) → map (λ run. (segment_of v run).outlook) runs ≡ map (outlook v) runs
      map_same [] = refl
      map_same (run ∷ runs) = ap₂ (λ o os. o ∷ os) (segment-outlook v run) (map_same runs)
