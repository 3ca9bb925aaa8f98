-- Seeing the effect of a range before it is added.
--
--     longer                 the lists with a range added: each list with one entry more at its end
--     Effect                 the range joins the last segment, or begins one; and the outlook of the last segment then
--     last_outlook            the outlook of the last of some segments
--     effect_of               the effect, from the number of segments before and the segments with the range
--     preview_rows            its rows of refusals
--     preview_call            Preview: what Segment would tell of the lists with the range at their end
--     kind_number, effect_outlook   the number of an effect's kind, 0 where the range joins and 1 where it begins a segment; its outlook
--
-- Assumes nothing.
use Rattle.std.specs.Prelude.{ℕ, suc, cond, eqb, length}
use mathlib.Core.List.{[], ◌∷◌, ◌++◌, List, map, get_last_d}
use Rattle.definitions.specs.Ranges.{Range, Lists, ranges_of}
use Rattle.definitions.specs.Services.{Service}
use Rattle.definitions.specs.Segments.{segments}
use Rattle.definitions.specs.Outlook.{Outlook, open_strip}
use Rattle.definitions.specs.Results.{Segment}
use Rattle.definitions.specs.Answers.{Answer, Row, accepted, ◌>>=◌}
use Rattle.definitions.specs.Trial.{segment_rows}
use Rattle.definitions.specs.Calls.{segment_call}

unfoldable pub longer : Lists → Range → Lists
longer ls r = record { times = ls.times ++ (r.time ∷ []); lows = ls.lows ++ (r.low ∷ []); highs = ls.highs ++ (r.high ∷ []) }

pub data Effect : Type 0 where
  joins : Outlook → Effect
  begins : Outlook → Effect

-- there is a last segment wherever this is asked
unfoldable pub last_outlook : List Segment → Outlook
last_outlook ss = get_last_d (map (λ s. s.outlook) ss) open_strip

-- a segment is begun exactly if there is one more than before
unfoldable pub effect_of : ℕ → List Segment → Effect
effect_of before ss = cond (eqb (length ss) (suc before)) (begins (last_outlook ss)) (joins (last_outlook ss))

-- Segment's rows on the longer lists; no slice is lent to be filled, so 8 is never given
abbrev pub preview_rows : Service → Lists → Range → List Row
preview_rows v ls r = segment_rows [] v (longer ls r)

unfoldable pub preview_call : Service → Lists → Range → Answer Effect
preview_call v ls r = segment_call [] v (longer ls r) >>= λ ss. accepted (effect_of (length (segments (ranges_of ls))) ss)

-- ---- the numbers of an effect

unfoldable pub kind_number : Effect → ℕ
kind_number (joins o) = 0
kind_number (begins o) = 1

unfoldable pub effect_outlook : Effect → Outlook
effect_outlook (joins o) = o
effect_outlook (begins o) = o
