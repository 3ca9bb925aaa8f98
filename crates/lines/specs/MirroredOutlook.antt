-- The mirror image of a trace has the mirror images of its outlooks: the same two times, and the negated lines, slow for fast. For a direction that is the number 0 or 1.
--
--     end-mirrored                     the image of a run ends at the same time
--     mirrored-twice                   the image of the image of an outlook is the outlook
--
-- Further laws stand in proofs/MirroredOutlook.antt.
-- Assumes nothing.
use Rattle.std.specs.Prelude.{◌≡◌}
use Rattle.std.proofs.Math.Path.{refl, ap₂}
use mathlib.Core.List.{List, [], ◌∷◌, flatten}
use Rattle.integers.specs.Lists.{All, nil, cons}
use Rattle.definitions.specs.Ranges.{Range}
use Rattle.definitions.specs.Fit.{Ordered}
use Rattle.definitions.specs.Outlook.{Outlook, open_strip, lines, end_time}
use Rattle.definitions.specs.Mirrors.{mirrored_range, mirrored_outlook}
use Rattle.splits.specs.OrderedRanges.{ordered-left, ordered-right}
use Rattle.chains.specs.Mirror.{neg_l_neg_l}
use Rattle.lines.specs.Mirrored.{mirrored}

pub end-mirrored : (r : Range) (rs : List Range) → end_time (mirrored_range r) (mirrored rs) ≡ end_time r rs
unfolding end_time
end-mirrored r [] = refl
end-mirrored r (s ∷ rs) = end-mirrored s rs

pub mirrored-twice : (x : Outlook) → mirrored_outlook (mirrored_outlook x) ≡ x
unfolding mirrored_outlook
mirrored-twice open_strip = refl
mirrored-twice (lines k l s e) = ap₂ (λ j m. lines j m s e) (neg_l_neg_l k) (neg_l_neg_l l)
    -- ---- the segments

pub runs-ordered : (runs : List (List Range)) → Ordered (flatten runs) → All Ordered runs
unfolding flatten
runs-ordered [] o = nil
runs-ordered (run ∷ runs) o = cons (ordered-left run (flatten runs) o) (runs-ordered runs (ordered-right run (flatten runs) o))
