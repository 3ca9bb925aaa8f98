-- Laws that rest on those of specs/MirroredOutlook.antt.
--
--     outlook_mirrored                 of a run
--     segments_of-mirrored              of the whole list of segments
--
-- Assumes nothing.
use Rattle.std.specs.Prelude.{◌≡◌, ℕ, ◌≤◌}
use Rattle.std.proofs.Math.Path.{refl, ap, ap₂}
use Rattle.std.proofs.Common.{sym, subst, ◌∙◌}
use mathlib.Core.List.{List, [], ◌∷◌, map, reverse, get_last_d}
use Rattle.std.proofs.Math.ListN.{length-map}
use Rattle.integers.specs.Multiples.{first_multiple}
use Rattle.integers.specs.Lists.{All, nil, cons}
use Rattle.integers.specs.Images.{Backward, backward, last_map, any_images, all_images}
use Rattle.definitions.specs.Spans.{most_time, most_direction}
use Rattle.definitions.specs.Services.{Service}
use Rattle.definitions.specs.Ranges.{Range}
use Rattle.definitions.specs.Lines.{Line, has_line}
use Rattle.definitions.specs.Corners.{fitting}
use Rattle.definitions.specs.Fit.{Ordered}
use Rattle.definitions.specs.Outlook.{has_reached, some_time, all_time, lines, outlook_of, end_time, outlook}
use Rattle.definitions.specs.Mirrors.{mirrored_line, mirrored_range, mirrored_service, mirrored_outlook, mirrored_segment}
use Rattle.definitions.specs.Segments.{segments}
use Rattle.definitions.specs.Results.{segment_of, segments_of}
use Rattle.splits.specs.Cutting.{cut-whole}
use Rattle.lines.specs.Mirrored.{mirrored}
use Rattle.lines.proofs.Mirrored.{has_reached_mirrored}
use Rattle.lines.specs.MirroredFit.{segments-mirrored}
use Rattle.lines.proofs.MirroredFit.{fitting-mirrored}
use Rattle.lines.specs.MirroredOutlook.{end-mirrored, runs-ordered}

module _ (v : Service) (good : v.direction ≤ most_direction) where
  module _ (from : ℕ) (ls : List Line) where
    some_mirrored : some_time (mirrored_service v) from (reverse (map mirrored_line ls)) ≡ some_time v from ls
    unfolding some_time
    some_mirrored = λ i. first_multiple v.step (λ t. any_images mirrored_line (has_reached v t) (has_reached (mirrored_service v) t) (has_reached_mirrored v good t) ls i) from most_time

    all_mirrored : all_time (mirrored_service v) from (reverse (map mirrored_line ls)) ≡ all_time v from ls
    unfolding all_time
    all_mirrored = λ i. first_multiple v.step (λ t. all_images mirrored_line (has_reached v t) (has_reached (mirrored_service v) t) (has_reached_mirrored v good t) ls i) from most_time

  of_mirrored : (from : ℕ) (ls : List Line) → outlook_of (mirrored_service v) from (reverse (map mirrored_line ls)) ≡ mirrored_outlook (outlook_of v from ls)
  unfolding outlook_of mirrored_outlook
  of_mirrored from [] = refl
  of_mirrored from (l ∷ ls) =
      ap (outlook_of (mirrored_service v) from) b.is
      ∙ (λ i. lines (last_map mirrored_line l ls i) (b.last i) (some_is i) (all_is i))
    where
      b : Backward (mirrored_line l) (map mirrored_line ls)
      b = backward (mirrored_line l) (map mirrored_line ls)

      some_is : some_time (mirrored_service v) from (get_last_d (map mirrored_line ls) (mirrored_line l) ∷ b.more) ≡ some_time v from (l ∷ ls)
      some_is = ap (some_time (mirrored_service v) from) (sym b.is) ∙ some_mirrored from (l ∷ ls)

      all_is : all_time (mirrored_service v) from (get_last_d (map mirrored_line ls) (mirrored_line l) ∷ b.more) ≡ all_time v from (l ∷ ls)
      all_is = ap (all_time (mirrored_service v) from) (sym b.is) ∙ all_mirrored from (l ∷ ls)

  pub outlook_mirrored : (rs : List Range) → Ordered rs → outlook (mirrored_service v) (mirrored rs) ≡ mirrored_outlook (outlook v rs)
  unfolding outlook mirrored_outlook
  outlook_mirrored [] o = refl
  outlook_mirrored (r ∷ []) o = refl
  outlook_mirrored (r ∷ s ∷ rs) o =
      ap₂ (outlook_of (mirrored_service v)) (end-mirrored s rs) (fitting-mirrored (r ∷ s ∷ rs) o)
      ∙ of_mirrored (end_time s rs) (fitting (r ∷ s ∷ rs))

  segment_mirrored : (run : List Range) → Ordered run → segment_of (mirrored_service v) (mirrored run) ≡ mirrored_segment (segment_of v run)
  unfolding segment_of mirrored_segment mirrored_outlook
  segment_mirrored [] o = refl
  segment_mirrored (r ∷ rs) o = λ i. record { first_time = r.time; last_time = end-mirrored r rs i; count = length-map (r ∷ rs) mirrored_range i; outlook = outlook_mirrored (r ∷ rs) o i }

  each_mirrored : {runs : List (List Range)} → All Ordered runs → map (segment_of (mirrored_service v)) (map mirrored runs) ≡ map mirrored_segment (map (segment_of v) runs)
  each_mirrored nil = refl
  each_mirrored (cons {x} o os) = ap₂ (λ s ss. s ∷ ss) (segment_mirrored x o) (each_mirrored os)

pub segments_of-mirrored : (v : Service) → v.direction ≤ most_direction → (rs : List Range) → Ordered rs → segments_of (mirrored_service v) (mirrored rs) ≡ map mirrored_segment (segments_of v rs)
unfolding segments_of segments
segments_of-mirrored v good rs o =
    ap (map (segment_of (mirrored_service v))) (segments-mirrored rs)
    ∙ each_mirrored v good (runs-ordered (segments rs) (subst Ordered (sym (cut-whole has_line rs)) o))
