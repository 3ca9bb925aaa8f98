-- Laws that rest on those of specs/MirroredFit.antt.
--
--     fitting-mirrored                 the fitting lines of the image are the images of the fitting lines, the other way round
--
-- Assumes nothing.
use Rattle.std.specs.Prelude.{◌≡◌, List, map, reverse}
use Rattle.std.proofs.Common.{subst}
use Rattle.integers.specs.Lists.{In, in_map, in-map-inv, in_reverse, in_reverse_inv}
use Rattle.integers.specs.Sorting.{rising_imp, rising_map, rising_reverse, rising_unique}
use Rattle.definitions.specs.Ranges.{Range}
use Rattle.definitions.specs.Lines.{Line}
use Rattle.definitions.specs.Corners.{before, fitting}
use Rattle.definitions.specs.Fit.{Ordered}
use Rattle.definitions.specs.Mirrors.{mirrored_line}
use Rattle.chains.specs.Mirror.{neg_l_neg_l}
use Rattle.lines.specs.LineOrder.{before_means, before_passes, line-order}
use Rattle.lines.specs.FittingLines.{fitting_rising, fitting_proper}
use Rattle.lines.specs.Mirrored.{mirrored, mirrored-mirrored}
use Rattle.lines.specs.MirroredFit.{in_mirrored, ordered-mirrored, precedes-mirrored}

pub fitting-mirrored : (rs : List Range) → Ordered rs → fitting (mirrored rs) ≡ reverse (map mirrored_line (fitting rs))
fitting-mirrored rs o =
    rising_unique line-order (fitting_proper (mirrored rs) o') (fitting_rising (mirrored rs) o')
    (rising_reverse before (map mirrored_line ls)
    (rising_map (λ x y. before y x) mirrored_line
    (rising_imp before (λ x y. before (mirrored_line y) (mirrored_line x)) (λ x y i j t. before_passes (mirrored_line y) (mirrored_line x) (precedes-mirrored x y (before_means x y t))) (fitting_rising rs o))))
    (record { into = λ x i. in_reverse (into x i); back = λ x i. back x (in-map-inv mirrored_line ls (in_reverse_inv (map mirrored_line ls) i)) })
  where
    ls : List Line
    ls = fitting rs

    o' : Ordered (mirrored rs)
    o' = ordered-mirrored rs o

    into : (x : Line) → In x (fitting (mirrored rs)) → In x (map mirrored_line ls)
    into x i = subst (λ l. In l (map mirrored_line ls)) (neg_l_neg_l x) (in_map mirrored_line (subst (λ xs. In (mirrored_line x) (fitting xs)) (mirrored-mirrored rs) (in_mirrored (mirrored rs) o' i)))

    back : (x : Line) → (y : Line) × In y ls × (mirrored_line y ≡ x) → In x (fitting (mirrored rs))
    back x (y, i, e) = subst (λ l. In l (fitting (mirrored rs))) e (in_mirrored rs o i)
