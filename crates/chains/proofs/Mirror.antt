-- Laws that rest on those of specs/Mirror.antt.
--
--     un-through  the image of the line through two points is the line through their images
--
-- Assumes nothing.
use Rattle.std.specs.Prelude.{◌≡◌}
use Rattle.std.proofs.Common.{sym, ◌∙◌, ap}
use Rattle.chains.specs.Points.{Point, through}
use Rattle.definitions.specs.Mirrors.{mirrored_line as negL}
use Rattle.chains.specs.Mirror.{neg_l_neg_l, neg_p, through-neg}

pub un-through : (A B : Point) → negL (through (neg_p A) (neg_p B)) ≡ through A B
un-through A B = ap negL (sym (through-neg A B)) ∙ neg_l_neg_l (through A B)
