-- An end of a range as a point, and its mirror image.
--
--     in_mirror flip u          the value u, negated where flip holds: the lower chain is treated as an upper one in the mirror
--     end_of flip t u           the end with time t and value u
--     lent ts gs es            the lists, of which gs are the highs and es the lows
--     lent_at                  the range at a place of these
--     high_end, low_end        the ends of a range
--     end-mirrored             the end in the mirror is the mirror image of the end
--
-- Assumes nothing.
use Rattle.std.specs.Prelude.{◌≡◌, Bool, true, false, List, ℕ, get_or, ℤ, pos, neg_ℤ}
use Rattle.std.proofs.Math.Path.{refl}
use Rattle.definitions.specs.Ranges.{Range, Lists}
use Rattle.trial_laws.specs.RangeLists.{range_at}
use Rattle.chains.specs.Points.{Point}
use Rattle.chains.specs.Mirror.{neg_p}
use Rattle.chains.specs.Ends.{H, L}

abbrev pub in_mirror : Bool → ℤ → ℤ
in_mirror true u = neg_ℤ u
in_mirror false u = u

unfoldable pub end_of : Bool → ℕ → ℤ → Point
end_of flip t u = record { t = pos t; u = in_mirror flip u }

abbrev pub lent : List ℕ → List ℤ → List ℤ → Lists
lent ts gs es = record { times = ts; lows = es; highs = gs }

pub lent_at : (ts : List ℕ) (gs es : List ℤ) (k : ℕ) → range_at (lent ts gs es) k ≡ record { time = get_or ts k 0; low = get_or es k (pos 0); high = get_or gs k (pos 0) }
lent_at ts gs es k = refl

module _ (r : Range) where
  pub high_end : end_of false r.time r.high ≡ H r
  unfolding end_of
  high_end = refl

  pub low_end : end_of false r.time r.low ≡ L r
  unfolding end_of
  low_end = refl

pub end-mirrored : (t : ℕ) (u : ℤ) → end_of true t u ≡ neg_p (end_of false t u)
unfolding end_of
end-mirrored t u = refl
