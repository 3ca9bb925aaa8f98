-- Ranges and their ends by value, as code holds them.
--
--     range_of r              the scope's range
--     high_of r, low_of r      its high end and its low end
--     at flip e              an end as a point, in the mirror where flip holds
--     put_end c m e           an end stored at the place m of a chain
--     InList ls k            each of the lists has a k-th entry; accepted_in: so accepted lists have, where there is a k-th time
--     accepted-range         a range of accepted lists is proper
--     high_is, low-is        the ends as points
--     high_in, low_in        the ends of a proper range are within the span
--
-- Assumes nothing.
use Rattle.std.specs.Prelude.{◌≡◌, Bool, false, ℕ, ◌<◌, length}
use Rattle.std.proofs.Common.{sym, subst, arith}
use Rattle.definitions.specs.Ranges.{Lists, Range as RangeTerm}
use Rattle.integers.specs.Bounds.{Within}
use Rattle.definitions.specs.Spans.{most_value}
use Rattle.trial_laws.specs.RangeLists.{range_at}
use Rattle.trial_laws.specs.Accepted.{ProperRange, AcceptedLists}
use Rattle.chains.specs.Points.{Point}
use Rattle.chains.specs.Ends.{H, L}
use Rattle.drift_laws.specs.RangeEnds.{end_of, high_end, low_end}
use Rattle.drift_laws.specs.ChainParts.{Chain, store}
use Rattle.fit.specs.declared.ends.Range.{Range}
use Rattle.fit.specs.declared.ends.End.{End}

abbrev pub range_of : Range → RangeTerm
range_of r = record { time = r.time; low = r.low; high = r.high }

abbrev pub high_of : Range → End
high_of r = record { time = r.time; value = r.high }

abbrev pub low_of : Range → End
low_of r = record { time = r.time; value = r.low }

abbrev pub at : Bool → End → Point
at flip e = end_of flip e.time e.value

abbrev pub put_end : Chain → ℕ → End → Chain
put_end c m e = store c m e.time e.value

pub record InList (ls : Lists) (k : ℕ) : Type 0 where
  pub in_times : k < length ls.times
  pub in_lows : k < length ls.lows
  pub in_highs : k < length ls.highs

pub accepted_in : {ls : Lists} {k : ℕ} → AcceptedLists ls → k < length ls.times → InList ls k
accepted_in a h = record { in_times = h; in_lows = omega (arith, a.same.lows_long); in_highs = omega (arith, a.same.highs_long) }

pub accepted-range : {ls : Lists} (k : ℕ) {r : Range} → AcceptedLists ls → range_of r ≡ range_at ls k → ProperRange (range_of r)
accepted-range k a e = subst ProperRange (sym e) (a.proper k)

pub high_is : (r : Range) → at false (high_of r) ≡ H (range_of r)
high_is r = high_end (range_of r)

pub low-is : (r : Range) → at false (low_of r) ≡ L (range_of r)
low-is r = low_end (range_of r)

pub high_in : {e : End} {r : Range} → e ≡ high_of r → ProperRange (range_of r) → Within most_value e.value
high_in e p = subst (λ f. Within most_value f.value) (sym e) p.high_within

pub low_in : {e : End} {r : Range} → e ≡ low_of r → ProperRange (range_of r) → Within most_value e.value
low_in e p = subst (λ f. Within most_value f.value) (sym e) p.low_within

-- ---- ends in a chain
