-- The first ranges of accepted lists.
--
--     first-accepted         the first k entries of accepted lists are accepted lists
--
-- Assumes nothing.
use Rattle.std.proofs.Common.{sym, ◌∙◌, subst, arith, take-append-drop, length-take-le}
use Rattle.std.specs.Prelude.{List, ℕ, ◌≤◌, length, take, drop}
use Rattle.integers.specs.Lists.{All, All_append_left}
use Rattle.definitions.specs.Ranges.{Range, Lists, ranges_of}
use Rattle.definitions.specs.Fit.{Ordered}
use Rattle.splits.specs.OrderedRanges.{ordered-left}
use Rattle.trial_laws.specs.RangeLists.{SameLength, first_entries, first-ranges}
use Rattle.trial_laws.specs.Accepted.{ProperRange, ProperRanges, AcceptedLists, accepted-lists}

first-same : (ls : Lists) → SameLength ls → (k : ℕ) → k ≤ length ls.times → SameLength (first_entries k ls)
unfolding first_entries
first-same ls same k h =
    let times_long = length-take-le k ls.times h in
    record {
      lows_long = length-take-le k ls.lows (omega (arith, same.lows_long)) ∙ sym times_long;
      highs_long = length-take-le k ls.highs (omega (arith, same.highs_long)) ∙ sym times_long;
    }

proper-first : (k : ℕ) (rs : List Range) → ProperRanges rs → ProperRanges (take k rs)
proper-first k rs p =
    let whole = sym (take-append-drop k rs) in
    record {
      each = All_append_left (take k rs) (drop k rs) (subst (All ProperRange) whole p.each);
      ordered = ordered-left (take k rs) (drop k rs) (subst Ordered whole p.ordered);
    }

pub first-accepted : {ls : Lists} → AcceptedLists ls → (k : ℕ) → k ≤ length ls.times → AcceptedLists (first_entries k ls)
first-accepted {ls} a k h = accepted-lists (first_entries k ls) (first-same ls a.same k h) (subst ProperRanges (sym (first-ranges k ls)) (proper-first k (ranges_of ls) a.ranges))
