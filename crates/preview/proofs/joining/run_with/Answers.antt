-- `preview::joining::run_with` meets its contract: a run of one range begins a polygon with the new one, and that of a longer run goes on over the new range alone. Assumes nothing.
use Prim.Native.Nat.{◌+◌, ◌-◌, ◌≤◌}
use mathlib.Core.Path.{◌≡◌, refl, sym, subst}
use native.Mathlib.Omega.{arith}
use mir.Syntax.{w32}
use mir.Val.{to_z, of_z}
use Rattle.definitions.specs.Ranges.{Lists}
use Rattle.trial_laws.specs.Accepted.{ProperRange, AcceptedLists}
use Rattle.trial_laws.specs.LongerLists.{shorter_accepted, longer_proper}
use Rattle.drift_laws.specs.RangeEnds.{lent}
use Rattle.drift_laws.specs.EndReads.{narrow_is}
use Rattle.std.proofs.lemmas.Option.{same_Some}
use Rattle.drift_laws.specs.ChainParts.{Long}
use Rattle.fit.specs.ChainsOfEnds.{chain_of, long_of}
use Rattle.fit.specs.Polygons.{Shape}
use Rattle.fit.specs.RangesByValue.{range_of, accepted_in, accepted-range}
use Rattle.fit.specs.RunsFrom.{polygon_some}
use Rattle.fit.specs.RunsOn.{some_none}
use Rattle.preview.specs.LongerRuns.{RunWith, alone, alone-accepted, with_second, with_gone, with_none}
use Rattle.preview.proofs.joining.run_with.Goals.{Start}
use Rattle.preview.proofs.joining.run_with.Goals as goal

abbrev lists : Start → Lists
lists s = lent s.args.times.now s.args.highs.now s.args.lows.now

shorter : (s : Start) → AcceptedLists (lists s)
shorter s = shorter_accepted (lists s) (range_of s.args.r) s.requires.0

new-proper : (s : Start) → ProperRange (range_of s.args.r)
new-proper s = longer_proper (lists s) (range_of s.args.r) s.requires.0

-- the new range in arrays of one entry; numbers with a sign are stored as bits

abbrev stored : Start → Lists
stored s = alone (record { time = s.args.r.time; low = to_z w32 (of_z w32 s.args.r.low); high = to_z w32 (of_z w32 s.args.r.high) })

as-stored : (s : Start) → alone (range_of s.args.r) ≡ stored s
as-stored s =
    let p = new-proper s in
    λ j. alone (record { time = s.args.r.time; low = sym (narrow_is p.low_within) j; high = sym (narrow_is p.high_within) j })

pub range_at-first-requires : goal.range_at-first-requires
range_at-first-requires c = accepted_in (shorter (goal.at.range_at-first-requires c).Start) c.requires.1.begins

pub begin-requires : goal.begin-requires
begin-requires c =
    let s = (goal.at.begin-requires c).Start in
    (omega (arith, c.requires.3), omega (arith, c.requires.4), accepted-range c.args.last.start (shorter s) c.range_at-first.ensures, new-proper s)

pub returns-in_default : goal.returns-in_default
returns-in_default c =
    let P = c.requires in
    with_second (lists (goal.at.returns-in_default c).Start) c.args.r P.0 P.1 c.in_default.is c.range_at-first.ensures c.begin.ensures

pub run_on-more-requires : goal.run_on-more-requires
run_on-more-requires c =
    let s = (goal.at.run_on-more-requires c).Start in
    let P = c.requires in
    let A = c.args in
    let z = (polygon_some c.in-Some.is P.1.polygon_is).1 in
    record {
      accepted = subst AcceptedLists (as-stored s) (alone-accepted (range_of A.r) (new-proper s));
      upto = omega arith;
      resumed = λ {x} e. subst (λ x. (0 ≤ 1) × Shape x (chain_of A.up.now) (chain_of A.down.now) × Long (x.upper.end + (1 - 0)) (chain_of A.up.now) × Long (x.lower.end + (1 - 0)) (chain_of A.down.now)) (same_Some c.in-Some.before x e) (omega arith, z.shape, long_of A.up.now (omega (arith, P.2, z.few.up_to, P.3)), long_of A.down.now (omega (arith, P.2, z.few.down_to, P.4)));
      fresh = λ f. some_none refl f;
    }

pub returns-then-more-eq0 : goal.returns-then-more-eq0
returns-then-more-eq0 c =
    let s = (goal.at.returns-then-more-eq0 c).Start in
    let P = c.requires in
    let (y, was, g) = c.run_on-more.ensures.resumed refl in
    with_none (lists s) c.args.r P.0 P.1 c.in-Some.is (as-stored s) g c.if-more-eq0.true

pub returns-else-more-eq0 : goal.returns-else-more-eq0
returns-else-more-eq0 c =
    let s = (goal.at.returns-else-more-eq0 c).Start in
    let P = c.requires in
    let (y, was, g) = c.run_on-more.ensures.resumed refl in
    subst (RunWith (lists s) (range_of c.args.r) c.args.last.start _ _) (sym was) (with_gone (lists s) c.args.r P.0 P.1 c.in-Some.is (as-stored s) g (omega (arith, c.if-more-eq0.false)))
