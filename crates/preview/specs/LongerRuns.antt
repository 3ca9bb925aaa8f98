-- The last run of some lists, as a run of the lists with one range more.
--
--     run-longer             a run of the lists is a run of the longer lists
--     RunWith                the last run, which begins at i, among the ranges and one more: it goes up to the end of the lists, or the new one joins it, and then its polygon is given
--     with_second            it has one range: the new one joins it
--     alone, alone-accepted  lists of one range; they are acceptable if it is proper
--     with_gone, with_none   it has more: where its polygon goes on over these lists, and where it does not
--
-- Assumes nothing.
use Rattle.std.specs.Prelude.{◌≡◌, refl, Option, None, Some, MatchOption, [], ◌∷◌, ℕ, zero, suc, ◌+◌, ◌-◌, ◌≤◌, ◌<◌, length, take, drop}
use Rattle.std.proofs.Common.{sym, ap, ap₂, ◌∙◌, subst, add-zero, arith, length-drop}
use Rattle.std.proofs.lemmas.List.{take-append-le, drop-append-le}
use Rattle.integers.specs.Lists.{nil, cons}
use Rattle.definitions.specs.Ranges.{Lists, zip_ranges, ranges_of, Range as RangeTerm}
use Rattle.definitions.specs.Fit.{HasLine}
use Rattle.definitions.specs.Previews.{longer}
use Rattle.trial_laws.specs.RangeLists.{SameLength, range_at, ranges_length}
use Rattle.trial_laws.specs.Accepted.{ProperRange, AcceptedLists, accepted-lists}
use Rattle.trial_laws.specs.LongerLists.{longer_length, longer_ranges, longer_at, longer_last, shorter_accepted}
use Rattle.chains.specs.Results.{polygon}
use Rattle.drift_laws.specs.ChainParts.{Chain}
use Rattle.drift_laws.specs.RunsByPlace.{run, run_polygon}
use Rattle.fit.specs.declared.ends.Range.{Range}
use Rattle.fit.specs.declared.polygon.Polygon.{Polygon}
use Rattle.fit.specs.declared.last_run.Found.{Found}
use Rattle.fit.specs.declared.run.Reach.{Reach}
use Rattle.fit.specs.RangesByValue.{range_of}
use Rattle.fit.specs.Joins.{StartedAt}
use Rattle.fit.specs.RunsFrom.{Running, running_start, polygon_some, polygon_none, RunFrom, run_over}
use Rattle.fit.specs.RunsOn.{SameFrom, GoneOn}
use Rattle.fit.specs.LastRuns.{LastRun}

pub run-longer : (ls : Lists) (r : RangeTerm) → SameLength ls → (i e : ℕ) → i ≤ e → e ≤ length ls.times → run (longer ls r) i e ≡ run ls i e
run-longer ls r same i e h within =
    let long = ranges_length ls same in
    ap (λ rs. take (e - i) (drop i rs)) (longer_ranges ls r same)
    ∙ ap (take (e - i)) (drop-append-le i (ranges_of ls) (r ∷ []) (omega arith))
    ∙ take-append-le (e - i) (drop i (ranges_of ls)) (r ∷ []) (omega (arith, length-drop i (ranges_of ls)))

abbrev pub alone : RangeTerm → Lists
alone r = record { times = r.time ∷ []; lows = r.low ∷ []; highs = r.high ∷ [] }

pub alone-accepted : (r : RangeTerm) → ProperRange r → AcceptedLists (alone r)
unfolding ranges_of zip_ranges
alone-accepted r p = accepted-lists (alone r) (record { lows_long = refl; highs_long = refl }) (record { each = cons p nil; ordered = (p.low_high, nil, tt) })

pub record RunWith (ls : Lists) (r : RangeTerm) (i : ℕ) (up down : Chain) (o : Option Polygon) : Type 0 where
  pub reach : Reach
  pub found : RunFrom (longer ls r) i (length ls.times + 1) up down reach
  pub joined : MatchOption o (reach.end ≡ length ls.times) (λ x. (reach.end ≡ length ls.times + 1) × (reach.polygon ≡ Some x))

module _ (ls : Lists) (r : Range) (a : AcceptedLists (longer ls (range_of r))) where
  abbrev more : Lists
  more = longer ls (range_of r)

  abbrev n : ℕ
  n = length ls.times

  same : SameLength ls
  same = (shorter_accepted ls (range_of r) a).same

  long : length more.times ≡ n + 1
  long = longer_length ls (range_of r)

  new_at : range_of r ≡ range_at more n
  new_at = sym (longer_last ls (range_of r) same)

  module _ {up down : Chain} {last : Found} (z : LastRun ls n up down last) where
    abbrev i : ℕ
    i = last.start

    polygon_longer : i + 2 ≤ n → run_polygon more i n ≡ run_polygon ls i n
    polygon_longer two =
        ap₂ (λ s t. polygon s t (run more (i + 2) n)) (longer_at ls (range_of r) same i (omega arith)) (longer_at ls (range_of r) same (i + 1) (omega arith))
        ∙ ap (polygon (range_at ls i) (range_at ls (i + 1))) (run-longer ls (range_of r) same (i + 2) n two (omega arith))

    running : {x : Polygon} → last.polygon ≡ Some x → Running more up down i n x
    running e =
        let (two, p) = polygon_some e z.polygon_is in
        let b = z.begins in
        record { is = p.is ∙ sym (polygon_longer two); line = subst HasLine (sym (run-longer ls (range_of r) same i n (omega arith) (omega arith))) z.line; shape = p.shape; few = p.few }

    pub with_second : last.polygon ≡ None → {up' down' : Chain} {first : Range} {x : Polygon} → range_of first ≡ range_at ls i → StartedAt first r up' down' x → RunWith ls (range_of r) i up' down' (Some x)
    with_second none {up'} {down'} {first} {x} e s =
        let b = z.begins in
        let one = polygon_none none z.polygon_is in
        let m : i + 1 ≡ n = omega arith in
        let k : i + 2 ≡ n + 1 = omega arith in
        let began = running_start a i (omega (arith, long)) (e ∙ sym (longer_at ls (range_of r) same i b)) (new_at ∙ ap (range_at more) (sym m)) s in
        record {
          reach = record { end = n + 1; polygon = Some x };
          found = run_over a i (n + 1) (n + 1) (omega arith) (omega (arith, long)) (subst (λ e. Running more up' down' i e x) k began) (omega arith) (omega arith);
          joined = (refl, refl);
        }

    module _ {before : Polygon} (was : last.polygon ≡ Some before) {stored : Lists} (is : alone (range_of r) ≡ stored) {up' down' : Chain} {e : ℕ} {x : Polygon} (g : GoneOn stored up down before 0 1 up' down' (record { end = e; polygon = x })) where
      same_new : SameFrom stored 0 more n (1 - 0)
      same_new zero h = ap (λ l. range_at l 0) (sym is) ∙ new_at ∙ ap (range_at more) (sym (add-zero n))
      same_new (suc d) h = absurd (omega arith)

      gone : (m : ℕ) → n + e ≡ m → RunFrom more i (n + 1) up' down' (record { end = m; polygon = Some x })
      gone m p =
          let k : n + (e - 0) ≡ m = omega arith in
          let one : n + (1 - 0) ≡ n + 1 = omega arith in
          subst (λ u. RunFrom more i u up' down' (record { end = m; polygon = Some x })) one
          (subst (λ e. RunFrom more i (n + (1 - 0)) up' down' (record { end = e; polygon = Some x })) k
          (g.goes a i n (polygon_some was z.polygon_is).0 (omega (arith, long)) same_new (running was)))

      pub with_gone : 0 < e → RunWith ls (range_of r) i up' down' (Some x)
      with_gone h = record { reach = record { end = n + 1; polygon = Some x }; found = gone (n + 1) (omega (arith, g.within)); joined = (refl, refl) }

      pub with_none : e ≡ 0 → RunWith ls (range_of r) i up' down' None
      with_none h = record { reach = record { end = n; polygon = Some x }; found = gone n (omega arith); joined = refl }
