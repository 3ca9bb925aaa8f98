-- A run that goes on: a polygon over further ranges, and what code knows before it, on the way and at the end.
--
--     SameFrom ls k whole j m        the m ranges of ls from k on are those of `whole` from j on
--     GoneOn ls up₀ down₀ x₀ from n up down r   a polygon goes on over the ranges of ls from `from` to n: of whatever lists they are ranges, where it is the polygon of the run before them,
--                                    that run ends at `end`, counted on from that place
--     Going, going_start, going_more what code knows on the way
--     gone_closed, gone-over         it stopped at a range that closes the run, or at n
--     some_none, true_false          what is there is not missing; a test does not both hold and fail
--     RunReady                       what a run takes: one that has begun has a polygon, and room for what is to come; another has a range, and room for all
--     TwoRoom, two_room              a second range, room for two in the chains, and a place after them that a number holds; so a run has that begins and is not single
--     Opened                         where a run stands before it goes on: as it was handed on if it has begun, and else after its first two ranges
--     opened-begun, opened-running, opened-fresh     how it got there: handed on, by the run over its first two ranges, or by the start at them
--     SameRoom, same_room            both slices of a chain are as long as they were; so where its ends are
--     GoReady, go_ready              from there on it can go on
--     RunOn                          a run that has begun has gone on, another is the run from its first range
--     on_single, on_gone             it is one range, or has gone on to its end
--
-- Assumes nothing.
use Rattle.std.specs.Prelude.{◌≡◌, refl, Bool, true, false, Option, None, Some, List, ℕ, ◌+◌, ◌-◌, ◌<◌, ◌≤◌, length}
use Rattle.std.proofs.Common.{sym, ◌∙◌, ap, subst, arith, Fits}
use Rattle.std.proofs.lemmas.List.{length-map}
use Rattle.std.proofs.lemmas.Option.{none-some, same_Some}
use Rattle.std.specs.Int.{w64}
use Rattle.definitions.specs.Ranges.{Lists}
use Rattle.trial_laws.specs.RangeLists.{range_at}
use Rattle.trial_laws.specs.Accepted.{AcceptedLists}
use Rattle.drift_laws.specs.ChainParts.{Chain, Long}
use Rattle.fit.specs.declared.ends.Range.{Range}
use Rattle.fit.specs.declared.polygon.Polygon.{Polygon}
use Rattle.fit.specs.declared.ends.End.{End}
use Rattle.fit.specs.declared.run.Reach.{Reach}
use Rattle.fit.specs.declared.run.LongReach.{LongReach}
use Rattle.fit.specs.RangesByValue.{range_of}
use Rattle.fit.specs.ChainsOfEnds.{chain_of}
use Rattle.fit.specs.Polygons.{Shape}
use Rattle.fit.specs.Joins.{JoinedAt, StartedAt}
use Rattle.fit.specs.RunsFrom.{Closing, Running, running_start, running_more, RunFrom, run_closed, run_over, run_single}

-- ---- over further ranges, which may stand in other slices than those before them
abbrev pub SameFrom : Lists → ℕ → Lists → ℕ → ℕ → Type 0
SameFrom ls k whole j m = (d : ℕ) → d < m → range_at ls (k + d) ≡ range_at whole (j + d)

pub record GoneOn (ls : Lists) (up₀ down₀ : Chain) (x₀ : Polygon) (from n : ℕ) (up down : Chain) (r : LongReach) : Type 0 where
  pub past : from ≤ r.end
  pub within : r.end ≤ n
  pub goes : {whole : Lists} → AcceptedLists whole → (i j : ℕ) → i + 2 ≤ j → j + (n - from) ≤ length whole.times → SameFrom ls from whole j (n - from) → Running whole up₀ down₀ i j x₀
      → RunFrom whole i (j + (n - from)) up down (record { end = j + (r.end - from); polygon = Some r.polygon })

pub record Going (ls : Lists) (up₀ down₀ : Chain) (x₀ : Polygon) (from k : ℕ) (up down : Chain) (x : Polygon) : Type 0 where
  pub shape : Shape x up down
  pub up_few : x.upper.end ≤ x₀.upper.end + (k - from)
  pub down_few : x.lower.end ≤ x₀.lower.end + (k - from)
  pub goes : {whole : Lists} → AcceptedLists whole → (i j : ℕ) → i + 2 ≤ j → j + (k - from) ≤ length whole.times → SameFrom ls from whole j (k - from) → Running whole up₀ down₀ i j x₀
      → Running whole up down i (j + (k - from)) x

pub going_start : (ls : Lists) (from : ℕ) {up down : Chain} {x : Polygon} → Shape x up down → Going ls up down x from from up down x
going_start ls from {up} {down} {x} s =
    record {
      shape = s;
      up_few = omega arith;
      down_few = omega arith;
      goes = λ {whole} a i j two within same z. let e : j ≡ j + (from - from) = omega arith in subst (λ k. Running whole up down i k x) e z;
    }

module _ {ls : Lists} {up₀ down₀ : Chain} {x₀ : Polygon} (from k : ℕ) (past : from ≤ k) {up down : Chain} {x : Polygon} (g : Going ls up₀ down₀ x₀ from k up down x) {w : Range} (e : range_of w ≡ range_at ls k) where
  -- the range at hand, in the whole lists
  met : (whole : Lists) (j m : ℕ) → SameFrom ls from whole j m → k - from < m → range_of w ≡ range_at whole (j + (k - from))
  met whole j m same h = let n : k ≡ from + (k - from) = omega arith in e ∙ ap (range_at ls) n ∙ same (k - from) h

  module _ {r : Bool} (c : Closing x.slow x.fast (range_of w) r) where
    pub going_more : r ≡ false → {up' down' : Chain} {y : Polygon} → JoinedAt up down x w up' down' y → Going ls up₀ down₀ x₀ from (k + 1) up' down' y
    going_more o {up'} {down'} {y} j' =
        let u = g.up_few in
        let d = g.down_few in
        let v = j'.up_more in
        let f = j'.down_more in
        record {
          shape = j'.shape;
          up_few = omega arith;
          down_few = omega arith;
          goes = λ {whole} a i j two within same z.
              let n : j + (k - from) + 1 ≡ j + (k + 1 - from) = omega arith in
              let before = g.goes a i j two (omega arith) (λ d h. same d (omega arith)) z in
              subst (λ k. Running whole up' down' i k y) n (running_more a i (j + (k - from)) (omega arith) (omega arith) before (met whole j (k + 1 - from) same (omega arith)) c o j');
        }

    pub gone_closed : (n : ℕ) → k < n → r ≡ true → GoneOn ls up₀ down₀ x₀ from n up down (record { end = k; polygon = x })
    gone_closed n h o =
        record {
          past = past;
          within = omega arith;
          goes = λ {whole} a i j two within same z.
              run_closed a i (j + (n - from)) (j + (k - from)) (omega arith) within (g.goes a i j two (omega arith) (λ d l. same d (omega arith)) z) (omega arith) (met whole j (n - from) same (omega arith)) c o;
        }

pub gone-over : {ls : Lists} {up₀ down₀ : Chain} {x₀ : Polygon} (from n k : ℕ) → from ≤ k → {up down : Chain} {x : Polygon} → Going ls up₀ down₀ x₀ from k up down x → k ≤ n → n ≤ k
    → GoneOn ls up₀ down₀ x₀ from n up down (record { end = n; polygon = x })
gone-over {ls} {up₀} {down₀} {x₀} from n k past {up} {down} {x} g le ge =
    let e : k ≡ n = omega arith in
    record {
      past = omega arith;
      within = omega arith;
      goes = λ {whole} a i j two within same z.
          run_over a i (j + (n - from)) (j + (n - from)) (omega arith) within (subst (λ k. Running whole up down i (j + (k - from)) x) e (g.goes a i j two (omega arith) (λ d l. same d (omega arith)) z)) (omega arith) (omega arith);
    }

-- ---- a run that has begun, and one that has not
pub record RunReady (ls : Lists) (up down : Chain) (before : Option Polygon) (from n : ℕ) : Type 0 where
  pub accepted : AcceptedLists ls
  pub upto : n ≤ length ls.times
  pub resumed : {x : Polygon} → before ≡ Some x → (from ≤ n) × Shape x up down × Long (x.upper.end + (n - from)) up × Long (x.lower.end + (n - from)) down
  pub fresh : before ≡ None → (from < n) × Long (n - from) up × Long (n - from) down

pub record TwoRoom (ls : Lists) (up down : Chain) (from : ℕ) : Type 0 where
  pub second : from + 1 < length ls.times
  pub place : Fits w64 (from + 2)
  pub up_room : Long 2 up
  pub down_room : Long 2 down

pub record Opened (ls : Lists) (up₀ down₀ : Chain) (before : Option Polygon) (from : ℕ) (up down : Chain) (r : LongReach) : Type 0 where
  pub resumed : {x : Polygon} → before ≡ Some x → (r ≡ record { end = from; polygon = x }) × (up ≡ up₀) × (down ≡ down₀)
  pub fresh : before ≡ None → (r.end ≡ from + 2) × Running ls up down from (from + 2) r.polygon

pub some_none : {X : Type 0} {o : Option Polygon} {x : Polygon} → o ≡ Some x → o ≡ None → X
some_none {X} {o} {x} e f = absurd (none-some x (sym f ∙ e))

pub true_false : {X : Type 0} {b : Bool} → b ≡ true → b ≡ false → X
true_false e f = let z : ◌≡◌ {A = ℕ} 0 1 = cc in absurd (omega arith)

pub opened-begun : {ls : Lists} {up down : Chain} {before : Option Polygon} {from : ℕ} (x : Polygon) → before ≡ Some x → Opened ls up down before from up down (record { end = from; polygon = x })
opened-begun {ls} {up} {down} {before} {from} x t =
    record { resumed = λ {x = y} e. (ap (λ w. record { end = from; polygon = w }) (same_Some x y (sym t ∙ e)), refl, refl); fresh = λ f. some_none t f }

pub opened-running : {ls : Lists} {up₀ down₀ : Chain} {before : Option Polygon} (from : ℕ) → before ≡ None → {up down : Chain} {x : Polygon} → Running ls up down from (from + 2) x
    → Opened ls up₀ down₀ before from up down (record { end = from + 2; polygon = x })
opened-running from f z = record { resumed = λ t. some_none t f; fresh = λ _. (refl, z) }

pub opened-fresh : {ls : Lists} → AcceptedLists ls → {up₀ down₀ : Chain} {before : Option Polygon} (from : ℕ) → before ≡ None → from + 1 < length ls.times
    → {up down : Chain} {r s : Range} {x : Polygon} → range_of r ≡ range_at ls from → range_of s ≡ range_at ls (from + 1) → StartedAt r s up down x
    → Opened ls up₀ down₀ before from up down (record { end = from + 2; polygon = x })
opened-fresh a from f h e g s = opened-running from f (running_start a from h e g s)

pub record GoReady (up down : Chain) (n : ℕ) (r : LongReach) : Type 0 where
  pub within : r.end ≤ n
  pub shape : Shape r.polygon up down
  pub up_room : Long (r.polygon.upper.end + (n - r.end)) up
  pub down_room : Long (r.polygon.lower.end + (n - r.end)) down

pub record RunOn (ls : Lists) (up₀ down₀ : Chain) (before : Option Polygon) (from n : ℕ) (up down : Chain) (r : Reach) : Type 0 where
  pub resumed : {x : Polygon} → before ≡ Some x → (y : Polygon) × (r.polygon ≡ Some y) × GoneOn ls up₀ down₀ x from n up down (record { end = r.end; polygon = y })
  pub fresh : before ≡ None → RunFrom ls from n up down r

-- both slices of a chain are as long as they were
abbrev pub SameRoom : Chain → Chain → Type 0
SameRoom c c₀ = (length c.times ≡ length c₀.times) × (length c.values ≡ length c₀.values)

pub same_room : (es ds : List End) → length es ≡ length ds → SameRoom (chain_of es) (chain_of ds)
same_room es ds e = (length-map es (λ e. e.time) ∙ e ∙ sym (length-map ds (λ e. e.time)), length-map es (λ e. e.value) ∙ e ∙ sym (length-map ds (λ e. e.value)))

gone-run : {ls : Lists} → AcceptedLists ls → (i n : ℕ) → i + 2 ≤ n → n ≤ length ls.times → {up₀ down₀ up down : Chain} {x₀ : Polygon} {r : LongReach} → Running ls up₀ down₀ i (i + 2) x₀
    → GoneOn ls up₀ down₀ x₀ (i + 2) n up down r → RunFrom ls i n up down (record { end = r.end; polygon = Some r.polygon })
gone-run {ls} a i n h upto {up₀} {down₀} {up} {down} {x₀} {r} z g =
    let p = g.past in
    let whole : i + 2 + (n - (i + 2)) ≡ n = omega arith in
    let end : i + 2 + (r.end - (i + 2)) ≡ r.end = omega arith in
    subst (λ m. RunFrom ls i m up down (record { end = r.end; polygon = Some r.polygon })) whole (subst (λ e. RunFrom ls i (i + 2 + (n - (i + 2))) up down (record { end = e; polygon = Some r.polygon })) end (g.goes a i (i + 2) (omega arith) (omega arith) (λ d l. refl) z))

module _ {ls : Lists} {up₀ down₀ : Chain} {before : Option Polygon} {from n : ℕ} (z : RunReady ls up₀ down₀ before from n) where
  pub on_single : before ≡ None → n - from < 2 → RunOn ls up₀ down₀ before from n up₀ down₀ (record { end = n; polygon = None })
  on_single f h = record { resumed = λ t. some_none t f; fresh = λ _. run_single z.accepted from n (z.fresh f).0 (omega arith) z.upto }

  module _ (two : before ≡ None → 2 ≤ n - from) where
    pub two_room : Fits w64 n → before ≡ None → TwoRoom ls up₀ down₀ from
    two_room k f =
        let h = two f in
        let (i, u, d) = z.fresh f in
        record {
          second = omega (arith, z.upto);
          place = record { fits = omega (arith, k) };
          up_room = record { times_long = omega (arith, u.times_long); values_long = omega (arith, u.values_long) };
          down_room = record { times_long = omega (arith, d.times_long); values_long = omega (arith, d.values_long) };
        }

    module _ {up down : Chain} {s : LongReach} (o : Opened ls up₀ down₀ before from up down s) where
      pub go_ready : SameRoom up up₀ → SameRoom down down₀ → GoReady up down n s
      go_ready eu ed = by before refl
        where
          by : (b : Option Polygon) → before ≡ b → GoReady up down n s
          by (Some x) t =
              let (e, u, d) = o.resumed t in
              let (le, shape, ur, dr) = z.resumed t in
              subst (GoReady up down n) (sym e)
              (record {
                within = le;
                shape = subst (λ c. Shape x c down) (sym u) (subst (Shape x up₀) (sym d) shape);
                up_room = subst (Long _) (sym u) ur;
                down_room = subst (Long _) (sym d) dr;
              })
          by None f =
              let (e, running) = o.fresh f in
              let (i, ur, dr) = z.fresh f in
              let h = two f in
              let ut = running.few.up_to in
              let dt = running.few.down_to in
              record {
                within = omega (arith, e);
                shape = running.shape;
                up_room = record { times_long = omega (arith, e, ur.times_long, eu.0); values_long = omega (arith, e, ur.values_long, eu.1) };
                down_room = record { times_long = omega (arith, e, dr.times_long, ed.0); values_long = omega (arith, e, dr.values_long, ed.1) };
              }

      pub on_gone : {up' down' : Chain} {r : LongReach} → GoneOn ls up down s.polygon s.end n up' down' r → RunOn ls up₀ down₀ before from n up' down' (record { end = r.end; polygon = Some r.polygon })
      on_gone {up'} {down'} {r} g =
          record {
            resumed = λ {x} t. let (e, u, d) = o.resumed t in (r.polygon, refl, subst (λ c. GoneOn ls c down₀ x from n up' down' r) u (subst (λ c. GoneOn ls up c x from n up' down' r) d (subst (λ w. GoneOn ls up down w.polygon w.end n up' down' r) e g)));
            fresh = λ f. let (e, running) = o.fresh f in let h = two f in gone-run z.accepted from n (omega (arith, (z.fresh f).0)) z.upto running (subst (λ k. GoneOn ls up down s.polygon k n up' down' r) e g);
          }
