-- What Head ranges leaves in the three lists that it fills, after any course of calls.
--
--     GivenRanges               n ranges stand first in three lists: so many, and their times, lows and highs in order
--     call_passes, call_passed  Head ranges is accepted on a panel where an entry has the address and the lists are long; where it is accepted the panel is one, and an entry has the address
--     ranges-refused            a number that its rows give is the one that it gives
--     ranges_first              where it is accepted, the lists begin with the ranges that the head has on the panel
--     entries-first             so their first entries are these ranges' times, lows and highs
--     same-given                where the definition gives the same on two panels, so does the call: the same answer, and the same lists from the same lists
--     lists_past, refused-lists past these they are as they were; and where it is refused all of them are
--     own_course, proper_own    after a course that began with nothing held: the ranges that a head has are its accepted ones; they are proper
--     held_own, few_own         where that left a panel, the head's entry holds as many; at most 2,080
--     segments-given            Segment accepts the lists of proper ranges, and gives their segments
--
-- Assumes nothing.
use Rattle.std.specs.Prelude.{ℕ, ◌≤◌, ◌≡◌, refl, false, List, ◌++◌, map, length, take, drop, Result}
use Rattle.std.proofs.Common.{arith, sym, ap₂, ◌∙◌, take_at, drop_at}
use Rattle.std.proofs.Math.Path.{ap, subst}
use Rattle.std.proofs.lemmas.List.{length-map}
use Rattle.integers.specs.Lists.{nil}
use Rattle.definitions.specs.Spans.{segment_room, panel_room}
use Rattle.definitions.specs.Answers.{Answer, refused, accepted, ◌>>=◌, firstRow, filled}
use Rattle.definitions.specs.Ranges.{Range, Lists, ranges_of}
use Rattle.definitions.specs.Services.{Service}
use Rattle.definitions.specs.Trial.{too_short}
use Rattle.definitions.specs.Results.{segments_of}
use Rattle.definitions.specs.Calls.{segment_call}
use Rattle.definitions.specs.Panels.{Panel, Taken, on_panel, head_ranges, held_by, unknown}
use Rattle.definitions.specs.PanelCalls.{room_of, panel_rows, head_ranges_call}
use Rattle.trial_laws.specs.Rows.{first_row-accepted}
use Rattle.trial_laws.specs.CallLaws.{call-accepted, bind-refused}
use Rattle.trial_laws.specs.ShortLists.{long-split, long-join}
use Rattle.trial_laws.specs.RangeLists.{same_length, first_entries, lists_of, ranges_of-lists, lists-alike}
use Rattle.trial_laws.specs.Accepted.{ProperRanges, GoodService, accepted-lists, segment-accepted}
use Rattle.panel_laws.specs.AddLaws.{AllEmpty, nothing-on, IsPanel}
use Rattle.panel_laws.specs.HeldLaws.{most-held}
use Rattle.panel_laws.proofs.HeldLaws.{held-is}
use Rattle.definitions.specs.declared.refusals.Refusal.{Refusal}
use Rattle.panel.specs.Promises.{head_ranges_meaning, lengths_of, HeadRangesPromise}
use Rattle.panel.specs.Refusals.{head_ranges_accepted}
use Rattle.panel.specs.Courses.{Course, answer-ranges, on_course, proper_course}

pub record GivenRanges (rs : List Range) (ls : Lists) (n : ℕ) : Type 0 where
  pub count-is : n ≡ length rs
  pub times_are : take n ls.times ≡ map (λ (r : Range). r.time) rs
  pub lows_are : take n ls.lows ≡ map (λ (r : Range). r.low) rs
  pub highs_are : take n ls.highs ≡ map (λ (r : Range). r.high) rs

-- ---- from the promise

pub call_passes : {s : Panel} {a : ℕ} {old new : Lists} {answer : Result ℕ Refusal} → HeadRangesPromise s a old new answer → IsPanel s → unknown a s.entries ≡ false → too_short panel_room (lengths_of old) ≡ false → head_ranges_meaning answer ≡ accepted (length (head_ranges a (on_panel s)))
unfolding panel_rows
call_passes {s} {a} {old} promise h is_Known long = (head_ranges_accepted promise).1 (long-join panel_room (room_of s.places) (lengths_of old) h.long long, (h.good, (is_Known, tt)))

pub ranges-refused : {s : Panel} {a : ℕ} {old new : Lists} {answer : Result ℕ Refusal} {n : ℕ} → HeadRangesPromise s a old new answer → firstRow (panel_rows (room_of s.places ++ lengths_of old) s a) ≡ refused n → head_ranges_meaning answer ≡ refused n
unfolding ◌>>=◌
ranges-refused {s} {a} promise e = answer-ranges promise ∙ ap (λ (x : Answer Unit). x >>= λ ok. accepted (length (head_ranges a (on_panel s)))) e

-- a list that was filled begins with what was filled in
filled-first : {A B : Type 0} (answer : Answer B) (b : B) (f : B → List A) (old : List A) (n : ℕ) → answer ≡ accepted b → length (f b) ≡ n → take n (filled answer f old) ≡ f b
unfolding filled
filled-first answer b f old n e long = ap (λ x. take n (filled x f old)) e ∙ take_at (f b) (drop (length (f b)) old) n long

-- and past this it is as it was
filled-past : {A B : Type 0} (answer : Answer B) (b : B) (f : B → List A) (old : List A) (n : ℕ) → answer ≡ accepted b → length (f b) ≡ n → drop n (filled answer f old) ≡ drop n old
unfolding filled
filled-past answer b f old n e long = ap (λ x. drop n (filled x f old)) e ∙ drop_at (f b) (drop (length (f b)) old) n long ∙ ap (λ k. drop k old) long

pub refused-lists : {s : Panel} {a : ℕ} {old new : Lists} {answer : Result ℕ Refusal} {n : ℕ} → HeadRangesPromise s a old new answer → head_ranges_meaning answer ≡ refused n → new ≡ old
unfolding filled
refused-lists {s} {a} {old} {n = n} promise e =
    let none = bind-refused (head_ranges_call (lengths_of old) s a) length n (sym promise.answer_is ∙ e) in
    rw (promise.times_are, promise.lows_are, promise.highs_are, none) refl

module _ {s : Panel} {a : ℕ} {old new : Lists} {answer : Result ℕ Refusal} {n : ℕ} (promise : HeadRangesPromise s a old new answer) (accepts : head_ranges_meaning answer ≡ accepted n) where
  passed : (firstRow (panel_rows (room_of s.places ++ lengths_of old) s a) ≡ accepted tt) × (length (head_ranges a (on_panel s)) ≡ n)
  passed =
      let rows = panel_rows (room_of s.places ++ lengths_of old) s a in
      let h = (call-accepted rows (length (head_ranges a (on_panel s))) n).0 (sym (answer-ranges promise) ∙ accepts) in
      ((first_row-accepted rows).1 h.0, h.1)

  pub call_passed : IsPanel s × (unknown a s.entries ≡ false)
  unfolding panel_rows
  call_passed =
      let h = (first_row-accepted (panel_rows (room_of s.places ++ lengths_of old) s a)).0 passed.0 in
      (record { long = (long-split panel_room (room_of s.places) (lengths_of old) h.0).0; good = h.1.0 }, h.1.1.0)

  answered : head_ranges_call (lengths_of old) s a ≡ accepted (head_ranges a (on_panel s))
  unfolding head_ranges_call ◌>>=◌
  answered = ap (λ (x : Answer Unit). x >>= λ ok. accepted (head_ranges a (on_panel s))) passed.0

  pub ranges_first : GivenRanges (head_ranges a (on_panel s)) new n
  ranges_first =
      let rs = head_ranges a (on_panel s) in
      let call = head_ranges_call (lengths_of old) s a in
      record {
        count-is = sym passed.1;
        times_are = ap (take n) promise.times_are ∙ filled-first call rs (map (λ (r : Range). r.time)) old.times n answered (length-map rs (λ (r : Range). r.time) ∙ passed.1);
        lows_are = ap (take n) promise.lows_are ∙ filled-first call rs (map (λ (r : Range). r.low)) old.lows n answered (length-map rs (λ (r : Range). r.low) ∙ passed.1);
        highs_are = ap (take n) promise.highs_are ∙ filled-first call rs (map (λ (r : Range). r.high)) old.highs n answered (length-map rs (λ (r : Range). r.high) ∙ passed.1);
      }

  pub lists_past : (drop n new.times ≡ drop n old.times) × (drop n new.lows ≡ drop n old.lows) × (drop n new.highs ≡ drop n old.highs)
  lists_past =
      let rs = head_ranges a (on_panel s) in
      let call = head_ranges_call (lengths_of old) s a in (
        ap (drop n) promise.times_are ∙ filled-past call rs (map (λ (r : Range). r.time)) old.times n answered (length-map rs (λ (r : Range). r.time) ∙ passed.1),
        ap (drop n) promise.lows_are ∙ filled-past call rs (map (λ (r : Range). r.low)) old.lows n answered (length-map rs (λ (r : Range). r.low) ∙ passed.1),
        ap (drop n) promise.highs_are ∙ filled-past call rs (map (λ (r : Range). r.high)) old.highs n answered (length-map rs (λ (r : Range). r.high) ∙ passed.1),
      )

pub entries-first : {rs : List Range} {ls : Lists} {n : ℕ} → GivenRanges rs ls n → first_entries n ls ≡ lists_of rs
unfolding first_entries lists_of
entries-first g = rw (g.times_are, g.lows_are, g.highs_are) refl

lists-same : {ls ms : Lists} → ls.times ≡ ms.times → ls.lows ≡ ms.lows → ls.highs ≡ ms.highs → ls ≡ ms
lists-same {ls} {ms} e f g = ap₂ (λ ts us. record { times = ts; lows = us; highs = ls.highs }) e f ∙ ap (λ vs. record { times = ms.times; lows = ms.lows; highs = vs }) g

pub same-given : {s s' : Panel} {a : ℕ} {old new new' : Lists} {answer answer' : Result ℕ Refusal} → head_ranges_call (lengths_of old) s' a ≡ head_ranges_call (lengths_of old) s a → HeadRangesPromise s a old new answer → HeadRangesPromise s' a old new' answer' → (head_ranges_meaning answer' ≡ head_ranges_meaning answer) × (new' ≡ new)
same-given {old = old} same promise promise' = (
  promise'.answer_is ∙ ap (λ (x : Answer (List Range)). x >>= λ rs. accepted (length rs)) same ∙ sym promise.answer_is,
  lists-same
      (promise'.times_are ∙ ap (λ (x : Answer (List Range)). filled x (map (λ (r : Range). r.time)) old.times) same ∙ sym promise.times_are)
      (promise'.lows_are ∙ ap (λ (x : Answer (List Range)). filled x (map (λ (r : Range). r.low)) old.lows) same ∙ sym promise.lows_are)
      (promise'.highs_are ∙ ap (λ (x : Answer (List Range)). filled x (map (λ (r : Range). r.high)) old.highs) same ∙ sym promise.highs_are),
)

-- ---- after a course that began with nothing held

module _ (a : ℕ) {start : Panel} {xs : List Taken} {s : Panel} (empty : AllEmpty start.entries) (course : Course start xs s) where
  pub own_course : head_ranges a (on_panel s) ≡ head_ranges a xs
  own_course = ap (head_ranges a) (on_course course ∙ ap (λ (ys : List Taken). ys ++ xs) (nothing-on start empty))

  pub proper_own : ProperRanges (head_ranges a xs)
  unfolding head_ranges
  proper_own = subst ProperRanges own_course (proper_course a (subst (λ ys. ProperRanges (head_ranges a ys)) (sym (nothing-on start empty)) (record { each = nil; ordered = tt })) course)

  pub held_own : IsPanel s → unknown a s.entries ≡ false → held_by a s.entries ≡ length (head_ranges a xs)
  held_own h is_Known = held-is a h is_Known ∙ ap length own_course

  pub few_own : IsPanel s → unknown a s.entries ≡ false → length (head_ranges a xs) ≤ 2080
  few_own h is_Known = subst (λ n. n ≤ 2080) (held_own h is_Known) (most-held a h)

-- ---- Segment

pub segments-given : (rooms : List ℕ) (v : Service) (rs : List Range) → ProperRanges rs → length rs ≤ 4096 → too_short segment_room rooms ≡ false → GoodService v → segment_call rooms v (lists_of rs) ≡ accepted (segments_of v rs)
unfolding segment_call ◌>>=◌ lists_of
segments-given rooms v rs proper few room good =
    let ls = lists_of rs in
    let lists = accepted-lists ls ((same_length ls).0 (lists-alike rs)) (subst ProperRanges (sym (ranges_of-lists rs)) proper) in
    let as_many = length-map rs (λ (r : Range). r.time) in
    let passes = (segment-accepted rooms v ls).1 (room, good, lists, omega (arith, as_many, few)) in
    ap (λ (x : Answer Unit). x >>= λ ok. accepted (segments_of v (ranges_of ls))) passes ∙ ap (λ ss. accepted (segments_of v ss)) (ranges_of-lists rs)
