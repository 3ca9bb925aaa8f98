-- What a caller of Add and Head ranges can rely on, as theorems about the panels, lists and answers that a caller holds. `Course start xs s` is any course of calls
-- from the panel `start` to the panel s, each on the panel as the last one left it, in which the ranges xs were accepted in this order.
--
--     course_on                   what stands on the panel is just these ranges in this order
--     course_panel                what was a panel is one
--     never_fourteen, ranges_never_fourteen   neither call gives 14 after a course from a panel that starts
--     given_ranges                Head ranges, where it is accepted, gives the number of the head's accepted ranges, and the lists that it filled begin with their times, lows and highs
--     ranges_given                it is accepted where the panel started, an entry has the address, and the lists are long
--     own-only                    two courses in which a head had the same ranges accepted give the same number and the same first entries, whatever the others' ranges were
--     proper_own, most_own        a head's accepted ranges are proper, and at most 2,080
--     course_held                 its entry holds as many as were accepted of it
--     own_segments                so Segment accepts what was filled in, and gives the segments of the head's own accepted ranges
--     course_sure                 a head with less than 32 accepted ranges has its next one accepted if its own rows 4, 5 and 6 pass, whatever the others hold
--     sure_of_32, never_thirteen  so on any panel for a head that holds less than 32; and 13 is not given
--     common-decides              a head that holds 32 or more has its range accepted exactly if a common place is left
--     OthersDecide, others-decide so the others decide: after two courses in which a head had the same 32 ranges accepted, the same next range of it is accepted, and refused with 13
--     address_twelve, ranges_address_twelve   on a panel, an address outside 1 to 65,535 gives 12
--     stranger_fourteen, ranges_stranger_fourteen   where the lists are long, a place held whose address no entry has gives 14
--     refused_same                where Add is refused the panel is as it was
--     accepted_panel              where it is accepted the panel is one
--     accepted_adds               the range then stands at the next place of the four lists, which is among their first 4,096, and all else of these is as it was; and what the entries then are
--     accepted_counts             its head then holds one more, and every other head what it held
--     ranges_refused_same         where Head ranges is refused the lists that it was to fill are as they were
--     ranges_past                 where it is accepted with n, each of them is as it was past its first n entries
--     head_joins                  a head can join a panel at any time: with its entry after the others, and 0 held, it is a panel again, the same ranges stand on it and every head holds what it held
--     joined_same                 Head ranges then gives the same answer for every other address, and fills the lists as it did
--     course-joins                and after a course it is as if it had been there from the start, so what is said here of courses goes on to hold
--
-- Further laws stand in proofs/PanelTheorems.antt.
-- Assumes nothing.
use Rattle.std.specs.Prelude.{ℕ, ◌+◌, ◌<◌, ◌≤◌, ◌≡◌, ◌↔◌, true, false, eqb, length, get_or, set, drop, Result}
use Rattle.std.proofs.Common.{arith, sym, ◌∙◌, subst}
use Rattle.std.proofs.Math.Path.{ap}
use mathlib.Core.List.{List, [], ◌∷◌, ◌++◌}
use Rattle.definitions.specs.Spans.{segment_room, panel_room}
use Rattle.definitions.specs.Answers.{refused, accepted, ◌if◌, firstRow}
use Rattle.definitions.specs.Ranges.{Range, Lists}
use Rattle.definitions.specs.Services.{Service}
use Rattle.definitions.specs.Times.{none}
use Rattle.definitions.specs.Trial.{bad_address, too_short, range_rows}
use Rattle.definitions.specs.Results.{segments_of}
use Rattle.definitions.specs.Calls.{segment_call}
use Rattle.definitions.specs.Panels.{Panel, Taken, total_held, on_panel, head_ranges, last_time, common_taken, held_by, unknown, crowded}
use Rattle.definitions.specs.PanelCalls.{room_of, panel_rows, add_rows, entries_after, put_at, added}
use Rattle.trial_laws.specs.CallLaws.{along, bind-refused}
use Rattle.trial_laws.specs.ShortLists.{long-split, long-join}
use Rattle.trial_laws.specs.RangeLists.{lists_of, first_entries}
use Rattle.trial_laws.specs.Accepted.{GoodService, ProperRanges}
use Rattle.panel_laws.specs.PanelRows.{own_rows}
use Rattle.panel_laws.specs.Strangers.{stranger_not}
use Rattle.panel_laws.specs.AddLaws.{AllEmpty, nothing-on, IsPanel, Starts, starts-panel, held-added, counts-added, stays-panel}
use Rattle.panel_laws.specs.HeldLaws as Held
use Rattle.panel_laws.proofs.HeldLaws as HeldAbove
use Rattle.panel_laws.specs.JoiningHeads.{joined, joined-starts}
use Rattle.panel_laws.proofs.JoiningHeads.{joined-panel, joined-on, joined-held, joined_ranges}
use Rattle.panel_laws.specs.TwoHeads.{two_heads, two-start, turn, Reached, reached, same_ones, ones_length, still_room, no_room}
use Rattle.definitions.specs.declared.refusals.Refusal.{Refusal}
use Rattle.panel.specs.Promises.{add_meaning, head_ranges_meaning, lengths_of, AddPromise, HeadRangesPromise}
use Rattle.panel.specs.Courses.{Course, begun, then-accepted, answer-add, answer-ranges, add-leaves, refused-leaves, on_course, panel_course, known_course, joined-course}
use Rattle.panel.specs.RangesGiven as Given
use Rattle.panel.specs.RangesGiven.{GivenRanges}

-- ---- any course of calls

module _ {start : Panel} {xs : List Taken} {s : Panel} (course : Course start xs s) where
  pub course_on : AllEmpty start.entries → on_panel s ≡ xs
  course_on empty = on_course course ∙ ap (λ (ys : List Taken). ys ++ xs) (nothing-on start empty)

  pub course_panel : IsPanel start → IsPanel s
  course_panel h = panel_course h course

  pub proper_own : (a : ℕ) → AllEmpty start.entries → ProperRanges (head_ranges a xs)
  proper_own a empty = Given.proper_own a empty course

  pub course_held : (a : ℕ) → Starts start → unknown a start.entries ≡ false → held_by a s.entries ≡ length (head_ranges a xs)
  course_held a starts is_Known = Given.held_own a starts.empty course (course_panel (starts-panel starts)) (known_course a course ∙ is_Known)

  pub most_own : (a : ℕ) → Starts start → unknown a start.entries ≡ false → length (head_ranges a xs) ≤ 2080
  most_own a starts is_Known = Given.few_own a starts.empty course (course_panel (starts-panel starts)) (known_course a course ∙ is_Known)

  pub never_fourteen : {t : Panel} {a : ℕ} {r : Range} {answer : Result Unit Refusal} → Starts start → AddPromise s a r answer t → add_meaning answer ≡ refused 14 → ⊥
  never_fourteen {t} {a} {r} starts promise e = Held.add_never_14 s a r (course_panel (starts-panel starts)) (sym (answer-add promise) ∙ e)

  pub ranges_never_fourteen : {a : ℕ} {old new : Lists} {answer : Result ℕ Refusal} → Starts start → HeadRangesPromise s a old new answer → head_ranges_meaning answer ≡ refused 14 → ⊥
  ranges_never_fourteen {a} {old} starts promise e = Held.ranges_never_14 (room_of s.places ++ lengths_of old) s a (course_panel (starts-panel starts)) (bind-refused _ _ 14 (sym (answer-ranges promise) ∙ e))

  pub course_sure : {t : Panel} {a : ℕ} {r : Range} {answer : Result Unit Refusal} → Starts start → unknown a start.entries ≡ false → length (head_ranges a xs) < 32 → firstRow (range_rows (last_time none (head_ranges a xs)) r) ≡ accepted tt → AddPromise s a r answer t → add_meaning answer ≡ accepted tt
  course_sure {t} {a} {r} starts is_Known less passes promise =
      let own = Given.own_course a starts.empty course in
      answer-add promise ∙ HeldAbove.sure_of_32 s a r (course_panel (starts-panel starts)) (known_course a course ∙ is_Known) (subst (λ n. n < 32) (sym (course_held a starts is_Known)) less) (ap (λ rs. firstRow (range_rows (last_time none rs) r)) own ∙ passes)

-- ---- what Head ranges fills in

module _ {start : Panel} {xs : List Taken} {s : Panel} {a : ℕ} {old new : Lists} {answer : Result ℕ Refusal} (course : Course start xs s) (promise : HeadRangesPromise s a old new answer) where
  pub given_ranges : {n : ℕ} → AllEmpty start.entries → head_ranges_meaning answer ≡ accepted n → GivenRanges (head_ranges a xs) new n
  given_ranges {n} empty e = subst (λ rs. GivenRanges rs new n) (Given.own_course a empty course) (Given.ranges_first promise e)

  pub ranges_given : Starts start → unknown a start.entries ≡ false → too_short panel_room (lengths_of old) ≡ false → head_ranges_meaning answer ≡ accepted (length (head_ranges a xs))
  ranges_given starts is_Known long = Given.call_passes promise (course_panel course (starts-panel starts)) (known_course a course ∙ is_Known) long ∙ ap (λ rs. accepted (length rs)) (Given.own_course a starts.empty course)

  pub own_segments : {n : ℕ} (rooms : List ℕ) (v : Service) → AllEmpty start.entries → head_ranges_meaning answer ≡ accepted n → too_short segment_room rooms ≡ false → GoodService v → segment_call rooms v (first_entries n new) ≡ accepted (segments_of v (head_ranges a xs))
  own_segments rooms v empty e room good =
      let passed = Given.call_passed promise e in
      let most = Given.few_own a empty course passed.0 passed.1 in
      ap (segment_call rooms v) (Given.entries-first (given_ranges empty e)) ∙ Given.segments-given rooms v (head_ranges a xs) (proper_own course a empty) (omega (arith, most)) room good

pub own-only : {start start' : Panel} {xs xs' : List Taken} {s s' : Panel} {a : ℕ} {old old' new new' : Lists} {answer answer' : Result ℕ Refusal} {n n' : ℕ} → AllEmpty start.entries → AllEmpty start'.entries → Course start xs s → Course start' xs' s' → head_ranges a xs ≡ head_ranges a xs'
    → HeadRangesPromise s a old new answer → HeadRangesPromise s' a old' new' answer' → head_ranges_meaning answer ≡ accepted n → head_ranges_meaning answer' ≡ accepted n' → (n ≡ n') × (first_entries n new ≡ first_entries n' new')
own-only empty empty' course course' same promise promise' e e' =
    let g = given_ranges course promise empty e in
    let g' = given_ranges course' promise' empty' e' in
    (g.count-is ∙ ap length same ∙ sym g'.count-is, Given.entries-first g ∙ ap lists_of same ∙ sym (Given.entries-first g'))

-- ---- one call of Add

module _ {s t : Panel} {a : ℕ} {r : Range} {answer : Result Unit Refusal} (promise : AddPromise s a r answer t) where
  pub sure_of_32 : IsPanel s → unknown a s.entries ≡ false → held_by a s.entries < 32 → firstRow (own_rows s a r) ≡ accepted tt → add_meaning answer ≡ accepted tt
  sure_of_32 h is_Known less passes = answer-add promise ∙ HeldAbove.sure_of_32 s a r h is_Known less passes

  pub common-decides : IsPanel s → unknown a s.entries ≡ false → 32 ≤ held_by a s.entries → firstRow (own_rows s a r) ≡ accepted tt → (add_meaning answer ≡ accepted tt) ↔ (common_taken s.entries < 2048)
  common-decides h is_Known more passes = along (answer-add promise) (Held.common-decides s a r h is_Known more passes)

  pub never_thirteen : held_by a s.entries < 32 → add_meaning answer ≡ refused 13 → ⊥
  never_thirteen less e = HeldAbove.never-13 s a r less (sym (answer-add promise) ∙ e)

  pub address_twelve : IsPanel s → bad_address a ≡ true → add_meaning answer ≡ refused 12
  unfolding add_rows panel_rows
  address_twelve h bad = answer-add promise ∙ Held.twelve_first (room_of s.places) s a (own_rows s a r ++ (13 if crowded a s.entries ∷ [])) h.long h.good (Held.outside-unknown s a h.good bad)

  pub stranger_fourteen : (i : ℕ) → too_short panel_room (room_of s.places) ≡ false → i < total_held s.entries → unknown (get_or s.places.addresses i 0) s.entries ≡ true → add_meaning answer ≡ refused 14
  unfolding add_rows panel_rows
  stranger_fourteen i long l stranger = answer-add promise ∙ Held.fourteen_first (room_of s.places) s a (own_rows s a r ++ (13 if crowded a s.entries ∷ [])) long (stranger_not s i long l stranger)

  pub refused_same : {n : ℕ} → add_meaning answer ≡ refused n → t ≡ s
  refused_same e = refused-leaves promise e

  pub accepted_panel : add_meaning answer ≡ accepted tt → IsPanel t
  accepted_panel e = subst IsPanel (sym (add-leaves promise e)) (stays-panel s a r (sym (answer-add promise) ∙ e))

  pub accepted_adds : add_meaning answer ≡ accepted tt
      → (total_held s.entries < 4096) × (t.entries ≡ entries_after a s.entries) × (t.places.addresses ≡ set s.places.addresses (total_held s.entries) a) × (t.places.times ≡ set s.places.times (total_held s.entries) r.time)
      × (t.places.lows ≡ set s.places.lows (total_held s.entries) r.low) × (t.places.highs ≡ set s.places.highs (total_held s.entries) r.high)
  unfolding added put_at
  accepted_adds e =
      let is = add-leaves promise e in
      let one = ap (λ u. total_held u.entries) is ∙ held-added s a r (sym (answer-add promise) ∙ e) in
      let most = Held.all_held (accepted_panel e) in
      (omega (arith, one, most), ap (λ u. u.entries) is, ap (λ u. u.places.addresses) is, ap (λ u. u.places.times) is, ap (λ u. u.places.lows) is, ap (λ u. u.places.highs) is)

  pub accepted_counts : add_meaning answer ≡ accepted tt → (held_by a t.entries ≡ held_by a s.entries + 1) × ((b : ℕ) → eqb a b ≡ false → held_by b t.entries ≡ held_by b s.entries)
  accepted_counts e = subst (λ u. (held_by a u.entries ≡ held_by a s.entries + 1) × ((b : ℕ) → eqb a b ≡ false → held_by b u.entries ≡ held_by b s.entries)) (sym (add-leaves promise e)) (counts-added s a r (sym (answer-add promise) ∙ e))

-- ---- one call of Head ranges

module _ {s : Panel} {a : ℕ} {old new : Lists} {answer : Result ℕ Refusal} (promise : HeadRangesPromise s a old new answer) where
  pub ranges_address_twelve : IsPanel s → too_short panel_room (lengths_of old) ≡ false → bad_address a ≡ true → head_ranges_meaning answer ≡ refused 12
  unfolding panel_rows
  ranges_address_twelve h long bad = Given.ranges-refused promise (Held.twelve_first (room_of s.places ++ lengths_of old) s a [] (long-join panel_room (room_of s.places) (lengths_of old) h.long long) h.good (Held.outside-unknown s a h.good bad))

  pub ranges_stranger_fourteen : (i : ℕ) → too_short panel_room (room_of s.places ++ lengths_of old) ≡ false → i < total_held s.entries → unknown (get_or s.places.addresses i 0) s.entries ≡ true → head_ranges_meaning answer ≡ refused 14
  unfolding panel_rows
  ranges_stranger_fourteen i long l stranger = Given.ranges-refused promise (Held.fourteen_first (room_of s.places ++ lengths_of old) s a [] long (stranger_not s i (long-split panel_room (room_of s.places) (lengths_of old) long).0 l stranger))

  pub ranges_refused_same : {n : ℕ} → head_ranges_meaning answer ≡ refused n → new ≡ old
  ranges_refused_same e = Given.refused-lists promise e

  pub ranges_past : {n : ℕ} → head_ranges_meaning answer ≡ accepted n → (drop n new.times ≡ drop n old.times) × (drop n new.lows ≡ drop n old.lows) × (drop n new.highs ≡ drop n old.highs)
  ranges_past e = Given.lists_past promise e

-- ---- above 32 the others decide

-- two courses from one panel in which a head had the same 32 ranges accepted, and a range of this head that is accepted after the one and refused after the other
pub record OthersDecide : Type 0 where
  pub start : Panel
  pub starts : Starts start
  pub a : ℕ
  pub r : Range
  pub xs : List Taken
  pub s : Panel
  pub course : Course start xs s
  pub xs' : List Taken
  pub s' : Panel
  pub course' : Course start xs' s'
  pub same : head_ranges a xs ≡ head_ranges a xs'
  pub are-32 : length (head_ranges a xs) ≡ 32
  pub accepts : {t : Panel} {answer : Result Unit Refusal} → AddPromise s a r answer t → add_meaning answer ≡ accepted tt
  pub refuses : {t : Panel} {answer : Result Unit Refusal} → AddPromise s' a r answer t → add_meaning answer ≡ refused 13

decided : Reached (Course two_heads) 32 2079 → Reached (Course two_heads) 32 2080 → OthersDecide
decided h h' =
    record {
      start = two_heads;
      starts = two-start;
      a = 1;
      r = turn 32;
      xs = h.xs;
      s = h.s;
      course = h.reached_by;
      xs' = h'.xs;
      s' = h'.s;
      course' = h'.reached_by;
      same = same_ones h h';
      are-32 = ones_length h;
      accepts = λ promise. answer-add promise ∙ still_room h;
      refuses = λ promise. answer-add promise ∙ no_room h';
    }

pub others-decide : OthersDecide
others-decide = let there = reached (Course two_heads) begun then-accepted in decided (there 2079 (omega arith)) (there 2080 (omega arith))

-- ---- a head joins

module _ {s : Panel} (a : ℕ) (h : IsPanel s) (few : length s.entries < 64) (inside : bad_address a ≡ false) (new_head : unknown a s.entries ≡ true) where
  pub head_joins : IsPanel (joined a s) × (on_panel (joined a s) ≡ on_panel s) × ((b : ℕ) → held_by b (joined a s).entries ≡ held_by b s.entries)
  head_joins = (joined-panel a h few inside new_head, joined-on a s, λ b. joined-held b a s)

  pub joined_same : {b : ℕ} {old new new' : Lists} {answer answer' : Result ℕ Refusal} → eqb a b ≡ false → HeadRangesPromise s b old new answer → HeadRangesPromise (joined a s) b old new' answer' → (head_ranges_meaning answer' ≡ head_ranges_meaning answer) × (new' ≡ new)
  joined_same {b} {old} other promise promise' = Given.same-given (joined_ranges b a h (joined-panel a h few inside new_head) other (lengths_of old)) promise promise'

pub course-joins : {start : Panel} {xs : List Taken} {s : Panel} (a : ℕ) → Course start xs s → Starts start → length start.entries < 64 → bad_address a ≡ false → unknown a start.entries ≡ true → Starts (joined a start) × Course (joined a start) xs (joined a s)
course-joins a course starts few inside new_head = let h = joined-starts a starts few inside new_head in (h, joined-course a (starts-panel h) new_head course)
