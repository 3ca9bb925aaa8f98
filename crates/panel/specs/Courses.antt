-- Calls one after the other, as a caller makes them: each on the panel as the last one left it.
--
--     accepted_by                       the range of a call of Add where its answer is that it is accepted, else none
--     Course start xs s                calls from the panel `start` to the panel s in which the ranges xs were accepted, in this order
--     answer-add, answer-ranges        the answer of either call is that of its rows
--     add-leaves, refused-leaves         what Add leaves of the panel: with the range added where it is accepted, as it was where it is refused
--     then-accepted                    a range that its rows let in can be the next of a course
--     held_course, on_course           the places held are those of the start and one for each range accepted; on the panel stands what stood there, and then these
--     known_course, panel_course       the same addresses have an entry; what was a panel is one
--     proper_course                    a head's ranges stay proper
--     joined-course                    a head that joins the panel at the end of a course could have been on it from the start: the same ranges are accepted
--
-- Assumes nothing.
use Rattle.std.specs.Prelude.{ℕ, ◌+◌, ◌≡◌, refl, true, List, [], ◌∷◌, ◌++◌, length, Result, Ok, Err}
use Rattle.std.proofs.Common.{arith, sym, ap, ◌∙◌, append-nil, append_assoc, length-append}
use Rattle.std.proofs.Math.Path.{subst}
use Rattle.definitions.specs.Answers.{Answer, refused, accepted, ◌>>=◌, firstRow, given}
use Rattle.definitions.specs.Ranges.{Range, Lists}
use Rattle.definitions.specs.Panels.{Panel, Taken, total_held, on_panel, head_ranges, unknown}
use Rattle.definitions.specs.PanelCalls.{room_of, panel_rows, added, add_call, head_ranges_call}
use Rattle.trial_laws.specs.CallLaws.{then-then}
use Rattle.trial_laws.specs.Accepted.{ProperRanges}
use Rattle.panel_laws.specs.PanelRows.{try_add, accepts}
use Rattle.panel_laws.specs.AddLaws.{IsPanel, held-added, on-added, known-added, stays-panel}
use Rattle.panel_laws.specs.OwnRanges.{proper-added}
use Rattle.panel_laws.specs.JoiningHeads.{joined, joined-other}
use Rattle.panel_laws.proofs.JoiningHeads.{joined_try, joined-added}
use Rattle.definitions.specs.declared.refusals.Refusal.{Refusal}
use Rattle.panel.specs.Promises.{add_meaning, head_ranges_meaning, lengths_of, AddPromise, HeadRangesPromise}

unfoldable pub accepted_by : Result Unit Refusal → ℕ → Range → List Taken
accepted_by (Ok u) a r = record { address = a; range = r } ∷ []
accepted_by (Err e) a r = []

pub data Course (start : Panel) : List Taken → Panel → Type 0 where
  begun : Course start [] start
  then_add : {xs : List Taken} {s t : Panel} (a : ℕ) (r : Range) (answer : Result Unit Refusal) → Course start xs s → AddPromise s a r answer t → Course start (xs ++ accepted_by answer a r) t
  then_ranges : {xs : List Taken} {s : Panel} (a : ℕ) (old new : Lists) (answer : Result ℕ Refusal) → Course start xs s → HeadRangesPromise s a old new answer → Course start xs s

-- ---- one call

pub answer-add : {s t : Panel} {a : ℕ} {r : Range} {answer : Result Unit Refusal} → AddPromise s a r answer t → add_meaning answer ≡ try_add s a r
unfolding add_call ◌>>=◌
answer-add {s} {t} {a} {r} promise = promise.answer_is ∙ only (try_add s a r)
  where
    only : (x : Answer Unit) → (x >>= (λ ok. accepted (added s a r)) >>= λ u. accepted tt) ≡ x
    only (refused n) = refl
    only (accepted u) = refl

pub answer-ranges : {s : Panel} {a : ℕ} {old new : Lists} {answer : Result ℕ Refusal} → HeadRangesPromise s a old new answer → head_ranges_meaning answer ≡ (firstRow (panel_rows (room_of s.places ++ lengths_of old) s a) >>= λ ok. accepted (length (head_ranges a (on_panel s))))
unfolding head_ranges_call ◌>>=◌
answer-ranges {s} {a} {old} promise = promise.answer_is ∙ then-then (firstRow (panel_rows (room_of s.places ++ lengths_of old) s a)) (λ ok. accepted (head_ranges a (on_panel s))) (λ rs. accepted (length rs))

pub add-leaves : {s t : Panel} {a : ℕ} {r : Range} {answer : Result Unit Refusal} → AddPromise s a r answer t → add_meaning answer ≡ accepted tt → t ≡ added s a r
unfolding add_call ◌>>=◌ given
add-leaves {s} {t} {a} {r} promise e = promise.panel_is ∙ ap (λ (x : Answer Unit). given (x >>= λ ok. accepted (added s a r)) (λ (u : Panel). u) s) (sym (answer-add promise) ∙ e)

pub refused-leaves : {s t : Panel} {a : ℕ} {r : Range} {answer : Result Unit Refusal} {n : ℕ} → AddPromise s a r answer t → add_meaning answer ≡ refused n → t ≡ s
unfolding add_call ◌>>=◌ given
refused-leaves {s} {t} {a} {r} promise e = promise.panel_is ∙ ap (λ (x : Answer Unit). given (x >>= λ ok. accepted (added s a r)) (λ (u : Panel). u) s) (sym (answer-add promise) ∙ e)

-- ---- a course

-- a range that its rows let in can be the next of a course
pub then-accepted : {start : Panel} (xs : List Taken) (s : Panel) (a : ℕ) (r : Range) → try_add s a r ≡ accepted tt → Course start xs s → Course start (xs ++ (record { address = a; range = r } ∷ [])) (added s a r)
unfolding accepted_by add_call ◌>>=◌ given
then-accepted xs s a r e course = then_add a r (Ok tt) course (record { answer_is = sym (ap (λ (x : Answer Unit). x >>= (λ ok. accepted (added s a r)) >>= λ u. accepted tt) e); panel_is = sym (ap (λ (x : Answer Unit). given (x >>= λ ok. accepted (added s a r)) (λ (u : Panel). u) s) e) })

-- what holds at the start, and after a range is accepted where it held before, holds after any course
module _ (P : List Taken → Panel → Type 0) (adds : (xs : List Taken) (s : Panel) (a : ℕ) (r : Range) → try_add s a r ≡ accepted tt → P xs s → P (xs ++ (record { address = a; range = r } ∷ [])) (added s a r)) where
  by_answer : (xs : List Taken) {s t : Panel} (a : ℕ) (r : Range) (answer : Result Unit Refusal) → AddPromise s a r answer t → P xs s → P (xs ++ accepted_by answer a r) t
  unfolding accepted_by
  by_answer xs {s} a r (Ok u) promise h = subst (P (xs ++ (record { address = a; range = r } ∷ []))) (sym (add-leaves promise refl)) (adds xs s a r (sym (answer-add promise)) h)
  by_answer xs {s} {t} a r (Err e) promise h = subst (λ ys. P ys t) (sym (append-nil xs)) (subst (P xs) (sym (refused-leaves promise refl)) h)

  course_keeps : {start : Panel} {xs : List Taken} {s : Panel} → P [] start → Course start xs s → P xs s
  course_keeps h begun = h
  course_keeps h (then_add {xs = xs} a r answer course promise) = by_answer xs a r answer promise (course_keeps h course)
  course_keeps h (then_ranges a old new answer course promise) = course_keeps h course

module _ {start : Panel} where
  pub held_course : {xs : List Taken} {s : Panel} → Course start xs s → total_held s.entries ≡ total_held start.entries + length xs
  held_course course = course_keeps (λ ys u. total_held u.entries ≡ total_held start.entries + length ys) (λ ys u a r e h. let one = held-added u a r e in let longer = length-append ys (record { address = a; range = r } ∷ []) in omega (arith, h, one, longer)) (omega arith) course

  pub on_course : {xs : List Taken} {s : Panel} → Course start xs s → on_panel s ≡ on_panel start ++ xs
  on_course course =
      course_keeps (λ ys u. on_panel u ≡ on_panel start ++ ys) (λ ys u a r e h. on-added u a r e ∙ ap (λ (zs : List Taken). zs ++ (record { address = a; range = r } ∷ [])) h ∙ append_assoc (on_panel start) ys (record { address = a; range = r } ∷ [])) (sym (append-nil (on_panel start))) course

  pub known_course : (a : ℕ) {xs : List Taken} {s : Panel} → Course start xs s → unknown a s.entries ≡ unknown a start.entries
  known_course a course = course_keeps (λ ys u. unknown a u.entries ≡ unknown a start.entries) (λ ys u b r e h. known-added a u b r ∙ h) refl course

  pub panel_course : {xs : List Taken} {s : Panel} → IsPanel start → Course start xs s → IsPanel s
  panel_course h course = course_keeps (λ ys u. IsPanel u) (λ ys u a r e k. stays-panel u a r e) h course

  pub proper_course : (a : ℕ) {xs : List Taken} {s : Panel} → ProperRanges (head_ranges a (on_panel start)) → Course start xs s → ProperRanges (head_ranges a (on_panel s))
  proper_course a h course = course_keeps (λ ys u. ProperRanges (head_ranges a (on_panel u))) (λ ys u b r e k. proper-added a u b r e k) h course

-- ---- a head joins

record Joins (a : ℕ) (start : Panel) (xs : List Taken) (s : Panel) : Type 0 where
  course : Course (joined a start) xs (joined a s)
  is_panel : IsPanel (joined a s)
  new_head : unknown a s.entries ≡ true

-- a range that was accepted is accepted on the panel with one head more too, and leaves the panel that the head would join now
joins-next : (a : ℕ) {start : Panel} (xs : List Taken) (s : Panel) (b : ℕ) (r : Range) → try_add s b r ≡ accepted tt → Joins a start xs s → Joins a start (xs ++ (record { address = b; range = r } ∷ [])) (added s b r)
joins-next a {start} xs s b r e h =
    let now = accepts s b r e in
    let other = joined-other b a s.entries h.new_head now.is_known in
    let e' : try_add (joined a s) b r ≡ accepted tt = joined_try b a (record { long = now.long; good = now.good }) h.is_panel other r ∙ e in
    let same = joined-added b a s r other in
    record {
      course = subst (Course (joined a start) (xs ++ (record { address = b; range = r } ∷ []))) same (then-accepted xs (joined a s) b r e' h.course);
      is_panel = subst IsPanel same (stays-panel (joined a s) b r e');
      new_head = known-added a s b r ∙ h.new_head;
    }

pub joined-course : {start : Panel} {xs : List Taken} {s : Panel} (a : ℕ) → IsPanel (joined a start) → unknown a start.entries ≡ true → Course start xs s → Course (joined a start) xs (joined a s)
joined-course {start} a h new_head course = (course_keeps (Joins a start) (joins-next a) (record { course = begun; is_panel = h; new_head = new_head }) course).course
