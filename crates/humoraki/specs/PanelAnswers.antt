-- What the library leaves of a panel is what the calls below leave with the answers that its numbers stand for, so panel's PanelTheorems are about it too.
--
--     add-below                           of Add, with the answer that its number stands for
--     head_ranges-below                    of Head ranges, with the answer that its number and its count stand for
--     Calls start xs s                    any calls of these two from the panel `start` to the panel s, each on the panel as the last one left it; xs are the ranges of the calls of Add that gave 0, in order
--     course-below                        they are a course of the calls below
--     library_adds_up                     so where nothing was held at the start, as many places are held as calls of Add gave 0
--
-- Assumes nothing.
use Rattle.definitions.specs.PanelCalls.{head_ranges_call}
use Rattle.trial_laws.specs.RefusalNumbers.{answer_with}
use Rattle.humoraki.specs.TabledNumbers.{result-means, few_numbers, head_ranges-tabled}
use Rattle.std.specs.Prelude.{ℕ, zero, suc, ◌<◌, ◌≤◌, ◌≡◌, refl, List, [], ◌∷◌, ◌++◌, length}
use Rattle.std.proofs.Common.{ap, sym, ◌∙◌, subst, append-nil, arith}
use Rattle.definitions.specs.Ranges.{Range}
use Rattle.definitions.specs.Panels.{Panel, Taken, total_held, head_ranges, on_panel}
use Rattle.panel.specs.Promises.{AddPromise, HeadRangesPromise}
use Rattle.panel.specs.Admissions.{answer_of}
use Rattle.panel.specs.AdmissionLaws.{meaning-of}
use Rattle.panel.specs.Courses.{Course, begun, then_add, then_ranges, accepted_by}
use Rattle.panel_laws.specs.AddLaws.{AllEmpty}
use Rattle.panel.proofs.PanelTheorems.{places_add_up}
use Rattle.humoraki.specs.Promises.{AfterAdd, HeadRangesLent, head_ranges_answer, AfterHeadRanges}
use Rattle.humoraki.specs.Zero as Zero

pub add-below : {old : Panel} {a : ℕ} {r : Range} {new : Panel} {number : ℕ} → AfterAdd old a r new number → AddPromise old a r (answer_of number) new
add-below {old} {a} {r} {number = number} after = record { answer_is = meaning-of old a r number after.number_is; panel_is = after.panel_is }

pub head_ranges-below : {s : Panel} {a : ℕ} {old new : HeadRangesLent} {number : ℕ} → AfterHeadRanges s a old new number → HeadRangesPromise s a old.lists new.lists (answer_with new.count number)
unfolding head_ranges_call
head_ranges-below {s} {a} {old} {new} {number} after =
    let few : number ≤ 14 = subst (λ n. n ≤ 14) (sym after.counted.number_is) (few_numbers _ (head_ranges a (on_panel s)) (head_ranges-tabled _ s a)) in
    record { answer_is = result-means number new.count few ∙ Zero.counted-mean (head_ranges_answer s a old) length old.count new.count number after.counted (Zero.head_ranges-zero after).0; times_are = after.times_are; lows_are = after.lows_are; highs_are = after.highs_are }

-- ---- calls one after the other

pub data Calls (start : Panel) : List Taken → Panel → Type 0 where
  no_calls : Calls start [] start
  added_range : {xs : List Taken} {s t : Panel} (a : ℕ) (r : Range) → Calls start xs s → AfterAdd s a r t 0 → Calls start (xs ++ (record { address = a; range = r } ∷ [])) t
  refused_range : {xs : List Taken} {s t : Panel} (a : ℕ) (r : Range) (number : ℕ) → 0 < number → Calls start xs s → AfterAdd s a r t number → Calls start xs t
  listed_ranges : {xs : List Taken} {s : Panel} (a : ℕ) (old new : HeadRangesLent) (number : ℕ) → Calls start xs s → AfterHeadRanges s a old new number → Calls start xs s

above-none : (number : ℕ) (a : ℕ) (r : Range) → 0 < number → accepted_by (answer_of number) a r ≡ []
unfolding accepted_by answer_with
above-none zero a r above = absurd (omega arith)
above-none (suc n) a r above = refl

pub course-below : {start : Panel} {xs : List Taken} {s : Panel} → Calls start xs s → Course start xs s
unfolding accepted_by answer_with
course-below no_calls = begun
course-below (added_range a r calls after) = then_add a r (answer_of 0) (course-below calls) (add-below after)
course-below {start} (refused_range {xs = xs} {t = t} a r number above calls after) =
    subst (λ ys. Course start ys t) (ap (λ (ys : List Taken). xs ++ ys) (above-none number a r above) ∙ append-nil xs) (then_add a r (answer_of number) (course-below calls) (add-below after))
course-below (listed_ranges a old new number calls after) = then_ranges a old.lists new.lists (answer_with new.count number) (course-below calls) (head_ranges-below after)

pub library_adds_up : {start : Panel} {xs : List Taken} {s : Panel} → Calls start xs s → AllEmpty start.entries → total_held s.entries ≡ length xs
library_adds_up calls empty = places_add_up (course-below calls) empty
