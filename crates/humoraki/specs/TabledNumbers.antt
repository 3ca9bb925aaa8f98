-- Every number that the calls give is one of the table, and what a number and a count tell.
--
--     result-means            a number of the table and a count, as an answer of the code with a count
--     Tabled                  rows with numbers of the table alone; few_numbers: so is the number of a call with such rows
--     service-tabled, head_ranges-tabled   the rows of the calls
--
-- Assumes nothing.
use Rattle.std.specs.Prelude.{ℕ, zero, suc, ◌≤◌, ◌<◌, ◌≡◌, refl, true, false, List, [], ◌∷◌, ◌++◌}
use Rattle.std.proofs.Common.{arith}
use Rattle.definitions.specs.Answers.{accepted, ◌>>=◌, Row, ◌if◌, firstRow, refusal}
use Rattle.definitions.specs.Refusals.{answered}
use Rattle.definitions.specs.Services.{Service}
use Rattle.definitions.specs.Ranges.{Range, Lists, ranges_of}
use Rattle.definitions.specs.Times.{Time, none, at}
use Rattle.definitions.specs.Trial.{range_rows, ranges_rows, service_rows, list_rows}
use Rattle.definitions.specs.Panels.{Panel}
use Rattle.definitions.specs.PanelCalls.{panel_rows}
use Rattle.trial_laws.specs.Rows.{Only}
use Rattle.trial_laws.specs.RefusalNumbers.{InTable, answer_with, with_number}
use Rattle.humoraki.specs.Zero.{number_answer}

pub in-table : (n : ℕ) → 0 < n → n ≤ 14 → InTable n
in-table n above few = record { above_none = above; at_most = few }

pub result-means : (number count : ℕ) → number ≤ 14 → answered (answer_with count number) ≡ number_answer number count
unfolding answer_with number_answer
result-means zero count h = refl
result-means (suc n) count h = with_number count (suc n) (in-table (suc n) (omega arith) h)

-- ---- the numbers that calls give

abbrev pub Tabled : List Row → Type 0
Tabled rows = Only (λ n. n ≤ 14) rows

pub few_numbers : {A : Type 0} → (rows : List Row) (a : A) → Tabled rows → refusal (firstRow rows >>= λ ok. accepted a) ≤ 14
unfolding firstRow ◌>>=◌ refusal
few_numbers [] a h = omega arith
few_numbers ((n if true) ∷ rows) a h = h.0
few_numbers ((n if false) ∷ rows) a h = few_numbers rows a h.1

tabled-append : (rows more : List Row) → Tabled rows → Tabled more → Tabled (rows ++ more)
tabled-append [] more h k = k
tabled-append ((n if b) ∷ rows) more h k = (h.0, tabled-append rows more h.1 k)

range-tabled : (before : Time) (r : Range) → Tabled (range_rows before r)
unfolding range_rows
range-tabled before r = (omega arith, (omega arith, (omega arith, (omega arith, tt))))

ranges-tabled : (before : Time) (rs : List Range) → Tabled (ranges_rows before rs)
unfolding ranges_rows
ranges-tabled before [] = tt
ranges-tabled before (r ∷ rs) = tabled-append (range_rows before r) (ranges_rows (at r.time) rs) (range-tabled before r) (ranges-tabled (at r.time) rs)

pub service-tabled : (least : ℕ) (lengths : List ℕ) (v : Service) (ls : Lists) → Tabled (list_rows least lengths ls ++ service_rows v ++ ranges_rows none (ranges_of ls))
unfolding list_rows
service-tabled least lengths v ls = (omega arith, (omega arith, (omega arith, (omega arith, (omega arith, (omega arith, ranges-tabled none (ranges_of ls)))))))

pub head_ranges-tabled : (lengths : List ℕ) (s : Panel) (a : ℕ) → Tabled (panel_rows lengths s a)
unfolding panel_rows
head_ranges-tabled lengths s a = (omega arith, (omega arith, (omega arith, tt)))
