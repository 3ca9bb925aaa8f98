-- From what Segment promises to the lines of the report.
--
--     lines_given            the rows in the slices, told one after the other, are the lines of the segments
--     few_given              there are at most as many rows as a slice has room for
--     text_accepted, text-refused   the report of lists, where Segment accepted them and where it did not
--
-- Assumes nothing.
use Rattle.definitions.specs.Refusals.{refusal_number}
use Rattle.definitions.specs.declared.refusals.Refusal.{Refusal}
use Prim.Native.Nat.{ℕ, zero, suc, ◌+◌, ◌≤◌}
use Rattle.std.specs.Prelude.{◌≡◌, List, [], ◌∷◌, ◌++◌, take, replicate, Err, Ok}
use Rattle.std.proofs.Math.Path.{refl, sym, ap, ap₂}
use Rattle.std.proofs.Common.{◌∙◌, append-nil, append_assoc, arith, take-suc, take_all}
use Rattle.std.proofs.Math.ListN.{length, get_or, length-map}
use Rattle.std.proofs.Math.Seq.{length-take-le}
use Rattle.definitions.specs.Services.{Service}
use Rattle.definitions.specs.Spans.{segment_room}
use Rattle.definitions.specs.Ranges.{Range, Lists, ranges_of}
use Rattle.definitions.specs.Segments.{segments}
use Rattle.definitions.specs.Results.{Segment, segment_of, segments_of, row_length}
use Rattle.definitions.specs.Calls.{segment_call}
use Rattle.definitions.specs.Report.{refused_line, trace_line, segment_line, segment_lines}
use Rattle.trial_laws.specs.CallLaws.{bind-refused}
use Rattle.trial_laws.specs.RangeLists.{ranges_length}
use Rattle.lines.specs.Theorems.{segments_room}
use Rattle.values.specs.Rows.{segment_from}
use Rattle.values.specs.RowLaws.{rows_back}
use Rattle.drift.specs.Columns.{Columns, row_at, lengths}
use Rattle.drift.specs.SegmentPromise.{segment_meaning, SegmentPromise}
use Rattle.drift.specs.GivenColumns.{taken_good, called, taken, taken_few, ordered, count-is, row-at}
use Rattle.report_text.specs.Lines.{lines_from, answer_text, lists_text}

-- ---- lists

lines_snoc : (place : ℕ) (ss : List Segment) (s : Segment) → segment_lines place (ss ++ (s ∷ [])) ≡ segment_lines place ss ++ segment_line (place + length ss) s
unfolding segment_lines
lines_snoc place [] s = ap (λ k. segment_line k s ++ []) (sym (omega arith)) ∙ append-nil (segment_line (place + 0) s)
lines_snoc place (t ∷ ss) s =
    ap (λ l. segment_line place t ++ l) (lines_snoc (suc place) ss s)
    ∙ sym (append_assoc (segment_line place t) (segment_lines (suc place) ss) (segment_line (suc place + length ss) s))
    ∙ ap (λ k. segment_line place t ++ segment_lines (suc place) ss ++ segment_line k s) (omega arith)

-- ---- where Segment accepted

module _ {v : Service} {ls : Lists} {old new : Columns} {n : ℕ} (promise : SegmentPromise v ls old new (Ok n)) where
  abbrev rs : List Range
  rs = ranges_of ls

  abbrev ss : List Segment
  ss = segments_of v rs

  pub few_given : n ≤ segment_room
  unfolding segments_of
  few_given =
      let lists = taken promise in
      omega (arith, count-is promise, length-map (segments rs) (segment_of v), segments_room rs (ordered promise) (omega (arith, taken_few promise, ranges_length ls lists.same)))

  lines_so_far : (k : ℕ) → k ≤ n → lines_from new k ≡ segment_lines 1 (take k ss)
  unfolding lines_from segment_lines
  lines_so_far zero h = refl
  lines_so_far (suc k) h =
      let s = get_or ss k (segment_of v []) in
      let line : segment_from (row_at new k) ≡ s = ap segment_from (row-at promise k (omega arith)) ∙ rows_back v (taken_good promise) rs (ordered promise) k in
      let long : 1 + length (take k ss) ≡ suc k = omega (arith, length-take-le k ss (omega (arith, count-is promise, h))) in
      ap₂ (λ front t. front ++ segment_line (suc k) t) (lines_so_far k (omega arith)) line
      ∙ ap (λ m. segment_lines 1 (take k ss) ++ segment_line m s) (sym long)
      ∙ sym (lines_snoc 1 (take k ss) s)
      ∙ ap (segment_lines 1) (sym (take-suc ss k (segment_of v []) (omega (arith, count-is promise))))

  pub lines_given : lines_from new n ≡ segment_lines 1 ss
  lines_given = lines_so_far n (omega arith) ∙ ap (segment_lines 1) (take_all n ss (omega (arith, count-is promise)))

  pub text_accepted : (address : ℕ) → lengths old ≡ replicate row_length segment_room → lists_text address v ls ≡ trace_line address v.level (length ls.times) n ++ lines_from new n
  unfolding lists_text answer_text
  text_accepted address room =
      ap (λ r. answer_text address v.level (length ls.times) (segment_call r v ls)) (sym room)
      ∙ ap (answer_text address v.level (length ls.times)) (called promise)
      ∙ ap₂ (λ m l. trace_line address v.level (length ls.times) m ++ l) (sym (count-is promise)) (sym lines_given)

pub text-refused : {v : Service} {ls : Lists} {old new : Columns} {e : Refusal} → SegmentPromise v ls old new (Err e) → (address : ℕ) → lengths old ≡ replicate row_length segment_room
    → lists_text address v ls ≡ refused_line (refusal_number e)
unfolding lists_text answer_text segment_meaning
text-refused {v} {ls} {old} {new} {e} promise address room =
    let refuses = bind-refused (segment_call (lengths old) v ls) length (refusal_number e) (sym promise.answer_is) in
    ap (λ r. answer_text address v.level (length ls.times) (segment_call r v ls)) (sym room) ∙ ap (answer_text address v.level (length ls.times)) refuses
