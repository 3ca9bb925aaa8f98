-- `report_text::report_lines::put_time` meets its contract: after the word, none or the number. Assumes nothing.
use Prim.Native.Nat.{ℕ, ◌+◌, ◌≤◌}
use mathlib.Core.Path.{◌≡◌, sym, ap, subst, ◌∙◌}
use mathlib.Core.List.{List, ◌++◌}
use native.Mathlib.Omega.{arith}
use borrow.Author.Rules.{rules}
use lib.ListN.{length}
use Rattle.definitions.specs.Report.{ascii, decimal, time_text}
use Rattle.text.specs.Put.{Put}
use Rattle.text.specs.PutLaws.{put_length, put_then}
use Rattle.values.specs.Meanings.{time_of}
use Rattle.report_text.specs.Short.{short32}
use Rattle.report_text.proofs.report_lines.put_time.Goals.{After-from, After-put, After-put_word, After-put_word-next, In-Some, In-None, Start}
use Rattle.report_text.proofs.report_lines.put_time.Goals as goal

abbrev told : Start → List ℕ
told s = time_text (time_of s.args.time)

none_is : (c : In-None) → told (goal.at.In-None c).Start ≡ ascii "none"
unfolding time_text time_of
none_is c = ap (λ t. time_text (time_of t)) c.in-None.is

some_is : (c : In-Some) → told (goal.at.In-Some c).Start ≡ decimal c.in-Some.t
unfolding time_text time_of
some_is c = ap (λ t. time_text (time_of t)) c.in-Some.is

some-short : (c : After-from) → length (decimal c.from.result) ≤ 10
some-short c = short32 _ (rw c.from.ensures (search rules))

-- after the word there is room for 10 bytes
room : (c : After-put_word-next) → c.put_word-next.result + 10 ≤ length c.put_word-next.new.text
room c = let word = c.put_word-next.ensures in omega (arith, c.requires.0, c.requires.1, word.next_is, put_length word)

never : (c : After-put_word) → let s = (goal.at.After-put_word c).Start in Put c.args.at (c.args.word.now ++ told s) c.args.text.now c.put_word.result c.put_word.new.text
never c =
    let s = (goal.at.After-put_word c).Start in
    subst (λ bs. Put c.args.at (c.args.word.now ++ bs) c.args.text.now c.put_word.result c.put_word.new.text) (sym (none_is (goal.at.After-put_word c).In-None)) (put_then c.put_word-next.ensures c.put_word.ensures)

number : (c : After-put) → let s = (goal.at.After-put c).Start in Put c.args.at (c.args.word.now ++ told s) c.args.text.now c.put.result c.put.new.text
number c =
    let s = (goal.at.After-put c).Start in
    subst (λ bs. Put c.args.at (c.args.word.now ++ bs) c.args.text.now c.put.result c.put.new.text) (sym (some_is (goal.at.After-put c).In-Some ∙ ap decimal (sym c.from.ensures))) (put_then c.put_word-next.ensures c.put.ensures)

pub put-requires : goal.put-requires
put-requires c = omega (arith, room (goal.at.put-requires c).After-put_word-next, some-short (goal.at.put-requires c).After-from)

pub returns-in-None : goal.returns-in-None
returns-in-None c = let done = never (goal.at.returns-in-None c).After-put_word in (done, omega (arith, c.requires.0, c.put_word-next.ensures.next_is, c.put_word.ensures.next_is))

pub returns-in-Some : goal.returns-in-Some
returns-in-Some c = let done = number (goal.at.returns-in-Some c).After-put in (done, omega (arith, c.requires.0, c.put_word-next.ensures.next_is, c.put.ensures.next_is, some-short (goal.at.returns-in-Some c).After-from))
