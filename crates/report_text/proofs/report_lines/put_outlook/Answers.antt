-- `report_text::report_lines::put_outlook` meets its contract: open, or two lines and two times, one after the other. Assumes nothing.
use mathlib.Core.Path.{◌≡◌, sym, ap, subst}
use Rattle.std.proofs.Common.{ℕ, Option}
use mathlib.Core.List.{◌++◌}
use native.Mathlib.Omega.{arith}
use Rattle.definitions.specs.Report.{ascii, labelled, time_text, line_text, outlook_text}
use Rattle.text.specs.Put.{Put}
use Rattle.text.specs.PutLaws.{put_then}
use Rattle.values.specs.Meanings.{line_of, time_of, outlook_of}
use Rattle.report_text.specs.Lines.{line_bytes}
use Rattle.values.specs.declared.Line.{Line}
use Rattle.values.specs.declared.Outlook.{Outlook}
use Rattle.values.specs.declared.Outlook.TheVariants.{Open, Lines}
use Rattle.report_text.proofs.report_lines.put_outlook.Goals as goal

open_is : (o : Outlook) → o ≡ Open → outlook_text (outlook_of o) ≡ ascii " open"
unfolding outlook_text outlook_of
open_is o is = ap (λ o. outlook_text (outlook_of o)) is

lines_are : (o : Outlook) (slow fast : Line) (some every : Option ℕ) → o ≡ Lines slow fast some every
    → outlook_text (outlook_of o) ≡ line_bytes (ascii " slow ") (line_of slow) ++ line_bytes (ascii " fast ") (line_of fast) ++ labelled " some " (time_text (time_of some)) ++ labelled " all " (time_text (time_of every))
unfolding outlook_text outlook_of line_text line_bytes
lines_are o slow fast some every is = ap (λ o. outlook_text (outlook_of o)) is

pub returns-in-Open : goal.returns-in-Open
returns-in-Open c =
    let a = c.args in
    let done = subst (λ bs. Put a.at bs a.text.now c.put_word.result c.put_word.new.text) (sym (open_is a.outlook c.in-Open.is)) c.put_word.ensures in
    (done, omega (arith, c.put_word.ensures.next_is))

pub returns-in-Lines : goal.returns-in-Lines
returns-in-Lines c =
    let a = c.args in
    let o = c.in-Lines in
    let put = put_then (put_then (put_then c.put_line-next.ensures.0 c.put_line-next-in-Lines.ensures.0) c.put_time-next.ensures.0) c.put_time.ensures.0 in
    let done = subst (λ bs. Put a.at bs a.text.now c.put_time.result c.put_time.new.text) (sym (lines_are a.outlook o.slow o.fast o.some o.all o.is)) put in
    (done, omega (arith, c.put_line-next.ensures.1, c.put_line-next-in-Lines.ensures.1, c.put_time-next.ensures.1, c.put_time.ensures.1))
