-- What reading the input gives.
--
--     got_by kind error   what a read says that failed with this error, of this kind: it was interrupted where the kind is that of an interrupted call,
--                         and else it failed, with this error
--     got_of answer       what a read says that gave this answer: an error as got_by has it; else no byte is the end of the input, and nothing else is
--     InputIn n input     the whole input lies in a buffer of n
--
-- Assumes nothing.
use Rattle.std.specs.Prelude.{ℕ, ◌≤◌, if◌then◌else◌, ◌==◌, Result, Ok, Err, IfOk}
use Rattle.std.specs.IoError.{error_kind}
use Rattle.std.specs.declared.io.Error.{Error}
use Rattle.std.specs.declared.io.ErrorKind.{ErrorKind}
use Rattle.std.specs.declared.io.ErrorKind.TheVariants as KindCase
use Rattle.report.specs.declared.input.Got.{Got}
use Rattle.report.specs.declared.input.Got.TheVariants as GotCase

abbrev pub got_by : ErrorKind → Error → Result Got Error
got_by KindCase.Interrupted error = Ok GotCase.Interrupted
got_by _ error = Err error

abbrev pub got_of : Result ℕ Error → Result Got Error
got_of (Ok bytes) = Ok (if bytes == 0 then GotCase.End else GotCase.Bytes bytes)
got_of (Err error) = got_by (error_kind error) error

abbrev pub InputIn : ℕ → Result ℕ Error → Type 0
InputIn n input = IfOk input (λ size. size ≤ n)
