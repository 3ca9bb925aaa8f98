-- What the report promises: the answer, and the contents of the lent text, for every file and every text.
--
--     report_meaning          what each case of the answer stands for
--     ReportPromise          the answer is the number of the report's bytes, or 8; the text holds the report and past it its old contents, and its old contents whole
--                            where it is too short
--
-- Assumes nothing.
use Rattle.definitions.specs.declared.refusals.Refusal.{Refusal}
use Rattle.std.specs.Prelude.{ℕ, ◌≡◌, List, [], ◌∷◌, length, Result}
use Rattle.definitions.specs.Refusals.{answered}
use Rattle.definitions.specs.Answers.{Answer, accepted, ◌>>=◌, filled}
use Rattle.definitions.specs.Report.{report_call}

unfoldable pub report_meaning : Result ℕ Refusal → Answer ℕ
report_meaning = answered

pub record ReportPromise (file text₀ text : List ℕ) (r : Result ℕ Refusal) : Type 0 where
  pub answer_is : report_meaning r ≡ (report_call (length text₀ ∷ []) file >>= λ bytes. accepted (length bytes))
  pub text_is : text ≡ filled (report_call (length text₀ ∷ []) file) (λ bytes. bytes) text₀
