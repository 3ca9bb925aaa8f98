-- The level is written out, as else the list of zeros is unfolded to compare two lengths. Assumes nothing.
use Rattle.std.proofs.Common.{ℕ}
use Rattle.std.proofs.lemmas.List.{length-replicate}
use Rattle.report.proofs.empty_text.Goals as goal

pub returns : goal.returns
returns c = length-replicate {0} {A = ℕ} 524544 0
