-- Proof of `latest::backward::latest_start`: a fit that goes forward over the trace read backward. Assumes nothing.
use mathlib.Core.Path.{sym, subst}
use Prim.Native.Nat.{◌≤◌}
use native.Mathlib.Nat.{le_refl}
use native.Mathlib.Omega.{arith}
use lib.ListN.{length}
use lib.Seq.{length-take-le}
use borrow.Author.Rules.{rules}
use Rattle.trial_laws.specs.RangeLists.{first_entries}
use Rattle.latest.specs.ReadBackward.{backward-accepted}
use Rattle.latest.specs.LatestStarts.{start_found}
use Rattle.latest.proofs.backward.latest_start.Goals as goal

pub run_from-back-requires : goal.run_from-back-requires
unfolding first_entries
run_from-back-requires c =
    let P = c.requires in
    let n = length c.args.times.now in
    (backward-accepted P.0 c.read_backward.ensures, P.1, subst (λ m. n ≤ m) (sym (length-take-le n c.read_backward.new.back_times (search rules))) (le_refl n), omega arith, omega arith)

pub returns : goal.returns
unfolding first_entries
returns c = start_found c.requires.0 c.read_backward.ensures c.run_from-back.ensures
