-- Proof of `panel_trial::tallies::tally`. The loop's invariant: the tally of all addresses is that of the addresses that are left, added to what is counted; and no count is above the number of turns, so that none wraps. Assumes nothing.
use Prim.Native.Nat.{ℕ, ◌≤◌}
use mathlib.Core.Path.{◌≡◌}
use lib.ListN.{length, get_or, drop}
use Rattle.panel_laws.specs.Tallies.{tallied}
use Rattle.panel_trial.proofs.tallies.tally.Given as goal

abbrev pub invariant-loop-address : goal.invariant-loop-address
invariant-loop-address l =
    (length l.counts ≡ length l.initial.counts) × (((i : ℕ) → get_or l.counts i 0 ≤ l.address-index) × (tallied l.initial.counts l.addresses ≡ tallied l.counts (drop l.address-index l.addresses)))
