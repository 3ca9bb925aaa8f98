-- Proof of `panel_trial::tallies::tally`. The loop's invariant: the tally of all addresses is that of the addresses that are left, added to what is counted; and no count is above the number of turns, so that none wraps. Assumes nothing.
use Prim.Native.Nat.{ℕ, ◌+◌, ◌<◌}
use native.Mathlib.Numerals.{add-one}
use native.Mathlib.Omega.{arith}
use mathlib.Core.Path.{◌≡◌, sym, ap, ap₂, ◌∙◌}
use mathlib.Core.List.{List}
use lib.ListN.{length, length-set, get_or, drop, drop_of_length-le}
use Rattle.panel_laws.specs.Tallies.{incremented, tallied, tallied-from, incremented-bound}
use Rattle.panel_trial.proofs.tallies.tally.Goals.{At-loop-address}
use Rattle.panel_trial.proofs.tallies.tally.Goals as goal

same_counts : (cs : List ℕ) (x : ℕ) → length (incremented cs x) ≡ length cs
unfolding incremented
same_counts cs x = length-set cs x (get_or cs x 0 + 1)

pub loop-address-preserved : goal.loop-address-preserved
loop-address-preserved c =
    let xs = c.args.addresses.now in
    let k = c.loop-address.address-index in
    let inv = c.loop-address.invariant in
    let x = get_or xs k 0 in
    let stored = c.count_in.ensures in
    let less : k < length xs = omega arith in (
      ap length stored ∙ same_counts c.loop-address.counts x ∙ inv.0,
      (
        (λ i. let b = inv.1.0 i in let n = incremented-bound c.loop-address.counts x i in let e = ap (λ cs. get_or cs i 0) stored in omega (arith, b, n, e)),
        inv.1.1 ∙ tallied-from c.loop-address.counts k xs less ∙ sym (ap₂ (λ cs i. tallied cs (drop i xs)) stored (add-one k)),
      ),
    )

pub returns : goal.returns
unfolding tallied
returns c =
    let args = c.args in
    sym (c.loop-address.invariant.1.1 ∙ ap (tallied c.loop-address.counts) (drop_of_length-le args.addresses.now {i = c.loop-address.address-index} c.loop-address-test.false))
