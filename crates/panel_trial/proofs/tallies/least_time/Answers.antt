-- Proof of `panel_trial::tallies::least_time`. The loop's invariant: the least time after all is that after the first k, as none of the later ones has the address. Assumes nothing.
use Prim.Native.Nat.{ℕ, suc, ◌+◌, ◌-◌, ◌<◌, ◌≤◌}
use native.Mathlib.Omega.{arith}
use mathlib.Core.Path.{◌≡◌, sym, ap, ◌∙◌}
use mathlib.Core.List.{List}
use lib.Dec.{eqb}
use lib.ListN.{length, get_or, take}
use borrow.Author.Tests.{eq-eqb, ne_eqb}
use Rattle.definitions.specs.Panels.{either}
use Rattle.panel_laws.specs.Tallies.{least_from, least-take}
use Rattle.panel_trial.proofs.tallies.least_time.Goals.{At-loop-k, In-loop-k}
use Rattle.panel_trial.proofs.tallies.least_time.Goals as goal

-- the k-th last, of k that are left

last_of : (a k : ℕ) (bs ts : List ℕ) → 0 < k → k ≤ length bs → length ts ≡ length bs → least_from a 0 (take k bs) (take k ts) ≡ either (eqb (get_or bs (k - 1) 0) a) (get_or ts (k - 1) 0 + 1) (least_from a 0 (take (k - 1) bs) (take (k - 1) ts))
last_of a k bs ts some l same =
    let next : suc (k - 1) ≡ k = omega (arith, some) in
    ap (λ i. least_from a 0 (take i bs) (take i ts)) (sym next) ∙ least-take a 0 (k - 1) bs ts (omega (arith, some, l)) same

-- it has the address, or not

module _ (a k : ℕ) (bs ts : List ℕ) (some : 0 < k) (l : k ≤ length bs) (same : length ts ≡ length bs) where
  own-last : get_or bs (k - 1) 0 ≡ a → least_from a 0 (take k bs) (take k ts) ≡ get_or ts (k - 1) 0 + 1
  unfolding either
  own-last e = last_of a k bs ts some l same ∙ ap (λ b. either b (get_or ts (k - 1) 0 + 1) (least_from a 0 (take (k - 1) bs) (take (k - 1) ts))) (eq-eqb (get_or bs (k - 1) 0) a e)

  other_last : (get_or bs (k - 1) 0 ≡ a → ⊥) → least_from a 0 (take k bs) (take k ts) ≡ least_from a 0 (take (k - 1) bs) (take (k - 1) ts)
  unfolding either
  other_last e = last_of a k bs ts some l same ∙ ap (λ b. either b (get_or ts (k - 1) 0 + 1) (least_from a 0 (take (k - 1) bs) (take (k - 1) ts))) (ne_eqb (get_or bs (k - 1) 0) a e)

pub returns-then-addresses-k : goal.returns-then-addresses-k
returns-then-addresses-k c =
    let args = c.args in
    let l = c.loop-k.auto.k in
    ap (λ n. n + 1) c.from.ensures ∙ sym (c.loop-k.invariant ∙ own-last args.address c.loop-k.k args.addresses.now args.times.now c.loop-k-test.true l c.requires c.if-addresses-k.true)

pub loop-k-preserved : goal.loop-k-preserved
loop-k-preserved c =
    let args = c.args in
    c.loop-k.invariant ∙ other_last args.address c.loop-k.k args.addresses.now args.times.now c.loop-k-test.true c.loop-k.auto.k c.requires c.if-addresses-k.false

pub returns : goal.returns
unfolding least_from
returns c =
    let args = c.args in
    let none : c.loop-k.k ≡ 0 = let l = c.loop-k-test.false in omega (arith, l) in
    sym (c.loop-k.invariant ∙ ap (λ i. least_from args.address 0 (take i args.addresses.now) (take i args.times.now)) none)
