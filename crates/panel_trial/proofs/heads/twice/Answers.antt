-- Proof of `panel_trial::heads::twice`. The loop's invariant: none of the first k stands again later. Assumes nothing.
use Prim.Native.Nat.{ℕ, suc, ◌+◌, ◌-◌, ◌<◌}
use native.Mathlib.Numerals.{add-one}
use native.Mathlib.Omega.{arith}
use mathlib.Core.Path.{◌≡◌, sym, ap, ◌∙◌}
use mathlib.Core.Bool.{Bool, true, false, ◌||◌}
use mathlib.Core.List.{List}
use lib.ListN.{length, get_or, take, drop, length-drop, drop_of_length-le}
use lib.Seq.{take_all}
use Rattle.std.specs.Prelude.{Option, position}
use Rattle.std.specs.Option.{is_some}
use Rattle.integers.specs.Lists.{any}
use Rattle.definitions.specs.Panels.{is_at, twice}
use Rattle.definitions.specs.declared.entries.Entry.{Entry}
use Rattle.panel_laws.specs.Entries.{no_entry}
use Rattle.panel_trial.specs.Found.{found_at, position_found, is_found, twice_from}
use Rattle.panel_trial.proofs.heads.twice.Goals as goal

-- the later entries, as the code takes them

later-is : (k : ℕ) (es : List Entry) → take (length es - (k + 1)) (drop (k + 1) es) ≡ drop (suc k) es
later-is k es = let l = length-drop (k + 1) es in take_all (length es - (k + 1)) (drop (k + 1) es) (omega (arith, l)) ∙ ap (λ i. drop i es) (add-one k)

-- whether the k-th entry's address stands again

stands : (k : ℕ) (es : List Entry) (found : Option ℕ) (t : Bool) → k < length es → found ≡ position (is_at (get_or es k no_entry).address) (take (length es - (k + 1)) (drop (k + 1) es)) → is_some found ≡ t → twice (drop k es) ≡ t || twice (drop (suc k) es)
stands k es found t less is e =
    let a = (get_or es k no_entry).address in
    let here : any (is_at a) (drop (suc k) es) ≡ t = sym (is_found a (drop (suc k) es)) ∙ sym (ap (λ fs. is_some (found_at a fs)) (later-is k es)) ∙ sym (ap is_some (is ∙ position_found a (take (length es - (k + 1)) (drop (k + 1) es)))) ∙ e in
    twice_from k es less ∙ ap (λ (b : Bool). b || twice (drop (suc k) es)) here

pub returns-then-is_some : goal.returns-then-is_some
returns-then-is_some c = sym (c.loop-k.invariant ∙ stands c.loop-k.k c.args.entries.now c.head_place.result true c.loop-k-test.true c.head_place.ensures (sym c.is_some.ensures ∙ c.if-is_some.true))

pub loop-k-preserved : goal.loop-k-preserved
loop-k-preserved c = c.loop-k.invariant ∙ stands c.loop-k.k c.args.entries.now c.head_place.result false c.loop-k-test.true c.head_place.ensures (sym c.is_some.ensures ∙ c.if-is_some.false) ∙ ap (λ i. twice (drop i c.args.entries.now)) (sym (add-one c.loop-k.k))

pub returns : goal.returns
unfolding twice
returns c =
    sym (c.loop-k.invariant ∙ ap twice (drop_of_length-le c.args.entries.now {i = c.loop-k.k} c.loop-k-test.false))
