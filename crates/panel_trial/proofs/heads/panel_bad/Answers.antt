-- Proof of `panel_trial::heads::panel_bad`: the code tries what makes a panel bad in the order of `bad_panel`. Assumes nothing.
use Rattle.std.proofs.Common.{ℕ, ◌≡◌, ◌≤◌, List, length, take, sym, ap, ◌∙◌, arith, lt-ltb, le-ltb, length-take-le}
use Rattle.std.specs.Prelude.{false, ◌||◌, eqb, ltb}
use Rattle.integers.specs.Lists.{any}
use Rattle.definitions.specs.Panels.{bad_panel, common_taken, miscounted, outside_address, twice}
use Rattle.panel_laws.specs.PlainLists.{hit, pass}
use Rattle.panel_laws.specs.PanelRows.{total_at_most}
use Rattle.panel_trial.specs.Chains.{any_list}
use Rattle.panel_trial.proofs.heads.panel_bad.Goals.{After-total_of-total, Else-is_empty, Else-entries-gt-MOST_HEADS, Else-twice, Else-some_outside}
use Rattle.panel_trial.proofs.heads.panel_bad.Goals as goal

pub returns-then-is_empty : goal.returns-then-is_empty
unfolding bad_panel
returns-then-is_empty c = sym (hit (sym c.if-is_empty.ensures) _)

-- past the first test

some : (c : Else-is_empty) → eqb (length c.args.entries.now) 0 ≡ false
some c = sym c.if-is_empty.ensures

pub returns-then-entries-gt-MOST_HEADS : goal.returns-then-entries-gt-MOST_HEADS
unfolding bad_panel
returns-then-entries-gt-MOST_HEADS c = sym (pass (some (goal.at.returns-then-entries-gt-MOST_HEADS c).Else-is_empty) _ ∙ hit (lt-ltb 64 _ c.if-entries-gt-MOST_HEADS.true) _)

-- past the second

few : (c : Else-entries-gt-MOST_HEADS) (bs : List ℕ) → let es = c.args.entries.now in bad_panel es bs ≡ (twice es || (any outside_address es || (ltb 2048 (common_taken es) || any (miscounted bs) es)))
unfolding bad_panel
few c bs = pass (some (goal.at.Else-entries-gt-MOST_HEADS c).Else-is_empty) _ ∙ pass (le-ltb 64 _ c.if-entries-gt-MOST_HEADS.false) _

pub returns-then-twice : goal.returns-then-twice
returns-then-twice c = sym (few (goal.at.returns-then-twice c).Else-entries-gt-MOST_HEADS _ ∙ hit (sym c.if-twice.ensures) _)

-- past the third

once : (c : Else-twice) (bs : List ℕ) → let es = c.args.entries.now in bad_panel es bs ≡ (any outside_address es || (ltb 2048 (common_taken es) || any (miscounted bs) es))
once c bs = few (goal.at.Else-twice c).Else-entries-gt-MOST_HEADS bs ∙ pass (sym c.if-twice.ensures) _

pub returns-then-some_outside : goal.returns-then-some_outside
returns-then-some_outside c = sym (once (goal.at.returns-then-some_outside c).Else-twice _ ∙ hit (any_list outside_address c.args.entries.now ∙ sym c.if-some_outside.ensures) _)

-- past the fourth

inside : (c : Else-some_outside) → any outside_address c.args.entries.now ≡ false
inside c = any_list outside_address c.args.entries.now ∙ sym c.if-some_outside.ensures

pub returns-then-common_of-gt-COMMON_PLACES : goal.returns-then-common_of-gt-COMMON_PLACES
returns-then-common_of-gt-COMMON_PLACES c =
    let d = (goal.at.returns-then-common_of-gt-COMMON_PLACES c).Else-some_outside in
    let more = ap (ltb 2048) (sym c.common_of.ensures) ∙ lt-ltb 2048 _ c.if-common_of-gt-COMMON_PLACES.true in
    sym (once (goal.at.Else-some_outside d).Else-twice _ ∙ pass (inside d) _ ∙ hit more _)

-- no place past 4,096 is read

in-room : (c : After-total_of-total) → c.total_of-total.result ≤ 4096
in-room c =
    let common = c.common_of.ensures in
    let total = c.total_of-total.ensures in
    let left = c.if-common_of-gt-COMMON_PLACES.false in
    let most = c.if-entries-gt-MOST_HEADS.false in
    let bound = total_at_most c.args.entries.now in
    omega (arith, common, total, left, most, bound)

held-long : (c : After-total_of-total) → length (take c.total_of-total.result c.args.addresses.now) ≡ c.total_of-total.result
held-long c = let f = in-room c in let r = c.requires in length-take-le _ c.args.addresses.now (omega (arith, f, r))

pub slice_bounds-miscounted-end : goal.slice_bounds-miscounted-end
slice_bounds-miscounted-end c = sym (held-long (goal.at.slice_bounds-miscounted-end c).After-total_of-total)

pub miscounted-requires : goal.miscounted-requires
miscounted-requires c = let d = (goal.at.miscounted-requires c).After-total_of-total in let f = in-room d in let e = held-long d in (omega arith, omega (arith, e, f), inside (goal.at.miscounted-requires c).Else-some_outside)

pub returns : goal.returns
returns c =
    let d = (goal.at.returns c).After-total_of-total in
    let kept = (goal.at.returns c).Else-some_outside in
    let less = ap (ltb 2048) (sym d.common_of.ensures) ∙ le-ltb 2048 _ d.if-common_of-gt-COMMON_PLACES.false in
    let rest = c.miscounted.ensures ∙ ap (λ n. any (miscounted (take n d.args.addresses.now)) d.args.entries.now) d.total_of-total.ensures in
    rest ∙ sym (once (goal.at.returns c).Else-twice _ ∙ pass (inside kept) _ ∙ pass less _)
