-- `corner_list::list_corners` meets its contract. Assumes nothing.
use mathlib.Core.Path.{refl, ◌∙◌}
use Rattle.drift_laws.specs.LineRows.{room-kept}
use Rattle.corner_list.specs.CornerRows.{room_slow, room_upper, room_fast, room_lower, slow_small, fast_small, upper_rises, lower_rises, corner_one, corner_all}
use Rattle.corner_list.proofs.list_corners.Goals as goal

pub put-requires : goal.put-requires
put-requires c = let P = c.requires in (slow_small P.0 P.1, room-kept P.2 (room_slow P.0) refl refl refl)

pub list_chain-m-requires : goal.list_chain-m-requires
list_chain-m-requires c =
    let P = c.requires in
    let K = c.put.auto in
    (P.0.upper_held, upper_rises P.0 P.1 c.steeper.ensures c.if-steeper.true, room-kept P.2 (room_upper P.0) K.ps K.qs K.ds)

pub put-requires-then-steeper : goal.put-requires-then-steeper
put-requires-then-steeper c =
    let P = c.requires in
    let K = c.put.auto in
    let J = c.list_chain-m.auto in
    (fast_small P.0 P.1 c.steeper.ensures c.if-steeper.true, room-kept P.2 (room_fast P.0 c.list_chain-m.ensures.count) (J.ps ∙ K.ps) (J.qs ∙ K.qs) (J.ds ∙ K.ds))

pub list_chain-requires : goal.list_chain-requires
list_chain-requires c =
    let P = c.requires in
    let K = c.put.auto in
    let J = c.list_chain-m.auto in
    let N = c.put-then-steeper.auto in
    (P.0.lower_held, lower_rises P.0 P.1 c.steeper.ensures c.if-steeper.true, room-kept P.2 (room_lower P.0 c.list_chain-m.ensures.count) (N.ps ∙ J.ps ∙ K.ps) (N.qs ∙ J.qs ∙ K.qs) (N.ds ∙ J.ds ∙ K.ds))

pub returns-then-steeper : goal.returns-then-steeper
returns-then-steeper c = let P = c.requires in corner_all P.0 P.1 c.steeper.ensures c.if-steeper.true P.2 c.put.ensures c.list_chain-m.ensures c.put-then-steeper.ensures c.list_chain.ensures

pub returns-else-steeper : goal.returns-else-steeper
returns-else-steeper c = let P = c.requires in corner_one P.0 P.1 c.steeper.ensures c.if-steeper.false P.2 c.put.ensures
