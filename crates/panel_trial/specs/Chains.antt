-- What the code's chains over entries compute, by the definitions' words.
--
--     total_sum, common_sum      the places held, and the common places taken, as sums over the entries
--     any_list                   whether some entry passes a test
--     miscounts                  a head does not hold what is counted at its address
--     counted_all                so counted, it is what the definitions count, where no address is outside its span
--
-- Assumes nothing.
use Rattle.std.specs.Prelude.{ℕ, ◌+◌, ◌-◌, ◌<◌, ◌≡◌, refl, Bool, false, not, ◌||◌, List, [], ◌∷◌, ltb, eqb, get_or, replicate, sum_by}
use Rattle.std.specs.List.{list_any}
use Rattle.std.proofs.Common.{arith, sym, ap, ap₂, ◌∙◌, ltb-false}
use Rattle.std.proofs.lemmas.List.Sums.{sum_by-cons}
use Rattle.integers.specs.Booleans.{or-neither}
use Rattle.integers.specs.Lists.{any}
use Rattle.definitions.specs.Spans.{sure_places}
use Rattle.definitions.specs.Trial.{bad_address}
use Rattle.definitions.specs.Panels.{total_held, common_taken, outside_address, miscounted}
use Rattle.definitions.specs.declared.entries.Entry.{Entry}
use Rattle.panel_laws.specs.Tallies.{tallied, tallied-alone}

pub total_sum : (es : List Entry) → total_held es ≡ sum_by (λ (e : Entry). e.held) es
unfolding total_held
total_sum [] = refl
total_sum (e ∷ es) = ap (λ n. e.held + n) (total_sum es) ∙ sym (sum_by-cons (λ (x : Entry). x.held) e es)

pub common_sum : (es : List Entry) → common_taken es ≡ sum_by (λ (e : Entry). e.held - sure_places) es
unfolding common_taken
common_sum [] = refl
common_sum (e ∷ es) = ap (λ n. (e.held - sure_places) + n) (common_sum es) ∙ sym (sum_by-cons (λ (x : Entry). x.held - sure_places) e es)

pub any_list : {A : Type 0} (test : A → Bool) (xs : List A) → any test xs ≡ list_any test xs
unfolding any
any_list test [] = refl
any_list test (x ∷ xs) = ap (λ t. test x || t) (any_list test xs)

unfoldable pub miscounts : List ℕ → Entry → Bool
miscounts counts e = not (eqb e.held (get_or counts e.address 0))

-- where no address is outside its span, a tally of the addresses tells what each head is to hold
pub counted_all : (n : ℕ) → 65535 < n → (bs : List ℕ) (es : List Entry) → any outside_address es ≡ false → any (miscounts (tallied (replicate n 0) bs)) es ≡ any (miscounted bs) es
unfolding any miscounts miscounted outside_address bad_address
counted_all n l bs [] inside = refl
counted_all n l bs (e ∷ es) inside =
    let parts = or-neither (ltb e.address 1 || ltb 65535 e.address) (any outside_address es) inside in
    let small = ltb-false 65535 e.address (or-neither (ltb e.address 1) (ltb 65535 e.address) parts.0).1 in
    ap₂ (λ m t. not (eqb e.held m) || t) (tallied-alone n e.address bs (omega (arith, l, small))) (counted_all n l bs es parts.1)
