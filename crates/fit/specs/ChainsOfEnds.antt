-- A chain as one slice of ends.
--
--     chain_of es            the chain of the times and the values of the ends
--     long_of, room_of       it has n entries exactly where the slice has
--     time_at, value_at      its entries are those of the slice
--     put_is                 an end stored in the slice is stored in the chain
--
-- Assumes nothing.
use Rattle.std.specs.Prelude.{◌≡◌, List, map, set, length, get_or, ℕ, ◌≤◌, ◌<◌, pos}
use Rattle.std.proofs.Common.{arith}
use Rattle.std.proofs.lemmas.List.{length-map, get_or-map, map-set}
use Rattle.drift_laws.specs.ChainParts.{Chain, chain, Long}
use Rattle.fit.specs.declared.ends.End.{End}
use Rattle.fit.specs.RangesByValue.{put_end}

abbrev pub chain_of : List End → Chain
chain_of es = chain (map (λ e. e.time) es) (map (λ e. e.value) es)

module _ (es : List End) where
  pub long_of : {n : ℕ} → n ≤ length es → Long n (chain_of es)
  long_of h = record { times_long = omega (arith, length-map es (λ e. e.time)); values_long = omega (arith, length-map es (λ e. e.value)) }

  pub room_of : {n : ℕ} → Long n (chain_of es) → n ≤ length es
  room_of l = omega (arith, l.times_long, length-map es (λ e. e.time))

  module _ (j : ℕ) (d : End) (h : j < length es) where
    pub time_at : get_or (chain_of es).times j 0 ≡ (get_or es j d).time
    time_at = get_or-map (λ e. e.time) es j d 0 h

    pub value_at : get_or (chain_of es).values j (pos 0) ≡ (get_or es j d).value
    value_at = get_or-map (λ e. e.value) es j d (pos 0) h

  pub put_is : (m : ℕ) (e : End) → chain_of (set es m e) ≡ put_end (chain_of es) m e
  put_is m e = λ i. chain (map-set (λ e. e.time) es m e i) (map-set (λ e. e.value) es m e i)
