-- What i64 computes of a line, with a time and with a level, all within their bounds: nothing wraps.
--
--     computed_reading, computed_scaled, computed_rest   p·t + q, d·level and d·level − q as they are computed
--     reading_is, scaled_is, rest-is                  that this is what they are
--     reading_sizes, scaled_sizes                     the bounds of their parts, for the laws of `Machine`
--     rest_in                                         the bound of the third
--
-- Assumes nothing.
use Rattle.std.specs.Prelude.{◌≡◌, [], ◌∷◌, ℕ, ℤ, pos, ◌+ℤ◌, ◌-ℤ◌, ◌*ℤ◌}
use Rattle.std.proofs.Math.Path.{ap}
use Rattle.std.proofs.Common.{◌∙◌, arith}
use mir.Syntax.{w32}
use mir.Val.{Fits}
use Rattle.integers.specs.Quotes.{quotes}
use Rattle.integers.specs.Bounds.{Within, in_lit, in_up, in_wide}
use Rattle.integers.specs.Machine.{Env, upto, ◌▹◌, end, machine_value!, machine_bound!, reads}
use Rattle.definitions.specs.Spans.{most_time, most_value}
use Rattle.definitions.specs.Lines.{reading}
use Rattle.values.specs.declared.Line.{Line}
use Rattle.values.specs.Meanings.{line_of}
use Rattle.values.specs.Signed.{as_i64, as_i32, read_back, half64}
use Rattle.values.specs.Small.{Small, most_slope, most_intercept}

-- ---- with a time, as i64 has it
abbrev pub computed_reading : Line → ℤ → ℤ
computed_reading l x = as_i64 (as_i64 (as_i64 l.p *ℤ as_i64 x) +ℤ as_i64 l.q)

module _ {l : Line} {t : ℕ} {x : ℤ} (s : Small l) (h : Fits w32 t) (is : x ≡ pos t) where
  time_in : Within most_time x
  time_in = rw is (in_up (in_lit (pos t)) (omega arith))

  pub reading_sizes : Env (l.p ∷ l.q ∷ x ∷ []) (upto most_slope ∷ upto most_intercept ∷ upto most_time ∷ [])
  reading_sizes = s.bounds.p_in ▹ s.bounds.q_in ▹ time_in ▹ end

  pub reading_is : computed_reading l x ≡ reading (line_of l) t
  unfolding reading
  reading_is =
      let e : computed_reading l x ≡ l.p *ℤ x +ℤ l.q = machine_value! reading_sizes (search reads depth 30) (search quotes depth 30) tt in
      e ∙ ap (λ z. l.p *ℤ z +ℤ l.q) is

-- ---- with a level, as i64 has it
abbrev pub computed_scaled : Line → ℤ → ℤ
computed_scaled l x = as_i64 (as_i64 l.d *ℤ as_i64 x)

abbrev pub computed_rest : Line → ℤ → ℤ
computed_rest l x = as_i64 (computed_scaled l x -ℤ as_i64 l.q)

module _ {l : Line} {level x : ℤ} (s : Small l) (k : Within most_value level) (is : x ≡ as_i32 level) where
  level_is : x ≡ level
  level_is = is ∙ read_back w32 k tt

  pub scaled_sizes : Env (l.d ∷ l.q ∷ x ∷ []) (upto most_time ∷ upto most_intercept ∷ upto most_value ∷ [])
  scaled_sizes = s.bounds.d_in ▹ s.bounds.q_in ▹ rw level_is k ▹ end

  pub scaled_is : computed_scaled l x ≡ l.d *ℤ level
  scaled_is =
      let e : computed_scaled l x ≡ l.d *ℤ x = machine_value! scaled_sizes (search reads depth 30) (search quotes depth 30) tt in
      e ∙ ap (λ z. l.d *ℤ z) level_is

  pub rest-is : computed_rest l x ≡ l.d *ℤ level -ℤ l.q
  rest-is =
      let e : computed_rest l x ≡ l.d *ℤ x -ℤ l.q = machine_value! scaled_sizes (search reads depth 30) (search quotes depth 30) tt in
      e ∙ ap (λ z. l.d *ℤ z -ℤ l.q) level_is

  pub rest_in : Within half64 (computed_rest l x)
  rest_in = in_wide (machine_bound! scaled_sizes (search reads depth 30) tt) tt
