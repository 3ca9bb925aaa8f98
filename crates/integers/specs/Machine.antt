-- What a machine computes, where bounds show that nothing wraps, as facts over ℤ. A signed local holds bits, so what the borrow checker asks and hands over speaks of `read w x`, which is `to_z w (of_z w x)`, at each use of x, of tests as Booleans, and of casts by their bits. The tools here read all that off the goal, and compute the bounds. Widths may be mixed.
--
-- An environment e lists the integers that the code starts from, each with its bound:
--     h ▹ e     h : Within A x, |x| ≤ A
--     h ▸ e     h : SFits w x, any value of a signed type: `c.fits.x` of a parameter; of a struct's field, also of one that a call returned, write `let f : SFits w64 l.p = search needs in`
--     h ◂ e     h : Between L H x, −L ≤ x ≤ H: `nonneg-between since until` of a time; `unsigned-between c.fits.n` of an unsigned n, whose integer is `pos n`; `to_z_fits w n ▸ e` of a loop's local, which is bits n, read as to_z w n
--     end       the empty one
-- Bound, _to_, upto, signed   the bounds, in the type of an environment: `Env (t ∷ u ∷ z ∷ []) ((0 to 4294967295) ∷ upto 268435456 ∷ signed w64 ∷ [])`. Each is a literal: a bound that is none is widened first, `in_up {B = 1024} h (omega arith) ▹ ..`.
--
-- The tools, where `search` finds r, q and k:
--     no_overflow! e r tt            the need of an operation, or of a cast to a signed type
--         mul-result c = no_overflow! (points c.pre) (search reads depth 30) tt
--     no_loss! e r tt                the need of a cast to an unsigned type, of what is not negative by its bounds
--         cast-result c = no_loss! (nonneg-between since until ◂ end) (search casts depth 30) tt
--     machine_value! e r q tt        what is computed, z ≡ y with y in plain integers
--         returns c = machine_value! (points c.pre) (search reads depth 30) (search quotes depth 30) tt
--     machine_linear! e h k tt n     a fact from the facts h, as by `linear!`; n is `omega arith`
--         returns c = machine_linear! (f.a ▸ f.b ▸ end) c.if1.taken (search tests depth 30) tt (omega arith)
--     machine_polynomial!            the same, where a reader is to see that products are multiplied out
--     machine_certify! e h k m c tt  the same by a certificate
--     machine_bound! e r tt          Within A z, with A computed
-- The facts h are joined by `&`, or are `no_facts`. They are those of `Facts`: outcomes of tests (ltZ x y ≡ true, of_z w x ≡ of_z w y and its negation), bounds, orders, products of these; a goal too may be a product, a Boolean equation `le_z .. ≡ le_z .. && le_z ..`, or what an operation or a cast asks.
--
-- Laws without an environment:
--     negated_in, negated-is         0 − x, as code negates a signed number that has a bound which the width holds, is within that bound, and is −x
--         sub-t2 c = fits (negated_in w64 c.before.before.pre.bounds.p_in tt) tt
--     to_z_fits                       any bits, read as a signed number, fit
-- Assumes nothing.
use Rattle.std.specs.Prelude.{◌≡◌, refl, Bool, true, false, not, List, [], ◌∷◌, ℕ, suc, ◌+◌, ◌*◌, ◌^◌, ◌-◌, ◌≤◌, ◌<◌, max, T, leb, ltb, ℤ, pos, negsuc, neg_ℤ, nat_abs, ◌+ℤ◌, ◌-ℤ◌, ◌*ℤ◌, ◌≤ℤ◌}
use Rattle.std.proofs.Common.{sym, ◌∙◌, ap, ap₂, subst, le_refl, arith, leb→le, ltb→lt, nltb→le, pow_pos, to_z-of_z}
use Rattle.std.specs.Int.Signed.{non_neg, yes_non_neg, pos-nat_abs}
use Rattle.std.specs.Int.{Width, w8, w16, w32, w64, w128}
use mir.Val.{SFits, Fits, bits, hbits, to_z, of_z, sel}
use Rattle.std.proofs.Math.Facts.{to_z_pos}
use Rattle.integers.specs.Parts.{pos_part, neg_part}
use Rattle.integers.specs.RingSolver.{Expr, ◌:+◌, ◌:-◌, ◌:*◌, eval, normal, zero?, both, both_l, both_r, ring}
use Rattle.integers.specs.Bounds.{Within, in_neg, fits as within-fits, Between, within-between, between-within, between-add, between-neg, between-mul, between-lit, signed-between, between-fits, between-nonneg, between-wide}
use Rattle.integers.specs.Certificates.{Cert}
use Rattle.integers.specs.Quotes.{Quoted, q_mem, q_pos, q_negsuc, q_add, q_mul, q_neg, q_addℕ, q_mulℕ, q_read, q_word, q_bits, q_abs, code, pure?, code_ok, Member, index_ok, here, there, quotes, ring! }
pub use Rattle.integers.specs.Quotes.{read, reads}
use Rattle.integers.specs.Forms.{CheckForm, certified_form}
use Rattle.integers.specs.Facts.{Checks, Reading, Claim, hyps, goal, sure, claim, claims, both₃, f_words, f_word, f_signed, f_unsigned, f_cast, b_words, b_word}
use Rattle.integers.specs.Solve.{Linear, by_linear}

-- ---- bounds and environments
-- −low ≤ x ≤ high
pub record Bound : Type 0 where
  pub low : ℕ
  pub high : ℕ

infix 40 ◌to◌
abbrev pub ◌to◌ : ℕ → ℕ → Bound
L to H = record { low = L; high = H }

abbrev pub upto : ℕ → Bound
upto A = A to A

abbrev pub signed : Width → Bound
signed w = 2 ^ hbits w to (2 ^ hbits w - 1)

abbrev Bounded : Bound → ℤ → Type 0
Bounded b z = Between b.low b.high z

-- the integers of ρ have the bounds bs
infixr 30 ◌▹◌ ◌▸◌ ◌◂◌
pub data Env : List ℤ → List Bound → Type 0 where
  end : Env [] []
  ◌◂◌ : {x : ℤ} {L H : ℕ} {ρ : List ℤ} {bs : List Bound} → Between L H x → Env ρ bs → Env (x ∷ ρ) ((L to H) ∷ bs)

pub ◌▹◌ : {x : ℤ} {A : ℕ} {ρ : List ℤ} {bs : List Bound} → Within A x → Env ρ bs → Env (x ∷ ρ) (upto A ∷ bs)
h ▹ e = within-between h ◂ e

pub ◌▸◌ : {w : Width} {x : ℤ} {ρ : List ℤ} {bs : List Bound} → SFits w x → Env ρ bs → Env (x ∷ ρ) (signed w ∷ bs)
h ▸ e = signed-between h ◂ e

abbrev bound : {z : ℤ} {ρ : List ℤ} → List Bound → Member z ρ → Bound
bound [] m = upto 0
bound (b ∷ bs) here = b
bound (b ∷ bs) (there m) = bound bs m

bound-ok : {z : ℤ} {ρ : List ℤ} {bs : List Bound} → Env ρ bs → (m : Member z ρ) → Bounded (bound bs m) z
bound-ok {z = z} end m = elim m [ ]
bound-ok (h ◂ e) here = h
bound-ok (h ◂ e) (there m) = bound-ok e m

-- ---- the bounds of what is computed
abbrev sum_b : Bound → Bound → Bound
sum_b a b = (a.low + b.low) to (a.high + b.high)

abbrev mul_b : Bound → Bound → Bound
mul_b a b = max (a.low * b.high) (a.high * b.low) to max (a.low * b.low) (a.high * b.high)

abbrev neg_b : Bound → Bound
neg_b a = a.high to a.low

abbrev pub span : {ρ : List ℤ} {z : ℤ} → List Bound → Quoted ρ z → Bound
span bs (q_mem m) = bound bs m
span bs (q_pos n l) = 0 to n
span bs (q_negsuc n l) = suc n to 0
span bs (q_add x y p q) = sum_b (span bs p) (span bs q)
span bs (q_mul x y p q) = mul_b (span bs p) (span bs q)
span bs (q_neg x p) = neg_b (span bs p)
span bs (q_addℕ m n p q) = sum_b (span bs p) (span bs q)
span bs (q_mulℕ m n p q) = mul_b (span bs p) (span bs q)
span bs (q_read w x p) = span bs p
span bs (q_word w n l) = neg_part (to_z w n) to pos_part (to_z w n)
span bs (q_bits w n p) = span bs p
span bs (q_abs x p) = span bs p

-- a signed type of width w holds all within a bound; none of them is negative
abbrev roomy : Width → Bound → Bool
roomy w b = both (leb b.low (2 ^ hbits w)) (ltb b.high (2 ^ hbits w))

abbrev natural : Bound → Bool
natural b = leb b.low 0

-- nothing wraps at a read
abbrev pub safe : {ρ : List ℤ} {z : ℤ} → List Bound → Quoted ρ z → Bool
safe bs (q_mem m) = true
safe bs (q_pos n l) = true
safe bs (q_negsuc n l) = true
safe bs (q_add x y p q) = both (safe bs p) (safe bs q)
safe bs (q_mul x y p q) = both (safe bs p) (safe bs q)
safe bs (q_neg x p) = safe bs p
safe bs (q_addℕ m n p q) = both (safe bs p) (safe bs q)
safe bs (q_mulℕ m n p q) = both (safe bs p) (safe bs q)
safe bs (q_read w x p) = both (roomy w (span bs p)) (safe bs p)
safe bs (q_word w n l) = true
safe bs (q_bits w n p) = both (roomy w (span bs p)) (safe bs p)
safe bs (q_abs x p) = both (natural (span bs p)) (safe bs p)

-- what a cast from a signed type to an unsigned one of width w asks
pub data Cast (ρ : List ℤ) : Type 0 → Type 1 where
  cast : (w : Width) (z : ℤ) → Quoted ρ z → Cast ρ (T (non_neg z) × Fits w (nat_abs z))

abbrev pub no_loss? : {ρ : List ℤ} {X : Type 0} → List Bound → Cast ρ X → Bool
no_loss? bs (cast w z r) = both (natural (span bs r)) (both (ltb (span bs r).high (2 ^ bits w)) (safe bs r))

-- the tests of `Facts`
abbrev pub machine : {ρ : List ℤ} → List Bound → Checks ρ
machine bs = record { known? = λ q. safe bs q; fits? = λ w q. roomy w (span bs q) }

roomy-fits : (w : Width) (b : Bound) {z : ℤ} → T (roomy w b) → Bounded b z → SFits w z
roomy-fits w b t h =
    between-fits h (leb→le b.low (2 ^ hbits w) (both_l (leb b.low (2 ^ hbits w)) (ltb b.high (2 ^ hbits w)) t))
    (ltb→lt b.high (2 ^ hbits w) (both_r (leb b.low (2 ^ hbits w)) (ltb b.high (2 ^ hbits w)) t))

natural-nonneg : (b : Bound) {z : ℤ} → T (natural b) → Bounded b z → pos 0 ≤ℤ z
natural-nonneg b t h = between-nonneg (between-wide h (leb→le b.low 0 t) (le_refl b.high))

-- what a quote stands for, and its bounds
record Good (ρ : List ℤ) (b : Bound) (e : Expr) (z : ℤ) : Type 0 where
  is : eval ρ e ≡ z
  within : Bounded b z

add-good : {ρ : List ℤ} {a b : Bound} {e f : Expr} {x y : ℤ} → Good ρ a e x → Good ρ b f y → Good ρ (sum_b a b) (e :+ f) (x +ℤ y)
add-good g h = record { is = ap₂ (λ u v. u +ℤ v) g.is h.is; within = between-add g.within h.within }

mul-good : {ρ : List ℤ} {a b : Bound} {e f : Expr} {x y : ℤ} → Good ρ a e x → Good ρ b f y → Good ρ (mul_b a b) (e :* f) (x *ℤ y)
mul-good g h = record { is = ap₂ (λ u v. u *ℤ v) g.is h.is; within = between-mul g.within h.within }

-- what is read back is the same integer
read-good : {ρ : List ℤ} {b : Bound} {e : Expr} {z y : ℤ} → Good ρ b e z → y ≡ z → Good ρ b e y
read-good {b} g p = record { is = g.is ∙ sym p; within = subst (Bounded b) (sym p) g.within }

bits_below : (w : Width) (n : ℕ) → SFits w (pos n) → to_z w n ≡ pos n
bits_below w n f = to_z_pos w f.sfits

abs_is : (x : ℤ) → pos 0 ≤ℤ x → pos (nat_abs x) ≡ x
abs_is x h = pos-nat_abs x (yes_non_neg h)

high_fits : (z : ℤ) {B H : ℕ} → pos 0 ≤ℤ z → pos_part z ≤ H → H < B → nat_abs z < B
high_fits (pos n) p h k = omega arith
high_fits (negsuc n) p h k = absurd p.le

module _ {ρ : List ℤ} {bs : List Bound} (env : Env ρ bs) where
  good : {z : ℤ} (q : Quoted ρ z) → T (safe bs q) → Good ρ (span bs q) (code q) z
  good (q_mem m) t = record { is = index_ok m; within = bound-ok env m }
  good (q_pos n l) t = record { is = refl; within = between-lit (pos n) }
  good (q_negsuc n l) t = record { is = refl; within = between-lit (negsuc n) }
  good (q_add x y p q) t = add-good (good p (both_l (safe bs p) (safe bs q) t)) (good q (both_r (safe bs p) (safe bs q) t))
  good (q_mul x y p q) t = mul-good (good p (both_l (safe bs p) (safe bs q) t)) (good q (both_r (safe bs p) (safe bs q) t))
  good (q_neg x p) t = let a = good p t in record { is = ap neg_ℤ a.is; within = between-neg a.within }
  good (q_addℕ m n p q) t = add-good (good p (both_l (safe bs p) (safe bs q) t)) (good q (both_r (safe bs p) (safe bs q) t))
  good (q_mulℕ m n p q) t = mul-good (good p (both_l (safe bs p) (safe bs q) t)) (good q (both_r (safe bs p) (safe bs q) t))
  good (q_read w x p) t =
      let a = good p (both_r (roomy w (span bs p)) (safe bs p) t) in
      read-good a (to_z-of_z (roomy-fits w (span bs p) (both_l (roomy w (span bs p)) (safe bs p) t) a.within))
  good (q_word w n l) t = record { is = refl; within = between-lit (to_z w n) }
  good (q_bits w n p) t =
      let a = good p (both_r (roomy w (span bs p)) (safe bs p) t) in
      read-good a (bits_below w n (roomy-fits w (span bs p) (both_l (roomy w (span bs p)) (safe bs p) t) a.within))
  good (q_abs x p) t =
      let a = good p (both_r (natural (span bs p)) (safe bs p) t) in
      read-good a (abs_is x (natural-nonneg (span bs p) (both_l (natural (span bs p)) (safe bs p) t) a.within))

  reading : Reading ρ (machine bs)
  reading = record { is = λ q t. (good q t).is; fits = λ w q t u. roomy-fits w (span bs q) u (good q t).within }

  -- ---- the needs of operations and casts
  pub no_overflow! : {w : Width} {z : ℤ} (r : Quoted ρ z) → T (both (roomy w (span bs r)) (safe bs r)) → SFits w z
  no_overflow! {w} r t = roomy-fits w (span bs r) (both_l (roomy w (span bs r)) (safe bs r) t) (good r (both_r (roomy w (span bs r)) (safe bs r) t)).within

  pub no_loss! : {X : Type 0} (k : Cast ρ X) → T (no_loss? bs k) → X
  no_loss! (cast w z r) t =
      let b = span bs r in let u = both₃ (natural b) (ltb b.high (2 ^ bits w)) (safe bs r) t in
      let g = (good r u.2).within in let n = natural-nonneg b u.0 g in
      (yes_non_neg n, record { fits = high_fits z n g.high (ltb→lt b.high (2 ^ bits w) u.1) })

  pub machine_bound! : {z : ℤ} (r : Quoted ρ z) → T (safe bs r) → Within (max (span bs r).low (span bs r).high) z
  machine_bound! r t = between-within (good r t).within

  pub machine_value! : {z y : ℤ} (r : Quoted ρ z) (q : Quoted ρ y) → T (both (both (safe bs r) (pure? q)) (zero? (normal (code r :- code q)))) → z ≡ y
  machine_value! r q t =
      let u = both_l (both (safe bs r) (pure? q)) (zero? (normal (code r :- code q))) t in
      sym (good r (both_l (safe bs r) (pure? q) u)).is ∙ ring ρ (code r) (code q) (both_r (both (safe bs r) (pure? q)) (zero? (normal (code r :- code q))) t)
      ∙ code_ok q (both_r (safe bs r) (pure? q) u)

  -- ---- facts
  pub machine_linear! : {H G : Type 0} (h : H) (k : Claim ρ (H → G)) → T (sure (machine bs) k) → Linear ρ (hyps k) (goal k) → G
  machine_linear! h k t n = claim reading k t (by_linear ρ (hyps k) (goal k) n) h

  pub machine_polynomial! : {H G : Type 0} (h : H) (k : Claim ρ (H → G)) → T (sure (machine bs) k) → Linear ρ (hyps k) (goal k) → G
  machine_polynomial! = machine_linear!

  pub machine_certify! : {H G : Type 0} (h : H) (k : Claim ρ (H → G)) (m c : Cert) → T (both (sure (machine bs) k) (CheckForm (hyps k) (goal k) m c)) → G
  machine_certify! h k m c t =
      claim reading k (both_l (sure (machine bs) k) (CheckForm (hyps k) (goal k) m c) t)
      (certified_form ρ (hyps k) (goal k) m c (both_r (sure (machine bs) k) (CheckForm (hyps k) (goal k) m c) t)) h

-- ---- 0 − x
minus : (z : ℤ) → pos 0 -ℤ z ≡ neg_ℤ z
minus z = ring! (z ∷ []) (search quotes depth 30) (search quotes depth 30) tt

module _ (w : Width) {z : ℤ} {A : ℕ} (h : Within A z) (t : T (ltb A (2 ^ hbits w))) where
  minus_read : pos 0 -ℤ to_z w (of_z w z) ≡ neg_ℤ z
  minus_read = ap (λ x. pos 0 -ℤ x) (to_z-of_z (within-fits h t)) ∙ minus z

  pub negated_in : Within A (pos 0 -ℤ to_z w (of_z w z))
  negated_in = rw minus_read (in_neg h)

  pub negated-is : to_z w (of_z w (pos 0 -ℤ to_z w (of_z w z))) ≡ neg_ℤ z
  negated-is = to_z-of_z (within-fits negated_in t) ∙ minus_read

-- ---- what any bits read as fits
twice : (w : Width) → 2 ^ bits w ≡ 2 ^ hbits w + 2 ^ hbits w
twice w8 = refl
twice w16 = refl
twice w32 = refl
twice w64 = refl
twice w128 = refl

sel-fits : (w : Width) (n : ℕ) (b : Bool) → (T b → n < 2 ^ hbits w) → (T (not b) → 2 ^ hbits w ≤ n) → SFits w (sel b (pos n) (negsuc (2 ^ bits w - suc n)))
sel-fits w n true f g = record { sfits = f tt }
sel-fits w n false f g = let h = g tt in record { sfits = omega (arith, twice w, pow_pos (hbits w)) }

pub to_z_fits : (w : Width) (n : ℕ) → SFits w (to_z w n)
to_z_fits w n = sel-fits w n (ltb n (2 ^ hbits w)) (ltb→lt n (2 ^ hbits w)) (nltb→le n (2 ^ hbits w))

pub ruleset casts = (cast, reads)

pub ruleset tests = (f_words, f_word, f_signed, f_cast, f_unsigned, b_words, b_word, reads, claims)
