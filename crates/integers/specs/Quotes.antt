-- Quotes: the expression that an integer is written as. `search quotes` finds it for an integer made of the members of ρ and of literals with +ℤ, -ℤ, *ℤ and neg_ℤ, so that a statement is read off the goal and never written twice.
--
--     Quoted ρ z            how z is made of the integers ρ, also through the reads and casts of a machine (below)
--     code q                the expression, without the reads
--     pure?, code_ok        no read in it; then its value is z
--     Member, index, v0 ..  a member of ρ, its place, and the first sixteen as quotes
--     read w x              x as it is read back from the bits of a signed local, to_z w (of_z w x)
--     quotes, reads         the rules without the machine's reads, and with them
--     ring! ρ p q tt        an identity of the ring ℤ
--
-- A signed local of width w holds bits, so a use of it is `read w x` (`q_read`), and a literal is read as `to_z w n` (`q_word`). A cast from an unsigned type keeps the bits n, read as `to_z w n` (`q_bits`); a cast to one gives `nat_abs x` (`q_abs`). That such a read gives x, n or x back is known by bounds: `Machine` computes them.
-- Example: `square-diff a b = ring! (a ∷ b ∷ []) (search quotes depth 30) (search quotes depth 30) tt : (a +ℤ b) *ℤ (a -ℤ b) ≡ a *ℤ a -ℤ b *ℤ b`.
-- Limits: sixteen members of ρ; write `depth 30` or more; an expansion with some hundred monomials is given by hand, with `ring`.
-- Assumes nothing.
use Rattle.std.specs.Prelude.{◌≡◌, refl, Bool, true, false, List, ◌∷◌, ℕ, zero, suc, ◌+◌, ◌*◌, T, eqb, ℤ, pos, negsuc, neg_ℤ, nat_abs, ◌+ℤ◌, ◌*ℤ◌}
use Rattle.std.proofs.Common.{sym, ◌∙◌, ap, ap₂, to_z, of_z}
use Rattle.std.specs.Int.{Width}
use Rattle.integers.specs.RingSolver.{Expr, var, lit, ◌:+◌, ◌:-◌, ◌:*◌, :neg, eval, normal, zero?, both, both_l, both_r, ring, lookup}

pub data Member (z : ℤ) : List ℤ → Type 0 where
  here : {ρ : List ℤ} → Member z (z ∷ ρ)
  there : {x : ℤ} {ρ : List ℤ} → Member z ρ → Member z (x ∷ ρ)

abbrev pub index : {z : ℤ} {ρ : List ℤ} → Member z ρ → ℕ
index here = zero
index (there m) = suc (index m)

pub index_ok : {z : ℤ} {ρ : List ℤ} (m : Member z ρ) → lookup (index m) ρ ≡ z
index_ok here = refl
index_ok (there m) = index_ok m

-- what a signed local of width w that was given x is read as
abbrev pub read : Width → ℤ → ℤ
read w x = to_z w (of_z w x)

-- a test that computes at a numeral alone, so that `search`, which takes the shallowest proof, takes no term for one
abbrev pub numeral : ℕ → Bool
numeral n = eqb n n

pub data Quoted (ρ : List ℤ) : ℤ → Type 0 where
  q_mem : {z : ℤ} → Member z ρ → Quoted ρ z
  q_pos : (n : ℕ) → T (numeral n) → Quoted ρ (pos n)
  q_negsuc : (n : ℕ) → T (numeral n) → Quoted ρ (negsuc n)
  q_add : (x y : ℤ) → Quoted ρ x → Quoted ρ y → Quoted ρ (x +ℤ y)
  q_mul : (x y : ℤ) → Quoted ρ x → Quoted ρ y → Quoted ρ (x *ℤ y)
  q_neg : (x : ℤ) → Quoted ρ x → Quoted ρ (neg_ℤ x)
  q_addℕ : (m n : ℕ) → Quoted ρ (pos m) → Quoted ρ (pos n) → Quoted ρ (pos (m + n))
  q_mulℕ : (m n : ℕ) → Quoted ρ (pos m) → Quoted ρ (pos n) → Quoted ρ (pos (m * n))
  q_read : (w : Width) (x : ℤ) → Quoted ρ x → Quoted ρ (read w x)
  q_word : (w : Width) (n : ℕ) → T (numeral n) → Quoted ρ (to_z w n)
  q_bits : (w : Width) (n : ℕ) → Quoted ρ (pos n) → Quoted ρ (to_z w n)
  q_abs : (x : ℤ) → Quoted ρ x → Quoted ρ (pos (nat_abs x))

abbrev pub code : {ρ : List ℤ} {z : ℤ} → Quoted ρ z → Expr
code (q_mem m) = var (index m)
code (q_pos n l) = lit (pos n)
code (q_negsuc n l) = lit (negsuc n)
code (q_add x y p q) = code p :+ code q
code (q_mul x y p q) = code p :* code q
code (q_neg x p) = :neg (code p)
code (q_addℕ m n p q) = code p :+ code q
code (q_mulℕ m n p q) = code p :* code q
code (q_read w x p) = code p
code (q_word w n l) = lit (to_z w n)
code (q_bits w n p) = code p
code (q_abs x p) = code p

abbrev pub pure? : {ρ : List ℤ} {z : ℤ} → Quoted ρ z → Bool
pure? (q_mem m) = true
pure? (q_pos n l) = true
pure? (q_negsuc n l) = true
pure? (q_add x y p q) = both (pure? p) (pure? q)
pure? (q_mul x y p q) = both (pure? p) (pure? q)
pure? (q_neg x p) = pure? p
pure? (q_addℕ m n p q) = both (pure? p) (pure? q)
pure? (q_mulℕ m n p q) = both (pure? p) (pure? q)
pure? (q_read w x p) = false
pure? (q_word w n l) = true
pure? (q_bits w n p) = false
pure? (q_abs x p) = false

pub code_ok : {ρ : List ℤ} {z : ℤ} (q : Quoted ρ z) → T (pure? q) → eval ρ (code q) ≡ z
code_ok (q_mem m) t = index_ok m
code_ok (q_pos n l) t = refl
code_ok (q_negsuc n l) t = refl
code_ok (q_add x y p q) t = ap₂ (λ a b. a +ℤ b) (code_ok p (both_l (pure? p) (pure? q) t)) (code_ok q (both_r (pure? p) (pure? q) t))
code_ok (q_mul x y p q) t = ap₂ (λ a b. a *ℤ b) (code_ok p (both_l (pure? p) (pure? q) t)) (code_ok q (both_r (pure? p) (pure? q) t))
code_ok (q_neg x p) t = ap neg_ℤ (code_ok p t)
code_ok (q_addℕ m n p q) t = ap₂ (λ a b. a +ℤ b) (code_ok p (both_l (pure? p) (pure? q) t)) (code_ok q (both_r (pure? p) (pure? q) t))
code_ok (q_mulℕ m n p q) t = ap₂ (λ a b. a *ℤ b) (code_ok p (both_l (pure? p) (pure? q) t)) (code_ok q (both_r (pure? p) (pure? q) t))
code_ok (q_read w x p) t = absurd t
code_ok (q_word w n l) t = refl
code_ok (q_bits w n p) t = absurd t
code_ok (q_abs x p) t = absurd t

-- the first sixteen variables, each in one step of `search`. (`q_mem`, `here` and `there` are not in the set: `q_mem` fits every goal, and would be tried at each sum and product.)
abbrev pub v0 : {a : ℤ} {ρ : List ℤ} → Quoted (a ∷ ρ) a
v0 = q_mem (here)

abbrev pub v1 : {a b : ℤ} {ρ : List ℤ} → Quoted (a ∷ b ∷ ρ) b
v1 = q_mem (there here)

abbrev pub v2 : {a b c : ℤ} {ρ : List ℤ} → Quoted (a ∷ b ∷ c ∷ ρ) c
v2 = q_mem (there (there here))

abbrev pub v3 : {a b c d : ℤ} {ρ : List ℤ} → Quoted (a ∷ b ∷ c ∷ d ∷ ρ) d
v3 = q_mem (there (there (there here)))

abbrev pub v4 : {a b c d e : ℤ} {ρ : List ℤ} → Quoted (a ∷ b ∷ c ∷ d ∷ e ∷ ρ) e
v4 = q_mem (there (there (there (there here))))

abbrev pub v5 : {a b c d e f : ℤ} {ρ : List ℤ} → Quoted (a ∷ b ∷ c ∷ d ∷ e ∷ f ∷ ρ) f
v5 = q_mem (there (there (there (there (there here)))))

abbrev pub v6 : {a b c d e f g : ℤ} {ρ : List ℤ} → Quoted (a ∷ b ∷ c ∷ d ∷ e ∷ f ∷ g ∷ ρ) g
v6 = q_mem (there (there (there (there (there (there here))))))

abbrev pub v7 : {a b c d e f g h : ℤ} {ρ : List ℤ} → Quoted (a ∷ b ∷ c ∷ d ∷ e ∷ f ∷ g ∷ h ∷ ρ) h
v7 = q_mem (there (there (there (there (there (there (there here)))))))

abbrev pub v8 : {a b c d e f g h i : ℤ} {ρ : List ℤ} → Quoted (a ∷ b ∷ c ∷ d ∷ e ∷ f ∷ g ∷ h ∷ i ∷ ρ) i
v8 = q_mem (there (there (there (there (there (there (there (there here))))))))

abbrev pub v9 : {a b c d e f g h i j : ℤ} {ρ : List ℤ} → Quoted (a ∷ b ∷ c ∷ d ∷ e ∷ f ∷ g ∷ h ∷ i ∷ j ∷ ρ) j
v9 = q_mem (there (there (there (there (there (there (there (there (there here)))))))))

abbrev pub v10 : {a b c d e f g h i j k : ℤ} {ρ : List ℤ} → Quoted (a ∷ b ∷ c ∷ d ∷ e ∷ f ∷ g ∷ h ∷ i ∷ j ∷ k ∷ ρ) k
v10 = q_mem (there (there (there (there (there (there (there (there (there (there here))))))))))

abbrev pub v11 : {a b c d e f g h i j k l : ℤ} {ρ : List ℤ} → Quoted (a ∷ b ∷ c ∷ d ∷ e ∷ f ∷ g ∷ h ∷ i ∷ j ∷ k ∷ l ∷ ρ) l
v11 = q_mem (there (there (there (there (there (there (there (there (there (there (there here)))))))))))

abbrev pub v12 : {a b c d e f g h i j k l m : ℤ} {ρ : List ℤ} → Quoted (a ∷ b ∷ c ∷ d ∷ e ∷ f ∷ g ∷ h ∷ i ∷ j ∷ k ∷ l ∷ m ∷ ρ) m
v12 = q_mem (there (there (there (there (there (there (there (there (there (there (there (there here))))))))))))

abbrev pub v13 : {a b c d e f g h i j k l m n : ℤ} {ρ : List ℤ} → Quoted (a ∷ b ∷ c ∷ d ∷ e ∷ f ∷ g ∷ h ∷ i ∷ j ∷ k ∷ l ∷ m ∷ n ∷ ρ) n
v13 = q_mem (there (there (there (there (there (there (there (there (there (there (there (there (there here)))))))))))))

abbrev pub v14 : {a b c d e f g h i j k l m n o : ℤ} {ρ : List ℤ} → Quoted (a ∷ b ∷ c ∷ d ∷ e ∷ f ∷ g ∷ h ∷ i ∷ j ∷ k ∷ l ∷ m ∷ n ∷ o ∷ ρ) o
v14 = q_mem (there (there (there (there (there (there (there (there (there (there (there (there (there (there here))))))))))))))

abbrev pub v15 : {a b c d e f g h i j k l m n o p : ℤ} {ρ : List ℤ} → Quoted (a ∷ b ∷ c ∷ d ∷ e ∷ f ∷ g ∷ h ∷ i ∷ j ∷ k ∷ l ∷ m ∷ n ∷ o ∷ p ∷ ρ) p
v15 = q_mem (there (there (there (there (there (there (there (there (there (there (there (there (there (there (there here)))))))))))))))

pub ruleset quotes = (q_add, q_mul, q_neg, v0, v1, v2, v3, v4, v5, v6, v7, v8, v9, v10, v11, v12, v13, v14, v15, q_addℕ, q_mulℕ, q_pos, q_negsuc, tt)

pub ruleset reads = (q_read, q_word, q_add, q_mul, q_neg, v0, v1, v2, v3, v4, v5, v6, v7, v8, v9, v10, v11, v12, v13, v14, v15, q_bits, q_abs, q_addℕ, q_mulℕ, q_pos, q_negsuc, tt)

pub ring! : (ρ : List ℤ) {x y : ℤ} (p : Quoted ρ x) (q : Quoted ρ y) → T (both (both (pure? p) (pure? q)) (zero? (normal (code p :- code q)))) → x ≡ y
ring! ρ p q t =
    let u = both_l (both (pure? p) (pure? q)) _ t in
    sym (code_ok p (both_l (pure? p) (pure? q) u)) ∙ ring ρ (code p) (code q) (both_r (both (pure? p) (pure? q)) _ t) ∙ code_ok q (both_r (pure? p) (pure? q) u)
