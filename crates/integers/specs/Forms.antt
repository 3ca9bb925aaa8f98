-- Forms: statements over polynomials with "and" and "or", and what is left to prove of one from others.
--
--     Form, :yes, atom, _:∧_, _:∨_     a form; its atoms are the statements of `Certificates`
--     means ρ f, Means ρ H             what a form says, and a list of them, where ρ lists the variables' values
--     neg f, decide, clash             that f is false: one of the two holds, and not both
--     Given I f K, Shown I f           K from f, by cases at each "or"; f, where an "or" is its second part under the first's negation
--     Left I H g, entail               what is left to prove of g from H, where I reads the atoms; and that it is enough
--     atoms, CheckForm, certified_form   the same by a certificate, for a g that is one atom
--
-- Example: with f = atom s :∨ atom t, `Given I f K` is (I s → K) × (I t → K), a goal that `omega` takes apart by itself.
-- Assumes nothing.
use Rattle.std.specs.Prelude.{◌⊎◌, Bool, true, false, List, [], ◌∷◌, ◌++◌, T, ℤ}
use Rattle.std.proofs.Common.{inl, inr}
use Rattle.std.proofs.Math.IntN.{ℤ_discrete}
use Rattle.integers.specs.OrderLaws.{≤ℤ_or_<ℤ, ≤ℤ-<ℤ-⊥}
use Rattle.integers.specs.RingSolver.{eval}
use Rattle.integers.specs.Certificates.{Stmt, ◌:≤◌, ◌:<◌, ◌:≡◌, ◌:≢◌, :⊥, Cert, holds, All, Check, certified}

infixr 60 ◌:∧◌
infixr 55 ◌:∨◌
pub data Form : Type 0 where
  :yes : Form
  atom : Stmt → Form
  ◌:∧◌ : Form → Form → Form
  ◌:∨◌ : Form → Form → Form

abbrev pub means : List ℤ → Form → Type 0
means ρ :yes = Unit {0}
means ρ (atom s) = holds ρ s
means ρ (f :∧ g) = means ρ f × means ρ g
means ρ (f :∨ g) = means ρ f ⊎ means ρ g

abbrev neg_stmt : Stmt → Form
neg_stmt (a :≤ b) = atom (b :< a)
neg_stmt (a :< b) = atom (b :≤ a)
neg_stmt (a :≡ b) = atom (a :≢ b)
neg_stmt (a :≢ b) = atom (a :≡ b)
neg_stmt :⊥ = :yes

abbrev pub neg : Form → Form
neg :yes = atom :⊥
neg (atom s) = neg_stmt s
neg (f :∧ g) = neg f :∨ neg g
neg (f :∨ g) = neg f :∧ neg g

clash_stmt : (ρ : List ℤ) (s : Stmt) → holds ρ s → means ρ (neg_stmt s) → ⊥
clash_stmt ρ (a :≤ b) h k = ≤ℤ-<ℤ-⊥ h k
clash_stmt ρ (a :< b) h k = ≤ℤ-<ℤ-⊥ k h
clash_stmt ρ (a :≡ b) h k = k h
clash_stmt ρ (a :≢ b) h k = h k
clash_stmt ρ :⊥ h k = h

pub clash : (ρ : List ℤ) (f : Form) → means ρ f → means ρ (neg f) → ⊥
clash ρ :yes h k = k
clash ρ (atom s) h k = clash_stmt ρ s h k
clash ρ (f :∧ g) h (inl k) = clash ρ f h.0 k
clash ρ (f :∧ g) h (inr k) = clash ρ g h.1 k
clash ρ (f :∨ g) (inl h) k = clash ρ f h k.0
clash ρ (f :∨ g) (inr h) k = clash ρ g h k.1

decide_stmt : (ρ : List ℤ) (s : Stmt) → holds ρ s ⊎ means ρ (neg_stmt s)
decide_stmt ρ (a :≤ b) = ≤ℤ_or_<ℤ (eval ρ a) (eval ρ b)
decide_stmt ρ (a :< b) = elim (≤ℤ_or_<ℤ (eval ρ b) (eval ρ a)) [ inl h ↦ inr h | inr h ↦ inl h ]
decide_stmt ρ (a :≡ b) = elim (ℤ_discrete (eval ρ a) (eval ρ b)) [ yes h ↦ inl h | no h ↦ inr h ]
decide_stmt ρ (a :≢ b) = elim (ℤ_discrete (eval ρ a) (eval ρ b)) [ yes h ↦ inr h | no h ↦ inl h ]
decide_stmt ρ :⊥ = inr tt

pub decide : (ρ : List ℤ) (f : Form) → means ρ f ⊎ means ρ (neg f)
decide ρ :yes = inl tt
decide ρ (atom s) = decide_stmt ρ s
decide ρ (f :∧ g) = elim (decide ρ f) [ inr h ↦ inr (inl h) | inl h ↦ elim (decide ρ g) [ inl k ↦ inl (h, k) | inr k ↦ inr (inr k) ] ]
decide ρ (f :∨ g) = elim (decide ρ f) [ inl h ↦ inl (inl h) | inr h ↦ elim (decide ρ g) [ inl k ↦ inl (inr k) | inr k ↦ inr (h, k) ] ]

-- ---- what is left to prove, where I reads the atoms
abbrev GivenStmt : (Stmt → Type 0) → Stmt → Type 0 → Type 0
GivenStmt I (a :≤ b) K = I (a :≤ b) → K
GivenStmt I (a :< b) K = I (a :< b) → K
GivenStmt I (a :≡ b) K = I (a :≡ b) → K
GivenStmt I (a :≢ b) K = I (a :≢ b) → K
GivenStmt I :⊥ K = Unit {0}

-- K from f, by cases at each "or"
abbrev pub Given : (Stmt → Type 0) → Form → Type 0 → Type 0
Given I :yes K = K
Given I (atom s) K = GivenStmt I s K
Given I (f :∧ g) K = Given I f (Given I g K)
Given I (f :∨ g) K = Given I f K × Given I g K

-- f, where an "or" is its second part under the first part's negation
abbrev pub Shown : (Stmt → Type 0) → Form → Type 0
Shown I :yes = Unit {0}
Shown I (atom s) = I s
Shown I (f :∧ g) = Shown I f × Shown I g
Shown I (f :∨ g) = Given I (neg f) (Shown I g)

abbrev pub Left : (Stmt → Type 0) → List Form → Form → Type 0
Left I [] g = Shown I g
Left I (f ∷ H) g = Given I f (Left I H g)

abbrev pub Means : List ℤ → List Form → Type 0
Means ρ [] = Unit {0}
Means ρ (f ∷ H) = means ρ f × Means ρ H

module _ (ρ : List ℤ) (I : Stmt → Type 0) (from : (s : Stmt) → I s → holds ρ s) (to : (s : Stmt) → holds ρ s → I s) where
  use_stmt : (s : Stmt) (K : Type 0) → GivenStmt I s K → holds ρ s → K
  use_stmt (a :≤ b) K o h = o (to (a :≤ b) h)
  use_stmt (a :< b) K o h = o (to (a :< b) h)
  use_stmt (a :≡ b) K o h = o (to (a :≡ b) h)
  use_stmt (a :≢ b) K o h = o (to (a :≢ b) h)
  use_stmt :⊥ K o h = absurd h

  use_given : (f : Form) (K : Type 0) → Given I f K → means ρ f → K
  use_given :yes K o h = o
  use_given (atom s) K o h = use_stmt s K o h
  use_given (f :∧ g) K o h = use_given g K (use_given f (Given I g K) o h.0) h.1
  use_given (f :∨ g) K o (inl h) = use_given f K o.0 h
  use_given (f :∨ g) K o (inr h) = use_given g K o.1 h

  take-shown : (f : Form) → Shown I f → means ρ f
  take-shown :yes o = tt
  take-shown (atom s) o = from s o
  take-shown (f :∧ g) o = (take-shown f o.0, take-shown g o.1)
  take-shown (f :∨ g) o = elim (decide ρ f) [ inl h ↦ inl h | inr h ↦ inr (take-shown g (use_given (neg f) (Shown I g) o h)) ]

  pub entail : (H : List Form) (g : Form) → Left I H g → Means ρ H → means ρ g
  entail [] g o all = take-shown g o
  entail (f ∷ H) g o all = entail H g (use_given f (Left I H g) o all.0) all.1

-- ---- by a certificate: the atoms that the hypotheses hold outside an "or", and a goal that is one atom
abbrev atoms_of : Form → List Stmt
atoms_of :yes = []
atoms_of (atom s) = s ∷ []
atoms_of (f :∧ g) = atoms_of f ++ atoms_of g
atoms_of (f :∨ g) = []

abbrev pub atoms : List Form → List Stmt
atoms [] = []
atoms (f ∷ H) = atoms_of f ++ atoms H

abbrev pub CheckForm : List Form → Form → Cert → Cert → Bool
CheckForm H :yes m c = true
CheckForm H (atom s) m c = Check (atoms H) s m c
CheckForm H (f :∧ g) m c = false
CheckForm H (f :∨ g) m c = false

module _ (ρ : List ℤ) where
  all-++ : (H K : List Stmt) → All ρ H → All ρ K → All ρ (H ++ K)
  all-++ [] K h k = k
  all-++ (s ∷ H) K h k = (h.0, all-++ H K h.1 k)

  all_of : (f : Form) → means ρ f → All ρ (atoms_of f)
  all_of :yes h = tt
  all_of (atom s) h = (h, tt)
  all_of (f :∧ g) h = all-++ (atoms_of f) (atoms_of g) (all_of f h.0) (all_of g h.1)
  all_of (f :∨ g) h = tt

  all_atoms : (H : List Form) → Means ρ H → All ρ (atoms H)
  all_atoms [] h = tt
  all_atoms (f ∷ H) h = all-++ (atoms_of f) (atoms H) (all_of f h.0) (all_atoms H h.1)

  pub certified_form : (H : List Form) (g : Form) (m c : Cert) → T (CheckForm H g m c) → Means ρ H → means ρ g
  certified_form H :yes m c t all = tt
  certified_form H (atom s) m c t all = certified ρ (atoms H) (all_atoms H all) s m c t
  certified_form H (f :∧ g) m c t all = absurd t
  certified_form H (f :∨ g) m c t all = absurd t
