-- The eleven slices that Segment fills, as one value, and what a call leaves in them.
--
--     Columns, columns       the contents of the eleven slices: a column for each of a segment's numbers, with one entry a segment
--     lengths                how many entries each column has
--     zero_columns, zero-lengths   columns of k zeros, and their lengths
--     EachColumn rule        the rule holds of each of the eleven numbers with the column that holds it
--     each, each-apply       a rule that always holds; a rule that follows from another, column by column
--     row_at, row_is          the row at a place of the columns, and how it is known
--     Room k cs, room-tested each column has k entries or more; no length is too short, so there is room
--     short-tested           whether a length is too short, tested three at a time
--     SameLengths old new    each column is as long as before
--     Stored k n old new     the numbers n stand at k, and all else is as before
--     Filled ns old new      the numbers ns stand first, one after the other, and past them all is as before
--     FirstStored c ss       the first c of the segments ss are filled in
--     AllStored c ss         the segments ss are filled in, and there are c of them
--
-- A column more is a line more in each list of this file; every other law goes by `EachColumn`.
-- Assumes nothing.
use Rattle.std.specs.Prelude.{ℕ, ◌≤◌, ◌≡◌, refl, Bool, true, false, ◌||◌, List, [], ◌∷◌, ◌++◌, map, ltb, ℤ, pos, length, get_or, set, take, drop, replicate}
use Rattle.std.proofs.Common.{ap, ◌∙◌, ltb-false}
use Rattle.std.proofs.lemmas.List.{length-replicate}
use Rattle.integers.specs.Booleans.{or-neither}
use Rattle.integers.specs.Lists.{any}
use Rattle.definitions.specs.Results.{Numbers, Segment, numbers_of, row_length}
use Rattle.definitions.specs.Trial.{too_short}

pub record Columns : Type 0 where
  pub first_times : List ℕ
  pub last_times : List ℕ
  pub counts : List ℕ
  pub slow_ps : List ℤ
  pub slow_qs : List ℤ
  pub slow_ds : List ℤ
  pub fast_ps : List ℤ
  pub fast_qs : List ℤ
  pub fast_ds : List ℤ
  pub somes : List ℕ
  pub alls : List ℕ

abbrev pub columns : List ℕ → List ℕ → List ℕ → List ℤ → List ℤ → List ℤ → List ℤ → List ℤ → List ℤ → List ℕ → List ℕ → Columns
columns a b c k l m u v w x y =
    record {
      first_times = a;
      last_times = b;
      counts = c;
      slow_ps = k;
      slow_qs = l;
      slow_ds = m;
      fast_ps = u;
      fast_qs = v;
      fast_ds = w;
      somes = x;
      alls = y;
    }

abbrev pub lengths : Columns → List ℕ
lengths cs =
    length cs.first_times
    ∷ length cs.last_times
    ∷ length cs.counts
    ∷ length cs.slow_ps
    ∷ length cs.slow_qs
    ∷ length cs.slow_ds
    ∷ length cs.fast_ps
    ∷ length cs.fast_qs
    ∷ length cs.fast_ds
    ∷ length cs.somes
    ∷ length cs.alls
    ∷ []

-- ---- slices of k zeros, as a caller may lend them

abbrev pub zero_columns : ℕ → Columns
zero_columns k =
    let counts : List ℕ = replicate k 0 in
    let values : List ℤ = replicate k (pos 0) in
    columns counts counts counts values values values values values values counts counts

pub zero-lengths : (k : ℕ) → lengths (zero_columns k) ≡ replicate row_length k
zero-lengths k =
    let count : length (replicate {A = ℕ} k 0) ≡ k = length-replicate {A = ℕ} k 0 in
    let value : length (replicate {A = ℤ} k (pos 0)) ≡ k = length-replicate {A = ℤ} k (pos 0) in
    λ i. count i ∷ count i ∷ count i ∷ value i ∷ value i ∷ value i ∷ value i ∷ value i ∷ value i ∷ count i ∷ count i ∷ []

-- ---- rules

-- of a number and the column that holds it
abbrev pub Rule : Type 1
Rule = (A : Type 0) → (Numbers → A) → (Columns → List A) → Type 0

pub record EachColumn (rule : Rule) : Type 0 where
  pub first_times_is : rule ℕ (λ n. n.first_time) (λ cs. cs.first_times)
  pub last_times_is : rule ℕ (λ n. n.last_time) (λ cs. cs.last_times)
  pub counts : rule ℕ (λ n. n.count) (λ cs. cs.counts)
  pub slow_ps_is : rule ℤ (λ n. n.slow_p) (λ cs. cs.slow_ps)
  pub slow_qs_is : rule ℤ (λ n. n.slow_q) (λ cs. cs.slow_qs)
  pub slow_ds_is : rule ℤ (λ n. n.slow_d) (λ cs. cs.slow_ds)
  pub fast_ps_is : rule ℤ (λ n. n.fast_p) (λ cs. cs.fast_ps)
  pub fast_qs_is : rule ℤ (λ n. n.fast_q) (λ cs. cs.fast_qs)
  pub fast_ds_is : rule ℤ (λ n. n.fast_d) (λ cs. cs.fast_ds)
  pub somes : rule ℕ (λ n. n.some) (λ cs. cs.somes)
  pub alls : rule ℕ (λ n. n.all) (λ cs. cs.alls)

pub each : {rule : Rule} → ((A : Type 0) (number : Numbers → A) (column : Columns → List A) → rule A number column) → EachColumn rule
each h =
    record {
      first_times_is = h _ _ _;
      last_times_is = h _ _ _;
      counts = h _ _ _;
      slow_ps_is = h _ _ _;
      slow_qs_is = h _ _ _;
      slow_ds_is = h _ _ _;
      fast_ps_is = h _ _ _;
      fast_qs_is = h _ _ _;
      fast_ds_is = h _ _ _;
      somes = h _ _ _;
      alls = h _ _ _;
    }

pub each-apply : {P Q : Rule} → EachColumn (λ A number column. P A number column → Q A number column) → EachColumn P → EachColumn Q
each-apply f h =
    record {
      first_times_is = f.first_times_is h.first_times_is;
      last_times_is = f.last_times_is h.last_times_is;
      counts = f.counts h.counts;
      slow_ps_is = f.slow_ps_is h.slow_ps_is;
      slow_qs_is = f.slow_qs_is h.slow_qs_is;
      slow_ds_is = f.slow_ds_is h.slow_ds_is;
      fast_ps_is = f.fast_ps_is h.fast_ps_is;
      fast_qs_is = f.fast_qs_is h.fast_qs_is;
      fast_ds_is = f.fast_ds_is h.fast_ds_is;
      somes = f.somes h.somes;
      alls = f.alls h.alls;
    }

-- the numbers at a place
unfoldable pub row_at : Columns → ℕ → Numbers
row_at cs j =
    record {
      first_time = get_or cs.first_times j 0;
      last_time = get_or cs.last_times j 0;
      count = get_or cs.counts j 0;
      slow_p = get_or cs.slow_ps j (pos 0);
      slow_q = get_or cs.slow_qs j (pos 0);
      slow_d = get_or cs.slow_ds j (pos 0);
      fast_p = get_or cs.fast_ps j (pos 0);
      fast_q = get_or cs.fast_qs j (pos 0);
      fast_d = get_or cs.fast_ds j (pos 0);
      some = get_or cs.somes j 0;
      all = get_or cs.alls j 0;
    }

-- each number is what its column has at the place
pub row_is : (cs : Columns) (j : ℕ) {n : Numbers} → EachColumn (λ A number column. (past : A) → get_or (column cs) j past ≡ number n) → row_at cs j ≡ n
unfolding row_at
row_is cs j h = λ i.
    record {
      first_time = h.first_times_is 0 i;
      last_time = h.last_times_is 0 i;
      count = h.counts 0 i;
      slow_p = h.slow_ps_is (pos 0) i;
      slow_q = h.slow_qs_is (pos 0) i;
      slow_d = h.slow_ds_is (pos 0) i;
      fast_p = h.fast_ps_is (pos 0) i;
      fast_q = h.fast_qs_is (pos 0) i;
      fast_d = h.fast_ds_is (pos 0) i;
      some = h.somes 0 i;
      all = h.alls 0 i;
    }

-- ---- room

abbrev pub Room : ℕ → Columns → Type 0
Room k cs = EachColumn (λ A number column. k ≤ length (column cs))

abbrev AllFrom : ℕ → List ℕ → Type 0
AllFrom k [] = Unit
AllFrom k (n ∷ ns) = (k ≤ n) × AllFrom k ns

all_from : (k : ℕ) (ns : List ℕ) → too_short k ns ≡ false → AllFrom k ns
unfolding too_short any
all_from k [] e = tt
all_from k (n ∷ ns) e = let (here, later) = or-neither (ltb n k) (too_short k ns) e in (ltb-false n k here, all_from k ns later)

pub room-tested : {k : ℕ} (cs : Columns) → too_short k (lengths cs) ≡ false → Room k cs
room-tested {k} cs e =
    let h = all_from k (lengths cs) e in
    record {
      first_times_is = h.0;
      last_times_is = h.1.0;
      counts = h.1.1.0;
      slow_ps_is = h.1.1.1.0;
      slow_qs_is = h.1.1.1.1.0;
      slow_ds_is = h.1.1.1.1.1.0;
      fast_ps_is = h.1.1.1.1.1.1.0;
      fast_qs_is = h.1.1.1.1.1.1.1.0;
      fast_ds_is = h.1.1.1.1.1.1.1.1.0;
      somes = h.1.1.1.1.1.1.1.1.1.0;
      alls = h.1.1.1.1.1.1.1.1.1.1.0;
    }

-- three tests before others
front : (a b c d : Bool) → ((a || (b || (c || false))) || d) ≡ (a || (b || (c || d)))
front true b c d = refl
front false true c d = refl
front false false true d = refl
front false false false d = refl

three-before : (k a b c : ℕ) (ns : List ℕ) → (too_short k (a ∷ b ∷ c ∷ []) || too_short k ns) ≡ too_short k (a ∷ b ∷ c ∷ ns)
unfolding too_short any
three-before k a b c ns = front (ltb a k) (ltb b k) (ltb c k) (too_short k ns)

two-last : (k a b : ℕ) → (ltb a k || (ltb b k || false)) ≡ too_short k (a ∷ b ∷ [])
unfolding too_short any
two-last k a b = refl

in_turn : (a b c d e : Bool) → ((((a || b) || c) || d) || e) ≡ (a || (b || (c || (d || (e || false)))))
in_turn true b c d e = refl
in_turn false true c d e = refl
in_turn false false true d e = refl
in_turn false false false true e = refl
in_turn false false false false true = refl
in_turn false false false false false = refl

-- the tests of the columns, three at a time
pub short-tested : (k : ℕ) (cs : Columns) {s t f : Bool}
    → s ≡ too_short k (length cs.first_times ∷ length cs.last_times ∷ length cs.counts ∷ [])
    → t ≡ too_short k (length cs.slow_ps ∷ length cs.slow_qs ∷ length cs.slow_ds ∷ [])
    → f ≡ too_short k (length cs.fast_ps ∷ length cs.fast_qs ∷ length cs.fast_ds ∷ [])
    → ((((s || t) || f) || ltb (length cs.somes) k) || ltb (length cs.alls) k) ≡ too_short k (lengths cs)
short-tested k cs {s} {t} {f} e g h =
    let slow = length cs.slow_ps ∷ length cs.slow_qs ∷ length cs.slow_ds ∷ [] in
    let spans = length cs.first_times ∷ length cs.last_times ∷ length cs.counts ∷ [] in
    let last = length cs.somes ∷ length cs.alls ∷ [] in
    let fast-on = length cs.fast_ps ∷ length cs.fast_qs ∷ length cs.fast_ds ∷ last in
    in_turn s t f (ltb (length cs.somes) k) (ltb (length cs.alls) k)
    ∙ ap (λ r. s || (t || (f || r))) (two-last k (length cs.somes) (length cs.alls))
    ∙ rw (e, g, h)
    (ap (λ r. too_short k spans || r) (ap (λ r. too_short k slow || r) (three-before k (length cs.fast_ps) (length cs.fast_qs) (length cs.fast_ds) last) ∙ three-before k (length cs.slow_ps) (length cs.slow_qs) (length cs.slow_ds) fast-on)
    ∙ three-before k (length cs.first_times) (length cs.last_times) (length cs.counts) (length cs.slow_ps ∷ length cs.slow_qs ∷ length cs.slow_ds ∷ fast-on))

-- ---- what a call leaves

abbrev pub SameLengths : Columns → Columns → Type 0
SameLengths old new = EachColumn (λ A number column. length (column new) ≡ length (column old))

abbrev pub Stored : ℕ → Numbers → Columns → Columns → Type 0
Stored k n old new = EachColumn (λ A number column. column new ≡ set (column old) k (number n))

abbrev pub Filled : List Numbers → Columns → Columns → Type 0
Filled ns old new = EachColumn (λ A number column. column new ≡ map number ns ++ drop (length ns) (column old))

pub record FirstStored (c : ℕ) (ss : List Segment) (old new : Columns) : Type 0 where
  pub within : c ≤ length ss
  pub columns_are : Filled (map numbers_of (take c ss)) old new

pub record AllStored (c : ℕ) (ss : List Segment) (old new : Columns) : Type 0 where
  pub count-is : c ≡ length ss
  pub columns_are : Filled (map numbers_of ss) old new
