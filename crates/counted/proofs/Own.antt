-- Sums over the open pairs are sums over the entries that they stem from.
use Rattle.history.proofs.Words.{◌≡◌, ◌≢◌, ℕ, ◌+◌, ◌≤◌, Bool, true, false, List, [], ◌∷◌, filter, refl, sym, arith}
use Rattle.history.proofs.Words.{if◌then◌else◌, ◌==◌, AllByRecursion, nat_tests, filter-append, Call, Enter, Entry, Pair, entered, has_id}
use Rattle.history.proofs.Words.{changed, sum_of, entries}
use Rattle.history.proofs.Pairs.{origins}
use Rattle.history.proofs.Agrees.{IsOpen}
use Rattle.counted.proofs.Gained.{Selection, picks}

-- ---- sums

-- the same at each
pub sum_of_ext : {X : Type 0} (g k : X → ℕ) (xs : List X) → ((x : X) → k x ≡ g x) → sum_of k xs ≡ sum_of g xs
sum_of_ext g k xs e = λ i. sum_of (λ x. e x i) xs

-- nothing at each
pub sum_of_0 : {X : Type 0} (s : X → Bool) (xs : List X) → sum_of (λ x. if s x then 0 else 0) xs ≡ 0
sum_of_0 s [] = refl
sum_of_0 s (x ∷ xs) = grind (arith, sum_of_0 s xs)

-- a relation of three numbers that adding up keeps
pub record Adds (R : ℕ → ℕ → ℕ → Type 0) : Type 0 where
  pub none : R 0 0 0
  pub plus : (a b c x y z : ℕ) → R a b c → R x y z → R (a + x) (b + y) (c + z)

-- the first is the sum of the others; it is no more than the second
pub is_sum : Adds (λ k a g. k ≡ a + g)
is_sum = record { none = refl; plus = λ a b c x y z l m. omega arith }

pub is_below : Adds (λ k a g. k ≤ a)
is_below = record { none = omega arith; plus = λ a b c x y z l m. omega arith }

-- so it holds under a test, and of sums over a list under one
pub if_adds : {R : ℕ → ℕ → ℕ → Type 0} → Adds R → (b : Bool) (k a g : ℕ) → R k a g
    → R (if b then k else 0) (if b then a else 0) (if b then g else 0)
if_adds adds true k a g r = r
if_adds adds false k a g r = adds.none

pub sum_adds : {X : Type 0} {R : ℕ → ℕ → ℕ → Type 0} → Adds R → (s : X → Bool) (k a g : X → ℕ) (xs : List X)
    → ((x : X) → R (k x) (a x) (g x))
    → R (sum_of (λ x. if s x then k x else 0) xs) (sum_of (λ x. if s x then a x else 0) xs) (sum_of (λ x. if s x then g x else 0) xs)
sum_adds adds s k a g [] each = adds.none
sum_adds adds s k a g (x ∷ xs) each = adds.plus _ _ _ _ _ _ (if_adds adds (s x) _ _ _ (each x)) (sum_adds adds s k a g xs each)

-- ---- the entry of an open pair

abbrev pub selects : Selection → Entry → Bool
selects sel e = picks sel (entered e)

-- a number that counts at the entries of an id counts at their pairs as they were entered
at_entry : (sel : Selection) (i v : ℕ) (h : List Call)
    → sum_of (λ e. if selects sel e then (if i == e.id then v else 0) else 0) (entries h)
    ≡ sum_of (λ q. if picks sel q then v else 0) (filter (has_id i) (origins h))
at_entry sel i v [] = refl
at_entry sel i v (Enter e ∷ h) = grind (arith, nat_tests, at_entry sel i v h)
at_entry sel i v (_ ∷ h) = at_entry sel i v h

-- the pairs of each entry: an open pair stems from one of them
pub each_own : (t last : ℕ) (W : Pair → ℕ) (sel : Selection) (ps : List Pair) (h : List Call) → AllByRecursion (IsOpen h t last) ps
    → sum_of (λ p. if picks sel p then W p else 0) ps
    ≡ sum_of (λ e. if selects sel e then sum_of W (filter (has_id e.id) ps) else 0) (entries h)
each_own t last W sel [] h a = sym (sum_of_0 (selects sel) (entries h))
each_own t last W sel (q ∷ ps) h a =
    let first = rw a.0.stems at (at_entry sel q.id (W q) h) in
    let later = each_own t last W sel ps h a.1 in
    let joined = sum_adds is_sum (selects sel) (λ e. sum_of W (filter (has_id e.id) (q ∷ ps))) (λ e. if has_id e.id q then W q else 0)
    (λ e. sum_of W (filter (has_id e.id) ps)) (entries h) (λ e. grind arith) in
    omega arith

-- ---- the pairs of an id, after a change

-- a change elsewhere
pub unchanged : (i id : ℕ) (f : Pair → List Pair) (ps : List Pair) → i ≢ id → changed id f (filter (has_id i) ps) ≡ filter (has_id i) ps
unchanged i id f [] ne = refl
unchanged i id f (q ∷ ps) ne = grind (arith, nat_tests, unchanged i id f ps ne)

-- a change that leaves only pairs of the same id
pub filter_changed : (i id : ℕ) (f : Pair → List Pair) (ps : List Pair)
    → ((p : Pair) → filter (has_id i) (f p) ≡ (if has_id i p then f p else []))
    → changed id f (filter (has_id i) ps) ≡ filter (has_id i) (changed id f ps)
filter_changed i id f [] keeps = refl
filter_changed i id f (q ∷ ps) keeps =
    grind (arith, nat_tests, keeps q, filter-append (has_id i) (f q) ps, unchanged i id f ps, filter_changed i id f ps keeps)
