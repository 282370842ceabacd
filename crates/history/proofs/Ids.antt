-- Ids: no two open pairs share one.
use Rattle.history.proofs.Words.{◌≡◌, ◌≢◌, ℕ, ◌+◌, ◌<◌, ◌≤◌, true, false, List, [], ◌∷◌, ◌++◌, length, filter}
use Rattle.history.proofs.Words.{None, Some, refl, arith, if◌then◌else◌, ◌==◌, AllByRecursion, option_to_list, filter-append}
use Rattle.history.proofs.Words.{nat_tests, Call, Pair, has_id, pair_of, changed, length-append, cancelled_before}
use Rattle.std.proofs.lemmas.List.{nil_from_length}
use Rattle.history.specs.History.{cancels}

-- ---- numbers

pub plus_left : (n : ℕ) → 0 + n ≡ n
plus_left n = omega arith

pub eq-own : (id i : ℕ) → i ≡ id → (id == i) ≡ true
eq-own id i same = grind (arith, nat_tests)

pub eq-other : (id i : ℕ) → i ≢ id → (id == i) ≡ false
eq-other id i other = grind (arith, nat_tests)

-- ---- cancels

abbrev pub NoCancel : ℕ → List Call → Type 0
NoCancel i h = AllByRecursion (λ call. cancels i call ≡ false) h

pub not_before : (i d : ℕ) (h : List Call) → NoCancel i h → cancelled_before i d h ≡ false
not_before i d [] n = refl
not_before i d (call ∷ h) n = rw n.0 (not_before i d h n.1)

-- ---- the open pairs

-- no two share an id
abbrev pub AreApart : List Pair → Type 0
AreApart ps = (i : ℕ) → length (filter (has_id i) ps) ≤ 1

pub id-pair_of : (id : ℕ) (ps : List Pair) (p : Pair) → pair_of id ps ≡ Some p → p.id ≡ id
id-pair_of id [] p h = absurd (cc)
id-pair_of id (q ∷ ps) p h = grind (arith, nat_tests, id-pair_of id ps p)

-- no pair has an id above the last
pub none_found : (last i : ℕ) (ps : List Pair) → AllByRecursion (λ p. p.id ≤ last) ps → last < i → pair_of i ps ≡ None
none_found last i [] a l = refl
none_found last i (p ∷ ps) a l = grind (arith, nat_tests, a.0, none_found last i ps a.1 l)

-- the pairs of an id are the one that is found, or none
pub filter-has_id : (id : ℕ) (ps : List Pair) → AreApart ps → filter (has_id id) ps ≡ option_to_list (pair_of id ps)
filter-has_id id ps a = alone ps (a id)
  where
    alone : (ps : List Pair) → length (filter (has_id id) ps) ≤ 1 → filter (has_id id) ps ≡ option_to_list (pair_of id ps)
    alone [] l = refl
    alone (q ∷ ps) l = grind (arith, nat_tests, nil_from_length (filter (has_id id) ps), alone ps)

-- ---- what holds of each

pub all-map : {X : Type 0} (P Q : X → Type 0) (xs : List X) → ((x : X) → P x → Q x) → AllByRecursion P xs → AllByRecursion Q xs
all-map P Q [] f a = tt
all-map P Q (x ∷ xs) f a = (f x a.0, all-map P Q xs f a.1)

pub all-both : {X : Type 0} (P R Q : X → Type 0) (xs : List X) → ((x : X) → P x → R x → Q x) → AllByRecursion P xs → AllByRecursion R xs
    → AllByRecursion Q xs
all-both P R Q [] f a b = tt
all-both P R Q (x ∷ xs) f a b = (f x a.0 b.0, all-both P R Q xs f a.1 b.1)

pub all-append : {X : Type 0} (P : X → Type 0) (xs ys : List X) → AllByRecursion P xs → AllByRecursion P ys → AllByRecursion P (xs ++ ys)
all-append P [] ys a b = b
all-append P (x ∷ xs) ys a b = (a.0, all-append P xs ys a.1 b)

-- what holds of the pair that changes, and of each other
pub all_changed : (P Q : Pair → Type 0) (id : ℕ) (f : Pair → List Pair) (ps : List Pair) → AllByRecursion P ps
    → length (filter (has_id id) ps) ≤ 1
    → ((q : Pair) → q.id ≢ id → P q → Q q)
    → ((p : Pair) → pair_of id ps ≡ Some p → P p → AllByRecursion Q (f p))
    → AllByRecursion Q (changed id f ps)
all_changed P Q id f [] a one other own = tt
all_changed P Q id f (q ∷ ps) a one other own =
    let later = all_changed P Q id f ps a.1 in
    grind (arith, nat_tests, a.0, other q, own, all-append Q (f q) ps, others ps a.1, later)
  where
    others : (ps : List Pair) → AllByRecursion P ps → length (filter (has_id id) ps) ≤ 0 → AllByRecursion Q ps
    others [] a l = tt
    others (p ∷ ps) a l = (other p (grind (arith, nat_tests)) a.0, others ps a.1 (grind (arith, nat_tests)))

-- a change that leaves the pair under its id, or nothing
pub apart_changed : (id : ℕ) (f : Pair → List Pair) (ps : List Pair)
    → ((i : ℕ) (p : Pair) → length (filter (has_id i) (f p)) ≤ (if has_id i p then 1 else 0)) → AreApart ps → AreApart (changed id f ps)
apart_changed id f ps under apart i = omega (arith, fewer ps, apart i)
  where
    fewer : (ps : List Pair) → length (filter (has_id i) (changed id f ps)) ≤ length (filter (has_id i) ps)
    fewer [] = omega arith
    fewer (p ∷ ps) = grind (arith, under i p, fewer ps, filter-append (has_id i) (f p) ps, length-append {A = Pair})

-- one more pair, under a new id
pub apart_push : (last : ℕ) (ps : List Pair) (p : Pair) → AllByRecursion (λ q. q.id ≤ last) ps → last < p.id → AreApart ps
    → AreApart (ps ++ p ∷ [])
apart_push last ps p a l apart i =
    let none = none_found last i ps a in
    let pairs = filter-has_id i ps apart in
    simp (filter-append, length-append) (grind (arith, nat_tests, apart i))
