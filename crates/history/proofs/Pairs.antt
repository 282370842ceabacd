-- Sums over the open pairs, what holds of the pair of an id, and the pair as it was entered.
use Rattle.history.proofs.Words.{◌≡◌, ◌≤◌, ◌∷◌, AllByRecursion, day_limit, category_count, largest_amount, largest_code}
use Rattle.history.proofs.Words.{ℕ, false, List, [], None, Some, arith, Pair, Call, Enter, sum_of}
use Rattle.history.proofs.Words.{◌+◌, ◌<◌, ◌++◌, entered, pair_of}
use Rattle.book.specs.declared.pairs.Lack.TheVariants as lack

-- ---- sums over the pairs

-- a sum over two lists, one behind the other
pub sum_of-append : {X : Type 0} (f : X → ℕ) (xs ys : List X) → sum_of f (xs ++ ys) ≡ sum_of f xs + sum_of f ys
sum_of-append f [] ys = omega arith
sum_of-append f (x ∷ xs) ys = omega (arith, sum_of-append f xs ys)

-- what holds of every pair holds of the pair of an id
pub all_of_pair : (P : Pair → Type 0) (id : ℕ) (ps : List Pair) (p : Pair) → AllByRecursion P ps → pair_of id ps ≡ Some p → P p
all_of_pair P id [] p a h = absurd (cc)
all_of_pair P id (q ∷ ps) p a h = grind (arith, a.0, all_of_pair P id ps p a.1)

-- ---- the pair as it was entered

-- but for its holds and its lack, which change no reading
abbrev pub unheld : Pair → Pair
unheld p = record p { holds = record { deliverer = false; receiver = false }; lack = lack.Nothing }

-- All of its amount is open, and it has no hold, no lack and no part. So no call but its enter changes it, and a further field of
-- a pair that no call changes is in it without a word.
abbrev pub as_entered : Pair → Pair
as_entered p = record (unheld p) { rest = p.amount; last_part = None }

-- one pair more, where the call is an enter
abbrev pub with_origin : Call → List Pair → List Pair
with_origin (Enter e) ps = entered e ∷ ps
with_origin _ ps = ps

-- the pairs of a history as they were entered
abbrev pub origins : List Call → List Pair
origins [] = []
origins (call ∷ h) = with_origin call (origins h)

-- a participant's code
pub record IsCode (n : ℕ) : Type 0 where
  pub low : 1 ≤ n
  pub high : n ≤ largest_code

-- its values are in their ranges
pub record IsSound (p : Pair) : Type 0 where
  pub low : 1 ≤ p.category
  pub high : p.category ≤ category_count
  pub isd : p.isd < day_limit
  pub amount : p.amount ≤ largest_amount
  pub deliverer : IsCode p.deliverer
  pub receiver : IsCode p.receiver
