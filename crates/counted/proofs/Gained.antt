-- What the postings of the book add to a figure, in plain numbers.
use Rattle.history.proofs.Words.{◌≡◌, ℕ, zero, suc, ◌+◌, ◌^◌, ◌<◌, ◌≤◌, Bool, ◌&&◌, List, [], ◌∷◌, map, filter}
use Rattle.history.proofs.Words.{refl, arith, if◌then◌else◌, ◌==◌, nat_le, nat_lt, AllByRecursion, range_with_len, nat_tests, Cell, Sides}
use Rattle.history.proofs.Words.{Posting, Pair, largest_amount, posting, late_fail, sides_when_late, in_measure, sum_of}
use Rattle.book.specs.Figures as f
use Rattle.counted.specs.PairCalls.{Column, settled, securities, cash, fails, total, isd_value, in_part, in_fail}

-- that figure of a cell, in plain numbers
abbrev pub weight : Column → Cell → ℕ
weight (settled m) x = in_measure m x.settled
weight (securities m) x = in_measure m x.securities
weight (cash m) x = in_measure m x.cash
weight (fails m) x = in_measure m x.securities + in_measure m x.cash
weight (total m) x = in_measure m x.settled + (in_measure m x.securities + in_measure m x.cash)
weight isd_value x = x.isd_value

-- a selection of pairs: by category, deliverer and receiver
abbrev pub Selection : Type 0
Selection = ℕ → ℕ → ℕ → Bool

abbrev pub picks : Selection → Pair → Bool
picks sel p = sel p.category p.deliverer p.receiver

-- what a posting adds to that figure of day d, over the selected pairs; and postings together
abbrev pub gain : Column → Selection → ℕ → Posting → ℕ
gain k sel d x = if sel x.category x.deliverer x.receiver && x.day == d then weight k x.figures else 0

abbrev pub gained : Column → Selection → ℕ → List Posting → ℕ
gained k sel d xs = sum_of (gain k sel d) xs

-- ---- cells, a part, a fail

-- no cell adds anything to it, and two cells both
pub weight_none : (k : Column) → weight k f.none ≡ 0
weight_none k = grind arith

pub weight_sum : (k : Column) (a b : Cell) → weight k a + weight k b < 2 ^ 64 → weight k (f.add_cell a b) ≡ weight k a + weight k b
weight_sum k a b l = grind arith

pub part_weight : (k : Column) (part : ℕ) (first : Bool) → part ≤ largest_amount
    → weight k (f.settled_part part first) ≡ in_part k part first
part_weight k part first l = grind arith

pub fail_weight : (k : Column) (s : Sides) (v : ℕ) (on_isd : Bool) → v ≤ largest_amount
    → weight k (f.fail s v on_isd) ≡ in_fail k s v on_isd
fail_weight k s v on_isd l = grind arith

-- ---- what open pairs post on one day: each that passes a test, its own figures

module _ (k : Column) (sel : Selection) (d t : ℕ) (test : Pair → Bool) (figures : Pair → Cell) (gives : Pair → ℕ) (P : Pair → Type 0)
    (same : (p : Pair) → P p → weight k (figures p) ≡ gives p) where
  pub gained_today : (ps : List Pair) → AllByRecursion P ps
      → gained k sel d (map (λ p. posting t p (figures p)) (filter test ps))
      ≡ sum_of (λ p. if picks sel p then (if d == t && test p then gives p else 0) else 0) ps
  gained_today [] a = refl
  gained_today (p ∷ ps) a = grind (arith, nat_tests, same p a.0, gained_today ps a.1)

-- ---- late fails: n days from a on

pub gained_when_late : (k : Column) (sel : Selection) (d a n : ℕ) (p : Pair) → p.amount ≤ largest_amount
    → gained k sel d (map (late_fail p) (range_with_len a n))
    ≡ (if picks sel p then (if nat_le a d && nat_lt d (a + n) then in_fail k (sides_when_late p.kind p.side) p.amount (d == p.isd) else 0) else 0)
gained_when_late k sel d a zero p l = grind (arith, nat_tests)
gained_when_late k sel d a (suc n) p l =
    grind (arith, nat_tests, fail_weight k (sides_when_late p.kind p.side) p.amount (a == p.isd) l, gained_when_late k sel d (a + 1) n p l)
