-- What every list of calls keeps: the figures are counted from the calls, and there is room for what is open.
use Rattle.history.proofs.Words.{◌≡◌, ℕ, ◌+◌, ◌*◌, ◌<◌, ◌≤◌, Bool, true, ◌&&◌, List, [], ◌∷◌, length, filter}
use Rattle.history.proofs.Words.{arith, if◌then◌else◌, ◌==◌, nat_le, nat_lt, Call, Enter, Settle, Close, Sides, Entry, Pair, Book}
use Rattle.history.proofs.Words.{side_of, is_failing, is_first_part, sides_at_close, sides_when_late, has_id, Measure, Number, Value}
use Rattle.history.proofs.Words.{sum_of, day_of, entries, kind_of}
use Rattle.history.proofs.Agrees.{Kept}
use Rattle.counted.specs.PairCalls.{Column, fails, total, isd_value, in_part, in_fail, open_of, gives, given, counted}
use Rattle.counted.specs.Counted.{most_of_pair, most, measure_of}
use Rattle.counted.proofs.Gained.{Selection}
use Rattle.counted.proofs.Own.{Adds, is_below, if_adds, sum_adds, selects}
use Rattle.counted.proofs.Stores.{Sized, IsStored}

-- ---- figures of one another

-- What holds in each part and in each fail holds of what one call gives, of what all of them give, and over the selected pairs.
module _ {R : ℕ → ℕ → ℕ → Type 0} (adds : Adds R) (k a g : Column)
    (part : (x : ℕ) (first : Bool) → R (in_part k x first) (in_part a x first) (in_part g x first))
    (fail : (s : Sides) (v : ℕ) (on_isd : Bool) → R (in_fail k s v on_isd) (in_fail a s v on_isd) (in_fail g s v on_isd)) where
  gives_adds : (d i t : ℕ) (call : Call) (ps : List Pair) → R (gives k d i t call ps) (gives a d i t call ps) (gives g d i t call ps)
  gives_adds d i t (Enter e) ps =
      if_adds adds (e.id == i && (nat_le e.isd d && nat_lt d t)) _ _ _
      (fail (sides_when_late (kind_of e.kind) (side_of e.side)) e.amount (d == e.isd))
  gives_adds d i t (Settle id x) ps =
      sum_adds adds (λ p. d == t && has_id id p) _ _ _ ps (λ p. part x (is_first_part t p.last_part))
  gives_adds d i t Close ps =
      sum_adds adds (λ p. d == t && is_failing t p) _ _ _ ps (λ p. fail (sides_at_close p.kind p.holds p.lack) p.rest (t == p.isd))
  gives_adds d i t _ ps = adds.none

  given_adds : (d i : ℕ) (h : List Call) → R (given k d i h) (given a d i h) (given g d i h)
  given_adds d i [] = adds.none
  given_adds d i (call ∷ h) = adds.plus _ _ _ _ _ _ (gives_adds d i (day_of h) call (open_of i h)) (given_adds d i h)

  pub counted_adds : (s : Entry → Bool) (d : ℕ) (h : List Call) → R (counted k s d h) (counted a s d h) (counted g s d h)
  counted_adds s d h = sum_adds adds s _ _ _ (entries h) (λ e. given_adds d e.id h)

-- Each figure is a part of the total,
pub part_of_total : (k : Column) (s : Entry → Bool) (d : ℕ) (h : List Call) → counted k s d h ≤ counted (total (measure_of k)) s d h
part_of_total k = counted_adds is_below k (total (measure_of k)) k (λ x b. grind arith) (λ s v b. grind arith)

-- and ISD value of the fails.
pub isd_le : (s : Entry → Bool) (d : ℕ) (h : List Call) → counted isd_value s d h ≤ counted (fails Value) s d h
isd_le = counted_adds is_below isd_value (fails Value) isd_value (λ x b. omega arith) (λ s v b. grind arith)

-- ---- what is kept

-- what an open pair can still give on day d, where today is t
abbrev pub room : Measure → ℕ → ℕ → Pair → ℕ
room Number t d p = if d == t then 2 + (if is_first_part t p.last_part then 2 else 0) else 4
room Value t d p = 2 * p.rest

-- nothing on a day that is closed
abbrev pub left : Measure → ℕ → ℕ → Pair → ℕ
left m t d p = if nat_lt d t then 0 else room m t d p

-- every pair is selected
abbrev pub every_pair : Selection
every_pair c d r = true

-- a pair's calls give no more than the most, and there is room for what is open
abbrev pub HasRoom : List Call → Type 0
HasRoom h = (m : Measure) (d i : ℕ) → given (total m) d i h + sum_of (left m (day_of h) d) (open_of i h) ≤ most_of_pair m

-- the pairs of the book are replayed from the calls, there is room, and what is stored is counted
pub record Counts (h : List Call) (b : Book) : Type 0 where
  pub sized : Sized b
  pub replayed : (i : ℕ) → open_of i h ≡ filter (has_id i) b.pairs.items
  pub unused : (k : Column) (d i : ℕ) → b.last_id < i → given k d i h ≡ 0
  pub room : HasRoom h
  pub figures : (k : Column) (sel : Selection) (d : ℕ) (read : Book → ℕ) → IsStored k sel d read → read b ≡ counted k (selects sel) d h

pub record Known (h : List Call) (b : Book) : Type 0 where
  pub kept : Kept h b
  pub counts : Counts h b

-- so no figure passes what all pairs give at the most, while there are no more pairs than ids
pub bound : (h : List Call) (b : Book) → Kept h b → HasRoom h → (k : Column) (s : Entry → Bool) (d : ℕ)
    → counted k s d h ≤ most (measure_of k)
bound h b kept room k s d =
    let few = kept.few in
    let last = kept.last_id in
    let top : most_of_pair (measure_of k) * length (entries h) ≤ most (measure_of k) = grind arith in
    omega (arith, part_of_total k s d h, at_most (entries h))
  where
    at_most : (es : List Entry)
        → sum_of (λ e. if s e then given (total (measure_of k)) d e.id h else 0) es ≤ most_of_pair (measure_of k) * length es
    at_most [] = omega arith
    at_most (e ∷ es) = grind (arith, room (measure_of k) d e.id, at_most es)

-- far below the cap
pub most_small : (m : Measure) → most m ≤ most Value
most_small m = grind arith
