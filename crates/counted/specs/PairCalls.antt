-- What a pair's own calls give on a day, in plain numbers, and the sum of that over pairs. docs/RULES.md, 'The calls' and
-- 'A row'.
use Rattle.std.specs.Prelude.{ℕ, ◌+◌, ◌*◌, Bool, ◌&&◌, ◌==◌, nat_le, nat_lt, List, [], ◌∷◌, ◌++◌, if◌then◌else◌}
use Rattle.book.specs.declared.calls.Call.{Call}
use Rattle.book.specs.declared.calls.Call.TheVariants.{Enter, Settle, Close}
use Rattle.book.specs.declared.pairs.Entry.{Entry}
use Rattle.book.specs.declared.pairs.Pair.{Pair}
use Rattle.book.specs.declared.sides.Sides.{Sides}
use Rattle.book.specs.declared.sides.Sides.TheVariants.{Securities, Cash, OneEach}
use Rattle.book.specs.Pairs.{kind_of, side_of, entered}
use Rattle.book.specs.Sides.{sides_at_close, sides_when_late}
use Rattle.book.specs.Answers.{has_id}
use Rattle.book.specs.Postings.{is_failing, is_first_part}
use Rattle.book.specs.Book.{on_id, becomes, changed}
use Rattle.history.specs.History.{day_of}
use Rattle.book.specs.declared.figures.Measure.{Measure}
use Rattle.book.specs.declared.figures.Measure.TheVariants.{Number, Value}
use Rattle.history.specs.Sums.{of_two, sum_of, over_pairs}

-- a figure of a day: settled, securities fails, cash fails, both fails, total, each in number and value; and ISD value
pub data Column : Type 0 where
  settled securities cash fails total : Measure → Column
  isd_value : Column

-- ---- what a part and a fail add to it

-- twice the part as settled value, and 2 SIs settled if it is the pair's first part that day
abbrev pub of_part : Measure → ℕ → Bool → ℕ
of_part Number part first = if first then 2 else 0
of_part Value part first = 2 * part

-- what a part adds to each figure
abbrev pub in_part : Column → ℕ → Bool → ℕ
in_part (settled m) part first = of_part m part first
in_part (total m) part first = of_part m part first
in_part _ part first = 0

-- one SI worth v cents
abbrev pub of_one : Measure → ℕ → ℕ
of_one Number v = 1
of_one Value v = v

-- the SIs of a fail that go to securities: both, none, or one
abbrev pub in_securities : Measure → Sides → ℕ → ℕ
in_securities m Securities v = of_two m v
in_securities m Cash v = 0
in_securities m OneEach v = of_one m v

-- and to cash
abbrev pub in_cash : Measure → Sides → ℕ → ℕ
in_cash m Securities v = 0
in_cash m Cash v = of_two m v
in_cash m OneEach v = of_one m v

-- the two SIs of a fail, worth v each; ISD value where it is counted on its own ISD
abbrev pub in_fail : Column → Sides → ℕ → Bool → ℕ
in_fail (settled m) s v on_isd = 0
in_fail (securities m) s v on_isd = in_securities m s v
in_fail (cash m) s v on_isd = in_cash m s v
in_fail (fails m) s v on_isd = of_two m v
in_fail (total m) s v on_isd = of_two m v
in_fail isd_value s v on_isd = if on_isd then 2 * v else 0

-- ---- one pair; h are the accepted calls, the latest first

-- the pair of id i while it is open, after a call on day t
abbrev pub open_after : ℕ → ℕ → Call → List Pair → List Pair
open_after i t (Enter e) ps = if e.id == i then ps ++ entered e ∷ [] else ps
open_after i t Close ps = ps
open_after i t call ps = changed (on_id call) (becomes call t) ps

-- after all of them, replayed: one pair, or none
abbrev pub open_of : ℕ → List Call → List Pair
open_of i [] = []
open_of i (call ∷ h) = open_after i (day_of h) call (open_of i h)

-- what a call on day t gives it on day d: as a late pair, by a part, by failing at a close
abbrev pub gives : Column → ℕ → ℕ → ℕ → Call → List Pair → ℕ
gives k d i t (Enter e) ps =
    if e.id == i && (nat_le e.isd d && nat_lt d t) then in_fail k (sides_when_late (kind_of e.kind) (side_of e.side)) e.amount (d == e.isd) else 0
gives k d i t (Settle id part) ps = sum_of (λ p. if d == t && has_id id p then in_part k part (is_first_part t p.last_part) else 0) ps
gives k d i t Close ps = sum_of (λ p. if d == t && is_failing t p then in_fail k (sides_at_close p.kind p.holds p.lack) p.rest (t == p.isd) else 0) ps
gives k d i t _ ps = 0

-- what all its own calls give
abbrev pub given : Column → ℕ → ℕ → List Call → ℕ
given k d i [] = 0
given k d i (call ∷ h) = gives k d i (day_of h) call (open_of i h) + given k d i h

-- ---- the selected pairs together

-- a figure of day d: the sum of what the selected pairs' own calls give
abbrev pub counted : Column → (Entry → Bool) → ℕ → List Call → ℕ
counted k selects d h = over_pairs selects (λ e. given k d e.id h) h
