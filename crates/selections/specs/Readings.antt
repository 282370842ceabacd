-- The readings of the daily balance, of one pair on a day: newly due, cancelled and part-settled. They come from the calls and
-- their answers alone. docs/RULES.md, 'The daily balance'.
use Rattle.std.specs.Prelude.{ℕ, ◌-◌, not, ◌&&◌, ◌==◌, nat_le, nat_lt, List, [], ◌∷◌, if◌then◌else◌}
use Rattle.book.specs.declared.calls.Call.{Call}
use Rattle.book.specs.declared.pairs.Entry.{Entry}
use Rattle.history.specs.History.{is_close, day_of, parts, settled_on, cancels, cancelled_on, cancelled_before}
use Rattle.book.specs.declared.figures.Measure.{Measure}
use Rattle.book.specs.declared.figures.Measure.TheVariants.{Number, Value}
use Rattle.history.specs.Sums.{of_two}

-- Its rest at a call is its amount less the parts that settled before that call: here at a call that follows h.
abbrev pub rest_of : Entry → List Call → ℕ
rest_of e h = e.amount - parts e.id h

-- its rest at its cancel on day d, 0 where it has none
abbrev pub rest_at_cancel : Entry → ℕ → List Call → ℕ
rest_at_cancel e d [] = 0
rest_at_cancel e d (call ∷ h) = if cancels e.id call && day_of h == d then rest_of e h else rest_at_cancel e d h

-- its rest at the close of day d
abbrev pub rest_at_close : Entry → ℕ → List Call → ℕ
rest_at_close e d [] = 0
rest_at_close e d (call ∷ h) = if is_close call && day_of h == d then rest_of e h else rest_at_close e d h

-- Newly due: the pair with that ISD and no cancel on an earlier day, a late one too, 2 SIs and twice the amount.
abbrev pub due_of : Measure → ℕ → List Call → Entry → ℕ
due_of m d h e = if e.isd == d && not (cancelled_before e.id d h) then of_two m e.amount else 0

-- Cancelled: the pair with ISD ≤ that day and a cancel on it, 2 SIs and twice the rest at that cancel.
abbrev pub cancelled_of : Measure → ℕ → List Call → Entry → ℕ
cancelled_of m d h e = if nat_le e.isd d && cancelled_on e.id d h then of_two m (rest_at_cancel e d h) else 0

-- Part-settled: the pair with a settle on that day and a rest above 0 at its close, 2 SIs, in number alone.
abbrev pub part_settled_of : Measure → ℕ → List Call → Entry → ℕ
part_settled_of Number d h e = if settled_on e.id d h && nat_lt 0 (rest_at_close e d h) then 2 else 0
part_settled_of Value d h e = 0
