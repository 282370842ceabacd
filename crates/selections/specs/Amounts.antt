-- For each pair: amount = parts settled + rest at its cancel + open rest.
use Rattle.std.specs.Prelude.{◌≡◌, ℕ, ◌+◌, List, [], ◌∷◌, if◌then◌else◌}
use Rattle.std.specs.List.{AllByRecursion}
use Rattle.book.specs.declared.calls.Call.{Call}
use Rattle.book.specs.declared.pairs.Entry.{Entry}
use Rattle.history.specs.History.{entries, parts, cancels, history_of}
use Rattle.history.specs.Sums.{sum_of}
use Rattle.counted.specs.PairCalls.{open_of}
use Rattle.selections.specs.Readings.{rest_of}

-- the rest at its cancel, 0 where it has none
abbrev pub at_cancel : Entry → List Call → ℕ
at_cancel e [] = 0
at_cancel e (call ∷ h) = if cancels e.id call then rest_of e h else at_cancel e h

-- amount = parts settled + rest at its cancel + open rest
abbrev pub IsKept : List Call → Entry → Type 0
IsKept h e = e.amount ≡ parts e.id h + at_cancel e h + sum_of (λ p. p.rest) (open_of e.id h)

-- So it is of each pair after every list of calls.
abbrev pub AmountsAreKept : Type 0
AmountsAreKept = (calls : List Call) → AllByRecursion (IsKept (history_of calls)) (entries (history_of calls))
