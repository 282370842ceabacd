-- The days that a program is asked for, and the run of days that a text is over.
use Rattle.std.specs.Prelude.{ℕ, ◌+◌, ◌-◌, ◌*◌, min, List, [], ◌∷◌, Option, None, Some, if◌then◌else◌}
use Rattle.std.specs.Char.{is_ascii_digit}
use Rattle.book.specs.Limits.{day_limit}
use Rattle.monitor.specs.declared.days.Days.{Days}
use Rattle.monitor.specs.declared.days.Days.TheVariants.{AllClosed, FromTo}

-- The number that digits stand for, where v is what was read before them. A number over 63 is no day, and counts as 64, which
-- is never closed.
abbrev pub day_from : ℕ → List ℕ → Option ℕ
day_from v [] = Some v
day_from v (b ∷ bs) = if is_ascii_digit b then day_from (min (v * 10 + (b - 48)) day_limit) bs else None

-- one digit or more, and no other byte
abbrev pub parse_day : List ℕ → Option ℕ
parse_day [] = None
parse_day (b ∷ bs) = day_from 0 (b ∷ bs)

-- from the first to the last, or all closed days; where none is closed, day 0, which is refused
abbrev pub first_and_last : ℕ → Days → ℕ × ℕ
first_and_last today AllClosed = (0, today - 1)
first_and_last today (FromTo first last) = (first, last)
