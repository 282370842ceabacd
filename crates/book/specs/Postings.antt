-- What an accepted call adds to the figures: postings. docs/RULES.md, 'The calls'.
use Rattle.std.specs.Prelude.{ℕ, ◌-◌, Bool, true, not, nat_le, ◌==◌, List, [], map, filter, Option, None, Some}
use Rattle.std.specs.List.{range_with_len}
use Rattle.std.specs.Option.{option_to_list}
use Rattle.book.specs.Pairs.{Pair, entered}
use Rattle.book.specs.Sides.{sides_at_close, sides_when_late}
use Rattle.book.specs.Figures.{Cell, settled_part, fail}
use Rattle.book.specs.Calls.{Call}
use Rattle.book.specs.declared.calls.Call.TheVariants.{Enter, Settle, Close}
use Rattle.book.specs.declared.book.Book.{Book}
use Rattle.book.specs.Answers.{pair_of}
pub use Rattle.book.specs.declared.figures.Posting.{Posting}

-- A day, what the pair counts for, and the figures that are gained there.
abbrev pub posting : ℕ → Pair → Cell → Posting
posting day p figures = record { day = day; category = p.category; deliverer = p.deliverer; receiver = p.receiver; figures = figures }

-- ---- enter

-- the fail of a late pair on a day before its matching, at full value
abbrev pub late_fail : Pair → ℕ → Posting
late_fail p day = posting day p (fail (sides_when_late p.kind p.side) p.amount (day == p.isd))

-- If the ISD is before today the pair is late: each day from ISD to yesterday gains its two SIs as fails.
abbrev pub late_fails : ℕ → Pair → List Posting
late_fails today p = map (late_fail p) (range_with_len p.isd (today - p.isd))

-- ---- settle

-- no part settled on that day before
abbrev pub is_first_part : ℕ → Option ℕ → Bool
is_first_part today None = true
is_first_part today (Some day) = not (day == today)

-- Today gains the part.
abbrev pub part_posting : ℕ → ℕ → Pair → Posting
part_posting today part p = posting today p (settled_part part (is_first_part today p.last_part))

-- ---- close

-- the pair is due
abbrev pub is_failing : ℕ → Pair → Bool
is_failing today p = nat_le p.isd today

-- Close counts each open pair with ISD ≤ today as failing, 2 SIs and twice the rest.
abbrev pub fail_today : ℕ → Pair → Posting
fail_today today p = posting today p (fail (sides_at_close p.kind p.holds p.lack) p.rest (today == p.isd))

-- those of the pairs that fail
abbrev pub fails_of : ℕ → List Pair → List Posting
fails_of today pairs = map (fail_today today) (filter (is_failing today) pairs)

-- ---- any call

-- A call that is not listed posts nothing.
abbrev pub postings : Call → Book → List Posting
postings (Enter e) b = late_fails b.today (entered e)
postings (Settle id part) b = map (part_posting b.today part) (option_to_list (pair_of id b.pairs.items))
postings Close b = fails_of b.today b.pairs.items
postings _ b = []
