-- A row and a summary, as they are given for a closed day. docs/RULES.md, 'A row'.
use Rattle.std.specs.Prelude.{ℕ, Bool, not, ◌&&◌, nat_lt, ◌==◌, List, [], ◌∷◌, take, drop, slice_index_or, if◌then◌else◌, Result, Ok, Err}
use Rattle.std.specs.List.{fold}
use Rattle.book.specs.Limits.{day_limit, category_count, largest_code}
use Rattle.book.specs.Rules.{rule, first_of}
use Rattle.book.specs.Pairs.{is_within}
use Rattle.book.specs.Figures.{Cell, Summary, none, no_summary, place, add_cell, add_figure}
use Rattle.book.specs.Calls.{Refusal}
use Rattle.book.specs.declared.calls.Refusal.TheVariants.{OutOfRange, NotClosed}
use Rattle.book.specs.declared.book.Book.{Book}
pub use Rattle.book.specs.declared.rows.Row.{Row}

-- Total is the sum of settled, securities fails and cash fails.
abbrev pub row_of : Cell → Row
row_of c = record {
  total = add_figure c.settled (add_figure c.securities c.cash);
  settled = c.settled;
  securities = c.securities;
  cash = c.cash;
  isd_value = c.isd_value;
}

-- category 0 is all nine together, another its own
abbrev pub figures_of : List Cell → ℕ → ℕ → Cell
figures_of cells day category =
    if category == 0 then fold add_cell none (take category_count (drop (place category_count day 1) cells))
    else slice_index_or cells (place category_count day category) none

-- A day is closed before today; there are 64.
abbrev pub is_closed : ℕ → Book → Bool
is_closed day b = nat_lt day b.today && nat_lt day day_limit

-- The row is given for a closed day only: a category over 9 is 2, a day not closed 9.
abbrev pub row_answer : ℕ → ℕ → Book → Result Row Refusal
row_answer day category b = first_of (
    rule (nat_lt category_count category) (Err OutOfRange)
    ∷ rule (not (is_closed day b)) (Err NotClosed)
    ∷ []) (Ok (row_of (figures_of b.cells day category)))

-- ---- participants

-- the summary of a day and participant
abbrev pub summary_at : List Summary → ℕ → ℕ → Summary
summary_at summaries day code = slice_index_or summaries (place largest_code day code) no_summary

-- A summary too is given for a closed day only: a code outside 1 to 40 is 2, a day not closed 9.
abbrev pub summary_answer : ℕ → ℕ → Book → Result Summary Refusal
summary_answer day code b = first_of (
    rule (not (is_within 1 largest_code code)) (Err OutOfRange)
    ∷ rule (not (is_closed day b)) (Err NotClosed)
    ∷ []) (Ok (summary_at b.summaries day code))
