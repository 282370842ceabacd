-- The figures of a day, by category and by participant, and how they take a posting. docs/RULES.md, 'A row'.
use Rattle.std.specs.Prelude.{ℕ, ◌+◌, ◌*◌, ◌-◌, Bool, ◌==◌, if◌then◌else◌, List, slice_index_or, slice_set}
pub use Rattle.rates.specs.Stored.{capped}
use Rattle.book.specs.Limits.{category_count, largest_code}
pub use Rattle.book.specs.declared.figures.Figure.{Figure}
pub use Rattle.book.specs.declared.figures.Cell.{Cell}
pub use Rattle.book.specs.declared.figures.Summary.{Summary}
use Rattle.book.specs.declared.sides.Sides.{Sides}
use Rattle.book.specs.declared.sides.Sides.TheVariants.{Securities, Cash, OneEach}
pub use Rattle.book.specs.declared.figures.Posting.{Posting}
use Rattle.book.specs.declared.figures.Measure.{Measure}
use Rattle.book.specs.declared.figures.Measure.TheVariants.{Number, Value}

-- ---- figures

-- a figure in a measure: in number of SIs, or in value in cents
abbrev pub in_measure : Measure → Figure → ℕ
in_measure Number f = f.number
in_measure Value f = f.value

-- the sum of two figures, as it is stored
abbrev pub add_figure : Figure → Figure → Figure
add_figure a b = record { number = capped (a.number + b.number); value = capped (a.value + b.value) }

-- the same of cells, figure by figure
abbrev pub add_cell : Cell → Cell → Cell
add_cell a b = record {
  settled = add_figure a.settled b.settled;
  securities = add_figure a.securities b.securities;
  cash = add_figure a.cash b.cash;
  isd_value = capped (a.isd_value + b.isd_value);
}

-- and of summaries
abbrev pub add_summary : Summary → Summary → Summary
add_summary a b = record { total = add_figure a.total b.total; fails = add_figure a.fails b.fails }

-- nothing is counted: a figure, a cell, a summary
abbrev pub nothing : Figure
nothing = record { number = 0; value = 0 }

abbrev pub none : Cell
none = record { settled = nothing; securities = nothing; cash = nothing; isd_value = 0 }

abbrev pub no_summary : Summary
no_summary = record { total = nothing; fails = nothing }

-- ---- what a pair adds

-- twice the part as settled value, and 2 SIs settled if it is the pair's first part today
abbrev pub settled_part : ℕ → Bool → Cell
settled_part part first = record none { settled = record { number = (if first then 2 else 0); value = capped (part * 2) } }

-- two SIs, and one, worth a value each
abbrev pub two : ℕ → Figure
two value = record { number = 2; value = capped (value * 2) }

abbrev pub one : ℕ → Figure
one value = record { number = 1; value = value }

-- what a fail adds to securities, and to cash
abbrev pub in_securities : Sides → ℕ → Figure
in_securities Securities value = two value
in_securities Cash value = nothing
in_securities OneEach value = one value

abbrev pub in_cash : Sides → ℕ → Figure
in_cash Securities value = nothing
in_cash Cash value = two value
in_cash OneEach value = one value

-- a fail of two SIs worth a value each
abbrev pub fail : Sides → ℕ → Bool → Cell
fail sides value on_isd = record {
  settled = nothing;
  securities = in_securities sides value;
  cash = in_cash sides value;
  isd_value = (if on_isd then capped (value * 2) else 0);
}

-- what a participant's summary gains where a cell gains these
abbrev pub summary_of : Cell → Summary
summary_of c =
    let fails = add_figure c.securities c.cash in
    record { total = add_figure c.settled fails; fails = fails }

-- ---- where it is counted

-- number n of a day, counted from 1, where so many lie to a day
abbrev pub place : ℕ → ℕ → ℕ → ℕ
place to_a_day day n = day * to_a_day + (n - 1)

-- The cell of the posting's day and category gains its figures.
abbrev pub post : List Cell → Posting → List Cell
post cells x =
    let at = place category_count x.day x.category in
    slice_set cells at (add_cell (slice_index_or cells at none) x.figures)

-- the summary of a day and participant gains
abbrev pub gains_at : ℕ → ℕ → Summary → List Summary → List Summary
gains_at day code gained summaries =
    let at = place largest_code day code in
    slice_set summaries at (add_summary (slice_index_or summaries at no_summary) gained)

-- The summaries of both its participants gain them, once where they are one.
abbrev pub post_summary : List Summary → Posting → List Summary
post_summary summaries x =
    let gained = summary_of x.figures in
    let first = gains_at x.day x.deliverer gained summaries in
    if x.receiver == x.deliverer then first else gains_at x.day x.receiver gained first
