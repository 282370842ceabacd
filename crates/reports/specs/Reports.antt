-- A report: the sums of the rows of a run of days, its fail rates and its average duration, and when it is given. docs/RULES.md, 'A report'.
use Rattle.std.specs.Prelude.{ℕ, Bool, not, ◌&&◌, nat_le, nat_lt, option_map, List, [], ◌∷◌, map, Result, Ok, Err}
use Rattle.rates.specs.Stored.{capped}
use Rattle.rates.specs.Rate.{rate, duration}
use Rattle.book.specs.declared.book.Book.{Book}
use Rattle.book.specs.declared.calls.Refusal.{Refusal}
use Rattle.book.specs.declared.calls.Refusal.TheVariants.{OutOfRange, NotClosed}
use Rattle.book.specs.declared.rows.Row.{Row}
use Rattle.book.specs.Limits.{category_count}
use Rattle.book.specs.Rules.{rule, first_of}
use Rattle.book.specs.Figures.{add_figure}
use Rattle.book.specs.Rows.{is_closed}
use Rattle.counted.specs.Counted.{row_at}
use Rattle.reports.specs.declared.report.Report.{Report}
use Rattle.reports.specs.Sums.{days, sums_of}

-- The fail rate is the fails, securities and cash together, to the total, by number and by value. The duration is the sum of
-- fail values divided by the sum of ISD values.
abbrev pub report_of : Row → Report
report_of sums =
    let fails = add_figure sums.securities sums.cash in
    record {
      sums = sums;
      rate_by_number = capped (rate fails.number sums.total.number);
      rate_by_value = capped (rate fails.value sums.total.value);
      duration = option_map capped (duration fails.value sums.isd_value);
    }

-- the rows of a run of days and a category, 0 for all nine together, of any book
abbrev pub rows_of : ℕ → ℕ → ℕ → Book → List Row
rows_of first last category b = map (λ day. row_at b day category) (days first last)

-- from first to last closed day
abbrev pub is_run : ℕ → ℕ → Book → Bool
is_run first last b = nat_le first last && is_closed last b

-- A report is given for category 0 to 9 and a run of closed days: category over 9 is 2, first after last or last not closed 9.
abbrev pub report_answer : ℕ → ℕ → ℕ → Book → Result Report Refusal
report_answer first last category b = first_of (
    rule (nat_lt category_count category) (Err OutOfRange)
    ∷ rule (not (is_run first last b)) (Err NotClosed)
    ∷ []) (Ok (report_of (sums_of (rows_of first last category b))))
