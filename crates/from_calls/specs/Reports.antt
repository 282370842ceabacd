-- Reports, read off the calls and their answers: the formulas of docs/RULES.md, 'A report', over plain sums. No cap is reached.
use Rattle.std.specs.Prelude.{◌≡◌, ℕ, ◌+◌, ◌≤◌, List, sum_by, Some, Ok, Err, if◌then◌else◌}
use Rattle.rates.specs.Rate.{rate, duration}
use Rattle.book.specs.Limits.{category_count}
use Rattle.book.specs.declared.calls.Call.{Call}
use Rattle.book.specs.declared.calls.Refusal.TheVariants.{NotClosed}
use Rattle.history.specs.History.{book_of, history_of}
use Rattle.book.specs.declared.figures.Measure.{Measure}
use Rattle.book.specs.declared.figures.Measure.TheVariants.{Number, Value}
use Rattle.book.specs.Figures.{in_measure}
use Rattle.history.specs.Sums.{in_both, counts}
use Rattle.counted.specs.PairCalls.{Column, settled, securities, cash, fails, total, isd_value}
use Rattle.counted.specs.Counted.{column}
use Rattle.reports.specs.declared.report.Report.{Report}
use Rattle.reports.specs.Reports.{rows_of, report_answer}
use Rattle.from_calls.specs.Sums.{counted_over, is_closed_run}

-- The report of a run of days and a category, 0 for all nine together, of the accepted calls.
abbrev pub counted_report : ℕ → ℕ → ℕ → List Call → Report
counted_report first last category h =
    let over : Column → ℕ = λ k. counted_over k (counts category) first last h in
    record {
      sums = record {
        total = in_both (λ m. over (total m));
        settled = in_both (λ m. over (settled m));
        securities = in_both (λ m. over (securities m));
        cash = in_both (λ m. over (cash m));
        isd_value = over isd_value;
      };
      rate_by_number = rate (over (fails Number)) (over (total Number));
      rate_by_value = rate (over (fails Value)) (over (total Value));
      duration = duration (over (fails Value)) (over isd_value);
    }

-- Which report is given, and each of its numbers.
abbrev pub ReportsFromCalls : Type 0
ReportsFromCalls =
    (calls : List Call) (first last category : ℕ) → category ≤ category_count
    → report_answer first last category (book_of calls)
    ≡ (if is_closed_run first last (history_of calls) then Ok (counted_report first last category (history_of calls)) else Err NotClosed)

-- what is known of a report that is given after these calls
pub record PlainReport (calls : List Call) (first last category : ℕ) (r : Report) : Type 0 where
  -- sums, rates and duration are the formulas over sums counted from the calls
  pub formulas : r ≡ counted_report first last category (history_of calls)
  -- each figure of the sums is counted from the calls
  pub counted : (k : Column) → column k r.sums ≡ counted_over k (counts category) first last (history_of calls)
  -- and is the plain sum of the rows' own
  pub sums : (k : Column) → column k r.sums ≡ sum_by (column k) (rows_of first last category (book_of calls))
  -- total is settled and fails together
  pub totals : (m : Measure) → in_measure m r.sums.total ≡ in_measure m r.sums.settled + (in_measure m r.sums.securities + in_measure m r.sums.cash)
  -- no rate is over 100%
  pub rate_by_number : r.rate_by_number ≤ 10000
  pub rate_by_value : r.rate_by_value ≤ 10000
  -- no duration is under a day
  pub duration : (n : ℕ) → r.duration ≡ Some n → 100 ≤ n

-- Each report of each list of calls is such a one.
abbrev pub PlainReports : Type 0
PlainReports =
    (calls : List Call) (first last category : ℕ) (r : Report)
    → report_answer first last category (book_of calls) ≡ Ok r
    → PlainReport calls first last category r
