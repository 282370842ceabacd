-- A report is that of the rows which the row call gives for its days.
use Rattle.std.specs.Prelude.{◌≡◌, ℕ, ◌+◌, ◌-◌, ◌≤◌, [], ◌∷◌, length, slice_index_or, map, Ok}
use Rattle.book.specs.declared.book.Book.{Book}
use Rattle.book.specs.declared.rows.Row.{Row}
use Rattle.book.specs.Rows.{row_answer}
use Rattle.counted.specs.Counted.{row_at}
use Rattle.reports.specs.declared.report.Report.{Report}
use Rattle.reports.specs.Sums.{days, sums_of}
use Rattle.reports.specs.Reports.{report_of, report_answer}

-- The days of a run: one behind the other from the first to the last, and no other.
pub record DaysOfRun : Type 0 where
  pub count : (first last : ℕ) → length (days first last) ≡ last + 1 - first
  pub each : (first last n : ℕ) → first + n ≤ last → slice_index_or (days first last) n 0 ≡ first + n
  pub worked : days 0 3 ≡ 0 ∷ 1 ∷ 2 ∷ 3 ∷ []

-- Where a report is given, the row of each of its days is given too.
abbrev pub RowsAreGiven : Type 0
RowsAreGiven =
    (b : Book) (first last category day : ℕ) (r : Report)
    → report_answer first last category b ≡ Ok r
    → first ≤ day
    → day ≤ last
    → row_answer day category b ≡ Ok (row_at b day category)

-- A report's sums, those that the duration divides among them, its rates and its duration are those of the rows given.
abbrev pub ReportsAreOfRows : Type 0
ReportsAreOfRows =
    (b : Book) (first last category : ℕ) (r : Report) (rows : ℕ → Row)
    → report_answer first last category b ≡ Ok r
    → ((day : ℕ) → first ≤ day → day ≤ last → row_answer day category b ≡ Ok (rows day))
    → r ≡ report_of (sums_of (map rows (days first last)))
