-- The reports of all nine categories in one call. docs/RULES.md, 'A report' and 'Numbers given back'.
use Rattle.std.specs.Prelude.{◌≡◌, ℕ, ◌+◌, ◌-◌, ◌≤◌, false, List, map, slice_index_or, None, Result, Ok, Err, if◌then◌else◌, All}
use Rattle.std.specs.List.{range_with_len}
use Rattle.book.specs.Limits.{category_count}
use Rattle.book.specs.declared.book.Book.{Book}
use Rattle.book.specs.declared.calls.Refusal.{Refusal}
use Rattle.book.specs.declared.calls.Refusal.TheVariants.{NotClosed}
use Rattle.book.specs.declared.figures.Figure.{Figure}
use Rattle.reports.specs.declared.report.Report.{Report}
use Rattle.reports.specs.declared.nine.NumberedReport.{NumberedReport}
use Rattle.reports.specs.Sums.{no_row}
use Rattle.reports.specs.Reports.{is_run, report_answer}

-- Refused, the figures stand as 0, the duration absent.
abbrev pub no_report : Report
no_report = record { sums = no_row; rate_by_number = 0; rate_by_value = 0; duration = None }

-- what comes back for a category, as one of the nine
abbrev pub numbered : Result Report Refusal → NumberedReport
numbered (Ok report) = record { answer = Ok tt; report = report }
numbered (Err refusal) = record { answer = Err refusal; report = no_report }

-- category 1 at place 0, up to 9 at place 8
unfoldable pub one_of_nine : ℕ → ℕ → Book → ℕ → NumberedReport
one_of_nine first last b place = numbered (report_answer first last (place + 1) b)

-- One call gives the reports of categories 1 to 9.
abbrev pub nine_answer : ℕ → ℕ → Book → List NumberedReport
nine_answer first last b = map (one_of_nine first last b) (range_with_len 0 category_count)

-- Each category's report among the nine is its single report.
abbrev pub NineAreSingle : Type 0
NineAreSingle =
    (b : Book) (first last category : ℕ) (outside : NumberedReport) → 1 ≤ category → category ≤ category_count
    → slice_index_or (nine_answer first last b) (category - 1) outside ≡ numbered (report_answer first last category b)

-- All nine carry the same answer.
abbrev pub NineCarryOne : Type 0
NineCarryOne =
    (b : Book) (first last : ℕ) → All (λ (r : NumberedReport). r.answer ≡ (if is_run first last b then Ok tt else Err NotClosed)) (nine_answer first last b)

-- every figure of a report is 0, and its duration absent
abbrev pub HasNoFigures : Report → Type 0
HasNoFigures r =
    let zero : Figure = record { number = 0; value = 0 } in
    (r.sums ≡ record { total = zero; settled = zero; securities = zero; cash = zero; isd_value = 0 })
    × (r.rate_by_number ≡ 0)
    × (r.rate_by_value ≡ 0)
    × (r.duration ≡ None)

-- Where the run is refused, each of the nine has no figures.
abbrev pub RefusedAreEmpty : Type 0
RefusedAreEmpty =
    (b : Book) (first last : ℕ) → is_run first last b ≡ false
    → All (λ (r : NumberedReport). HasNoFigures r.report) (nine_answer first last b)
