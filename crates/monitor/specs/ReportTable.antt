-- The reports of a call file: a line for each category, 0 to 9, over a run of days.
use Rattle.std.specs.Prelude.{ℕ, ◌+◌, List, [], ◌∷◌, ◌++◌, codes, Option, Some}
use Rattle.std.specs.List.{range_with_len, flat_map}
use Rattle.book.specs.Limits.{category_count}
use Rattle.book.specs.declared.book.Book.{Book}
use Rattle.lines.specs.declared.reader.Line.{Line}
use Rattle.reports.specs.declared.report.Report.{Report}
use Rattle.reports.specs.Reports.{report_answer}
use Rattle.texts.specs.Lines.{line_text}
use Rattle.monitor.specs.declared.days.Days.{Days}
use Rattle.monitor.specs.Replay.{replayed}
use Rattle.monitor.specs.Texts.{text_given, over_days}
use Rattle.monitor.specs.RowText.{row_fields}

-- the columns of the table, with category for day, and first, last, rates and duration beside them
abbrev pub report_names : List ℕ
report_names = codes "first,last,category,total_n,settled_n,sec_n,cash_n,total_v,settled_v,sec_v,cash_v,isd_v,rate_n,rate_v,duration\n"

-- the duration in hundredths of a day, none where it is absent
unfoldable pub report_fields : ℕ → ℕ → ℕ → Report → List (Option ℕ)
report_fields first last category r =
    Some first
    ∷ Some last
    ∷ (row_fields category r.sums
    ++ (Some r.rate_by_number
    ∷ Some r.rate_by_value
    ∷ r.duration
    ∷ []))

-- the line of a report
abbrev pub report_line : ℕ → ℕ → ℕ → Report → List ℕ
report_line first last category r = line_text (report_fields first last category r)

-- the line of a category over a run of days; there is one where its report is given
abbrev pub category_line : ℕ → ℕ → Book → ℕ → List ℕ
category_line first last b category = text_given (report_line first last category) (report_answer first last category b)

-- those of categories 0 to 9
unfoldable pub category_lines : ℕ → ℕ → Book → List ℕ
category_lines first last b = flat_map (category_line first last b) (range_with_len 0 (category_count + 1))

-- the reports of a file's lines
abbrev pub reports_text : Days → List Line → List ℕ
reports_text days lines = over_days report_names category_lines days (replayed lines).book
