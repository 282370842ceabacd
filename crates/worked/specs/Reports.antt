-- Reports worked by hand: after the calls of the worked table, and after the list of five days, whose pairs are in two
-- categories.
use Rattle.std.specs.Prelude.{◌≡◌, ℕ, List, [], ◌∷◌, map, replicate, Option, None, Some, Result, Ok, Err}
use Rattle.rates.specs.Stored.{largest_stored}
use Rattle.book.specs.declared.book.Book.{Book}
use Rattle.book.specs.declared.calls.Refusal.{Refusal}
use Rattle.book.specs.declared.calls.Refusal.TheVariants.{OutOfRange, NotClosed}
use Rattle.book.specs.declared.rows.Row.{Row}
use Rattle.book.specs.Calls.{Answer}
use Rattle.history.specs.History.{book_of}
use Rattle.lines.specs.Worked.{worked_calls}
use Rattle.worked.specs.Edges.{row}
use Rattle.worked.specs.FiveDays.{calls_of, worked}
use Rattle.reports.specs.declared.report.Report.{Report}
use Rattle.reports.specs.declared.nine.NumberedReport.{NumberedReport}
use Rattle.reports.specs.Reports.{report_answer}
use Rattle.reports.specs.Nine.{nine_answer}

-- the books that the worked table's calls and the longer list leave
abbrev pub example_book : Book
example_book = book_of worked_calls

abbrev pub worked_book : Book
worked_book = book_of (calls_of worked)

-- ---- one report

-- sums, the two rates and the duration
abbrev says : Row → ℕ → ℕ → Option ℕ → Report
says sums by_number by_value duration = record { sums = sums; rate_by_number = by_number; rate_by_value = by_value; duration = duration }

abbrev nothing_counted : Report
nothing_counted = says (row 0 0 0 0 0 0 0 0 0) 0 0 None

-- days 0 to 3: rates 10 of 18 and 38,000 of 66,000, duration 38,000 by 18,000
abbrev whole_run : Report
whole_run = says (row 18 8 6 4 66000 28000 22000 16000 18000) 5556 5758 (Some 211)

-- a run of days and a category, and what comes back
pub record ReportCase : Type 0 where
  pub first : ℕ
  pub last : ℕ
  pub category : ℕ
  pub answer : Result Report Refusal

abbrev asked : ℕ → ℕ → ℕ → Result Report Refusal → ReportCase
asked first last category answer = record { first = first; last = last; category = category; answer = answer }

-- after the worked table's calls
abbrev pub example_cases : List ReportCase
example_cases =
    asked 0 3 0 (Ok whole_run)
    -- both pairs are in category 1
    ∷ asked 0 3 1 (Ok whole_run)
    ∷ asked 0 3 2 (Ok nothing_counted)
    -- 8 of 10 SIs, 28,000 of 32,000 cents; 28,000 over an ISD value of 8,000, where the days alone have 175 and none
    ∷ asked 1 2 0 (Ok (says (row 10 2 4 4 32000 4000 12000 16000 8000) 8000 8750 (Some 350)))
    -- all fail, and none was due that day
    ∷ asked 2 2 0 (Ok (says (row 4 0 2 2 14000 0 6000 8000 0) 10000 10000 None))
    -- all settle
    ∷ asked 3 3 0 (Ok (says (row 4 4 0 0 14000 14000 0 0 0) 0 0 None))
    -- day 4 is not closed, nor is the largest number
    ∷ asked 0 4 0 (Err NotClosed)
    ∷ asked 0 largest_stored 0 (Err NotClosed)
    ∷ asked largest_stored largest_stored 0 (Err NotClosed)
    -- first after last
    ∷ asked 3 2 0 (Err NotClosed)
    -- category over 9, also where the days are refused too
    ∷ asked 0 3 10 (Err OutOfRange)
    ∷ asked 3 2 10 (Err OutOfRange)
    ∷ []

-- after the longer list, whose days 0 to 4 are closed: each category's own, and both together
abbrev pub worked_cases : List ReportCase
worked_cases =
    asked 0 4 0 (Ok (says (row 26 8 5 13 12800 3500 1600 7700 3700) 6923 7266 (Some 251)))
    ∷ asked 0 4 1 (Ok (says (row 18 6 3 9 9100 2300 1500 5300 2400) 6667 7473 (Some 283)))
    ∷ asked 0 4 2 (Ok (says (row 8 2 2 4 3700 1200 100 2400 1300) 7500 6757 (Some 192)))
    ∷ asked 0 4 3 (Ok nothing_counted)
    ∷ []

abbrev pub answer_for : Book → ReportCase → Result Report Refusal
answer_for b c = report_answer c.first c.last c.category b

-- ---- all nine

abbrev carries : Answer → Report → NumberedReport
carries answer report = record { answer = answer; report = report }

-- days 0 to 3: category 1, and eight categories without a pair
abbrev pub nine_expected : List NumberedReport
nine_expected = carries (Ok tt) whole_run ∷ replicate 8 (carries (Ok tt) nothing_counted)

-- days 0 to 4, of which day 4 is not closed
abbrev pub nine_refused : List NumberedReport
nine_refused = replicate 9 (carries (Err NotClosed) nothing_counted)

-- Each is what the definitions give.
pub record ExamplesHold : Type 0 where
  pub example : map (answer_for example_book) example_cases ≡ map (λ (c : ReportCase). c.answer) example_cases
  pub worked : map (answer_for worked_book) worked_cases ≡ map (λ (c : ReportCase). c.answer) worked_cases
  pub nine : nine_answer 0 3 example_book ≡ nine_expected
  pub refused_nine : nine_answer 0 4 example_book ≡ nine_refused
