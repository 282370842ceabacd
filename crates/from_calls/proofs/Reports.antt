-- The rows of a run are counted from the calls, day by day, and so are their sums; the rates and the duration follow.
use Rattle.history.proofs.Words.{◌≡◌, ℕ, ◌+◌, ◌*◌, ◌<◌, ◌≤◌, List, refl, sym, ◌∙◌, ap, subst, arith, true, sum_by}
use Rattle.history.proofs.Words.{nat_tests, day_limit, category_count, Call, Row, book_of, history_of, Measure, Number, Value, counts}
use Rattle.std.proofs.lemmas.List.Sums.{sum_by-le-sum_by}
use Rattle.rates.specs.Stored.{capped}
use Rattle.counted.specs.PairCalls.{Column, settled, securities, cash, fails, total, isd_value}
use Rattle.counted.specs.Counted.{row_at, column, most}
use Rattle.counted.proofs.Counts.{isd_le, part_of_total}
use Rattle.counted.proofs.Rows.{rows, total_adds, fails_add}
use Rattle.reports.specs.Sums.{days, sums_of}
use Rattle.reports.specs.Reports.{rows_of, is_run, report_of}
use Rattle.from_calls.specs.Sums.{counted_over, is_closed_run}
use Rattle.from_calls.specs.Reports.{counted_report, ReportsFromCalls, PlainReport, PlainReports}
use Rattle.from_calls.proofs.Runs.{sum_by-two, over_most, sum_counted, run_same, run_inside}
use Rattle.from_calls.proofs.Plain.{rate-most, rate_stored, duration-least, duration_stored}

-- ---- the sums of a run

module _ (calls : List Call) (first last category : ℕ) (high : category ≤ category_count) (inside : last < day_limit) where
  abbrev over : Column → ℕ
  over k = counted_over k (counts category) first last (history_of calls)

  abbrev run : List Row
  run = rows_of first last category (book_of calls)

  -- each figure of the rows, and as it is stored
  row_counted : (k : Column) → sum_by (column k) run ≡ over k
  row_counted k =
      sum_counted calls k (counts category) first last inside (column k) (λ day. row_at (book_of calls) day category)
      (λ d l. rows calls k category d high l)

  row_stored : (k : Column) → capped (sum_by (column k) run) ≡ over k
  row_stored k = ap capped (row_counted k) ∙ (let small = over_most calls k (counts category) first last inside in omega arith)

  over_fails : (m : Measure) → over (fails m) ≡ over (securities m) + over (cash m)
  over_fails m = sum_by-two _ _ _ (λ d. fails_add m (counts category) d (history_of calls)) (days first last)

  over_all : (m : Measure) → over (total m) ≡ over (settled m) + (over (securities m) + over (cash m))
  over_all m = omega (arith, sum_by-two _ _ _ (λ d. total_adds m (counts category) d (history_of calls)) (days first last), over_fails m)

  -- fails are a part of all, and those on their own ISD of the fails
  part_of_all : (m : Measure) → over (fails m) ≤ over (total m)
  part_of_all m = sum_by-le-sum_by _ _ (days first last) (λ d. part_of_total (fails m) (counts category) d (history_of calls))

  part_of_fails : over isd_value ≤ over (fails Value)
  part_of_fails = sum_by-le-sum_by _ _ (days first last) (λ d. isd_le (counts category) d (history_of calls))

  small_over : (k : Column) → over k ≤ day_limit * most Value
  small_over k = over_most calls k (counts category) first last inside

  sums_counted : sums_of run ≡ (counted_report first last category (history_of calls)).sums
  unfolding sums_of
  sums_counted =
      let n = λ (k : Measure → Column). row_stored (k Number) in
      let v = λ (k : Measure → Column). row_stored (k Value) in
      grind (arith, n total, v total, n settled, v settled, n securities, v securities, n cash, v cash, row_stored isd_value)

  pub report_counted : report_of (sums_of run) ≡ counted_report first last category (history_of calls)
  report_counted =
      let by_number = rate_stored _ _ _ _ (over_fails Number) (part_of_all Number) (small_over (total Number)) in
      let by_value = rate_stored _ _ _ _ (over_fails Value) (part_of_all Value) (small_over (total Value)) in
      let days = duration_stored _ _ _ _ (over_fails Value) part_of_fails (small_over (fails Value)) in
      ap report_of sums_counted ∙ grind arith

  -- what the report of plain sums says
  pub plain_report : PlainReport calls first last category (counted_report first last category (history_of calls))
  plain_report = record {
    formulas = refl;
    counted = column_counted;
    sums = λ k. column_counted k ∙ sym (row_counted k);
    totals = λ m. let by_number = over_all Number in let by_value = over_all Value in grind (arith, nat_tests);
    rate_by_number = rate-most (over (fails Number)) (over (total Number)) (part_of_all Number);
    rate_by_value = rate-most (over (fails Value)) (over (total Value)) (part_of_all Value);
    duration = λ n e. duration-least (over (fails Value)) (over isd_value) n part_of_fails e;
  } where
    column_counted : (k : Column) → column k (counted_report first last category (history_of calls)).sums ≡ over k
    column_counted k = let by_number = over_fails Number in let by_value = over_fails Value in grind (arith, nat_tests)

-- ---- the reports

pub from_calls : ReportsFromCalls
from_calls calls first last category high =
    let counted = λ (e : is_closed_run first last (history_of calls) ≡ true).
    report_counted calls first last category high (run_inside first last calls e) in
    rw (run_same calls first last) (grind (arith, nat_tests))

pub plain : PlainReports
plain calls first last category r given =
    let high : category ≤ category_count = grind (arith, nat_tests) in
    let run : is_run first last (book_of calls) ≡ true = grind (arith, nat_tests) in
    let same : report_of (sums_of (rows_of first last category (book_of calls))) ≡ r = grind (arith, nat_tests) in
    let inside = run_inside first last calls (sym (run_same calls first last) ∙ run) in
    subst (PlainReport calls first last category) (sym (report_counted calls first last category high inside) ∙ same)
    (plain_report calls first last category high inside)
