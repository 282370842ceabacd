-- A report's rows are given where it is, and each of the nine is a single report: read off the definitions, by the cases of what
-- comes back.
use Rattle.history.proofs.Words.{◌≡◌, ℕ, zero, suc, ◌+◌, ◌-◌, ◌<◌, ◌≤◌, ◌∷◌, map, Ok, refl, sym, ◌∙◌, ap, arith}
use Rattle.history.proofs.Words.{range_with_len, nat_tests, category_count, Book, Row, row_answer}
use Rattle.std.proofs.lemmas.List.FromFn.{length-range_with_len, get_or-range_with_len, get_or-map-range_with_len}
use Rattle.counted.specs.Counted.{row_at}
use Rattle.reports.specs.declared.report.Report.{Report}
use Rattle.reports.specs.Sums.{sums_of}
use Rattle.reports.specs.Reports.{report_of, rows_of, report_answer}
use Rattle.reports.specs.Nine.{one_of_nine, numbered, NineAreSingle, NineCarryOne, RefusedAreEmpty}
use Rattle.reports.specs.OfRows.{DaysOfRun, ReportsAreOfRows}

-- ---- the days

pub days_of_run : DaysOfRun
days_of_run = record {
  count = λ first last. length-range_with_len first (last + 1 - first);
  each = λ first last n inside. get_or-range_with_len first (last + 1 - first) n 0 (omega arith);
  worked = refl;
}

-- ---- the rows

pub row_given : (b : Book) (day category : ℕ) (row : Row) → row_answer day category b ≡ Ok row → row ≡ row_at b day category
row_given b day category row ok = grind arith

report_given : (b : Book) (first last category : ℕ) (r : Report) → report_answer first last category b ≡ Ok r
    → r ≡ report_of (sums_of (rows_of first last category b))
report_given b first last category r ok = grind arith

-- what is alike on each day of a run
pub maps_same : {X : Type 0} (f g : ℕ → X) (first n : ℕ) → ((d : ℕ) → first ≤ d → d < first + n → f d ≡ g d)
    → map f (range_with_len first n) ≡ map g (range_with_len first n)
maps_same f g first zero same = refl
maps_same f g first (suc n) same =
    λ i. same first (omega arith) (omega arith) i ∷ maps_same f g (first + 1) n (λ d low high. same d (omega arith) (omega arith)) i

pub of_rows : ReportsAreOfRows
of_rows b first last category r rows ok given =
    let same = maps_same rows (λ day. row_at b day category) first (last + 1 - first)
    (λ d low high. row_given b d category (rows d) (given d low (omega arith))) in
    report_given b first last category r ok ∙ ap (λ l. report_of (sums_of l)) (sym same)

-- ---- all nine

-- what holds of each place's holds of all
pub single : NineAreSingle
unfolding one_of_nine
single b first last category outside low high =
    get_or-map-range_with_len (one_of_nine first last b) 0 category_count (category - 1) (category - 1) outside (omega arith) (omega arith)
    ∙ ap (λ c. numbered (report_answer first last c b)) (let e : category - 1 + 1 ≡ category = omega arith in e)

pub carry_one : NineCarryOne
unfolding one_of_nine
carry_one b first last place outside high =
    rw (get_or-map-range_with_len (one_of_nine first last b) 0 category_count place place outside high (omega arith)) (grind (arith, nat_tests))

pub refused_empty : RefusedAreEmpty
unfolding one_of_nine
refused_empty b first last refused place outside high =
    rw (get_or-map-range_with_len (one_of_nine first last b) 0 category_count place place outside high (omega arith)) (grind (arith, nat_tests))
