-- Each sum is read off what is counted: figures are sums over pairs, and each pair gives a bounded part.
use Rattle.history.proofs.Words.{◌≡◌, ℕ, zero, suc, ◌+◌, ◌*◌, ◌<◌, ◌≤◌, Ok, subst, ◌∙◌, sym, arith, range_with_len}
use Rattle.history.proofs.Words.{nat_tests, Row, Book, day_limit, category_count, row_answer, Measure, Number, Value, sum_of, counts, book_of}
use Rattle.history.proofs.Words.{history_of}
use Rattle.counted.specs.PairCalls.{Column, settled, securities, cash, fails, total, isd_value}
use Rattle.counted.specs.Counted.{row_at, column, most, measure_of, names_participant}
use Rattle.counted.proofs.Counts.{isd_le, part_of_total}
use Rattle.counted.proofs.Whole.{known}
use Rattle.counted.proofs.Rows.{rows, summary_total, summary_fails, bounded, nine_of, total_adds, fails_add}
use Rattle.counted.specs.PlainSums.{SumsArePlain, RowsAreBounded, IsBounded, total_on, participant_on}

-- a sum over a run of days
run_le : (most : ℕ) (f : ℕ → ℕ) (first n : ℕ) → ((d : ℕ) → d < first + n → f d ≤ most)
    → sum_of f (range_with_len first n) ≤ n * most
run_le most f first zero l = omega arith
run_le most f first (suc n) l = omega (arith, l first (omega arith), run_le most f (first + 1) n (λ d k. l d (omega arith)))

pub plain : SumsArePlain
plain calls = record {
  totals = λ m c d high l.
      let row = λ (k : Column). rows calls k c d high l in
      let fails = fails_add m (counts c) d (history_of calls) in
      omega (arith, row (total m), row (settled m), row (securities m), row (cash m), total_adds m (counts c) d (history_of calls), fails);
  categories = λ k d l. rows calls k 0 d (omega arith) l ∙ sym (nine_of k d (history_of calls) (book_of calls) (known calls)
      (λ c. column k (row_at (book_of calls) d c)) (λ c low high. rows calls k c d high l));
  rows = λ c d high l. record {
    number = total_le Number c d high l;
    value = total_le Value c d high l;
    parts = λ k.
        omega (arith, rows calls (total (measure_of k)) c d high l, rows calls k c d high l, part_of_total k (counts c) d (history_of calls));
  };
  isd_values = λ c d high l.
      omega (arith, rows calls isd_value c d high l, rows calls (fails Value) c d high l, isd_le (counts c) d (history_of calls));
  runs = λ m c first n high l. run_le (most m) (total_on m (book_of calls) c) first n (λ d k. total_le m c d high (omega arith));
  participant_fails = λ m p d low high l.
      let all = summary_total calls m p d low high l in
      omega (arith, all, summary_fails calls m p d low high l, part_of_total (fails m) (names_participant p) d (history_of calls));
  participant_runs = λ m p first n low high l. run_le (most m) (participant_on m (book_of calls) p) first n
      (λ d k. omega (arith, summary_total calls m p d low high (omega arith), bounded.bounds calls (total m) (names_participant p) d));
}
  where
    total_le : (m : Measure) (c d : ℕ) → c ≤ category_count → d < day_limit → total_on m (book_of calls) c d ≤ most m
    total_le m c d high l = omega (arith, rows calls (total m) c d high l, bounded.bounds calls (total m) (counts c) d)

-- a row is given for one of the ten categories and 64 days only, and is the book's
pub given_row : (b : Book) (d c : ℕ) (r : Row) → row_answer d c b ≡ Ok r → (c ≤ category_count) × (d < day_limit) × (row_at b d c ≡ r)
given_row b d c r given = (grind (arith, nat_tests), grind (arith, nat_tests), grind (arith, nat_tests))

pub rows_bounded : RowsAreBounded
rows_bounded calls d c r given = let g = given_row (book_of calls) d c r given in subst IsBounded g.2 ((plain calls).rows c d g.0 g.1)
