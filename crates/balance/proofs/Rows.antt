-- The rows that are given store what the pairs of their category give, and any selection of pairs balances.
use Rattle.history.proofs.Words.{day_limit, category_count}
use Rattle.history.proofs.Words.{◌≡◌, ℕ, zero, suc, ◌<◌, ◌≤◌, true, false, cond, List, [], ◌∷◌, Ok, Err, refl, ap, ◌∙◌}
use Rattle.history.proofs.Words.{subst, arith, nat_lt, and_parts, nat_tests, Call, NotClosed, Book, Answer, answer_to, book_after, book_after_all}
use Rattle.history.proofs.Words.{fresh_book, row_answer, answers, closed, book_of, history_of, counts, ltb-true, is_closed}
use Rattle.book.specs.declared.book.Outcome.{Outcome}
use Rattle.history.proofs.Days.{closed-is, closed_before}
use Rattle.counted.specs.PairCalls as pairs
use Rattle.counted.specs.PairCalls.{counted}
use Rattle.counted.specs.Counted.{row_at}
use Rattle.counted.proofs.Whole.{known}
use Rattle.counted.proofs.Rows.{rows}
use Rattle.selections.specs.Selections.{failed_before}
use Rattle.selections.proofs.Whole.{balance}
use Rattle.balance.specs.DailyBalance.{Rows, ClosedDaysAreGiven, ArePrevious, RowsBalance, DailyBalance, Meets, OneOutcome, Made, Follow, last_book}
use Rattle.balance.specs.DailyBalance.{calls_made, answers_made, GivesRows, DailyBalanceOfCode, made_by, DailyBalanceOfFunction}

-- ---- the rows

-- the days that the book calls closed are the closed ones
pub closed_same : (calls : List Call) (d : ℕ) → is_closed d (book_of calls) ≡ closed d (history_of calls)
closed_same calls d =
    let agrees = (known calls).kept in
    let today = agrees.day in
    let last = agrees.last_day in
    let closed = closed-is d (history_of calls) in
    grind (arith, nat_tests)

-- each is one of the 64
pub in_days : (calls : List Call) (d : ℕ) → closed d (history_of calls) ≡ true → d < day_limit
in_days calls d e = ltb-true d day_limit (and_parts _ _ (closed_same calls d ∙ e)).1

pub closed_given : ClosedDaysAreGiven
closed_given calls c d high =
    let low : nat_lt category_count c ≡ false = grind (arith, nat_tests) in
    rw (low, closed_same calls d) (grind (arith, nat_tests))

-- what is given for a closed day
given_on : (calls : List Call) (given : Rows) → GivesRows (book_of calls) given → (c d : ℕ) → c ≤ category_count
    → closed d (history_of calls) ≡ true → given d c ≡ Ok (row_at (book_of calls) d c)
given_on calls given gives c d high e =
    gives d c (in_days calls d e) high ∙ closed_given calls c d high
    ∙ ap (λ t. cond t (Ok (row_at (book_of calls) d c)) (Err NotClosed)) e

-- ---- the balance

pub balance_of : (calls : List Call) (given : Rows) → GivesRows (book_of calls) given → RowsBalance (history_of calls) given
balance_of calls given gives m c d high e = record {
  row = row_at (book_of calls) d c;
  given = given_on calls given gives c d high e;
  previous = failed_before m (counts c) d (history_of calls);
  are_previous = previous d e;
  balance = omega (
    arith,
    rows calls (pairs.settled m) c d high (in_days calls d e),
    rows calls (pairs.fails m) c d high (in_days calls d e),
    balance calls m (counts c) d e,
  );
}
  where
    previous : (d : ℕ) → closed d (history_of calls) ≡ true → ArePrevious m c d given (failed_before m (counts c) d (history_of calls))
    previous zero e = refl
    previous (suc d) e =
        let before = closed_before d (history_of calls) e in
        (row_at (book_of calls) d c, given_on calls given gives c d high before, rows calls (pairs.fails m) c d high (in_days calls d before))

pub rows_balance : DailyBalance
rows_balance calls = balance_of calls (λ d c. row_answer d c (book_of calls)) (λ d c l high. refl)

-- ---- whatever meets the contracts

pub one_outcome : OneOutcome
one_outcome b call =
    let one : Outcome = record { book = book_after call b; answer = answer_to call b } in
    (one, (refl, refl), λ other m i. record { book = m.1 i; answer = m.0 i })

-- the answers and the last book are those of the calls
made_is : (b : Book) (made : List Made) → Follow b made
    → (answers_made made ≡ answers (calls_made made) b) × (last_book b made ≡ book_after_all (calls_made made) b)
made_is b [] f = (refl, refl)
made_is b (x ∷ made) f =
    let later = rw f.0.1 at (made_is x.outcome.book made f.1) in
    rw (f.0.0, f.0.1) (ap (λ (given : List Answer). answer_to x.call b ∷ given) later.0, later.1)

pub of_code : DailyBalanceOfCode
of_code fresh same made f given gives =
    let is = made_is fresh_book made (subst (λ b. Follow b made) same f) in
    rw is.0 (balance_of (calls_made made) given (λ d c l high. gives d c l high ∙ ap (row_answer d c) (ap (λ b. last_book b made) same ∙ is.1)))

-- calls made by a function follow one another
follow_by : (apply : Book → Call → Outcome) → ((b : Book) (call : Call) → Meets b call (apply b call))
    → (b : Book) (calls : List Call) → Follow b (made_by apply b calls)
follow_by apply meets b [] = tt
follow_by apply meets b (call ∷ calls) = (meets b call, follow_by apply meets (apply b call).book calls)

pub of_function : DailyBalanceOfFunction
of_function fresh same apply meets rows gives calls =
    let made = made_by apply fresh calls in
    of_code fresh same made (follow_by apply meets fresh calls) (rows (last_book fresh made)) (gives (last_book fresh made))
