-- Each edge is computed; the book after 1,024 enters is found by induction.
use Rattle.std.proofs.Common.{◌≡◌, ℕ, zero, suc, ◌+◌, ◌<◌, List, [], ◌∷◌, ◌++◌, length, map, drop, replicate, Ok, refl, ap}
use Rattle.history.proofs.Words.{◌∙◌, sym, arith, length-append, AllByRecursion, range_with_len, nat_tests, Call, Settle, Pair, Entry, Book}
use Rattle.history.proofs.Words.{entered, answer_to, accepted_after, fresh_book, in_measure, answers}
use Rattle.book.specs.Limits.{open_limit}
use Rattle.book.specs.Calls.{answer_number}
use Rattle.counted.proofs.Plain.{given_row}
use Rattle.balance.specs.DailyBalance.{rows_of, fails_together, ArePrevious, newly_due, cancelled, part_settled}
use Rattle.worked.specs.FiveDays.{WorkedHolds, SidesAreTheBalance, before, calls_of, numbers_given, worked_when_full}
use Rattle.lines.specs.Worked.{entry_of}
use Rattle.worked.specs.Edges.{Claim, edges, gives_when_full, enter_of}

-- ---- the book after the enters of ids 1 to n

entry_to : ℕ → Entry
entry_to i = entry_of i 1 1 0 1 100 1 2

pairs_to : ℕ → List Pair
pairs_to zero = []
pairs_to (suc n) = pairs_to n ++ entered (entry_to (suc n)) ∷ []

book_to : ℕ → Book
book_to n = record fresh_book { pairs = record { items = pairs_to n }; last_id = n }

length_to : (n : ℕ) → length (pairs_to n) ≡ n
unfolding pairs_to entry_to
length_to zero = refl
length_to (suc n) = let e = length_to n in let f = length-append (pairs_to n) (entered (entry_to (suc n)) ∷ []) in omega arith

accepted : (n : ℕ) → n < open_limit → answer_to (enter_of (suc n)) (book_to n) ≡ Ok tt
unfolding book_to
accepted n l = let size = length_to n in grind (arith, nat_tests)

entered_next : (n : ℕ) → accepted_after (enter_of (suc n)) (book_to n) ≡ book_to (suc n)
unfolding book_to pairs_to entry_to
entered_next n = refl

enters : (k n m : ℕ) (calls : List Call) → m ≡ suc n → n + k ≡ open_limit
    → map answer_number (answers (map enter_of (range_with_len m k) ++ calls) (book_to n))
    ≡ replicate k 0 ++ map answer_number (answers calls (book_to open_limit))
enters zero n m calls s h = let e : n ≡ open_limit = omega arith in rw e refl
enters (suc k) n m calls s h =
    let later = enters k (suc n) (suc n + 1) calls (omega arith) (omega arith) in
    rw s (rw (accepted n (omega arith), entered_next n) (ap (λ (ns : List ℕ). 0 ∷ ns) later))

when_full : (calls : List Call) (given : List ℕ) → map answer_number (answers calls (book_to open_limit)) ≡ given
    → Claim (gives_when_full calls given)
unfolding book_to pairs_to
when_full calls given e = enters open_limit 0 1 calls refl refl ∙ ap (λ (ns : List ℕ). replicate open_limit 0 ++ ns) e

-- ---- the edges

pub all_edges : AllByRecursion Claim edges
unfolding book_to pairs_to entry_to
all_edges =
    let full = when_full (enter_of 1025 ∷ []) (4 ∷ []) refl in
    let freed = when_full (Settle 700 100 ∷ enter_of 1025 ∷ []) (0 ∷ 0 ∷ []) refl in
    let again = when_full (enter_of 1025 ∷ Settle 700 100 ∷ enter_of 1025 ∷ []) (4 ∷ 0 ∷ 0 ∷ []) refl in
    let behind : AllByRecursion Claim (drop 17 edges) = (again, (refl, (refl, (refl, tt)))) in
    (full, (freed, (refl, (refl, (refl, (refl, (refl, (refl, (refl, (refl, (refl, (refl, (refl, (refl, (refl, (refl, (refl, behind)))))))))))))))))

sides : SidesAreTheBalance
sides m b h day category x = (
  ap (λ r. in_measure m r.settled + fails_together m r + cancelled m category day h) (given_row b day category x.row x.given).2,
  ap (λ n. n + newly_due m category day h + part_settled m category day h) (previous day x.previous x.are_previous),
)
  where
    previous : (day n : ℕ) → ArePrevious m category day (rows_of b) n → before m b day category ≡ n
    previous zero n none = sym none
    previous (suc d) n y = ap (fails_together m) (given_row b d category y.0 y.1).2 ∙ y.2

pub worked_holds : WorkedHolds
unfolding book_to pairs_to entry_to
worked_holds = record {
  numbers_come_back = refl;
  to_the_end = refl;
  when_full = when_full (calls_of worked_when_full) (numbers_given worked_when_full) refl;
  readings = refl;
  figures = refl;
  by_deliverer = refl;
  by_receiver = refl;
  summaries = refl;
  summaries_given = record {
    given = refl;
    nothing_due = refl;
    no_code_0 = refl;
    no_code_41 = refl;
    not_closed = refl;
    lowest_number = refl;
  };
  sides = sides;
}
