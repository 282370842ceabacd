-- The participants of a run are counted from the calls, day by day, and the list is of them.
use Rattle.history.proofs.Words.{◌≡◌, ℕ, ◌<◌, ◌≤◌, List, map, Ok, Err, refl, ◌∙◌, ap, arith, true, cond, nat_tests, day_limit}
use Rattle.history.proofs.Words.{largest_code, Call, NotClosed, Summary, book_of, history_of, summary_at, Number, Value, in_measure, Measure}
use Rattle.history.proofs.Words.{and_from, le-leb}
use Rattle.arrayvec.specs.ArrayVec.{ArrayVec}
use Rattle.counted.specs.PairCalls.{Column, fails, total, counted}
use Rattle.counted.specs.Counted.{names_participant}
use Rattle.counted.proofs.Rows.{summary_total, summary_fails}
use Rattle.book.specs.declared.figures.Figure.{Figure}
use Rattle.reports.specs.Sums.{days, figure_over}
use Rattle.reports.proofs.Meaning.{maps_same}
use Rattle.ranking.specs.declared.participant.Participant.{Participant}
use Rattle.ranking.specs.Ranking.{highest}
use Rattle.ranking.specs.Runs.{summaries_over, participant_of, participants_of}
use Rattle.ranking.proofs.Lists.{who, order}
use Rattle.ranking.proofs.Sums.{codes_of, distinct}
use Rattle.from_calls.specs.Sums.{counted_over, is_closed_run}
use Rattle.from_calls.specs.Lists.{counted_participant, counted_participants, ListsFromCalls, ListsMean, CountedCodesRise}
use Rattle.from_calls.proofs.Runs.{sum_stored, run_same, run_inside}

module _ (calls : List Call) (first last : ℕ) (inside : last < day_limit) where
  -- a figure of a participant's summaries
  figure_counted : (m : Measure) (code : ℕ) (k : Column) (figure : Summary → Figure)
      → ((d : ℕ) → d < day_limit
      → in_measure m (figure (summary_at (book_of calls).summaries d code)) ≡ counted k (names_participant code) d (history_of calls))
      → in_measure m (figure_over figure (map (λ day. summary_at (book_of calls).summaries day code) (days first last)))
      ≡ counted_over k (names_participant code) first last (history_of calls)
  figure_counted Number code k figure each = sum_stored calls k (names_participant code) first last inside (λ s. (figure s).number) _ each
  figure_counted Value code k figure each = sum_stored calls k (names_participant code) first last inside (λ s. (figure s).value) _ each

  counted_one : (m : Measure) (code : ℕ) → 1 ≤ code → code ≤ largest_code
      → participant_of first last m (book_of calls) code ≡ counted_participant first last m (history_of calls) code
  unfolding summaries_over
  counted_one m code low high =
      let failing = figure_counted m code (fails m) (λ s. s.fails) (λ d l. summary_fails calls m code d low high l) in
      let all = figure_counted m code (total m) (λ s. s.total) (λ d l. summary_total calls m code d low high l) in
      grind arith

  pub participants_counted : (m : Measure) → participants_of first last m (book_of calls) ≡ counted_participants first last m (history_of calls)
  unfolding participants_of counted_participants
  participants_counted m =
      maps_same (participant_of first last m (book_of calls)) (counted_participant first last m (history_of calls)) 1 largest_code
      (λ code low below. counted_one m code low (omega arith))

pub from_calls : ListsFromCalls
from_calls calls first last m =
    let counted = λ (e : is_closed_run first last (history_of calls) ≡ true).
    participants_counted calls first last (run_inside first last calls e) m in
    rw (run_same calls first last) (grind (arith, nat_tests))

pub codes : CountedCodesRise
unfolding counted_participants
codes first last m h =
    let of_code = counted_participant first last m h in
    (codes_of of_code (λ code. refl) 1 largest_code, distinct of_code (λ code. refl) 1 largest_code)

pub mean : ListsMean
mean calls first last m up close =
    let run : is_closed_run first last (history_of calls) ≡ true = and_from _ _ (le-leb first last up) close in
    let ps = counted_participants first last m (history_of calls) in
    let list : ArrayVec Participant = record { items = highest ps } in
    let given = from_calls calls first last m ∙ ap (λ b. cond b (Ok list) (Err NotClosed)) run in
    (list, given, record { who = who ps; order = order ps (codes first last m (history_of calls)).1 })
