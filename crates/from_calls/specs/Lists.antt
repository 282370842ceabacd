-- Lists of the highest rates, read off the calls and their answers.
use Rattle.std.specs.Prelude.{◌≡◌, ℕ, ◌≤◌, true, List, map, Ok, Err, if◌then◌else◌}
use Rattle.std.specs.List.{range_with_len}
use Rattle.arrayvec.specs.ArrayVec.{ArrayVec}
use Rattle.book.specs.Limits.{largest_code}
use Rattle.book.specs.declared.calls.Call.{Call}
use Rattle.book.specs.declared.calls.Refusal.TheVariants.{NotClosed}
use Rattle.history.specs.History.{book_of, history_of, closed}
use Rattle.counted.specs.PairCalls.{fails, total}
use Rattle.counted.specs.Counted.{names_participant}
use Rattle.ranking.specs.declared.participant.Participant.{Participant}
use Rattle.book.specs.declared.figures.Measure.{Measure}
use Rattle.ranking.specs.Ranking.{highest}
use Rattle.ranking.specs.Runs.{list_answer}
use Rattle.ranking.specs.Meaning.{HasDistinctCodes, IsListOf}
use Rattle.from_calls.specs.Sums.{counted_over, is_closed_run}

-- a participant over a run of days, by the pairs that name it
abbrev pub counted_participant : ℕ → ℕ → Measure → List Call → ℕ → Participant
counted_participant first last m h code = record {
  code = code;
  fails = counted_over (fails m) (names_participant code) first last h;
  total = counted_over (total m) (names_participant code) first last h;
}

-- those with codes 1 to 40
unfoldable pub counted_participants : ℕ → ℕ → Measure → List Call → List Participant
counted_participants first last m h = map (counted_participant first last m h) (range_with_len 1 largest_code)

-- Which list is given, and who stands on it: the list of the participants' plain sums over the run. No cap is reached.
abbrev pub ListsFromCalls : Type 0
ListsFromCalls =
    (calls : List Call) (first last : ℕ) (m : Measure)
    → list_answer first last m (book_of calls)
    ≡ (if is_closed_run first last (history_of calls) then Ok (record { items = highest (counted_participants first last m (history_of calls)) }) else Err NotClosed)

-- So what is given for a run of closed days is a list of these participants: who is listed, by counts, and in which order. How
-- a list is made need not be believed.
abbrev pub ListsMean : Type 0
ListsMean =
    (calls : List Call) (first last : ℕ) (m : Measure) → first ≤ last → closed last (history_of calls) ≡ true
    → (l : ArrayVec Participant) × (list_answer first last m (book_of calls) ≡ Ok l) × IsListOf (counted_participants first last m (history_of calls)) l.items

-- These participants have codes 1 to 40, each one time, whatever their figures.
abbrev pub CountedCodesRise : Type 0
CountedCodesRise =
    (first last : ℕ) (m : Measure) (h : List Call)
    → (map (λ (p : Participant). p.code) (counted_participants first last m h) ≡ range_with_len 1 largest_code) × HasDistinctCodes (counted_participants first last m h)
