-- The participants over a run of days, and when a list of them is given. docs/RULES.md, 'Highest fail rates'.
use Rattle.std.specs.Prelude.{ℕ, not, List, [], ◌∷◌, map, Result, Ok, Err}
use Rattle.std.specs.List.{range_with_len}
use Rattle.arrayvec.specs.ArrayVec.{ArrayVec}
use Rattle.book.specs.Limits.{largest_code}
use Rattle.book.specs.Rules.{rule, first_of}
use Rattle.book.specs.declared.book.Book.{Book}
use Rattle.book.specs.declared.calls.Refusal.{Refusal}
use Rattle.book.specs.declared.calls.Refusal.TheVariants.{NotClosed}
use Rattle.book.specs.declared.figures.Summary.{Summary}
use Rattle.book.specs.Rows.{summary_at}
use Rattle.reports.specs.Sums.{days, figure_over}
use Rattle.reports.specs.Reports.{is_run}
use Rattle.ranking.specs.declared.participant.Participant.{Participant}
use Rattle.book.specs.declared.figures.Measure.{Measure}
use Rattle.book.specs.Figures.{in_measure}
use Rattle.ranking.specs.Ranking.{highest}

-- the sums of summaries
unfoldable pub summaries_over : List Summary → Summary
summaries_over summaries = record {
  total = figure_over (λ (s : Summary). s.total) summaries;
  fails = figure_over (λ (s : Summary). s.fails) summaries;
}

-- a participant over a run of days: its fails and total in that measure
abbrev pub participant_of : ℕ → ℕ → Measure → Book → ℕ → Participant
participant_of first last m b code =
    let sums = summaries_over (map (λ day. summary_at b.summaries day code) (days first last)) in
    record { code = code; fails = in_measure m sums.fails; total = in_measure m sums.total }

-- those with codes 1 to 40
unfoldable pub participants_of : ℕ → ℕ → Measure → Book → List Participant
participants_of first last m b = map (participant_of first last m b) (range_with_len 1 largest_code)

-- From first to last closed day: number 9 holds as for a report.
abbrev pub list_answer : ℕ → ℕ → Measure → Book → Result (ArrayVec Participant) Refusal
list_answer first last m b = first_of (
    rule (not (is_run first last b)) (Err NotClosed)
    ∷ []) (Ok (record { items = highest (participants_of first last m b) }))
