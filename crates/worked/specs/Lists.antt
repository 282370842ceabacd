-- Lists over runs of days, after the calls of five days that are worked by hand.
use Rattle.std.specs.Prelude.{◌≡◌, ℕ, List, [], ◌∷◌, Result, Ok, Err}
use Rattle.arrayvec.specs.ArrayVec.{ArrayVec}
use Rattle.book.specs.declared.calls.Refusal.{Refusal}
use Rattle.book.specs.declared.calls.Refusal.TheVariants.{NotClosed}
use Rattle.book.specs.declared.figures.Measure.{Measure}
use Rattle.book.specs.declared.figures.Measure.TheVariants.{Number, Value}
use Rattle.history.specs.History.{book_of}
use Rattle.ranking.specs.declared.participant.Participant.{Participant}
use Rattle.ranking.specs.Runs.{list_answer}
use Rattle.ranking.specs.Worked.{of}
use Rattle.worked.specs.FiveDays.{calls_of, worked}

-- what comes back after the worked list of calls of five days
abbrev pub over : ℕ → ℕ → Measure → Result (ArrayVec Participant) Refusal
over first last m = list_answer first last m (book_of (calls_of worked))

abbrev pub lists : List Participant → Result (ArrayVec Participant) Refusal
lists ps = Ok (record { items = ps })

-- the lists of these days: fails and totals are the sums of the summaries that are worked there
pub record WorkedRuns : Type 0 where
  -- by number and by value codes 1 and 40 stand the other way round
  pub by_number : over 0 4 Number ≡ lists (of 2 12 16 ∷ of 3 4 6 ∷ of 40 6 10 ∷ of 1 8 14 ∷ [])
  pub by_value : over 0 4 Value ≡ lists (of 2 6800 8800 ∷ of 3 2400 3600 ∷ of 1 4000 6300 ∷ of 40 2500 4000 ∷ [])
  -- on days 1 and 2 all of codes 2 and 3 failed, and they are level
  pub two_days_by_number : over 1 2 Number ≡ lists (of 2 6 6 ∷ of 3 4 4 ∷ of 40 6 8 ∷ of 1 4 6 ∷ [])
  pub two_days_by_value : over 1 2 Value ≡ lists (of 2 3400 3400 ∷ of 3 2400 2400 ∷ of 40 2500 2800 ∷ of 1 2000 2300 ∷ [])
  -- on day 0 nothing was due of codes 3 and 40
  pub first_day : over 0 0 Value ≡ lists (of 2 2400 3400 ∷ of 1 1000 2000 ∷ [])
  -- day 5 is not closed
  pub not_closed : over 0 5 Number ≡ Err NotClosed
  -- 3 is after 2
  pub wrong_way_round : over 3 2 Number ≡ Err NotClosed
