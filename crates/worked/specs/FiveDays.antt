-- A list of calls worked by hand from the rules: the number that comes back from each call, what is then read off the accepted
-- calls, the rows, and both sides of the balance, for each of five days and three categories. It has two parts on a day, a part
-- and then a cancel on a day, cancels before, on and after the ISD, late pairs, and refused calls; with the two shorter lists
-- each number that the calls give comes back. Last stand the fails by deliverer and by receiver, and the summaries.
use Rattle.std.specs.Prelude.{◌≡◌, ℕ, zero, suc, ◌+◌, Bool, true, false, ◌==◌, List, [], ◌∷◌, ◌++◌, map, replicate, Result, Ok, Err}
use Rattle.book.specs.declared.calls.Call.{Call}
use Rattle.book.specs.declared.calls.Call.TheVariants.{Enter, Hold, Lack, Settle, Cancel, Close}
use Rattle.book.specs.declared.calls.Refusal.{Refusal}
use Rattle.book.specs.declared.calls.Refusal.TheVariants.{OutOfRange, NotClosed}
use Rattle.book.specs.declared.pairs.Entry.{Entry}
use Rattle.book.specs.declared.figures.Figure.{Figure}
use Rattle.book.specs.declared.figures.Summary.{Summary}
use Rattle.book.specs.declared.rows.Row.{Row}
use Rattle.book.specs.declared.book.Book.{Book}
use Rattle.book.specs.declared.figures.Posting.{Posting}
use Rattle.book.specs.Book.{fresh_book}
use Rattle.history.specs.History.{day_of, entries, book_of, history_of, closed}
use Rattle.book.specs.declared.figures.Measure.{Measure}
use Rattle.book.specs.Figures.{in_measure}
use Rattle.history.specs.Sums.{in_both}
use Rattle.book.specs.Rows.{summary_at, summary_answer}
use Rattle.counted.specs.Counted.{row_at}
use Rattle.exact.specs.Journal.{journal, added_for}
use Rattle.selections.specs.Readings.{rest_of}
use Rattle.balance.specs.DailyBalance as balance
use Rattle.balance.specs.DailyBalance.{fails_together, rows_of, Balances}
use Rattle.lines.specs.Worked.{entry_of, enter}
use Rattle.worked.specs.Edges.{enter_between, enter_of, row, numbers, Claim, gives_when_full}

-- ---- the pairs: id, kind, category, ISD, side, amount, deliverer, receiver

-- two parts on day 0, and the rest on day 4
abbrev pub in_two_parts : Entry
in_two_parts = entry_of 1 1 1 0 1 1000 1 2

-- cancelled on day 1, before its ISD
abbrev pub cancelled_before_isd : Entry
cancelled_before_isd = entry_of 2 3 2 2 1 500 2 1

-- cancelled on day 1, on its ISD
abbrev pub cancelled_on_isd : Entry
cancelled_on_isd = entry_of 3 4 2 1 2 300 1 3

-- cancelled on day 2, after its ISD
abbrev pub cancelled_after_isd : Entry
cancelled_after_isd = entry_of 4 1 1 0 2 700 2 2

-- a part on day 2, and then cancelled on that day
abbrev pub part_then_cancelled : Entry
part_then_cancelled = entry_of 5 2 1 2 1 400 40 1

-- entered on day 3, two days late, and settled in full on that day
abbrev pub late_settled : Entry
late_settled = entry_of 6 2 2 1 2 600 3 40

-- entered on day 3, one day late, and cancelled on that day
abbrev pub late_cancelled : Entry
late_cancelled = entry_of 7 3 2 2 2 50 40 40

-- ---- the calls

-- a call, and the number that comes back, 0 where none does
pub record Event : Type 0 where
  pub call : Call
  pub answer : ℕ

-- a call and its number
abbrev gives : Call → ℕ → Event
gives call answer = record { call = call; answer = answer }

-- the calls
abbrev pub calls_of : List Event → List Call
calls_of events = map (λ (x : Event). x.call) events

-- their numbers
abbrev pub numbers_given : List Event → List ℕ
numbers_given events = map (λ (x : Event). x.answer) events

-- five days of calls, in order
abbrev pub worked : List Event
worked =
    -- Day 0.
    gives (Enter in_two_parts) 0
    ∷ gives (Enter cancelled_before_isd) 0
    ∷ gives (Enter cancelled_on_isd) 0
    ∷ gives (Enter cancelled_after_isd) 0
    -- id 4 is not above all accepted ids
    ∷ gives (Enter cancelled_after_isd) 3
    -- amount 0 is out of its range, and so is receiver 41
    ∷ gives (enter 5 2 1 2 1 0 40 1) 2
    ∷ gives (enter 5 2 1 2 1 400 40 41) 2
    -- today, 0, is before the ISD of pair 2
    ∷ gives (Settle 2 100) 6
    -- two parts on a day leave a rest of 500
    ∷ gives (Settle 1 200) 0
    ∷ gives (Settle 1 300) 0
    -- a part above the rest, and a part of 0
    ∷ gives (Settle 1 501) 8
    ∷ gives (Settle 1 0) 8
    -- with the receiver's hold on, no part settles
    ∷ gives (Hold 4 2 1) 0
    ∷ gives (Settle 4 100) 7
    -- hold's side, hold's on/off and lack's value out of their ranges
    ∷ gives (Hold 4 3 1) 2
    ∷ gives (Hold 4 1 2) 2
    ∷ gives (Lack 4 3) 2
    -- id 9 is not open
    ∷ gives (Hold 9 1 1) 5
    ∷ gives (Lack 9 1) 5
    ∷ gives (Settle 9 100) 5
    ∷ gives (Cancel 9) 5
    ∷ gives Close 0
    -- Day 1: a cancel before the ISD, a cancel on the ISD, and then that id is no longer open.
    ∷ gives (Cancel 2) 0
    ∷ gives (Cancel 3) 0
    ∷ gives (Cancel 3) 5
    ∷ gives (Lack 1 2) 0
    ∷ gives Close 0
    -- Day 2: a cancel after the ISD, without the hold; a part and then a cancel. Id 5 was refused and isn't spent.
    ∷ gives (Hold 4 2 0) 0
    ∷ gives (Cancel 4) 0
    ∷ gives (Enter part_then_cancelled) 0
    ∷ gives (Settle 5 150) 0
    ∷ gives (Cancel 5) 0
    ∷ gives (Settle 5 1) 5
    ∷ gives Close 0
    -- Day 3: a pair two days late settles in full, one that is a day late is cancelled; both holds on pair 1.
    ∷ gives (Enter late_settled) 0
    ∷ gives (Settle 6 600) 0
    ∷ gives (Enter late_cancelled) 0
    ∷ gives (Cancel 7) 0
    ∷ gives (Hold 1 1 1) 0
    ∷ gives (Hold 1 2 1) 0
    ∷ gives Close 0
    -- Day 4: without the holds pair 1 settles its rest, 500.
    ∷ gives (Hold 1 1 0) 0
    ∷ gives (Hold 1 2 0) 0
    ∷ gives (Settle 1 500) 0
    ∷ gives Close 0
    ∷ []

-- the same, then closes on days 5 to 63; then today = 64, and any call is refused by 1, whatever its values
abbrev pub worked_to_end : List Event
worked_to_end =
    worked
    ++ replicate 59 (gives Close 0)
    ++ (gives (enter 8 1 1 63 1 100 1 2) 1
    ∷ gives (enter 0 0 0 64 0 0 0 0) 1
    ∷ gives (Hold 1 3 1) 1
    ∷ gives (Lack 9 1) 1
    ∷ gives (Settle 9 0) 1
    ∷ gives (Cancel 9) 1
    ∷ gives Close 1
    ∷ [])

-- calls after 1,024 accepted enters of ids 1 to 1,024: the lowest number that applies, and a cancel frees a place
abbrev pub worked_when_full : List Event
worked_when_full =
    gives (enter_of 1025) 4
    ∷ gives (enter_of 1024) 3
    ∷ gives (enter 1024 1 1 0 3 100 1 2) 2
    ∷ gives (enter_between 1024 1 41) 2
    ∷ gives (Cancel 1024) 0
    ∷ gives (enter_of 1025) 0
    ∷ gives (enter_of 1026) 4
    ∷ []

-- ---- what is read at each accepted call

-- what a reading gives at each of the accepted calls h, in the order of the calls; h has the latest first
abbrev pub read_along : (List Call → ℕ) → List Call → List ℕ
read_along read [] = []
read_along read (c ∷ h) = read_along read h ++ (read h ∷ [])

-- what is read off the accepted calls
pub record Readings : Type 0 where
  -- the day that each accepted call falls on
  pub days : List ℕ
  -- the rest of pair 1 and of pair 5 at each accepted call
  pub rests_of_first : List ℕ
  pub rests_of_fifth : List ℕ
  -- which of days 0 to 6 are closed, and the day of the next call
  pub closed_days : List Bool
  pub today : ℕ
  -- the pairs, the latest first
  pub entries : List Entry

-- as the definitions read it
abbrev pub readings_of : List Call → Readings
readings_of h = record {
  days = read_along day_of h;
  rests_of_first = read_along (rest_of in_two_parts) h;
  rests_of_fifth = read_along (rest_of part_then_cancelled) h;
  closed_days = map (λ d. closed d h) (0 ∷ 1 ∷ 2 ∷ 3 ∷ 4 ∷ 5 ∷ 6 ∷ []);
  today = day_of h;
  entries = entries h;
}

-- the readings of the five days, by hand
abbrev pub worked_readings : Readings
worked_readings = record {
  -- 8, 4, 6, 7 and 4 accepted calls fall on days 0 to 4
  days = replicate 8 0 ++ replicate 4 1 ++ replicate 6 2 ++ replicate 7 3 ++ replicate 4 4;
  -- 1,000 at the four enters and at its first part, 800 at its second, 500 up to its last part on day 4, 0 at that day's close
  rests_of_first = replicate 5 1000 ++ (800 ∷ []) ++ replicate 22 500 ++ (0 ∷ []);
  -- 400 up to its part on day 2, and 250 from then on, whether or not it was cancelled
  rests_of_fifth = replicate 16 400 ++ replicate 13 250;
  closed_days = true ∷ true ∷ true ∷ true ∷ true ∷ false ∷ false ∷ [];
  today = 5;
  -- an accepted enter each: the refused enters of ids 4 and 5 on day 0 are no pairs
  entries =
      late_cancelled
      ∷ late_settled
      ∷ part_then_cancelled
      ∷ cancelled_after_isd
      ∷ cancelled_on_isd
      ∷ cancelled_before_isd
      ∷ in_two_parts
      ∷ [];
}

-- ---- the figures of each day and category

-- settled + securities fails + cash fails + cancelled
abbrev pub left_side : Measure → Book → List Call → ℕ → ℕ → ℕ
left_side m b h day category = in_measure m (row_at b day category).settled + fails_together m (row_at b day category) + balance.cancelled m category day h

-- the previous day's fails
abbrev pub before : Measure → Book → ℕ → ℕ → ℕ
before m b zero category = 0
before m b (suc day) category = fails_together m (row_at b day category)

-- previous day's fails + newly due + part-settled
abbrev pub right_side : Measure → Book → List Call → ℕ → ℕ → ℕ
right_side m b h day category = before m b day category + balance.newly_due m category day h + balance.part_settled m category day h

-- the readings of a day and category, its row, and the two sides of its balance
pub record WorkedDay : Type 0 where
  pub day : ℕ
  pub category : ℕ
  pub newly_due : Figure
  pub cancelled : Figure
  pub part_settled : Figure
  pub row : Row
  pub left : Figure
  pub right : Figure

-- as the definitions give them
abbrev pub figures_at : Book → List Call → ℕ → ℕ → WorkedDay
figures_at b h day category = record {
  day = day;
  category = category;
  newly_due = in_both (λ m. balance.newly_due m category day h);
  cancelled = in_both (λ m. balance.cancelled m category day h);
  part_settled = in_both (λ m. balance.part_settled m category day h);
  row = row_at b day category;
  left = in_both (λ m. left_side m b h day category);
  right = in_both (λ m. right_side m b h day category);
}

-- the figures by hand: day and category; newly due and cancelled, each in number and value; part-settled in number, its
-- value is 0; the row; and what each side comes to, in number and value
abbrev pub daily : ℕ → ℕ → ℕ → ℕ → ℕ → ℕ → ℕ → Row → ℕ → ℕ → WorkedDay
daily day category due_n due_v cancelled_n cancelled_v part_n given side_n side_v = record {
  day = day;
  category = category;
  newly_due = record { number = due_n; value = due_v };
  cancelled = record { number = cancelled_n; value = cancelled_v };
  part_settled = record { number = part_n; value = 0 };
  row = given;
  left = record { number = side_n; value = side_v };
  right = record { number = side_n; value = side_v };
}

-- the figures of the five days, by hand
abbrev pub worked_figures : List WorkedDay
worked_figures =
    -- Day 0. Newly due: pairs 1 (1,000) and 4 (700), both of category 1. Part-settled: pair 1, with a rest of 500 at the
    -- close; its two parts are 2 SIs and twice 500 settled. At the close pair 1 goes to securities (f), pair 4 to cash (d,
    -- the receiver's hold), both on their ISD.
    daily 0 0 4 3400 0 0 2 (row 6 2 2 2 3400 1000 1000 1400 2400) 6 3400
    ∷ daily 0 1 4 3400 0 0 2 (row 6 2 2 2 3400 1000 1000 1400 2400) 6 3400
    ∷ daily 0 2 0 0 0 0 0 (row 0 0 0 0 0 0 0 0 0) 0 0
    -- Day 1. Newly due: pair 3 (300), which is cancelled on this day, its ISD, and pair 6 (600), entered on day 3, both of
    -- category 2. Cancelled: pair 3; pair 2 is cancelled before its ISD and counts on no day. At the close pair 1 goes to cash
    -- (e, lack 2) with its rest of 500, and pair 4 to cash (d). Pair 6 late: side 2, to cash at full value, on its ISD.
    ∷ daily 1 0 4 1800 2 600 0 (row 6 0 0 6 3600 0 0 3600 1200) 8 4200
    ∷ daily 1 1 0 0 0 0 0 (row 4 0 0 4 2400 0 0 2400 0) 4 2400
    ∷ daily 1 2 4 1800 2 600 0 (row 2 0 0 2 1200 0 0 1200 1200) 4 1800
    -- Day 2. Newly due: pair 5 (400) of category 1, and pair 7 (50) of category 2, entered on day 3; not pair 2, cancelled on
    -- an earlier day. Cancelled: pair 4 (700) and pair 5 with its rest of 250 at the cancel. Part-settled: pair 5, whose rest
    -- at the close is 250, whether or not it was cancelled; its part of 150 stays settled. Pair 1 goes to cash (e). Pair 6
    -- late: to cash; pair 7 late: kind 3, to securities, on its ISD.
    ∷ daily 2 0 4 900 4 1900 2 (row 8 2 2 4 2600 300 100 2200 100) 12 4500
    ∷ daily 2 1 2 800 4 1900 2 (row 4 2 0 2 1300 300 0 1000 0) 8 3200
    ∷ daily 2 2 2 100 0 0 0 (row 4 0 2 2 1300 0 100 1200 100) 4 1300
    -- Day 3. Nothing is newly due: the pairs entered on this day were due before. Cancelled: pair 7 (50). Pair 6 settles in
    -- full, so it is not part-settled. Pair 1, kind 1 with both holds, gives one SI and 500 to each side (c).
    ∷ daily 3 0 0 0 2 100 0 (row 4 2 1 1 2200 1200 500 500 0) 6 2300
    ∷ daily 3 1 0 0 0 0 0 (row 2 0 1 1 1000 0 500 500 0) 2 1000
    ∷ daily 3 2 0 0 2 100 0 (row 2 2 0 0 1200 1200 0 0 0) 4 1300
    -- Day 4. Pair 1 settles the rest of 500, the last of the day before's fails.
    ∷ daily 4 0 0 0 0 0 0 (row 2 2 0 0 1000 1000 0 0 0) 2 1000
    ∷ daily 4 1 0 0 0 0 0 (row 2 2 0 0 1000 1000 0 0 0) 2 1000
    ∷ daily 4 2 0 0 0 0 0 (row 0 0 0 0 0 0 0 0 0) 0 0
    ∷ []

-- for each line of a table
abbrev pub figures_for : Book → List Call → List WorkedDay → List WorkedDay
figures_for b h table = map (λ (x : WorkedDay). figures_at b h x.day x.category) table

-- ---- the fails that are posted for a code

-- those with that code at one end on each of days 0 to 4, for each of codes 1, 2, 3 and 40
abbrev pub fails_of_each : (ℕ → ℕ → ℕ) → List Posting → List (List ℕ)
fails_of_each end posted =
    map (λ code. map (λ day. added_for (λ c. c.securities.value + c.cash.value) (λ category d r. end d r == code) day posted) (0 ∷ 1 ∷ 2 ∷ 3 ∷ 4 ∷ [])) (1 ∷ 2 ∷ 3 ∷ 40 ∷ [])

-- the fails of the five days by deliverer, by hand
abbrev pub worked_by_deliverer : List (List ℕ)
worked_by_deliverer =
    -- 1 delivers pair 1, whose rest of 500 fails on days 0 to 3, and pair 3, which never fails
    (1000 ∷ 1000 ∷ 1000 ∷ 1000 ∷ 0 ∷ [])
    -- 2 delivers pair 2, which never fails, and pair 4 (700), which fails on days 0 and 1
    ∷ (1400 ∷ 1400 ∷ 0 ∷ 0 ∷ 0 ∷ [])
    -- 3 delivers pair 6 (600), late on days 1 and 2
    ∷ (0 ∷ 1200 ∷ 1200 ∷ 0 ∷ 0 ∷ [])
    -- 40 delivers pair 5, which never fails, and pair 7 (50), late on day 2
    ∷ (0 ∷ 0 ∷ 100 ∷ 0 ∷ 0 ∷ [])
    ∷ []

-- and by receiver
abbrev pub worked_by_receiver : List (List ℕ)
worked_by_receiver =
    -- 1 receives pairs 2 and 5
    (0 ∷ 0 ∷ 0 ∷ 0 ∷ 0 ∷ [])
    -- 2 receives pairs 1 and 4
    ∷ (2400 ∷ 2400 ∷ 1000 ∷ 1000 ∷ 0 ∷ [])
    -- 3 receives pair 3
    ∷ (0 ∷ 0 ∷ 0 ∷ 0 ∷ 0 ∷ [])
    -- 40 receives pairs 6 and 7
    ∷ (0 ∷ 1200 ∷ 1300 ∷ 0 ∷ 0 ∷ [])
    ∷ []

-- total and fails, each in number and value
abbrev summary : ℕ → ℕ → ℕ → ℕ → Summary
summary total_n total_v fails_n fails_v = record {
  total = record { number = total_n; value = total_v };
  fails = record { number = fails_n; value = fails_v };
}

-- those of days 0 to 4, for each of codes 1, 2, 3 and 40
abbrev pub summaries_of_each : Book → List (List Summary)
summaries_of_each b = map (λ code. map (λ day. summary_at b.summaries day code) (0 ∷ 1 ∷ 2 ∷ 3 ∷ 4 ∷ [])) (1 ∷ 2 ∷ 3 ∷ 40 ∷ [])

-- the summaries of the five days, by hand
abbrev pub worked_summaries : List (List Summary)
worked_summaries =
    -- 1 is at an end of pair 1, which settles 500 in two parts on day 0, fails with its rest of 500 up to day 3 and settles it
    -- on day 4, and of pair 5, of which 150 settle on day 2; pairs 2 and 3 give nothing
    (summary 4 2000 2 1000 ∷ summary 2 1000 2 1000 ∷ summary 4 1300 2 1000 ∷ summary 2 1000 2 1000 ∷ summary 2 1000 0 0 ∷ [])
    -- 2 is at an end of pair 1, and at both ends of pair 4 (700), which fails on days 0 and 1 and counts one time; pair 2 gives
    -- nothing
    ∷ (summary 6 3400 4 2400 ∷ summary 4 2400 4 2400 ∷ summary 2 1000 2 1000 ∷ summary 2 1000 2 1000 ∷ summary 2 1000 0 0 ∷ [])
    -- 3 is at an end of pair 6 (600), late on days 1 and 2 and settled on day 3; pair 3 gives nothing
    ∷ (summary 0 0 0 0 ∷ summary 2 1200 2 1200 ∷ summary 2 1200 2 1200 ∷ summary 2 1200 0 0 ∷ summary 0 0 0 0 ∷ [])
    -- 40 is at an end of pairs 5 and 6, and at both ends of pair 7 (50), late on day 2
    ∷ (summary 0 0 0 0 ∷ summary 2 1200 2 1200 ∷ summary 6 1600 4 1300 ∷ summary 2 1200 0 0 ∷ summary 0 0 0 0 ∷ [])
    ∷ []

-- what comes back for a summary after the five days
abbrev pub summary_given : ℕ → ℕ → Result Summary Refusal
summary_given day code = summary_answer day code (book_of (calls_of worked))

-- the answers for summaries, by hand
pub record SummariesGiven : Type 0 where
  -- the last code's, on day 2
  pub given : summary_given 2 40 ≡ Ok (summary 6 1600 4 1300)
  -- a day on which the code had nothing due
  pub nothing_due : summary_given 0 40 ≡ Ok (summary 0 0 0 0)
  -- codes are 1 to 40
  pub no_code_0 : summary_given 2 0 ≡ Err OutOfRange
  pub no_code_41 : summary_given 2 41 ≡ Err OutOfRange
  -- day 5 is not closed
  pub not_closed : summary_given 5 40 ≡ Err NotClosed
  -- the lowest number that applies
  pub lowest_number : summary_given 5 41 ≡ Err OutOfRange

-- ---- the claims

-- The two sides are those of the balance of the rows that the book gives.
abbrev pub SidesAreTheBalance : Type 0
SidesAreTheBalance =
    (m : Measure) (b : Book) (h : List Call) (day category : ℕ) (x : Balances m category day h (rows_of b))
    → (left_side m b h day category ≡ in_measure m x.row.settled + fails_together m x.row + balance.cancelled m category day h)
    × (right_side m b h day category ≡ x.previous + balance.newly_due m category day h + balance.part_settled m category day h)

-- What is worked by hand is what the definitions give.
pub record WorkedHolds : Type 0 where
  pub numbers_come_back : numbers (calls_of worked) ≡ numbers_given worked
  pub to_the_end : numbers (calls_of worked_to_end) ≡ numbers_given worked_to_end
  pub when_full : Claim (gives_when_full (calls_of worked_when_full) (numbers_given worked_when_full))
  pub readings : readings_of (history_of (calls_of worked)) ≡ worked_readings
  pub figures : figures_for (book_of (calls_of worked)) (history_of (calls_of worked)) worked_figures ≡ worked_figures
  pub by_deliverer : fails_of_each (λ d r. d) (journal (calls_of worked) fresh_book) ≡ worked_by_deliverer
  pub by_receiver : fails_of_each (λ d r. r) (journal (calls_of worked) fresh_book) ≡ worked_by_receiver
  pub summaries : summaries_of_each (book_of (calls_of worked)) ≡ worked_summaries
  pub summaries_given : SummariesGiven
  pub sides : SidesAreTheBalance
