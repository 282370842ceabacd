-- The edges of the rules: something given, and what comes of it, as entries of one list. docs/RULES.md, 'Edges'.
use Rattle.std.specs.Prelude.{◌≡◌, ℕ, List, [], ◌∷◌, ◌++◌, map, replicate, Ok}
use Rattle.std.specs.List.{range_with_len}
use Rattle.rates.specs.Rate.{rate}
use Rattle.book.specs.Calls.{answer_number}
use Rattle.book.specs.declared.calls.Call.{Call}
use Rattle.book.specs.declared.calls.Call.TheVariants.{Hold, Settle, Close}
use Rattle.book.specs.Rows.{row_answer}
use Rattle.book.specs.declared.rows.Row.{Row}
use Rattle.book.specs.Book.{fresh_book}
use Rattle.history.specs.History.{answers, book_of}
use Rattle.lines.specs.Worked.{enter, worked_calls}

-- ---- calls and rows as the rules write them

-- the enter of an id with these codes at its ends: kind 1, category 1, ISD 0, side 1, 100 cents
abbrev pub enter_between : ℕ → ℕ → ℕ → Call
enter_between id deliverer receiver = enter id 1 1 0 1 100 deliverer receiver

-- the same between codes 1 and 2
abbrev pub enter_of : ℕ → Call
enter_of id = enter_between id 1 2

-- a row, in the order of the table's columns
abbrev pub row : ℕ → ℕ → ℕ → ℕ → ℕ → ℕ → ℕ → ℕ → ℕ → Row
row total_n settled_n sec_n cash_n total_v settled_v sec_v cash_v isd_v = record {
  total = record { number = total_n; value = total_v };
  settled = record { number = settled_n; value = settled_v };
  securities = record { number = sec_n; value = sec_v };
  cash = record { number = cash_n; value = cash_v };
  isd_value = isd_v;
}

-- the numbers that come back, from a fresh book
abbrev pub numbers : List Call → List ℕ
numbers calls = map answer_number (answers calls fresh_book)

-- ---- an edge

-- what is given, and what comes of it
pub data Edge : Type 0 where
  -- calls from a fresh book, and the numbers that come back
  gives_numbers : List Call → List ℕ → Edge
  -- calls after the enters of ids 1 to 1,024, each of them accepted, and the numbers that come back
  gives_when_full : List Call → List ℕ → Edge
  -- calls from a fresh book, and the row that is then given for a day and category
  gives_row : List Call → ℕ → ℕ → Row → Edge
  -- fails and total, and their rate
  gives_rate : ℕ → ℕ → ℕ → Edge

-- what it claims
abbrev pub Claim : Edge → Type 0
Claim (gives_numbers calls given) = numbers calls ≡ given
Claim (gives_when_full calls given) = numbers (map enter_of (range_with_len 1 1024) ++ calls) ≡ replicate 1024 0 ++ given
Claim (gives_row calls day category r) = row_answer day category (book_of calls) ≡ Ok r
Claim (gives_rate fails total r) = rate fails total ≡ r

-- ---- the edges

-- every edge
abbrev pub edges : List Edge
edges =
    -- P1 enter with 1,024 open: 4
    gives_when_full (enter_of 1025 ∷ []) (4 ∷ [])
    -- P2 after one settles in full: accepted
    ∷ gives_when_full (Settle 700 100 ∷ enter_of 1025 ∷ []) (0 ∷ 0 ∷ [])
    -- P3 amount 10,000,000,000 accepted
    ∷ gives_numbers (enter 1 1 1 0 1 10000000000 1 2 ∷ []) (0 ∷ [])
    -- P4 one cent more: 2
    ∷ gives_numbers (enter 1 1 1 0 1 10000000001 1 2 ∷ []) (2 ∷ [])
    -- P5 id 65,535 accepted
    ∷ gives_numbers (enter_of 65535 ∷ []) (0 ∷ [])
    -- P6 id equal to the last: 3
    ∷ gives_numbers (enter_of 65535 ∷ enter_of 65535 ∷ []) (0 ∷ 3 ∷ [])
    -- P7 close on day 63 accepted
    ∷ gives_numbers (replicate 64 Close) (replicate 64 0)
    -- P8 then close: 1
    ∷ gives_numbers (replicate 65 Close) (replicate 64 0 ++ (1 ∷ []))
    -- P9 kind 1, both holds, rest 100: 1 SI and 100 a side
    ∷ gives_row (enter_of 1 ∷ Hold 1 1 1 ∷ Hold 1 2 1 ∷ Close ∷ []) 0 1 (row 2 0 1 1 200 0 100 100 200)
    -- P10 rate 3 of 8: 3750
    ∷ gives_rate 3 8 3750
    -- P11 rate 7 of 21: 3333
    ∷ gives_rate 7 21 3333
    -- P12 the four rows of the worked file, whose calls are all accepted
    ∷ gives_numbers worked_calls (replicate 10 0)
    ∷ gives_row worked_calls 0 0 (row 4 2 2 0 20000 10000 10000 0 10000)
    ∷ gives_row worked_calls 1 0 (row 6 2 2 2 18000 4000 6000 8000 8000)
    ∷ gives_row worked_calls 2 0 (row 4 0 2 2 14000 0 6000 8000 0)
    ∷ gives_row worked_calls 3 0 (row 4 4 0 0 14000 14000 0 0 0)
    -- A refused id isn't spent: after 2, and after 4.
    ∷ gives_numbers (enter 1 1 1 0 1 10000000001 1 2 ∷ enter 1 1 1 0 1 10000000000 1 2 ∷ []) (2 ∷ 0 ∷ [])
    ∷ gives_when_full (enter_of 1025 ∷ Settle 700 100 ∷ enter_of 1025 ∷ []) (4 ∷ 0 ∷ 0 ∷ [])
    -- Codes 1 and 40 are accepted at either end, and one code at both; 0 and 41 at either end: 2.
    ∷ gives_numbers (enter_between 1 1 40 ∷ enter_between 2 40 1 ∷ enter_between 3 40 40 ∷ []) (0 ∷ 0 ∷ 0 ∷ [])
    ∷ gives_numbers (enter_between 1 0 2 ∷ enter_between 1 1 0 ∷ []) (2 ∷ 2 ∷ [])
    ∷ gives_numbers (enter_between 1 41 2 ∷ enter_between 1 1 41 ∷ []) (2 ∷ 2 ∷ [])
    ∷ []
