-- When each of the numbers applies to a call, and that the lowest that applies comes back. docs/RULES.md, 'Numbers given back'.
use Rattle.std.specs.Prelude.{◌≡◌, ◌<◌, ℕ, max, Bool, true, false, not, nat_le, nat_lt, List, [], ◌∷◌, length, Option, Ok, Err}
use Rattle.book.specs.declared.pairs.Entry.{Entry}
use Rattle.book.specs.declared.pairs.Pair.{Pair}
use Rattle.book.specs.declared.book.Book.{Book}
use Rattle.book.specs.Pairs.{in_range, is_hold}
use Rattle.book.specs.Limits.{day_limit, open_limit}
use Rattle.book.specs.Answers.{is_held, is_undue, is_wrong_part, is_absent, is_one, answer_to, pair_of}
use Rattle.book.specs.declared.calls.Call.{Call}
use Rattle.book.specs.declared.calls.Refusal.{Refusal}
use Rattle.book.specs.Calls.{refusal_number, Answer, answer_number}
use Rattle.book.specs.declared.calls.Call.TheVariants.{Enter, Hold, Lack, Settle, Cancel}
use Rattle.book.specs.declared.calls.Refusal.TheVariants.{Finished, OutOfRange, IdSpent, BookFull, NotOpen, NotDue, OnHold, WrongPart}
use Rattle.history.specs.History.{day_of, entries, book_of, history_of}
use Rattle.history.specs.Sums.{sum_of}
use Rattle.counted.specs.PairCalls.{open_of}

-- ---- what an answer looks at

-- All that an answer looks at.
pub record View : Type 0 where
  pub today : ℕ
  -- the highest id that was accepted, 0 where none was
  pub highest : ℕ
  -- how many pairs are open
  pub count : ℕ
  -- the open pair of an id
  pub pair : ℕ → Option Pair

-- from a book
abbrev pub view_of : Book → View
view_of b = record { today = b.today; highest = b.last_id; count = length b.pairs.items; pair = λ id. pair_of id b.pairs.items }

-- the highest of the accepted ids, 0 where there is none
abbrev pub highest_id : List Entry → ℕ
highest_id [] = 0
highest_id (e ∷ es) = max e.id (highest_id es)

-- from the accepted calls h: the pairs replayed
abbrev pub view_of_calls : List Call → View
view_of_calls h = record {
  today = day_of h;
  highest = highest_id (entries h);
  count = sum_of (λ e. length (open_of e.id h)) (entries h);
  pair = λ id. pair_of id (open_of id h);
}

-- ---- when a number applies to a call

-- 1: any call, today = 64
abbrev pub is_finished : View → Bool
is_finished v = nat_le day_limit v.today

-- 2: a value out of its range in enter, hold's side or on/off, lack's value
abbrev pub is_out_of_range : Call → Bool
is_out_of_range (Enter e) = not (in_range e)
is_out_of_range (Hold id side on) = not (is_hold side on)
is_out_of_range (Lack id lack) = nat_lt 2 lack
is_out_of_range _ = false

-- of an enter alone
abbrev pub on_enter : (ℕ → Bool) → Call → Bool
on_enter test (Enter e) = test e.id
on_enter test _ = false

-- 5: hold, lack, settle, cancel: id not open
abbrev pub is_not_open : Call → View → Bool
is_not_open (Hold id side on) v = is_absent (v.pair id)
is_not_open (Lack id lack) v = is_absent (v.pair id)
is_not_open (Settle id part) v = is_absent (v.pair id)
is_not_open (Cancel id) v = is_absent (v.pair id)
is_not_open _ v = false

-- of a settle alone: its part, and the open pair of its id
abbrev pub on_settle : (ℕ → Pair → Bool) → Call → View → Bool
on_settle test (Settle id part) v = is_one (test part) (v.pair id)
on_settle test _ v = false

-- whether a number applies to a call
abbrev pub applies : Call → View → Refusal → Bool
applies call v Finished = is_finished v
applies call v OutOfRange = is_out_of_range call
-- 3: enter, id not above all accepted ids
applies call v IdSpent = on_enter (λ id. nat_le id v.highest) call
-- 4: enter, 1,024 open
applies call v BookFull = on_enter (λ id. nat_le open_limit v.count) call
applies call v NotOpen = is_not_open call v
-- 6: settle, today before ISD
applies call v NotDue = on_settle (λ part. is_undue v.today) call v
-- 7: settle, any hold on
applies call v OnHold = on_settle (λ part. is_held) call v
-- 8: settle, part 0 or above the rest
applies call v WrongPart = on_settle is_wrong_part call v
-- 9, 10, 11: rows, reports, files and texts
applies call v _ = false

-- ---- the lowest number that applies

-- What comes back applies, and no lower number does; where none comes back, none applies.
abbrev pub IsLowest : (Refusal → Bool) → Answer → Type 0
IsLowest test (Ok u) = (s : Refusal) → test s ≡ false
IsLowest test (Err r) = (test r ≡ true) × ((s : Refusal) → refusal_number s < refusal_number r → test s ≡ false)

-- One answer is that, and no other.
abbrev pub LowestIsOne : Type 0
LowestIsOne = (test : Refusal → Bool) (a b : Answer) → IsLowest test a → IsLowest test b → a ≡ b

-- The lowest number that applies is returned, and none without its condition.
abbrev pub LowestIsReturned : Type 0
LowestIsReturned = (call : Call) (b : Book) → IsLowest (applies call (view_of b)) (answer_to call b)

-- After every list of calls: by the pairs and ids that stand in the accepted calls alone.
abbrev pub LowestByTheCalls : Type 0
LowestByTheCalls = (calls : List Call) (call : Call) → IsLowest (applies call (view_of_calls (history_of calls))) (answer_to call (book_of calls))

-- Two answers of one number are one.
abbrev pub NumbersTellApart : Type 0
NumbersTellApart = (a b : Answer) → answer_number a ≡ answer_number b → a ≡ b
