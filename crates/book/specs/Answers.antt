-- What comes back from each call. docs/RULES.md, 'Numbers given back'.
use Rattle.std.specs.Prelude.{ℕ, Bool, true, false, not, ◌||◌, nat_le, nat_lt, ◌==◌, List, [], ◌∷◌, length, Option, None, Some, Ok, Err}
use Rattle.std.specs.List.{find}
use Rattle.book.specs.Limits.{day_limit, open_limit}
use Rattle.book.specs.Rules.{rule, first_of}
use Rattle.book.specs.Pairs.{Pair, in_range, is_hold, any_hold}
use Rattle.book.specs.Calls.{Call, Refusal, Answer}
use Rattle.book.specs.declared.calls.Call.TheVariants.{Enter, Hold, Lack, Settle, Cancel, Close}
use Rattle.book.specs.declared.calls.Refusal.TheVariants.{Finished, OutOfRange, IdSpent, BookFull, NotOpen, NotDue, OnHold, WrongPart}
use Rattle.book.specs.declared.book.Book.{Book}

-- ---- the open pair of an id: the first, in a book that has several

-- the pair has that id
abbrev pub has_id : ℕ → Pair → Bool
has_id id p = p.id == id

-- the open pair of that id
abbrev pub pair_of : ℕ → List Pair → Option Pair
pair_of id pairs = find (has_id id) pairs

-- there is none
abbrev pub is_absent : Option Pair → Bool
is_absent None = true
is_absent (Some p) = false

-- there is one, and it passes a test
abbrev pub is_one : (Pair → Bool) → Option Pair → Bool
is_one test None = false
is_one test (Some p) = test p

-- ---- when a number applies

-- 1: today = 64; a book that no calls leave may be past it
abbrev pub is_finished : Book → Bool
is_finished b = nat_le day_limit b.today

-- 3: an id not above all accepted ids
abbrev pub is_spent : ℕ → Book → Bool
is_spent id b = nat_le id b.last_id

-- 4: 1,024 open
abbrev pub is_full : Book → Bool
is_full b = nat_le open_limit (length b.pairs.items)

-- 5: the id is not open
abbrev pub is_not_open : ℕ → Book → Bool
is_not_open id b = is_absent (pair_of id b.pairs.items)

-- 6: today before the ISD
abbrev pub is_undue : ℕ → Pair → Bool
is_undue today p = nat_lt today p.isd

-- 7: any hold on
abbrev pub is_held : Pair → Bool
is_held p = any_hold p.holds

-- 8: part 0 or above the rest
abbrev pub is_wrong_part : ℕ → Pair → Bool
is_wrong_part part p = part == 0 || nat_lt p.rest part

-- of the open pair of an id
abbrev pub of_open : (Pair → Bool) → ℕ → Book → Bool
of_open test id b = is_one test (pair_of id b.pairs.items)

-- ---- what comes back

-- a refusal where it applies
abbrev pub refused_if : Bool → Refusal → Bool × Answer
refused_if applies refusal = rule applies (Err refusal)

-- the lowest number that applies, for rules in the order of their numbers, and none without its condition
abbrev pub lowest_of : List (Bool × Answer) → Answer
lowest_of rules = first_of rules (Ok tt)

-- What comes back from each call.
abbrev pub answer_to : Call → Book → Answer
answer_to (Enter e) b = lowest_of (
    refused_if (is_finished b) Finished
    ∷ refused_if (not (in_range e)) OutOfRange
    ∷ refused_if (is_spent e.id b) IdSpent
    ∷ refused_if (is_full b) BookFull
    ∷ [])
answer_to (Hold id side on) b = lowest_of (
    refused_if (is_finished b) Finished
    ∷ refused_if (not (is_hold side on)) OutOfRange
    ∷ refused_if (is_not_open id b) NotOpen
    ∷ [])
answer_to (Lack id lack) b = lowest_of (
    refused_if (is_finished b) Finished
    ∷ refused_if (nat_lt 2 lack) OutOfRange
    ∷ refused_if (is_not_open id b) NotOpen
    ∷ [])
answer_to (Settle id part) b = lowest_of (
    refused_if (is_finished b) Finished
    ∷ refused_if (is_not_open id b) NotOpen
    ∷ refused_if (of_open (is_undue b.today) id b) NotDue
    ∷ refused_if (of_open is_held id b) OnHold
    ∷ refused_if (of_open (is_wrong_part part) id b) WrongPart
    ∷ [])
answer_to (Cancel id) b = lowest_of (
    refused_if (is_finished b) Finished
    ∷ refused_if (is_not_open id b) NotOpen
    ∷ [])
answer_to Close b = lowest_of (refused_if (is_finished b) Finished ∷ [])

-- the last three of them for a pair that is open, as the code asks
abbrev pub settle_answer : ℕ → ℕ → Pair → Answer
settle_answer today part p = lowest_of (
    refused_if (is_undue today p) NotDue
    ∷ refused_if (is_held p) OnHold
    ∷ refused_if (is_wrong_part part p) WrongPart
    ∷ [])
