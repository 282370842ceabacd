-- The table of calls: what stands in the columns of each call's line. docs/RULES.md, 'The calls as text'.
use Rattle.std.specs.Prelude.{◌≡◌, ℕ, ◌-◌, ◌^◌, ◌≤◌, ◌==◌, ◌↔◌, List, [], ◌∷◌, length, drop, replicate, slice_index_or, if◌then◌else◌}
use Rattle.book.specs.declared.calls.Call.{Call}
use Rattle.book.specs.declared.calls.Call.TheVariants.{Enter, Hold, Lack, Settle, Cancel, Close}

-- the columns of a call file
abbrev pub column_count : ℕ
column_count = 9

-- the calls, numbered from 1 on
abbrev pub call_count : ℕ
call_count = 6

-- The numbers of a call's line: call, id, kind, category, day, side, amount, deliverer, receiver. Hold puts its on/off in
-- amount, lack its value in side, settle its part in amount. A column that a call doesn't use is 0.
abbrev pub numbers_of : Call → List ℕ
numbers_of (Enter e) = 1 ∷ e.id ∷ e.kind ∷ e.category ∷ e.isd ∷ e.side ∷ e.amount ∷ e.deliverer ∷ e.receiver ∷ []
numbers_of (Hold id side on) = 2 ∷ id ∷ 0 ∷ 0 ∷ 0 ∷ side ∷ on ∷ 0 ∷ 0 ∷ []
numbers_of (Lack id lack) = 3 ∷ id ∷ 0 ∷ 0 ∷ 0 ∷ lack ∷ 0 ∷ 0 ∷ 0 ∷ []
numbers_of (Settle id part) = 4 ∷ id ∷ 0 ∷ 0 ∷ 0 ∷ 0 ∷ part ∷ 0 ∷ 0 ∷ []
numbers_of (Cancel id) = 5 ∷ id ∷ 0 ∷ 0 ∷ 0 ∷ 0 ∷ 0 ∷ 0 ∷ 0 ∷ []
numbers_of Close = 6 ∷ 0 ∷ 0 ∷ 0 ∷ 0 ∷ 0 ∷ 0 ∷ 0 ∷ 0 ∷ []

-- the call that a number makes with the values in the columns behind it; those that it doesn't use are not looked at
abbrev pub call_made : ℕ → List ℕ → Call
call_made number (id ∷ kind ∷ category ∷ isd ∷ side ∷ amount ∷ deliverer ∷ receiver ∷ []) =
    if number == 1 then Enter (record {
      id = id;
      kind = kind;
      category = category;
      isd = isd;
      side = side;
      amount = amount;
      deliverer = deliverer;
      receiver = receiver;
    })
    else (if number == 2 then Hold id side amount
    else (if number == 3 then Lack id side
    else (if number == 4 then Settle id amount
    else (if number == 5 then Cancel id
    else Close))))
call_made number values = Close

-- a field has up to 11 digits: its number is below this
abbrev pub short_limit : ℕ
short_limit = 10 ^ 11

-- the highest number of each column of a call's line: 0 where the call doesn't use it
abbrev pub highest_of : ℕ → List ℕ
highest_of number = numbers_of (call_made number (replicate (column_count - 1) (short_limit - 1)))

-- a call's number
abbrev pub IsNumber : ℕ → Type 0
IsNumber number = (1 ≤ number) × (number ≤ call_count)

-- the numbers are no call's
abbrev pub IsNoCall : List ℕ → Type 0
IsNoCall numbers = (call : Call) → numbers_of call ≡ numbers → ⊥

-- the call that the first of the numbers makes with those behind it
abbrev pub call_from : List ℕ → Call
call_from numbers = call_made (slice_index_or numbers 0 0) (drop 1 numbers)

-- A call is its numbers.
pub record CallsAreNumbers : Type 0 where
  -- Each call has as many as there are columns.
  pub count : (call : Call) → length (numbers_of call) ≡ column_count
  -- A number is the first of some call's exactly from 1 to the count of calls.
  pub number : (n : ℕ) → ((call : Call) × (slice_index_or (numbers_of call) 0 0 ≡ n)) ↔ IsNumber n
  -- They make it again.
  pub same_call : (call : Call) → call_from (numbers_of call) ≡ call
  -- Numbers are a call's exactly where they are those of the call that they make,
  pub of_a_call : (numbers : List ℕ) → ((call : Call) × (numbers_of call ≡ numbers)) ↔ (numbers_of (call_from numbers) ≡ numbers)
  -- and no call's exactly where they aren't.
  pub of_none : (numbers : List ℕ) → IsNoCall numbers ↔ (numbers_of (call_from numbers) ≡ numbers → ⊥)
