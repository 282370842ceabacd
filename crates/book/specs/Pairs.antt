-- A pair: two matched settlement instructions (SIs), and what a call changes of it. docs/RULES.md, 'The pair'.
use Rattle.std.specs.Prelude.{◌≡◌, ℕ, ◌-◌, Bool, false, ◌&&◌, ◌||◌, nat_le, nat_lt, ◌==◌, if◌then◌else◌, List, [], ◌∷◌, None, Some, Result, Ok, Err}
use Rattle.book.specs.declared.calls.Refusal.{Refusal}
use Rattle.book.specs.declared.calls.Refusal.TheVariants.{OutOfRange}
use Rattle.book.specs.Limits.{day_limit, category_count, largest_id, largest_amount, largest_code}
pub use Rattle.book.specs.declared.pairs.Kind.{Kind}
use Rattle.book.specs.declared.pairs.Kind.TheVariants.{AgainstPayment, WithPayment, FreeOfPayment, PaymentOnly}
pub use Rattle.book.specs.declared.pairs.Side.{Side}
use Rattle.book.specs.declared.pairs.Side.TheVariants as side
pub use Rattle.book.specs.declared.pairs.Lack.{Lack}
use Rattle.book.specs.declared.pairs.Lack.TheVariants as lack
pub use Rattle.book.specs.declared.pairs.Holds.{Holds}
pub use Rattle.book.specs.declared.pairs.Entry.{Entry}
pub use Rattle.book.specs.declared.pairs.Pair.{Pair}

-- ---- the numbers of kinds, sides and lacks

-- kind: 1 DVP/RVP, 2 DWP/RWP, 3 DFP/RFP, 4 DPFOD/CPFOD
abbrev pub kind_number : Kind → ℕ
kind_number AgainstPayment = 1
kind_number WithPayment = 2
kind_number FreeOfPayment = 3
kind_number PaymentOnly = 4

-- the kind with that number
abbrev pub kind_of : ℕ → Kind
kind_of n =
    if n == 1 then AgainstPayment
    else if n == 2 then WithPayment
    else if n == 3 then FreeOfPayment
    else PaymentOnly

-- side: who entered last, 1 deliverer, 2 receiver
abbrev pub side_number : Side → ℕ
side_number side.Deliverer = 1
side_number side.Receiver = 2

-- the side with that number
abbrev pub side_of : ℕ → Side
side_of n = if n == 1 then side.Deliverer else side.Receiver

-- lack: 0 none, 1 securities, 2 cash
abbrev pub lack_number : Lack → ℕ
lack_number lack.Nothing = 0
lack_number lack.Securities = 1
lack_number lack.Cash = 2

-- the lack with that number
abbrev pub lack_of : ℕ → Lack
lack_of n = if n == 0 then lack.Nothing else if n == 1 then lack.Securities else lack.Cash

-- The case of a case's number is that case.
pub record NumbersMatch : Type 0 where
  pub kinds : (k : Kind) → kind_of (kind_number k) ≡ k
  pub sides : (s : Side) → side_of (side_number s) ≡ s
  pub lacks : (l : Lack) → lack_of (lack_number l) ≡ l

-- from the lowest to the highest, both included
abbrev pub is_within : ℕ → ℕ → ℕ → Bool
is_within low high n = nat_le low n && nat_le n high

-- a value that stands for a number in its range, and number 2 for any other
abbrev pub if_in_range : {A : Type 0} → Bool → A → Result A Refusal
if_in_range fits value = if fits then Ok value else Err OutOfRange

-- a kind, a side or a lack from its number
abbrev pub GivesKind : ℕ → Result Kind Refusal → Type 0
GivesKind n r = r ≡ if_in_range (is_within 1 4 n) (kind_of n)

abbrev pub GivesSide : ℕ → Result Side Refusal → Type 0
GivesSide n r = r ≡ if_in_range (is_within 1 2 n) (side_of n)

abbrev pub GivesLack : ℕ → Result Lack Refusal → Type 0
GivesLack n r = r ≡ if_in_range (nat_le n 2) (lack_of n)

-- Hold's on/off is 1 or 0.
abbrev pub switch_of : ℕ → Result Bool Refusal
switch_of on = if_in_range (nat_le on 1) (on == 1)

-- ---- the pair as it is entered

-- each value of an enter is in its range; the codes at the two ends may be the same
abbrev pub in_range : Entry → Bool
in_range e =
    is_within 1 largest_id e.id
    && is_within 1 4 e.kind
    && is_within 1 category_count e.category
    && nat_lt e.isd day_limit
    && is_within 1 2 e.side
    && is_within 1 largest_amount e.amount
    && is_within 1 largest_code e.deliverer
    && is_within 1 largest_code e.receiver

-- At the start all of the amount is open, and there is no hold and no lack.
abbrev pub entered : Entry → Pair
entered e = record {
  amount = e.amount;
  rest = e.amount;
  id = e.id;
  kind = kind_of e.kind;
  category = e.category;
  isd = e.isd;
  side = side_of e.side;
  deliverer = e.deliverer;
  receiver = e.receiver;
  holds = record { deliverer = false; receiver = false };
  lack = lack.Nothing;
  last_part = None;
}

-- ---- what a call changes of it

-- Hold: the side is 1 or 2, and on/off is 1 or 0.
abbrev pub is_hold : ℕ → ℕ → Bool
is_hold side on = is_within 1 2 side && nat_le on 1

-- the hold of a side goes on or off
abbrev pub set_hold : Side → Bool → Holds → Holds
set_hold side.Deliverer on h = record { deliverer = on; receiver = h.receiver }
set_hold side.Receiver on h = record { deliverer = h.deliverer; receiver = on }

-- a pair with that hold of a side
abbrev pub with_hold : Side → Bool → Pair → Pair
with_hold s on p = record p { holds = set_hold s on p.holds }

-- a hold is on, on either side
abbrev pub any_hold : Holds → Bool
any_hold h = h.deliverer || h.receiver

-- a hold is on, on both sides
abbrev pub both_hold : Holds → Bool
both_hold h = h.deliverer && h.receiver

-- Lack: 0, 1 or 2
abbrev pub with_lack : Lack → Pair → Pair
with_lack l p = record p { lack = l }

-- Settle takes a part of the rest.
abbrev pub with_part : ℕ → ℕ → Pair → Pair
with_part today part p = record p { rest = p.rest - part; last_part = Some today }

-- A pair is open while it has a rest.
abbrev pub while_open : Pair → List Pair
while_open p = if p.rest == 0 then [] else p ∷ []
