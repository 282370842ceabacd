-- What an accepted call says of the book that it finds: of the refusals in its list none applies.
use Rattle.history.proofs.Words.{◌≡◌, ℕ, ◌<◌, ◌≤◌, false, Option, None, Some, Ok, refl, arith, nat_tests, Call, Enter, Settle}
use Rattle.history.proofs.Words.{Entry, Pair, Book, day_limit, largest_id, entered, answer_to, pair_of, is_not_open, on_id}
use Rattle.history.proofs.Pairs.{IsSound}

-- any call: it falls on a day that is not finished
pub open_day : (call : Call) (b : Book) → answer_to call b ≡ Ok tt → b.today < day_limit
open_day call b a = grind (arith, nat_tests)

-- an enter: its values are in their ranges, and its id is new
pub record Accepts (e : Entry) (b : Book) : Type 0 where
  pub above : b.last_id < e.id
  pub id : e.id ≤ largest_id
  pub some : 1 ≤ e.amount
  pub sound : IsSound (entered e)

pub accepts : (e : Entry) (b : Book) → answer_to (Enter e) b ≡ Ok tt → Accepts e b
accepts e b a = record {
  above = grind (arith, nat_tests);
  id = grind (arith, nat_tests);
  some = grind (arith, nat_tests);
  sound = grind (arith, nat_tests);
}

-- a call on an open pair: there is one of its id
pub record OfOpen (id : ℕ) (b : Book) : Type 0 where
  pub pair : Pair
  pub found : pair_of id b.pairs.items ≡ Some pair

pub open_pair : (call : Call) (b : Book) → is_not_open (on_id call) b ≡ false → OfOpen (on_id call) b
open_pair call b is_open = by (pair_of (on_id call) b.pairs.items) refl
  where
    by : (o : Option Pair) → pair_of (on_id call) b.pairs.items ≡ o → OfOpen (on_id call) b
    by None e = absurd (grind arith)
    by (Some p) e = record { pair = p; found = e }

-- a settle: its pair is due, and the part is one of its rest
pub settles : (id x : ℕ) (b : Book) (p : Pair) → pair_of id b.pairs.items ≡ Some p → answer_to (Settle id x) b ≡ Ok tt
    → (p.isd ≤ b.today) × (x ≤ p.rest)
settles id x b p found a = (grind (arith, nat_tests), grind (arith, nat_tests))
