-- The closed days are those before the day of the next call.
use Rattle.history.proofs.Words.{◌≡◌, ℕ, suc, ◌<◌, true, List, [], ◌∷◌, arith, nat_lt, nat_tests, Call, closed, day_of}

pub closed-is : (d : ℕ) (h : List Call) → closed d h ≡ nat_lt d (day_of h)
closed-is d [] = grind (arith, nat_tests)
closed-is d (call ∷ h) = grind (arith, nat_tests, closed-is d h)

-- a closed day is one of them
pub closed_day : (d : ℕ) (h : List Call) → closed d h ≡ true → d < day_of h
closed_day d h is_closed = grind (arith, nat_tests, closed-is d h)

-- so is the day before a closed one
pub closed_before : (d : ℕ) (h : List Call) → closed (suc d) h ≡ true → closed d h ≡ true
closed_before d h is_closed = grind (arith, nat_tests, closed-is d h, closed_day (suc d) h)
