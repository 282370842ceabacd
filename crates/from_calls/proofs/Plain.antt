-- Rates and durations of plain sums: no rate is over 100%, no duration under a day, and each is stored as it is.
use Rattle.history.proofs.Words.{◌≡◌, ◌≢◌, ℕ, ◌+◌, ◌*◌, ◌<◌, ◌≤◌, arith, Some, nat_tests, day_limit, Value}
use Rattle.history.proofs.Words.{option_map}
use Rattle.std.proofs.Math.Nat.{div-lt_iff_lt-mul, div-le_self}
use Rattle.std.proofs.lemmas.Nat.{le-div}
use Rattle.rates.specs.Rate.{half_up, rate, duration}
use Rattle.counted.specs.Counted.{most}
use Rattle.rates.specs.Stored.{capped}

pub rate-most : (fails total : ℕ) → fails ≤ total → rate fails total ≤ 10000
rate-most fails total part =
    let below : total ≢ 0 → half_up (fails * 10000) total < 10001 =
    λ some. (div-lt_iff_lt-mul {k = 2 * total} {x = 2 * (fails * 10000) + total} {y = 10001} (omega arith)).1 (omega arith) in
    grind (arith, nat_tests)

pub rate_stored : (a b t f : ℕ) → f ≡ a + b → f ≤ t → t ≤ day_limit * most Value → capped (rate (capped (a + b)) t) ≡ rate f t
rate_stored a b t f both part small =
    let fails : capped (a + b) ≡ f = omega arith in
    let most = rate-most f t part in
    rw fails (omega arith)

pub duration-least : (fails isd n : ℕ) → isd ≤ fails → duration fails isd ≡ Some n → 100 ≤ n
duration-least fails isd n part given =
    let least : isd ≢ 0 → 100 ≤ half_up (fails * 100) isd = λ some. le-div 100 (2 * (fails * 100) + isd) (2 * isd) (omega arith)
    (omega arith) in
    grind (arith, nat_tests)

pub duration_stored : (a b t f : ℕ) → f ≡ a + b → t ≤ f → f ≤ day_limit * most Value
    → option_map capped (duration (capped (a + b)) t) ≡ duration f t
duration_stored a b t f both part small =
    let fails : capped (a + b) ≡ f = omega arith in
    let most : half_up (f * 100) t ≤ 2 * (f * 100) + t = div-le_self (2 * (f * 100) + t) (2 * t) in
    rw fails (grind (arith, nat_tests))
