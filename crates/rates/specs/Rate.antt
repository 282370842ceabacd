-- The fail rate and the average duration. docs/RULES.md, 'A report'.
use Rattle.std.specs.Prelude.{ℕ, ◌+◌, ◌*◌, ◌/◌, ◌==◌, if◌then◌else◌, ◌≤◌, ◌<◌, Bool, nat_lt, Option, Some, None}

-- a quotient rounded half up, where the divisor is not 0
abbrev pub half_up : ℕ → ℕ → ℕ
half_up top bottom = (2 * top + bottom) / (2 * bottom)

-- A rate is fails × 10,000 / total, rounded half up, in hundredths of a percent; 0 if total is 0.
abbrev pub rate : ℕ → ℕ → ℕ
rate fails total = if total == 0 then 0 else half_up (fails * 10000) total

-- The duration is the sum of fail values divided by the sum of ISD values, in hundredths of a day, half up, and absent
-- if the divisor is 0.
abbrev pub duration : ℕ → ℕ → Option ℕ
duration fail_values isd_values = if isd_values == 0 then None else Some (half_up (fail_values * 100) isd_values)

-- The rate of f fails to a total of t is higher than that of g to u, for totals above 0: multiplied out, so that nothing is
-- rounded. The products have up to 128 bits.
abbrev pub is_higher : ℕ → ℕ → ℕ → ℕ → Bool
is_higher f t g u = nat_lt (g * t) (f * u)

-- The number is the quotient to the nearest whole one, and the upper one of two that are as near.
pub record IsHalfUp (top bottom number : ℕ) : Type 0 where
  pub low : 2 * number * bottom ≤ 2 * top + bottom
  pub high : 2 * top + bottom < 2 * (number + 1) * bottom

-- What a rounded quotient is, where the divisor is not 0.
abbrev pub RoundsHalfUp : Type 0
RoundsHalfUp = (top bottom : ℕ) → 0 < bottom → IsHalfUp top bottom (half_up top bottom)
