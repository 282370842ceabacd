-- Rates, durations and comparisons, as the rules or a calculation by hand have them.
use Rattle.std.specs.Prelude.{◌≡◌, ℕ, Bool, true, false, List, [], ◌∷◌, Option, Some, None}
use Rattle.rates.specs.Rate.{rate, duration, is_higher}

-- what is asked for, and what it comes to
pub data Example : Type 0 where
  rate_of : ℕ → ℕ → ℕ → Example
  duration_of : ℕ → ℕ → Option ℕ → Example
  higher : ℕ → ℕ → ℕ → ℕ → Bool → Example

-- that the definition comes to it
abbrev pub Claim : Example → Type 0
Claim (rate_of fails total given) = rate fails total ≡ given
Claim (duration_of fails isd given) = duration fails isd ≡ given
Claim (higher f t g u given) = is_higher f t g u ≡ given

abbrev pub examples : List Example
examples =
    -- P10 and P11 of docs/RULES.md, 'Edges'
    rate_of 3 8 3750
    ∷ rate_of 7 21 3333
    -- 312.5, half up
    ∷ rate_of 1 32 313
    ∷ rate_of 0 0 0
    -- the report over days 0 to 3 of the worked file
    ∷ rate_of 10 18 5556
    ∷ rate_of 38000 66000 5758
    ∷ duration_of 38000 18000 (Some 211)
    ∷ duration_of 38000 0 None
    -- 33.33 percent both, in hundredths
    ∷ higher 1 3 3333 10000 true
    ∷ higher 3333 10000 1 3 false
    -- level
    ∷ higher 1 3 2 6 false
    -- products of 128 bits that differ by 1
    ∷ higher 18446744073709551614 18446744073709551615 18446744073709551613 18446744073709551614 true
    ∷ []
