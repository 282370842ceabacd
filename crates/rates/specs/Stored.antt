-- Numbers as they are stored: up to 64 bits.
use Rattle.std.specs.Prelude.{ℕ, ◌-◌, ◌^◌, min}

-- the largest number of 64 bits
abbrev pub largest_stored : ℕ
largest_stored = 2 ^ 64 - 1

-- a number as it is stored: it stops at the largest
abbrev pub capped : ℕ → ℕ
capped n = min n largest_stored
