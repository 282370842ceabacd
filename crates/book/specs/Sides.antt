-- To which side the two SIs of a failing pair go. docs/RULES.md, 'The side of a fail'.
use Rattle.std.specs.Prelude.{ℕ, Bool, ◌&&◌, ◌||◌, ◌==◌, [], ◌∷◌}
use Rattle.book.specs.Rules.{rule, first_of}
use Rattle.book.specs.Pairs.{Kind, Side, Lack, Holds, kind_number, side_number, lack_number, any_hold, both_hold}
pub use Rattle.book.specs.declared.sides.Sides.{Sides}
use Rattle.book.specs.declared.sides.Sides.TheVariants.{Securities, Cash, OneEach}

-- a kind, a side, a lack has that number
abbrev pub is_kind : ℕ → Kind → Bool
is_kind n kind = kind_number kind == n

abbrev pub is_side : ℕ → Side → Bool
is_side n side = side_number side == n

abbrev pub is_lack : ℕ → Lack → Bool
is_lack n lack = lack_number lack == n

-- The side of a fail at close, the first that applies:
abbrev pub sides_at_close : Kind → Holds → Lack → Sides
sides_at_close kind holds lack = first_of (
    -- a. kind 3: both SIs to securities;
    rule (is_kind 3 kind) Securities
    -- b. kind 4: both to cash;
    ∷ rule (is_kind 4 kind) Cash
    -- c. kind 1 with both holds, or kind 2 with any hold: one SI and one rest to each side;
    ∷ rule (is_kind 1 kind && both_hold holds || is_kind 2 kind && any_hold holds) OneEach
    -- d. kind 1 with one hold: deliverer to securities, receiver to cash, both SIs;
    ∷ rule (is_kind 1 kind && holds.deliverer) Securities
    ∷ rule (is_kind 1 kind && holds.receiver) Cash
    -- e. lack 1 to securities, lack 2 to cash, both SIs;
    ∷ rule (is_lack 1 lack) Securities
    ∷ rule (is_lack 2 lack) Cash
    -- f. otherwise securities, both SIs.
    ∷ []) Securities

-- The side of a late fail: kind 3 goes to securities, kind 4 to cash, otherwise side 1 to securities and side 2 to cash.
abbrev pub sides_when_late : Kind → Side → Sides
sides_when_late kind side = first_of (
    rule (is_kind 3 kind) Securities
    ∷ rule (is_kind 4 kind) Cash
    ∷ rule (is_side 1 side) Securities
    ∷ []) Cash
