-- The sides of a fail in every case, written out from the words of the rules, and not from the definition of the sides.
-- docs/RULES.md, 'The side of a fail'.
use Rattle.std.specs.Prelude.{◌≡◌, Bool, true, false, List, [], ◌∷◌, map}
use Rattle.std.specs.List.{flat_map}
use Rattle.book.specs.declared.pairs.Kind.{Kind}
use Rattle.book.specs.declared.pairs.Lack.{Lack}
use Rattle.book.specs.declared.pairs.Holds.{Holds}
use Rattle.book.specs.Sides.{sides_at_close, sides_when_late}
use Rattle.book.specs.declared.pairs.Kind.TheVariants.{AgainstPayment, WithPayment, FreeOfPayment, PaymentOnly}
use Rattle.book.specs.declared.pairs.Side.TheVariants as side
use Rattle.book.specs.declared.pairs.Lack.TheVariants as lack
use Rattle.book.specs.declared.sides.Sides.{Sides}
use Rattle.book.specs.declared.sides.Sides.TheVariants.{Securities, Cash, OneEach}

-- a kind and the deliverer's and the receiver's hold, and the sides at close where the lack is 0, 1 and 2
pub record AtClose : Type 0 where
  pub kind : Kind
  pub holds : Holds
  pub nothing : Sides
  pub securities : Sides
  pub cash : Sides

-- a line of the table
abbrev at_close : Kind → Bool → Bool → Sides → Sides → Sides → AtClose
at_close k d r n s c = record { kind = k; holds = record { deliverer = d; receiver = r }; nothing = n; securities = s; cash = c }

-- kinds 1 to 4, with each of the four holds
abbrev pub close_table : List AtClose
close_table =
    -- kind 1: rules e and f without a hold, d with one, c with both
    at_close AgainstPayment false false Securities Securities Cash
    ∷ at_close AgainstPayment true false Securities Securities Securities
    ∷ at_close AgainstPayment false true Cash Cash Cash
    ∷ at_close AgainstPayment true true OneEach OneEach OneEach
    -- kind 2: rules e and f without a hold, c with any
    ∷ at_close WithPayment false false Securities Securities Cash
    ∷ at_close WithPayment true false OneEach OneEach OneEach
    ∷ at_close WithPayment false true OneEach OneEach OneEach
    ∷ at_close WithPayment true true OneEach OneEach OneEach
    -- kind 3: rule a
    ∷ at_close FreeOfPayment false false Securities Securities Securities
    ∷ at_close FreeOfPayment true false Securities Securities Securities
    ∷ at_close FreeOfPayment false true Securities Securities Securities
    ∷ at_close FreeOfPayment true true Securities Securities Securities
    -- kind 4: rule b
    ∷ at_close PaymentOnly false false Cash Cash Cash
    ∷ at_close PaymentOnly true false Cash Cash Cash
    ∷ at_close PaymentOnly false true Cash Cash Cash
    ∷ at_close PaymentOnly true true Cash Cash Cash
    ∷ []

-- a kind, and the sides of a late fail where the deliverer and where the receiver entered last
pub record WhenLate : Type 0 where
  pub kind : Kind
  pub deliverer : Sides
  pub receiver : Sides

-- a line of the table
abbrev when_late : Kind → Sides → Sides → WhenLate
when_late k d r = record { kind = k; deliverer = d; receiver = r }

-- kinds 1 to 4
abbrev pub late_table : List WhenLate
late_table =
    when_late AgainstPayment Securities Cash
    ∷ when_late WithPayment Securities Cash
    ∷ when_late FreeOfPayment Securities Securities
    ∷ when_late PaymentOnly Cash Cash
    ∷ []

-- ---- the definition

-- the four kinds
abbrev pub kinds : List Kind
kinds = AgainstPayment ∷ WithPayment ∷ FreeOfPayment ∷ PaymentOnly ∷ []

-- a line as the definition gives it
abbrev pub line_of : Kind → Bool → Bool → AtClose
line_of k d r =
    let s : Lack → Sides = sides_at_close k (record { deliverer = d; receiver = r }) in
    at_close k d r (s lack.Nothing) (s lack.Securities) (s lack.Cash)

-- and a line of late fails
abbrev pub late_line_of : Kind → WhenLate
late_line_of k = when_late k (sides_when_late k side.Deliverer) (sides_when_late k side.Receiver)

-- The definition gives both tables, and every case stands in them.
abbrev pub SidesAreTheTable : Type 0
SidesAreTheTable =
    (flat_map (λ k. line_of k false false ∷ line_of k true false ∷ line_of k false true ∷ line_of k true true ∷ []) kinds ≡ close_table)
    × (map late_line_of kinds ≡ late_table)
