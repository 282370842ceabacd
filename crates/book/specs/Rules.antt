-- Rules of which the first that applies decides.
use Rattle.std.specs.Prelude.{Bool, List, [], ◌∷◌, if◌then◌else◌}

-- a rule: whether it applies, and what it gives
abbrev pub rule : {A : Type 0} → Bool → A → Bool × A
rule applies gives = (applies, gives)

-- what the first rule that applies gives, or what is given otherwise
abbrev pub first_of : {A : Type 0} → List (Bool × A) → A → A
first_of [] otherwise = otherwise
first_of (r ∷ rules) otherwise = if r.0 then r.1 else first_of rules otherwise
