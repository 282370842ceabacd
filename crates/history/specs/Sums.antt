-- Figures in number and in value, and sums of them over pairs. docs/RULES.md, 'A row'.
use Rattle.std.specs.Prelude.{ℕ, ◌+◌, ◌*◌, Bool, ◌||◌, ◌==◌, List, [], ◌∷◌, if◌then◌else◌}
use Rattle.book.specs.declared.calls.Call.{Call}
use Rattle.book.specs.declared.pairs.Entry.{Entry}
use Rattle.book.specs.declared.figures.Figure.{Figure}
use Rattle.book.specs.declared.figures.Measure.{Measure}
use Rattle.book.specs.declared.figures.Measure.TheVariants.{Number, Value}
use Rattle.history.specs.History.{entries}

-- a number and a value
abbrev pub in_both : (Measure → ℕ) → Figure
in_both n = record { number = n Number; value = n Value }

-- two SIs worth v cents each
abbrev pub of_two : Measure → ℕ → ℕ
of_two Number v = 2
of_two Value v = 2 * v

-- the sum of f over a list
abbrev pub sum_of : {X : Type 0} → (X → ℕ) → List X → ℕ
sum_of f [] = 0
sum_of f (x ∷ xs) = f x + sum_of f xs

-- over the selected pairs
abbrev pub over_pairs : (Entry → Bool) → (Entry → ℕ) → List Call → ℕ
over_pairs selects adds h = sum_of (λ e. if selects e then adds e else 0) (entries h)

-- Category 0 counts every pair, another category its own.
abbrev pub counts : ℕ → Entry → Bool
counts c e = c == 0 || e.category == c
