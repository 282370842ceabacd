-- The names line of a call file. docs/RULES.md, 'A call file'.
use Rattle.std.specs.Prelude.{◌≡◌, codes, ℕ, List, ◌++◌}

-- the names line: the columns, and LF
abbrev pub names_line : List ℕ
names_line = codes "call,id,kind,category,day,side,amount,deliverer,receiver\n"

-- a text that doesn't begin with it
abbrev pub HasNoNames : List ℕ → Type 0
HasNoNames text = (rest : List ℕ) → text ≡ names_line ++ rest → ⊥
