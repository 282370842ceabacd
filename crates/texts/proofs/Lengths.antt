-- How long a line of numbers of 64 bits is at the most.
use Rattle.std.proofs.Common.{◌*◌, ◌^◌, ◌<◌, ◌≤◌, ℕ, List, ◌∷◌, [], Option, None, Some, length, arith, IfSome, sum_by}
use Rattle.std.specs.List.{AllByRecursion}
use Rattle.std.proofs.lemmas.Fmt.{length-decimal-le}
use Rattle.std.proofs.lemmas.List.Sums.{sum_by-cons}
use Rattle.texts.specs.Lines.{line_text}
use Rattle.texts.proofs.Left.{width, length-line_text}

-- 20 digits, and the byte behind them
abbrev pub widest : ℕ
widest = 21

abbrev pub Fits : Option ℕ → Type 0
Fits field = IfSome field (λ n. n < 2 ^ 64)

pub any_field : (field : Option ℕ) → Fits field → width field ≤ widest
any_field None low = omega arith
any_field (Some n) low = omega (arith, length-decimal-le 20 n (omega arith) (omega arith) low)

any_fields : (fields : List (Option ℕ)) → AllByRecursion Fits fields → sum_by width fields ≤ widest * length fields
any_fields [] low = omega arith
any_fields (f ∷ fields) low = omega (arith, sum_by-cons width f fields, any_field f low.0, any_fields fields low.1)

pub any_line : (fields : List (Option ℕ)) → 1 ≤ length fields → AllByRecursion Fits fields
    → length (line_text fields) ≤ widest * length fields
any_line fields some low = omega (arith, length-line_text fields some, any_fields fields low)
