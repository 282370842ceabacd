-- What is said where a text is not written.
use Rattle.std.specs.Prelude.{ℕ, List, codes}
use Rattle.console.specs.declared.problem.Problem.{Problem}
use Rattle.console.specs.declared.problem.Problem.TheVariants.{ReportDays, ListDays, Input, Output}

abbrev pub message : Problem → List ℕ
message ReportDays = codes "the days of a report are two numbers, the first and the last"
message ListDays = codes "the days of a list are two numbers, the first and the last"
message Input = codes "standard input can't be read"
message Output = codes "standard output can't be written"
