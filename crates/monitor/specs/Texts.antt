-- What the texts share.
use Rattle.std.specs.Prelude.{◌≡◌, ℕ, List, [], ◌∷◌, ◌++◌, ◌⊎◌, codes, Some, Result, Ok, Err, if◌then◌else◌}
use Rattle.book.specs.declared.book.Book.{Book}
use Rattle.book.specs.declared.calls.Refusal.{Refusal}
use Rattle.book.specs.declared.calls.Refusal.TheVariants.{NotClosed}
use Rattle.book.specs.Calls.{refusal_number}
use Rattle.lines.specs.declared.reader.Line.{Line}
use Rattle.reports.specs.Reports.{is_run}
use Rattle.texts.specs.Lines.{line_text}
use Rattle.monitor.specs.declared.days.Days.{Days}
use Rattle.monitor.specs.Days.{first_and_last}
use Rattle.monitor.specs.Replay.{HasLines, IsFaulty}

-- On a faulty file it writes `fault` and `10` on two lines.
abbrev pub fault : List ℕ
fault = codes "fault\n10\n"

-- of a refused run of days: `refused` and the number on two lines
unfoldable pub refused_text : Refusal → List ℕ
refused_text refusal = codes "refused\n" ++ line_text (Some (refusal_number refusal) ∷ [])

-- the text of what is given; where that is refused there is none
abbrev pub text_given : {X : Type 0} → (X → List ℕ) → Result X Refusal → List ℕ
text_given text (Ok x) = text x
text_given text (Err refusal) = []

-- behind the names line the lines of the run of days that is asked for, or that it is refused
abbrev pub over_days : List ℕ → (ℕ → ℕ → Book → List ℕ) → Days → Book → List ℕ
over_days names lines days b =
    let asked = first_and_last b.today days in
    names ++ (if is_run asked.0 asked.1 b then lines asked.0 asked.1 b else refused_text NotClosed)

-- the text of a file's lines, or that it is faulty
abbrev pub IsTextOf : (List Line → List ℕ) → List ℕ → List ℕ → Type 0
IsTextOf text file bytes = ((lines : List Line) × HasLines file lines × (bytes ≡ text lines)) ⊎ (IsFaulty file × (bytes ≡ fault))
