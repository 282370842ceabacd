-- Which text is written of a file.
use Rattle.std.specs.Prelude.{ℕ, List, Option}
use Rattle.std.specs.Io.KnownBytes.{Appends}
use Rattle.lines.specs.declared.reader.Line.{Line}
use Rattle.monitor.specs.Texts.{IsTextOf}
use Rattle.monitor.specs.Table.{table_text}
use Rattle.monitor.specs.Answers.{answers_text}
use Rattle.monitor.specs.ReportTable.{reports_text}
use Rattle.monitor.specs.ListTable.{lists_text}
use Rattle.console.specs.declared.text.Text.{Text}
use Rattle.console.specs.declared.text.Text.TheVariants.{Table, Answers, Reports, Lists}

-- of the lines of a file
abbrev pub text_for : Text → List Line → List ℕ
text_for Table = table_text
text_for Answers = answers_text
text_for (Reports days) = reports_text days
text_for (Lists days) = lists_text days

-- The text of the file is put behind what was written before.
abbrev pub WritesText : Text → List ℕ → Option (List ℕ) → Option (List ℕ) → Type 0
WritesText asked file old new = (bytes : List ℕ) × IsTextOf (text_for asked) file bytes × Appends old new bytes
