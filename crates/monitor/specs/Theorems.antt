-- What follows for every call file: its counts, one text of each kind, and how long it may be.
use Rattle.std.specs.Prelude.{◌≡◌, ℕ, ◌+◌, ◌≤◌, List, length, map}
use Rattle.history.specs.History.{history_of}
use Rattle.book.specs.declared.calls.Call.{Call}
use Rattle.lines.specs.declared.reader.Line.{Line}
use Rattle.lines.specs.declared.reader.Line.TheVariants.{Correct}
use Rattle.lines.specs.Reading.{AreLines}
use Rattle.lines.specs.Texts.{ReadsAs, cut}
use Rattle.monitor.specs.declared.days.Days.{Days}
use Rattle.monitor.specs.Replay.{file_limit, IsSound, HasLines, calls_in, replayed}
use Rattle.monitor.specs.Texts.{IsTextOf}
use Rattle.monitor.specs.Table.{table_text}
use Rattle.monitor.specs.ReportTable.{reports_text}
use Rattle.monitor.specs.ListTable.{lists_text}
use Rattle.monitor.specs.Answers.{answers_text}

-- Accepted and refused together are the lines after the names line, the file's pieces behind it, cut behind each LF; and the
-- accepted ones are as many as the accepted calls.
pub record CountsAreLines (file : List ℕ) (lines : List Line) : Type 0 where
  pub lines_after_names : (rest : List ℕ) → IsSound file rest → AreLines rest 0 lines → (replayed lines).accepted + (replayed lines).refused ≡ length (cut rest)
  pub accepted_calls : (replayed lines).accepted ≡ length (history_of (calls_in lines))

-- A file has one list of lines,
abbrev pub OneListOfLines : Type 0
OneListOfLines = (file : List ℕ) (one other : List Line) → HasLines file one → HasLines file other → one ≡ other

-- and so one text of each kind.
abbrev pub OneText : Type 0
OneText = (text : List Line → List ℕ) (file one other : List ℕ) → IsTextOf text file one → IsTextOf text file other → one ≡ other

-- A file that reads as some calls, as one that is written of them does, has these calls.
abbrev pub CallsAreRead : Type 0
CallsAreRead = (file : List ℕ) (calls : List Call) → ReadsAs file calls → length file ≤ file_limit → (lines : List Line) → HasLines file lines → calls_in lines ≡ calls

-- And it has lines.
abbrev pub FilesAreRead : Type 0
FilesAreRead = (file : List ℕ) (calls : List Call) → ReadsAs file calls → length file ≤ file_limit → HasLines file (map (λ call. Correct call) calls)

-- ---- lengths

-- the most bytes of a table
abbrev pub table_room : ℕ
table_room = 8192

-- of the reports
abbrev pub report_room : ℕ
report_room = 4096

-- of the lists
abbrev pub list_room : ℕ
list_room = 8192

-- and of the answers
abbrev pub answer_room : ℕ
answer_room = 1179648

-- A table takes no more than its room, whatever the file;
abbrev pub TablesFit : Type 0
TablesFit = (file bytes : List ℕ) → IsTextOf table_text file bytes → length bytes ≤ table_room

-- nor the reports, whatever the run of days;
abbrev pub ReportsFit : Type 0
ReportsFit = (file bytes : List ℕ) (days : Days) → IsTextOf (reports_text days) file bytes → length bytes ≤ report_room

-- nor the lists, whatever the run of days;
abbrev pub ListsFit : Type 0
ListsFit = (file bytes : List ℕ) (days : Days) → IsTextOf (lists_text days) file bytes → length bytes ≤ list_room

-- nor the answers.
abbrev pub AnswersFit : Type 0
AnswersFit = (file bytes : List ℕ) → IsTextOf answers_text file bytes → length bytes ≤ answer_room
