-- The participants with the highest fail rates as a text: both lists over a run of days, by number and then by value.
use Rattle.std.specs.Prelude.{ℕ, List, [], ◌∷◌, ◌++◌, codes, Some}
use Rattle.std.specs.List.{flat_map}
use Rattle.book.specs.declared.book.Book.{Book}
use Rattle.lines.specs.declared.reader.Line.{Line}
use Rattle.ranking.specs.declared.participant.Participant.{Participant}
use Rattle.book.specs.declared.figures.Measure.{Measure}
use Rattle.book.specs.declared.figures.Measure.TheVariants.{Number, Value}
use Rattle.texts.specs.Lines.{line_text}
use Rattle.ranking.specs.Runs.{list_answer}
use Rattle.monitor.specs.declared.days.Days.{Days}
use Rattle.monitor.specs.Replay.{replayed}
use Rattle.monitor.specs.Texts.{text_given, over_days}

-- the columns of the lists
abbrev pub list_names : List ℕ
list_names = codes "measure,code,fails,total\n"

-- the measure, and a comma
abbrev pub measure_text : Measure → List ℕ
measure_text Number = codes "number,"
measure_text Value = codes "value,"

-- the line of a participant
abbrev pub participant_line : Measure → Participant → List ℕ
participant_line m p = measure_text m ++ line_text (Some p.code ∷ Some p.fails ∷ Some p.total ∷ [])

-- a line for each of a measure's list; where it is refused there is none
abbrev pub list_lines : ℕ → ℕ → Book → Measure → List ℕ
list_lines first last b m = text_given (λ list. flat_map (participant_line m) list.items) (list_answer first last m b)

-- both lists, by number first
abbrev pub both_lists : ℕ → ℕ → Book → List ℕ
both_lists first last b = list_lines first last b Number ++ list_lines first last b Value

-- the lists of a file's lines
abbrev pub lists_text : Days → List Line → List ℕ
lists_text days lines = over_days list_names both_lists days (replayed lines).book
