-- What came of each line of a call file.
use Rattle.std.specs.Prelude.{◌≡◌, ℕ, ◌+◌, List, [], ◌∷◌, ◌++◌, codes, None, Some}
use Rattle.book.specs.Calls.{answer_number}
use Rattle.texts.specs.Lines.{field_text, line_text}
use Rattle.lines.specs.declared.reader.Line.{Line}
use Rattle.lines.specs.Reading.{AreLines}
use Rattle.monitor.specs.declared.replay.LineAnswer.{LineAnswer}
use Rattle.monitor.specs.declared.replay.LineAnswer.TheVariants.{Made, WrongByte}
use Rattle.monitor.specs.Replay.{answers_of}

-- A line's number, what came of it, and the place of its first wrong byte, `-` where none is wrong.
abbrev pub answer_line : ℕ → LineAnswer → List ℕ
answer_line n (Made answer) = line_text (Some n ∷ Some (answer_number answer) ∷ None ∷ [])
answer_line n (WrongByte place) = field_text (Some n) ++ (codes ",wrong," ++ line_text (Some place ∷ []))

-- the lines, numbered from n on
abbrev pub answer_lines : ℕ → List LineAnswer → List ℕ
answer_lines n [] = []
answer_lines n (answer ∷ answers) = answer_line n answer ++ answer_lines (n + 1) answers

-- the names line, and a line for each line
abbrev pub answers_text : List Line → List ℕ
answers_text lines = codes "line,answer,place\n" ++ answer_lines 1 (answers_of lines)

-- the answers of the lines of a text
abbrev pub AreAnswers : List ℕ → List ℕ → Type 0
AreAnswers rest bytes = (lines : List Line) × AreLines rest 0 lines × (bytes ≡ answers_text lines)
