-- The table of a call file: the names line, a line for each closed day over all categories, then accepted and refused counts.
use Rattle.std.specs.Prelude.{ℕ, List, [], ◌∷◌, ◌++◌, min, codes, Some}
use Rattle.std.specs.List.{range_with_len, flat_map}
use Rattle.book.specs.Limits.{day_limit}
use Rattle.book.specs.Rows.{row_answer}
use Rattle.book.specs.declared.book.Book.{Book}
use Rattle.lines.specs.declared.reader.Line.{Line}
use Rattle.monitor.specs.declared.replay.Replayed.{Replayed}
use Rattle.monitor.specs.Replay.{replayed}
use Rattle.texts.specs.Lines.{line_text}
use Rattle.monitor.specs.Texts.{text_given}
use Rattle.monitor.specs.RowText.{row_line}

-- n number, v value
abbrev pub table_names : List ℕ
table_names = codes "day,total_n,settled_n,sec_n,cash_n,total_v,settled_v,sec_v,cash_v,isd_v\n"

-- the line of a day over all categories; there is one where its row is given
abbrev pub day_line : Book → ℕ → List ℕ
day_line b day = text_given (row_line day) (row_answer day 0 b)

-- the days before today: 64 at the most
abbrev pub closed_days : Book → List ℕ
closed_days b = range_with_len 0 (min b.today day_limit)

-- accepted and refused counts
abbrev pub counts_text : ℕ → ℕ → List ℕ
counts_text accepted refused = codes "accepted,refused\n" ++ line_text (Some accepted ∷ Some refused ∷ [])

unfoldable pub table_of : Replayed → List ℕ
table_of r = table_names ++ (flat_map (day_line r.book) (closed_days r.book) ++ counts_text r.accepted r.refused)

abbrev pub table_text : List Line → List ℕ
table_text lines = table_of (replayed lines)
