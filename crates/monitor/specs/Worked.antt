-- Files worked by hand, each with its texts: the worked file of docs/RULES.md, one with refused and wrong lines, and faulty files.
use Rattle.std.specs.Prelude.{◌≡◌, ℕ, List, [], ◌∷◌, ◌++◌, codes, replicate, Result, Ok, Err}
use Rattle.std.specs.List.{flat_map, AllByRecursion}
use Prim.Native.String.{String}
use Rattle.book.specs.declared.calls.Refusal.{Refusal}
use Rattle.book.specs.declared.calls.Refusal.TheVariants.{OutOfRange, NotClosed, ShortBuffer}
use Rattle.book.specs.Rows.{row_answer}
use Rattle.history.specs.History.{book_of}
use Rattle.lines.specs.Worked.{worked_file, worked_calls}
use Rattle.monitor.specs.declared.days.Days.TheVariants.{AllClosed, FromTo}
use Rattle.monitor.specs.Texts.{IsTextOf}
use Rattle.texts.specs.Lines.{written}
use Rattle.monitor.specs.RowText.{row_text}
use Rattle.monitor.specs.Table.{table_text}
use Rattle.monitor.specs.ReportTable.{reports_text}
use Rattle.monitor.specs.ListTable.{lists_text}
use Rattle.monitor.specs.Answers.{answers_text}

-- lines as one text
abbrev pub text_of : List String → List ℕ
text_of lines = flat_map codes lines

abbrev table_columns : String
table_columns = "day,total_n,settled_n,sec_n,cash_n,total_v,settled_v,sec_v,cash_v,isd_v\n"

abbrev report_columns : String
report_columns = "first,last,category,total_n,settled_n,sec_n,cash_n,total_v,settled_v,sec_v,cash_v,isd_v,rate_n,rate_v,duration\n"

abbrev list_columns : String
list_columns = "measure,code,fails,total\n"

abbrev file_columns : String
file_columns = "call,id,kind,category,day,side,amount,deliverer,receiver\n"

-- ---- the worked file of docs/RULES.md

-- its table, byte for byte
abbrev pub worked_table : List ℕ
worked_table = text_of (
    table_columns
    ∷ "0,4,2,2,0,20000,10000,10000,0,10000\n"
    ∷ "1,6,2,2,2,18000,4000,6000,8000,8000\n"
    ∷ "2,4,0,2,2,14000,0,6000,8000,0\n"
    ∷ "3,4,4,0,0,14000,14000,0,0,0\n"
    ∷ "accepted,refused\n"
    ∷ "10,0\n"
    ∷ [])

-- its reports over all closed days: rates 5556 and 5758, duration 211; both pairs are in category 1
abbrev pub worked_reports : List ℕ
worked_reports = text_of (
    report_columns
    ∷ "0,3,0,18,8,6,4,66000,28000,22000,16000,18000,5556,5758,211\n"
    ∷ "0,3,1,18,8,6,4,66000,28000,22000,16000,18000,5556,5758,211\n"
    ∷ "0,3,2,0,0,0,0,0,0,0,0,0,0,0,-\n"
    ∷ "0,3,3,0,0,0,0,0,0,0,0,0,0,0,-\n"
    ∷ "0,3,4,0,0,0,0,0,0,0,0,0,0,0,-\n"
    ∷ "0,3,5,0,0,0,0,0,0,0,0,0,0,0,-\n"
    ∷ "0,3,6,0,0,0,0,0,0,0,0,0,0,0,-\n"
    ∷ "0,3,7,0,0,0,0,0,0,0,0,0,0,0,-\n"
    ∷ "0,3,8,0,0,0,0,0,0,0,0,0,0,0,-\n"
    ∷ "0,3,9,0,0,0,0,0,0,0,0,0,0,0,-\n"
    ∷ [])

-- a run that is refused: the names line alone, then the refusal
abbrev pub refused_reports : List ℕ
refused_reports = text_of (report_columns ∷ "refused\n" ∷ "9\n" ∷ [])

-- its lists over all closed days: both participants are at the ends of both pairs, so each has the figures of category 0, and
-- of two that are level the lower code stands first
abbrev pub worked_lists : List ℕ
worked_lists = text_of (list_columns ∷ "number,1,10,18\n" ∷ "number,2,10,18\n" ∷ "value,1,38000,66000\n" ∷ "value,2,38000,66000\n" ∷ [])

abbrev pub refused_lists : List ℕ
refused_lists = text_of (list_columns ∷ "refused\n" ∷ "9\n" ∷ [])

-- ---- refused and wrong lines

-- an enter with a code over 40; a settle of an id that isn't open; a wrong line, of which two bytes are wrong; an empty one;
-- a cancel with a code; a close of seven columns, as it was before the codes; one without its LF
abbrev pub mixed_file : List ℕ
mixed_file = text_of (
    file_columns
    ∷ "1,7,3,9,0,1,250,1,2\n"
    ∷ "1,8,3,9,0,1,250,1,41\n"
    ∷ "4,8,0,0,0,0,250,0,0\n"
    ∷ "1,08,3,9,x,1,250,1,2\n"
    ∷ "\n"
    ∷ "5,7,0,0,0,0,0,0,2\n"
    ∷ "6,0,0,0,0,0,0\n"
    ∷ "6,0,0,0,0,0,0,0,0\n"
    ∷ "6,0,0,0,0,0,0,0,0"
    ∷ [])

-- each of these seven lines is refused once, and the next one is read
abbrev pub mixed_table : List ℕ
mixed_table = text_of (table_columns ∷ "0,2,0,2,0,500,0,500,0,500\n" ∷ "accepted,refused\n" ∷ "2,7\n" ∷ [])

-- what came of each line
abbrev pub mixed_answers : List ℕ
mixed_answers = text_of (
    "line,answer,place\n"
    ∷ "1,0,-\n"
    ∷ "2,2,-\n"
    ∷ "3,5,-\n"
    ∷ "4,wrong,3\n"
    ∷ "5,wrong,0\n"
    ∷ "6,wrong,16\n"
    ∷ "7,wrong,13\n"
    ∷ "8,0,-\n"
    ∷ "9,wrong,17\n"
    ∷ [])

-- ---- files without a call, and faulty ones

-- the names line alone: no day is closed
abbrev pub no_calls : List ℕ
no_calls = text_of (file_columns ∷ [])

abbrev pub no_calls_table : List ℕ
no_calls_table = text_of (table_columns ∷ "accepted,refused\n" ∷ "0,0\n" ∷ [])

-- no byte; a names line without its LF, with CR, and as it was before the codes
abbrev pub faulty_files : List (List ℕ)
faulty_files =
    []
    ∷ text_of ("call,id,kind,category,day,side,amount,deliverer,receiver" ∷ [])
    ∷ text_of ("call,id,kind,category,day,side,amount,deliverer,receiver\r\n" ∷ "6,0,0,0,0,0,0,0,0\n" ∷ [])
    ∷ text_of ("call,id,kind,category,day,side,amount\n" ∷ "6,0,0,0,0,0,0\n" ∷ [])
    ∷ []

-- the same two lines for each text
abbrev pub fault_lines : List ℕ
fault_lines = text_of ("fault\n" ∷ "10\n" ∷ [])

pub record IsFaultAll (file : List ℕ) : Type 0 where
  pub table : IsTextOf table_text file fault_lines
  pub reports : IsTextOf (reports_text AllClosed) file fault_lines
  pub lists : IsTextOf (lists_text AllClosed) file fault_lines
  pub answers : IsTextOf answers_text file fault_lines

-- ---- rows as text

-- a buffer of so many question marks
abbrev pub marks : ℕ → List ℕ
marks n = replicate n 63

-- what comes back of a row after the worked calls, and what a buffer of so many question marks then holds
abbrev pub worked_row : ℕ → ℕ → ℕ → Result ℕ Refusal × List ℕ
worked_row day category room = row_text day (marks room) (row_answer day category (book_of worked_calls))

pub record RowsHold : Type 0 where
  -- the four lines of the table, in front of what is left of 128 question marks
  pub day_0 : worked_row 0 0 128 ≡ (Ok 36, codes "0,4,2,2,0,20000,10000,10000,0,10000\n" ++ marks 92)
  pub day_1 : worked_row 1 0 128 ≡ (Ok 36, codes "1,6,2,2,2,18000,4000,6000,8000,8000\n" ++ marks 92)
  pub day_2 : worked_row 2 0 128 ≡ (Ok 30, codes "2,4,0,2,2,14000,0,6000,8000,0\n" ++ marks 98)
  pub day_3 : worked_row 3 0 128 ≡ (Ok 28, codes "3,4,4,0,0,14000,14000,0,0,0\n" ++ marks 100)
  -- a buffer of 127 bytes, where the line would fit
  pub short : worked_row 3 0 127 ≡ (Err ShortBuffer, marks 127)
  -- the lowest number that applies
  pub not_closed : worked_row 4 0 128 ≡ (Err NotClosed, marks 128)
  pub not_closed_and_short : worked_row 4 0 127 ≡ (Err NotClosed, marks 127)
  pub out_of_range : worked_row 4 10 127 ≡ (Err OutOfRange, marks 127)
  -- a line that is longer than the buffer is written as far as the buffer goes
  pub cut_off : written (codes "12,34\n") (marks 4) ≡ codes "12,3"

-- ---- that they hold

pub record TextsHold : Type 0 where
  pub table : IsTextOf table_text worked_file worked_table
  pub reports : IsTextOf (reports_text AllClosed) worked_file worked_reports
  pub run : IsTextOf (reports_text (FromTo 0 3)) worked_file worked_reports
  -- day 4 is not closed, and 3 is after 2
  pub refused : IsTextOf (reports_text (FromTo 3 4)) worked_file refused_reports
  pub wrong_way_round : IsTextOf (reports_text (FromTo 3 2)) worked_file refused_reports
  pub lists : IsTextOf (lists_text AllClosed) worked_file worked_lists
  pub lists_of_run : IsTextOf (lists_text (FromTo 0 3)) worked_file worked_lists
  pub refused_run : IsTextOf (lists_text (FromTo 3 4)) worked_file refused_lists
  pub lists_wrong_way_round : IsTextOf (lists_text (FromTo 3 2)) worked_file refused_lists
  pub mixed : IsTextOf table_text mixed_file mixed_table
  pub answers : IsTextOf answers_text mixed_file mixed_answers
  pub empty : IsTextOf table_text no_calls no_calls_table
  pub unclosed : IsTextOf (reports_text AllClosed) no_calls refused_reports
  pub unclosed_lists : IsTextOf (lists_text AllClosed) no_calls refused_lists
  pub faulty : AllByRecursion IsFaultAll faulty_files
