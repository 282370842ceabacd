-- Lines worked by hand: each kind of wrong byte, correct lines, and the worked file of docs/RULES.md.
use Rattle.std.specs.Prelude.{◌≡◌, codes, ℕ, List, [], ◌∷◌, ◌++◌, Bool, true, false, MatchBool, MatchOption, Option, Some, None, length, ◌==◌}
use Rattle.std.specs.List.{AllByRecursion, flat_map, slice_split}
use Prim.Native.String.{String}
use Rattle.book.specs.declared.calls.Call.{Call}
use Rattle.book.specs.declared.pairs.Entry.{Entry}
use Rattle.book.specs.declared.calls.Call.TheVariants.{Enter, Hold, Lack, Settle, Cancel, Close}
use Rattle.lines.specs.declared.reader.Line.{Line}
use Rattle.lines.specs.declared.reader.Line.TheVariants.{Correct, Wrong}
use Rattle.lines.specs.Reading.{AreLines, IsLineAt, IsReading}
use Rattle.lines.specs.Table.{column_count}
use Rattle.lines.specs.Written.{names_line, HasNoNames}
use Rattle.lines.specs.Texts.{ReadsAs, file_of}

-- a text, and what its first line is read as
pub record Case : Type 0 where
  pub text : String
  pub line : Option Line

-- the first line of a text, if it has one
abbrev pub IsFirstLine : List ℕ → Option Line → Type 0
IsFirstLine text line = MatchOption line (text ≡ []) (λ first. (next : ℕ) × IsLineAt text 0 first next)

-- it is read so
abbrev pub IsRead : Case → Type 0
IsRead case = IsFirstLine (codes case.text) case.line

-- a correct line, and a wrong one
abbrev pub correct : String → Call → Case
correct text call = record { text = text; line = Some (Correct call) }

abbrev pub wrong : String → ℕ → Case
wrong text place = record { text = text; line = Some (Wrong place) }

-- a pair: id, kind, category, ISD, side, amount, deliverer, receiver
abbrev pub entry_of : ℕ → ℕ → ℕ → ℕ → ℕ → ℕ → ℕ → ℕ → Entry
entry_of id kind category isd side amount deliverer receiver =
    record { id = id; kind = kind; category = category; isd = isd; side = side; amount = amount; deliverer = deliverer; receiver = receiver }

-- its enter
abbrev pub enter : ℕ → ℕ → ℕ → ℕ → ℕ → ℕ → ℕ → ℕ → Call
enter id kind category isd side amount deliverer receiver = Enter (entry_of id kind category isd side amount deliverer receiver)

-- ---- lines

-- correct lines
abbrev pub correct_lines : List Case
correct_lines =
    correct "1,1,1,1,0,1,10000,1,2\n" (enter 1 1 1 0 1 10000 1 2)
    ∷ correct "2,65535,0,0,0,2,1,0,0\n" (Hold 65535 2 1)
    ∷ correct "3,5,0,0,0,2,0,0,0\n" (Lack 5 2)
    ∷ correct "4,1,0,0,0,0,5000,0,0\n" (Settle 1 5000)
    ∷ correct "5,7,0,0,0,0,0,0,0\n" (Cancel 7)
    ∷ correct "6,0,0,0,0,0,0,0,0\n" Close
    -- what stands behind the line's LF isn't looked at
    ∷ correct "6,0,0,0,0,0,0,0,0\nand more" Close
    -- a value out of its range is left to the call's own refusal, up to 11 digits
    ∷ correct "1,0,0,0,0,0,0,0,0\n" (enter 0 0 0 0 0 0 0 0)
    ∷ correct "1,1,1,1,0,1,10000,41,99999999999\n" (enter 1 1 1 0 1 10000 41 99999999999)
    ∷ correct "4,1,0,0,0,0,0,0,0\n" (Settle 1 0)
    ∷ correct "3,1,0,0,0,9,0,0,0\n" (Lack 1 9)
    ∷ correct "2,99999999999,0,0,0,12345678901,3,0,0\n" (Hold 99999999999 12345678901 3)
    ∷ []

-- wrong lines, each with the place of its first wrong byte
abbrev pub wrong_lines : List Case
wrong_lines =
    -- the text ends inside a line that could still become correct: the place after the last byte
    wrong "6,0,0,0,0,0,0,0,0" 17
    ∷ wrong "4,1" 3
    ∷ wrong "1," 2
    -- and where an earlier byte is wrong, that byte's
    ∷ wrong "6,0,x" 4
    -- an empty line
    ∷ wrong "\n" 0
    ∷ wrong "\n6,0,0,0,0,0,0,0,0\n" 0
    -- a leading zero: the digit behind it
    ∷ wrong "1,01,1,1,0,1,10000,1,2\n" 3
    ∷ wrong "1,1,1,1,0,1,100,07,2\n" 17
    ∷ wrong "4,1,0,0,0,0,00,0,0\n" 13
    -- a call field outside 1 to 6
    ∷ wrong "0,0,0,0,0,0,0,0,0\n" 0
    ∷ wrong "01,1,1,1,0,1,10000,1,2\n" 0
    ∷ wrong "7,0,0,0,0,0,0,0,0\n" 0
    ∷ wrong "8,0,0,0,0,0,0,0,0\n" 0
    ∷ wrong "9,0,0,0,0,0,0,0,0\n" 0
    ∷ wrong "10,0,0,0,0,0,0,0,0\n" 1
    ∷ wrong "66,0,0,0,0,0,0,0,0\n" 1
    ∷ wrong ",1,0,0,0,0,0,0,0\n" 0
    -- a field that the call doesn't use: its first digit, or the second 0
    ∷ wrong "4,1,1,0,0,0,5000,0,0\n" 4
    ∷ wrong "4,1,00,0,0,0,5000,0,0\n" 5
    ∷ wrong "3,5,0,0,0,2,1,0,0\n" 12
    ∷ wrong "5,7,0,0,0,0,1,0,0\n" 12
    ∷ wrong "6,1,0,0,0,0,0,0,0\n" 2
    -- and so a code in each of the five calls but enter
    ∷ wrong "2,1,0,0,0,1,1,00,0\n" 15
    ∷ wrong "3,5,0,0,0,2,0,1,2\n" 14
    ∷ wrong "4,1,0,0,0,0,5000,3,0\n" 17
    ∷ wrong "5,7,0,0,0,0,0,0,41\n" 16
    ∷ wrong "6,0,0,0,0,0,0,0,40\n" 16
    -- the twelfth digit
    ∷ wrong "1,123456789012,1,1,0,1,1,1,2\n" 13
    ∷ wrong "1,1,1,1,0,1,1,1,123456789012\n" 27
    -- too few fields: the LF; too many: the ninth comma
    ∷ wrong "6,0,0,0,0,0,0,0\n" 15
    ∷ wrong "6,0,0,0,0,0,0,0,0,0\n" 17
    -- lines of seven columns, as they were before the codes: the LF
    ∷ wrong "1,1,1,1,0,1,10000\n" 17
    ∷ wrong "4,1,0,0,0,0,5000\n" 16
    ∷ wrong "6,0,0,0,0,0,0\n" 13
    -- an empty field
    ∷ wrong "4,,0,0,0,0,5000,0,0\n" 2
    ∷ wrong "4,1,0,0,0,0,,0,0\n" 12
    ∷ wrong "1,1,1,1,0,1,100,1,\n" 18
    -- CR before LF, a blank, a sign, NUL, a byte over 127
    ∷ wrong "6,0,0,0,0,0,0,0,0\r\n" 17
    ∷ wrong "6, 0,0,0,0,0,0,0,0\n" 2
    ∷ wrong " 6,0,0,0,0,0,0,0,0\n" 0
    ∷ wrong "4,+1,0,0,0,0,5000,0,0\n" 2
    ∷ wrong "4,-1,0,0,0,0,5000,0,0\n" 2
    ∷ wrong "4,1\0,0,0,0,0,5000,0,0\n" 3
    ∷ wrong "4,1é,0,0,0,0,5000,0,0\n" 3
    -- a second names line
    ∷ wrong "call,id,kind,category,day,side,amount,deliverer,receiver\n" 0
    ∷ []

-- no byte left
abbrev pub no_lines : List Case
no_lines = record { text = ""; line = None } ∷ []

-- ---- texts of several lines

-- wrong lines among correct ones, the fifth a second names line
abbrev pub several_lines : List ℕ
several_lines = flat_map codes (
    "6,0,0,0,0,0,0,0,0\n"
    ∷ "6;0,x\r\n"
    ∷ "\n"
    ∷ "6,0,0,0,0,0\n"
    ∷ "call,id,kind,category,day,side,amount,deliverer,receiver\n"
    ∷ "6,0,0,0,0,0,0,0,0\n"
    ∷ [])

-- Reading goes on after the wrong line's LF, which may be the wrong byte itself; a line with two wrong bytes is one wrong
-- line; a second names line is one; and after the last LF there is no line.
abbrev pub LinesHold : Type 0
LinesHold = AreLines several_lines 0 (Correct Close ∷ Wrong 1 ∷ Wrong 0 ∷ Wrong 11 ∷ Wrong 0 ∷ Correct Close ∷ [])

-- two lines, the last one without LF
abbrev pub unended_lines : List ℕ
unended_lines = codes "6,0,0,0,0,0,0,0,0\n6,0"

-- a last line without LF is a line too
abbrev pub LastHolds : Type 0
LastHolds = AreLines unended_lines 0 (Correct Close ∷ Wrong 3 ∷ [])

-- at the text's end and behind it there is no line
abbrev pub EndHolds : Type 0
EndHolds = IsReading (codes "6,0\n") 4 None × IsReading (codes "6,0\n") 9 None

-- the calls of the worked file
abbrev pub worked_calls : List Call
worked_calls =
    enter 1 1 1 0 1 10000 1 2
    ∷ Settle 1 5000
    ∷ Close
    ∷ Settle 1 2000
    ∷ Close
    ∷ Close
    ∷ Settle 1 3000
    ∷ enter 2 1 1 1 2 4000 2 1
    ∷ Settle 2 4000
    ∷ Close
    ∷ []

-- the worked file
abbrev pub worked_file : List ℕ
worked_file = flat_map codes (
    "call,id,kind,category,day,side,amount,deliverer,receiver\n"
    ∷ "1,1,1,1,0,1,10000,1,2\n"
    ∷ "4,1,0,0,0,0,5000,0,0\n"
    ∷ "6,0,0,0,0,0,0,0,0\n"
    ∷ "4,1,0,0,0,0,2000,0,0\n"
    ∷ "6,0,0,0,0,0,0,0,0\n"
    ∷ "6,0,0,0,0,0,0,0,0\n"
    ∷ "4,1,0,0,0,0,3000,0,0\n"
    ∷ "1,2,1,1,1,2,4000,2,1\n"
    ∷ "4,2,0,0,0,0,4000,0,0\n"
    ∷ "6,0,0,0,0,0,0,0,0\n"
    ∷ [])

-- it reads as its calls, and it is what is written of them
abbrev pub ExampleHolds : Type 0
ExampleHolds = ReadsAs worked_file worked_calls × (file_of worked_calls ≡ worked_file)

-- ---- the names line

-- a text, and whether it starts with the names line
pub record NamesCase : Type 0 where
  pub text : String
  pub named : Bool

-- one of them
abbrev pub names_case : String → Bool → NamesCase
names_case text named = record { text = text; named = named }

-- it starts so, or doesn't
abbrev pub IsNamed : NamesCase → Type 0
IsNamed named = MatchBool named.named ((rest : List ℕ) × (codes named.text ≡ names_line ++ rest)) (HasNoNames (codes named.text))

-- the names line, and what is none
abbrev pub names_lines : List NamesCase
names_lines =
    names_case "call,id,kind,category,day,side,amount,deliverer,receiver\n" true
    ∷ names_case "call,id,kind,category,day,side,amount,deliverer,receiver\n6,0" true
    -- no byte, no LF, CR before LF
    ∷ names_case "" false
    ∷ names_case "call,id,kind,category,day,side,amount,deliverer,receiver" false
    ∷ names_case "call,id,kind,category,day,side,amount,deliverer,receiver\r\n" false
    -- a blank in front or behind, a byte order mark (the codes EF BB BF), capitals
    ∷ names_case " call,id,kind,category,day,side,amount,deliverer,receiver\n" false
    ∷ names_case "call,id,kind,category,day,side,amount,deliverer,receiver \n" false
    ∷ names_case "ï»¿call,id,kind,category,day,side,amount,deliverer,receiver\n" false
    ∷ names_case "Call,id,kind,category,day,side,amount,deliverer,receiver\n" false
    -- the line as it was before the codes, a column less, a column more, the codes in the other order
    ∷ names_case "call,id,kind,category,day,side,amount\n" false
    ∷ names_case "call,id,kind,category,day,side,amount,deliverer\n" false
    ∷ names_case "call,id,kind,category,day,side,amount,deliverer,receiver,\n" false
    ∷ names_case "call,id,kind,category,day,side,amount,receiver,deliverer\n" false
    ∷ []

-- the names line names each column: commas stand between the names
abbrev pub EachNamed : Type 0
EachNamed = length (slice_split (λ byte. byte == 44) names_line) ≡ column_count

-- every line, text and names line above is read as it says
pub record WorkedHold : Type 0 where
  pub correct : AllByRecursion IsRead correct_lines
  pub wrong : AllByRecursion IsRead wrong_lines
  pub none : AllByRecursion IsRead no_lines
  pub lines : LinesHold
  pub last : LastHolds
  pub end : EndHolds
  pub file : ExampleHolds
  pub named : AllByRecursion IsNamed names_lines
  pub columns : EachNamed
