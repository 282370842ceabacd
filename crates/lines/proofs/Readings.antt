-- What the reader answers is right, and a text is read in one way: no line begins another, and there is one first wrong byte.
-- The place of that, and the place behind a line, come from what is left of the text.
use Rattle.std.specs.Prelude.{◌≡◌, ℕ, suc, ◌+◌, ◌-◌, ◌<◌, ◌≤◌, ◌↔◌, List, [], ◌∷◌, ◌++◌, length, option_map}
use Rattle.std.specs.List.{after_first, position_or_len}
use Rattle.std.proofs.Common.{Ok, Err, Option, Some, None, refl, sym, ◌∙◌, ap, subst, append_assoc, add-one, arith, length-append, take, drop}
use Rattle.std.proofs.lemmas.List.{length-drop, append-nil, drop-drop, length-take, take-append-drop, take-append-le, drop_all}
use Rattle.std.proofs.Math.Seq.{take-append-add, drop-append_seam}
use Rattle.book.specs.declared.calls.Call.{Call}
use Rattle.lines.specs.declared.reader.Line.{Line}
use Rattle.lines.specs.declared.reader.Line.TheVariants.{Correct, Wrong}
use Rattle.lines.specs.Grammar.{Begins, IsFirstWrongPlace, IsLine, HasShortFields, line_of}
use Rattle.lines.specs.Parts.{Parsed, call_read, line_or_place, line_read}
use Rattle.lines.specs.Reading.{is_line_feed, IsLineAt, IsReadAt, IsReading, AreLines, LineStands, IsRight}
use Rattle.lines.proofs.Readers.{Refuses}
use Rattle.lines.proofs.Calls.{call_reads, line_some, right}

-- ---- the first wrong byte

-- a reading is a call or stops, and no text is read in both ways
pub not_both : (text word rest left : List ℕ) → call_read text ≡ Err left → IsLine word → text ≡ word ++ rest → ⊥
not_both text word rest left stopped (call, short, is) whole =
    let read : call_read text ≡ Ok (call, rest) = rw (whole, is) (call_reads.complete call rest short) in
    cc

refused_there : (front left : List ℕ) → Refuses call_read front left → length front < length (front ++ left)
    → Begins IsLine (take (suc (length front)) (front ++ left)) → ⊥
refused_there front [] refused inside begins = absurd (omega (arith, length-append front []))
refused_there front (byte ∷ rest) refused inside (more, line) =
    not_both (front ++ byte ∷ more) _ [] (byte ∷ more) (refused byte rest more refl) line
    (rw (← add-one (length front), take-append-add front (byte ∷ rest) 1, append-nil, append_assoc))

-- what is left of a text stands behind as many bytes as it is shorter
pub left_of : (text front left : List ℕ) → text ≡ front ++ left
    → (length text - length left ≡ length front) × (drop (length text - length left) text ≡ left) × (length left ≤ length text)
left_of text front left split =
    let long = ap length split ∙ length-append front left in
    let place : length text - length left ≡ length front = omega arith in
    (place, rw place (ap (drop (length front)) split ∙ drop-append_seam front left), omega arith)

pub first_wrong_place : (text left : List ℕ) → call_read text ≡ Err left → IsFirstWrongPlace IsLine text (length text - length left)
first_wrong_place text left stopped =
    let stops = right text (Err left) stopped in
    let front = stops.front in
    let (place, _, within) = left_of text front left stops.split in
    rw place (record {
      within = omega arith;
      before = λ earlier below.
          let (more, is) = stops.begins in
          rw (stops.split, take-append-le (suc earlier) front left (omega arith)) (
            drop (suc earlier) front ++ more,
            rw (← append_assoc (take (suc earlier) front) (drop (suc earlier) front) more, take-append-drop (suc earlier) front) is,
          );
      here = subst (λ t. length front < length t → Begins IsLine (take (suc (length front)) t) → ⊥) (sym stops.split)
          (refused_there front left stops.refused);
      unread = λ word rest line whole. not_both text word rest left stopped line whole;
    })

-- ---- the line at a place

pub from_wrong : (text left : List ℕ) → call_read text ≡ Err left → length left ≤ length text
from_wrong text left is = let stops = right text (Err left) is in (left_of text stops.front left stops.split).2

-- some bytes are passed, and the others are left
passes : (text : List ℕ) → 0 < length text → (answer : Parsed Call) → call_read text ≡ answer
    → (front : List ℕ) × (text ≡ front ++ (line_or_place text answer).1) × (0 < length front)
passes text some (Ok (call, left)) is = (line_of call, (right text (Ok (call, left)) is).1, line_some call)
passes text some (Err left) is =
    let stops = right text (Err left) is in
    let n = position_or_len is_line_feed left + 1 in (
      stops.front ++ take n left,
      rw (append_assoc stops.front (take n left) (drop n left), take-append-drop n left) stops.split,
      omega (arith, ap length stops.split, length-append stops.front left, length-append stops.front (take n left), length-take n left),
    )

pub left_within : (text : List ℕ) → 0 < length text → length (line_read text).1 ≤ length text
left_within text some = let (front, split, _) = passes text some (call_read text) refl in (left_of text front (line_read text).1 split).2

is_read : (text : List ℕ) (at next : ℕ) (answer : Parsed Call) → call_read (drop at text) ≡ answer
    → drop next text ≡ (line_or_place (drop at text) answer).1 → IsReadAt text at (line_or_place (drop at text) answer).0 next
is_read text at next (Ok (call, left)) is behind =
    let (short, stands) = right (drop at text) (Ok (call, left)) is in
    (short, stands ∙ ap (λ l. line_of call ++ l) (sym behind))
is_read text at next (Err left) is behind =
    let stops = right (drop at text) (Err left) is in
    let there = (left_of (drop at text) stops.front left stops.split).1 in
    (first_wrong_place (drop at text) left is, behind ∙ ap (after_first is_line_feed) (sym there ∙ drop-drop _ at text))

pub line_at : (text : List ℕ) (at : ℕ) → at < length text
    → IsLineAt text at (line_read (drop at text)).0 (at + (length (drop at text) - length (line_read (drop at text)).1))
line_at text at inside =
    let rest = drop at text in
    let (front, split, some) = passes rest (omega (arith, length-drop at text)) (call_read rest) refl in
    let (place, behind, _) = left_of rest front (line_read rest).1 split in
    record {
      is_read = is_read text at _ (call_read rest) refl (sym (drop-drop (length rest - length (line_read rest).1) at text) ∙ behind);
      later = omega arith;
      within = omega (arith, length-drop at text);
    }

pub correct_at : (text : List ℕ) (at : ℕ) (call : Call) (left : List ℕ) → HasShortFields call → drop at text ≡ line_of call ++ left
    → IsLineAt text at (Correct call) (at + (length (drop at text) - length left))
correct_at text at call left short line =
    let is : call_read (drop at text) ≡ Ok (call, left) = rw line (call_reads.complete call left short) in
    rw is at (line_at text at (omega (arith, ap length line, length-append (line_of call) left, line_some call, length-drop at text)))

-- ---- there is only one

-- no place of a first wrong byte is before another
not_before : (text : List ℕ) (one other : ℕ) → IsFirstWrongPlace IsLine text one → IsFirstWrongPlace IsLine text other → one < other → ⊥
not_before text one other first second below = first.here (omega (arith, second.within)) (second.before one below)

-- where there is a first wrong byte, the reader stops there
stops_there : (text : List ℕ) (place : ℕ) → IsFirstWrongPlace IsLine text place → (answer : Parsed Call) → call_read text ≡ answer
    → (left : List ℕ) × (call_read text ≡ Err left) × (place ≡ length text - length left) × (drop place text ≡ left)
stops_there text place wrong (Ok (call, left)) is =
    let found = right text (Ok (call, left)) is in absurd (wrong.unread (line_of call) left (call, found.0, refl) found.1)
stops_there text place wrong (Err left) is =
    let stops = right text (Err left) is in
    let also = first_wrong_place text left is in
    let same : place ≡ length text - length left = omega (arith, not_before text place _ wrong also, not_before text _ place also wrong) in
    (left, is, same, ap (λ n. drop n text) same ∙ (left_of text stops.front left stops.split).1)

-- the line at a place is the one that is read there, and reading goes on where it says
pub line_is_read : (text : List ℕ) (at : ℕ) (line : Line) (next : ℕ) → IsLineAt text at line next
    → (line ≡ (line_read (drop at text)).0) × (drop next text ≡ (line_read (drop at text)).1)
line_is_read text at (Correct call) next read =
    rw (read.is_read.1, call_reads.complete call (drop next text) read.is_read.0) (refl, refl)
line_is_read text at (Wrong place) next read =
    let (left, is, same, there) = stops_there (drop at text) place read.is_read.0 _ refl in
    rw is (ap (λ p. Wrong p) same, read.is_read.1 ∙ ap (after_first is_line_feed) (sym (drop-drop place at text) ∙ there))

pub one_reading : (text : List ℕ) (at : ℕ) (one other : List Line) → AreLines text at one → AreLines text at other → one ≡ other
one_reading text at [] [] first second = refl
one_reading text at (line ∷ lines) (other ∷ others) (next, first, behind) (also, second, more) =
    let one = line_is_read text at line next first in
    let two = line_is_read text at other also second in
    let left : drop next text ≡ drop also text = cc in
    let place : also ≡ next = omega (arith, first.within, second.within, ap length left, length-drop next text, length-drop also text) in
    let rest : lines ≡ others = one_reading text next lines others behind (subst (λ n. AreLines text n others) place more) in
    cc
one_reading text at one other first second = absurd (omega arith)

-- what comes back of a text, and that it is this one
abbrev Stands : List ℕ → Option Line → Type 0
Stands text None = text ≡ []
Stands text (Some (Correct call)) = LineStands call text
Stands text (Some (Wrong place)) = (0 < length text) × IsFirstWrongPlace IsLine text place

abbrev pub first_line : List ℕ → Option Line
first_line [] = None
first_line (byte ∷ bytes) = Some (line_read (byte ∷ bytes)).0

only : (text : List ℕ) (line : Option Line) → Stands text line → line ≡ first_line text
only text None is = rw is
only [] (Some (Correct call)) (short, (rest, whole)) =
    absurd (omega (arith, line_some call, length-append (line_of call) rest, ap length whole))
only [] (Some (Wrong place)) (some, wrong) = absurd (omega arith)
only (byte ∷ bytes) (Some (Correct call)) (short, (rest, whole)) = rw (whole, call_reads.complete call rest short)
only (byte ∷ bytes) (Some (Wrong place)) (some, wrong) =
    let (left, is, same, _) = stops_there (byte ∷ bytes) place wrong _ refl in rw is (ap (λ p. Some (Wrong p)) same)

stands : (text : List ℕ) (at : ℕ) (read : Option (Line × ℕ)) → IsReading text at read
    → Stands (drop at text) (option_map (λ (line, next). line) read)
stands text at None past = drop_all at text past
stands text at (Some (Correct call, next)) read = (read.is_read.0, (drop next text, read.is_read.1))
stands text at (Some (Wrong place, next)) read = (omega (arith, read.later, read.within, length-drop at text), read.is_read.0)

pub right_reading : (text : List ℕ) (at : ℕ) (read : Option (Line × ℕ)) → IsReading text at read
    → IsRight (drop at text) (option_map (λ (line, next). line) read)
right_reading text at read is =
    record { call = λ call. each (Some (Correct call)); wrong = λ place. each (Some (Wrong place)); none = each None } where
      line : Option Line
      line = option_map (λ (line, next). line) read

      each : (other : Option Line) → (line ≡ other) ↔ Stands (drop at text) other
      each other =
          let it = stands text at read is in
          (λ e. subst (Stands (drop at text)) e it, λ also. only (drop at text) line it ∙ sym (only (drop at text) other also))
