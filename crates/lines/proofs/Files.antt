-- A text's lines are its pieces, and a file of calls, written and read back: line by line. A line's LF is its last byte, so the
-- first LF of a text ends its first line, a wrong one too: what stands in front of its first wrong byte begins a correct line.
use Rattle.std.specs.Prelude.{◌≡◌, ℕ, zero, suc, ◌+◌, ◌-◌, ◌<◌, List, [], ◌∷◌, ◌++◌, length, take, drop, min}
use Rattle.std.specs.List.{AllByRecursion, after_first, position_or_len, AllZip, flat_map}
use Rattle.std.specs.Str.Parse.{AllDigits}
use Rattle.std.proofs.Common.{decimal, refl, not, Ok, Err, map, sym, ◌∙◌, ap, subst, ⊎_elim, append_assoc, arith, length-drop}
use Rattle.std.proofs.lemmas.Bool.{cases_lt}
use Rattle.std.proofs.lemmas.Bool.Decides.{nat_tests}
use Rattle.std.proofs.lemmas.Fmt.{decimal_is_IsNumeral}
use Rattle.std.proofs.lemmas.Str.Parse.{digit_from_value}
use Rattle.std.proofs.lemmas.List.{append-nil, length-append, drop_at, drop_all, length-take, nil_from_length, take_at, append_cancel_left}
use Rattle.std.proofs.Math.Nat.{sub-zero, zero-add}
use Rattle.std.proofs.Math.Seq.{drop-append-add, take-append-add}
use Rattle.std.proofs.lemmas.List.Folds.{length-prefix_len, prefix_len-append}
use Rattle.std.proofs.lemmas.Slice.Zip.{AllZip-long}
use Rattle.book.specs.declared.calls.Call.{Call}
use Rattle.lines.specs.declared.reader.Line.{Line}
use Rattle.lines.specs.Table.{short_limit}
use Rattle.lines.specs.Grammar.{Begins, IsLine, HasShortFields, line_of}
use Rattle.lines.specs.Parts.{Parsed, call_read, line_or_place, line_read}
use Rattle.lines.specs.Reading.{is_line_feed, IsLineAt, GoesOn, AreLines}
use Rattle.lines.specs.Texts.{cut, IsReadAlone, ArePieces, RoundTrip}
use Rattle.lines.specs.declared.reader.Line.TheVariants.{Correct}
use Rattle.lines.specs.Written.{names_line}
use Rattle.lines.proofs.Readers.{Refuses}
use Rattle.lines.proofs.Fields.{ended}
use Rattle.lines.proofs.Calls.{calls_are_numbers, call_reads, line_ended, right}
use Rattle.lines.proofs.Readings.{line_at, not_both, correct_at, line_is_read, one_reading}

-- ---- the first LF

-- its place, and the text's length where there is none
abbrev pub feed_place : List ℕ → ℕ
feed_place = position_or_len is_line_feed

-- behind some bytes
feed-append : (xs ys : List ℕ) → (feed_place xs ≡ length xs → feed_place (xs ++ ys) ≡ length xs + feed_place ys)
    × (feed_place xs < length xs → feed_place (xs ++ ys) ≡ feed_place xs)
feed-append xs ys =
    let e = prefix_len-append (λ byte. not (is_line_feed byte)) xs ys in (λ none. grind (arith, nat_tests), λ some. grind (arith, nat_tests))

-- of so many bytes
feed-take : (n : ℕ) (text : List ℕ) → feed_place (take n text) ≡ min n (feed_place text)
feed-take zero text = omega arith
feed-take (suc n) [] = omega arith
feed-take (suc n) (x ∷ xs) = grind (arith, nat_tests, feed-take n xs)

-- a text's first piece, its LF included
abbrev pub first_piece : List ℕ → List ℕ
first_piece text = take (suc (feed_place text)) text

-- a text with a byte is cut there first
pub cut_first : (text : List ℕ) → 0 < length text → cut text ≡ first_piece text ∷ cut (after_first is_line_feed text)
cut_first [] some = absurd (omega arith)
cut_first (byte ∷ []) some = grind (arith, nat_tests)
cut_first (byte ∷ next ∷ more) some = grind (arith, nat_tests, cut_first (next ∷ more) (omega arith))

-- ---- a line

-- its LF is its last byte
no_feed_digits : (ds : List ℕ) → AllDigits 10 ds → feed_place ds ≡ length ds
no_feed_digits [] all = refl
no_feed_digits (d ∷ ds) all = let digit = digit_from_value d all.0 in grind (arith, nat_tests, no_feed_digits ds all.1)

no_feed : (n : ℕ) (rest : List ℕ) → n < short_limit → feed_place (decimal n ++ rest) ≡ length (decimal n) + feed_place rest
no_feed n rest short = (feed-append (decimal n) rest).0 (no_feed_digits (decimal n) (decimal_is_IsNumeral n (omega arith)).0.1)

ended_last : (ns rest : List ℕ) → 0 < length ns → AllByRecursion (λ n. n < short_limit) ns
    → suc (feed_place (ended ns ++ rest)) ≡ length (ended ns)
ended_last [] rest some short = absurd (omega arith)
ended_last (n ∷ []) rest some short =
    rw (append_assoc (decimal n) (10 ∷ []) rest) (omega (arith, no_feed n (10 ∷ rest) short.0, length-append (decimal n) (10 ∷ [])))
ended_last (n ∷ m ∷ ns) rest some short =
    let more = ended (m ∷ ns) in
    let behind : suc (feed_place (more ++ rest)) ≡ length more = ended_last (m ∷ ns) rest (omega arith) short.1 in
    rw (append_assoc (decimal n) (44 ∷ more) rest) (omega (arith, no_feed n (44 ∷ more ++ rest) short.0, length-append (decimal n) (44 ∷ more)))

feed_last : (call : Call) (rest : List ℕ) → HasShortFields call → suc (feed_place (line_of call ++ rest)) ≡ length (line_of call)
feed_last call rest short = rw (line_ended call) (ended_last _ rest (omega (arith, calls_are_numbers.count call)) short)

-- no LF stands in front of where the reader stops
no_feed_in_front : (front left : List ℕ) → Begins IsLine front → call_read (front ++ left) ≡ Err left → feed_place front ≡ length front
no_feed_in_front front left (more, (call, short, whole)) stopped = ⊎_elim
    (λ some. absurd (
    let last = rw (append-nil (line_of call), ← whole) at (feed_last call [] short) in
    let nothing : more ≡ [] = nil_from_length more (omega (arith, last, (feed-append front more).1 some, length-append front more)) in
    not_both (front ++ left) front left left stopped (call, short, sym (append-nil front) ∙ rw nothing at whole) refl))
    (λ none. omega (arith, length-prefix_len (λ byte. not (is_line_feed byte)) front, length-take (feed_place front) front))
    (cases_lt (feed_place front) (length front))

-- the piece up to there is read the same
in_piece : (n : ℕ) (front left : List ℕ) → Refuses call_read front left → call_read (front ++ left) ≡ Err left
    → call_read (front ++ take (suc n) left) ≡ Err (take (suc n) left)
in_piece n front [] refused stopped = stopped
in_piece n front (byte ∷ rest) refused stopped = refused byte rest (take n rest) refl

-- What is left behind the first line of a text is what stands behind its first LF, and the piece up to there is that line.
ends_at_feed : (text : List ℕ) (answer : Parsed Call) → call_read text ≡ answer
    → ((line_or_place text answer).1 ≡ after_first is_line_feed text)
    × (line_read (first_piece text) ≡ ((line_or_place text answer).0, []))
ends_at_feed text (Ok (call, left)) is =
    let (short, whole) = right text (Ok (call, left)) is in
    let last = feed_last call left short in
    let n = feed_place (line_of call ++ left) in
    let read : call_read (line_of call) ≡ Ok (call, []) = ap call_read (sym (append-nil (line_of call))) ∙ call_reads.complete call [] short in
    rw whole (sym (drop_at (line_of call) left (n + 1) (omega arith)), rw (take_at (line_of call) left (suc n) (omega arith), read))
ends_at_feed text (Err left) is =
    let stops = right text (Err left) is in
    let front = stops.front in
    let stopped : call_read (front ++ left) ≡ Err left = ap call_read (sym stops.split) ∙ is in
    let n = feed_place left in
    let piece = first_piece left in
    let feed = (feed-append front left).0 (no_feed_in_front front left stops.begins stopped) in
    let first : suc (feed_place (front ++ left)) ≡ length front + suc n = omega (arith, feed) in
    let behind : feed_place (front ++ left) + 1 ≡ length front + (n + 1) = omega (arith, feed) in
    let place : length (front ++ piece) - length piece ≡ length (front ++ left) - length left =
    omega (arith, length-append front left, length-append front piece) in
    let nothing : after_first is_line_feed piece ≡ [] =
    drop_all (feed_place piece + 1) piece (omega (arith, feed-take (suc n) left, length-take (suc n) left)) in
    rw stops.split (
      rw (behind, drop-append-add front left (n + 1)),
      rw (first, take-append-add front left (suc n), in_piece n front left stops.refused stopped, place, nothing),
    )

-- where reading goes on: behind the first LF from the line's start on
pub behind_feed : (text : List ℕ) (at : ℕ) (line : Line) (next : ℕ) → IsLineAt text at line next
    → drop next text ≡ after_first is_line_feed (drop at text)
behind_feed text at line next read =
    (line_is_read text at line next read).1 ∙ (ends_at_feed (drop at text) (call_read (drop at text)) refl).0

-- a line read by itself
pub read_alone : (text : List ℕ) (at : ℕ) (line : Line) (next : ℕ) → IsLineAt text at line next
    → IsReadAlone (first_piece (drop at text)) line
read_alone text at line next read =
    let rest = drop at text in
    let piece = first_piece rest in
    let some : 0 < length piece = omega (arith, read.later, read.within, length-drop at text, length-take (suc (feed_place rest)) rest) in
    subst (λ l. IsLineAt piece 0 l (length piece)) (sym (line_is_read text at line next read).0)
    (rw ((ends_at_feed rest (call_read rest) refl).1, sub-zero (length piece), zero-add (length piece)) at (line_at piece 0 some))

pub goes_on : (text : List ℕ) (at : ℕ) (line : Line) (next : ℕ) → IsLineAt text at line next → GoesOn text at line next
goes_on text at line next read = record {
  either = behind_feed text at line next read;
  correct = λ call is.
      let found = rw is at read in
      omega (arith, ap length found.is_read.1, length-append (line_of call) (drop next text), length-drop at text, length-drop next text);
  wrong = λ place is. (let found = rw is at read in found.is_read.1);
}

-- ---- pieces

pieces_from : (text : List ℕ) (at : ℕ) (lines : List Line) → AreLines text at lines → AllZip IsReadAlone (cut (drop at text)) lines
pieces_from text at [] past = subst (λ t. AllZip IsReadAlone (cut t) []) (sym (drop_all at text past)) tt
pieces_from text at (line ∷ lines) read =
    rw (cut_first (drop at text) (omega (arith, read.1.later, read.1.within, length-drop at text)), ← behind_feed text at line read.0 read.1)
    (read_alone text at line read.0 read.1, pieces_from text read.0 lines read.2)

pub lines_are_pieces : (text : List ℕ) (at : ℕ) (lines : List Line) → AreLines text at lines → ArePieces (drop at text) lines
lines_are_pieces text at lines read =
    record { alone = pieces_from text at lines read; count = AllZip-long IsReadAlone (cut (drop at text)) lines (pieces_from text at lines read) }

-- ---- calls

abbrev as_lines : List Call → List Line
as_lines calls = map (λ call. Correct call) calls

-- a text that reads as calls is what is written of them, and the other way round
written_from : (text : List ℕ) (at : ℕ) (calls : List Call) → AreLines text at (as_lines calls)
    → AllByRecursion HasShortFields calls × (drop at text ≡ flat_map line_of calls)
written_from text at [] past = (tt, drop_all at text past)
written_from text at (call ∷ calls) read =
    let more = written_from text read.0 calls read.2 in
    ((read.1.is_read.0, more.0), read.1.is_read.1 ∙ ap (λ l. line_of call ++ l) more.1)

read_from : (text : List ℕ) (at : ℕ) (calls : List Call) → AllByRecursion HasShortFields calls → drop at text ≡ flat_map line_of calls
    → AreLines text at (as_lines calls)
read_from text at [] short whole = omega (arith, sym (length-drop at text) ∙ ap length whole)
read_from text at (call ∷ calls) short whole =
    let line = correct_at text at call (flat_map line_of calls) short.0 whole in
    let next = at + (length (drop at text) - length (flat_map line_of calls)) in
    let left = append_cancel_left (line_of call) _ (flat_map line_of calls) (sym line.is_read.1 ∙ whole) in
    (next, line, read_from text next calls short.1 left)

same_calls : (calls others : List Call) → as_lines calls ≡ as_lines others → calls ≡ others
same_calls [] [] e = refl
same_calls (call ∷ calls) (other ∷ others) e = let more : calls ≡ others = same_calls calls others (cc) in cc
same_calls calls others e = absurd (cc)

pub round_trip : (text : List ℕ) (calls : List Call) → RoundTrip text calls
round_trip text calls = record {
  same_bytes = (
    λ reads. let found = written_from reads.rest 0 calls reads.lines in (found.0, reads.named ∙ ap (λ l. names_line ++ l) found.1),
    λ (short, whole). record { rest = flat_map line_of calls; named = whole; lines = read_from (flat_map line_of calls) 0 calls short refl },
  );
  same_calls = λ others reads also.
      let rest : reads.rest ≡ also.rest = append_cancel_left names_line reads.rest also.rest (sym reads.named ∙ also.named) in
      same_calls calls others (one_reading reads.rest 0 (as_lines calls) (as_lines others) reads.lines
      (subst (λ t. AreLines t 0 (as_lines others)) (sym rest) also.lines));
}
