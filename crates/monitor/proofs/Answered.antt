-- The answers of a file: what is written for the lines that were made, and that it has room.
use Rattle.std.proofs.Common.{decimal, ◌-◌, ◌*◌, append_assoc, length-drop, None, Ok, Err, codes, append-nil, ℕ, List, [], ◌∷◌}
use Rattle.std.proofs.Common.{length, ◌∙◌, length-append, Some}
use Rattle.history.proofs.Words.{◌≡◌, ◌+◌, ◌≤◌, ap, refl, sym, arith, Book, Answer, refusal_number, answer_to, fresh_book, Finished}
use Rattle.monitor.proofs.Words.{◌++◌, Line, Correct, Wrong, Lines, AreLines, IsLineAt, GivesLine, LineAnswer, names_line, file_limit}
use Rattle.monitor.proofs.Words.{answer_to_line, after_line, answers_from, has_lines, length-decimal-le, Refusal, ANSWER_ROOM, refused_text}
use Rattle.monitor.proofs.Replays.{to_read, Reads, line_at, next_read, cut_off, at_end}
use Rattle.book.specs.Calls.{answer_number}
use Rattle.texts.proofs.Left.{length-line_text}
use Rattle.monitor.specs.Answers.{answer_line, answer_lines, answers_text, AreAnswers}

-- ---- lengths

number_short : (a : Answer) → length (decimal (answer_number a)) ≤ 2
number_short (Ok u) = length-decimal-le 2 _ (omega arith) (omega arith) (omega arith)
number_short (Err Finished) = length-decimal-le 2 _ (omega arith) (omega arith) (omega arith)
number_short (Err refusal) = length-decimal-le 2 _ (omega arith) (omega arith) (omega arith)

place_short : (n : ℕ) → n ≤ file_limit → length (decimal n) ≤ 5
place_short n low = length-decimal-le 5 n (omega arith) (omega arith) (omega arith)

abbrev pub refused_bound : ℕ
refused_bound = 11

pub refused_short : (refusal : Refusal) → length (refused_text refusal) ≤ refused_bound
unfolding refused_text
refused_short refusal = omega (arith, length-line_text (Some (refusal_number refusal) ∷ []) (omega arith), number_short (Err refusal))

-- as many bytes as the line of an answer takes at the most, of a line with so many bytes before it at the most
abbrev answer_bound : ℕ
answer_bound = 18

answer_short : (n : ℕ) (b : Book) (line : Line) (text : List ℕ) (at next : ℕ) → n ≤ file_limit → length text ≤ file_limit
    → IsLineAt text at line next
    → length (answer_line n (answer_to_line b line)) ≤ answer_bound
answer_short n b (Correct call) text at next small short line =
    let fields = Some n ∷ Some (answer_number (answer_to call b)) ∷ None ∷ [] in
    omega (arith, length-line_text fields (omega arith), place_short n small, number_short (answer_to call b))
answer_short n b (Wrong place) text at next small short line =
    let within : place ≤ file_limit = omega (arith, line.is_read.0.within, length-drop at text) in
    omega (arith, length-append {A = ℕ}, place_short n small, place_short place within)

pub answers_short : (rest : List ℕ) (at n : ℕ) (b : Book) (lines : List Line) → length rest + length names_line ≤ file_limit
    → n ≤ at + 1 → at ≤ length rest → AreLines rest at lines
    → length (answer_lines n (answers_from b lines)) ≤ answer_bound * (length rest - at)
answers_short rest at n b [] short few within are = omega arith
answers_short rest at n b (line ∷ lines) short few within are = omega (
  arith,
  length-append (answer_line n (answer_to_line b line)) (answer_lines (n + 1) (answers_from (after_line b line) lines)),
  answer_short n b line rest at are.0 (omega arith) (omega arith) are.1,
  answers_short rest are.0 (n + 1) (after_line b line) lines short (omega (arith, are.1.later)) are.1.within are.2,
  are.1.later,
  are.1.within,
)

-- whatever the lines, their answers fit
pub text_short : (rest : List ℕ) (lines : List Line) → length rest + length names_line ≤ file_limit → AreLines rest 0 lines
    → length (answers_text lines) ≤ ANSWER_ROOM
text_short rest lines short are = omega (arith, answers_short rest 0 1 fresh_book lines short (omega arith) (omega arith) are)

-- ---- line by line

-- where the writing stands: the page, with the answers of the lines that are left, has those of all lines
pub record Writes (rest : List ℕ) (it : Lines) (b : Book) (n : ℕ) (page : List ℕ) : Type 0 where
  pub reads : Reads rest it
  pub few : n ≤ it.at + 1
  pub has : page ++ answer_lines n (answers_from b (to_read rest it)) ≡ answers_text (has_lines rest 0).0

pub none_written : (rest : List ℕ) (it : Lines) (b : Book) (n : ℕ) (page : List ℕ) → length rest + length names_line ≤ file_limit
    → it.text.now ≡ rest → it.at ≡ 0 → b ≡ fresh_book → n ≡ 1 → page ≡ codes "line,answer,place\n" → Writes rest it b n page
none_written rest it b n page short same start fresh first text = record {
  reads = record { same = same; within = omega arith; short = short };
  few = omega arith;
  has = rw (start, text, fresh, first) refl;
}

-- the line at the reader, which came to this answer
module _ (rest : List ℕ) (it next : Lines) (b : Book) (n : ℕ) (page : List ℕ) (line : Line) (answer : LineAnswer)
    (writes : Writes rest it b n page) (given : GivesLine it (Some line) next) (came : answer ≡ answer_to_line b line) where
  abbrev behind : List ℕ
  behind = answer_lines (n + 1) (answers_from (after_line b line) (to_read rest next))

  one_more : page ++ (answer_line n answer ++ behind) ≡ answers_text (has_lines rest 0).0
  one_more = rw came (rw (cut_off rest it next line writes.reads given) at writes.has)

  -- its answer has room, since that of all lines has
  pub has_room : length page + length (answer_line n answer) ≤ ANSWER_ROOM
  has_room =
      let short = text_short rest (has_lines rest 0).0 writes.reads.short (has_lines rest 0).1 in
      omega (arith, ap length one_more, length-append {A = ℕ}, short)

  pub written_more : (after : Book) (longer : List ℕ) → after ≡ after_line b line → longer ≡ page ++ answer_line n answer
      → Writes rest next after (n + 1) longer
  written_more after longer left written = record {
    reads = next_read rest it next line writes.reads given;
    few = omega (arith, writes.few, (line_at rest it next line writes.reads given).later);
    has = rw (written, left) (append_assoc page (answer_line n answer) behind ∙ one_more);
  }

pub all_written : (rest : List ℕ) (it : Lines) (b : Book) (n : ℕ) (page : List ℕ) → Writes rest it b n page → length it.text.now ≤ it.at
    → AreAnswers rest page
all_written rest it b n page writes end =
    let all = has_lines rest 0 in
    (all.0, all.1, sym (append-nil page) ∙ rw (at_end rest it writes.reads end) at writes.has)
