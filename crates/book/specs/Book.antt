-- What a book holds after a call, and after a list of calls. docs/RULES.md, 'The calls'.
use Rattle.std.specs.Prelude.{ℕ, ◌+◌, ◌==◌, List, [], ◌∷◌, ◌++◌, if◌then◌else◌, replicate, is_ok}
use Rattle.std.specs.List.{fold}
use Rattle.book.specs.Limits.{cell_count, summary_count}
use Rattle.book.specs.Pairs.{Pair, side_of, lack_of, entered, with_hold, with_lack, with_part, while_open}
use Rattle.book.specs.Figures.{none, no_summary, post, post_summary}
use Rattle.book.specs.Calls.{Call}
use Rattle.book.specs.declared.calls.Call.TheVariants.{Enter, Hold, Lack, Settle, Cancel, Close}
use Rattle.book.specs.Answers.{has_id, answer_to}
use Rattle.book.specs.Postings.{postings}
pub use Rattle.book.specs.declared.book.Book.{Book}

-- ---- a call on an open pair

-- the id of the open pair that it is on, 0 where it is on none
abbrev pub on_id : Call → ℕ
on_id (Hold id side on) = id
on_id (Lack id lack) = id
on_id (Settle id part) = id
on_id (Cancel id) = id
on_id _ = 0

-- What becomes of the pair: itself changed, or nothing, as of a cancelled one. Enter and close are on none.
abbrev pub becomes : Call → ℕ → Pair → List Pair
becomes (Hold id side on) today p = with_hold (side_of side) (on == 1) p ∷ []
becomes (Lack id lack) today p = with_lack (lack_of lack) p ∷ []
becomes (Settle id part) today p = while_open (with_part today part p)
becomes _ today p = []

-- ---- after an accepted call

-- the pairs, with what becomes of the first of that id in its place
abbrev pub changed : ℕ → (Pair → List Pair) → List Pair → List Pair
changed id next [] = []
changed id next (p ∷ ps) = if has_id id p then next p ++ ps else p ∷ changed id next ps

-- the open pairs, in the order of entering
abbrev pub pairs_after : Call → Book → List Pair
pairs_after (Enter e) b = b.pairs.items ++ entered e ∷ []
pairs_after Close b = b.pairs.items
pairs_after call b = changed (on_id call) (becomes call b.today) b.pairs.items

-- Close: today rises by one.
abbrev pub today_after : Call → ℕ → ℕ
today_after Close today = today + 1
today_after _ today = today

-- Enter spends its id.
abbrev pub last_id_after : Call → ℕ → ℕ
last_id_after (Enter e) last = e.id
last_id_after _ last = last

-- The figures gain the call's postings, one after another.
abbrev pub accepted_after : Call → Book → Book
accepted_after call b = record {
  pairs = record { items = pairs_after call b };
  cells = fold post b.cells (postings call b);
  summaries = fold post_summary b.summaries (postings call b);
  today = today_after call b.today;
  last_id = last_id_after call b.last_id;
}

-- ---- after any call

-- a refused one leaves the book the same
abbrev pub book_after : Call → Book → Book
book_after call b = if is_ok (answer_to call b) then accepted_after call b else b

-- ---- a list of calls

-- the book after them, one after another
abbrev pub book_after_all : List Call → Book → Book
book_after_all [] b = b
book_after_all (call ∷ calls) b = book_after_all calls (book_after call b)

-- how many of them are accepted
abbrev pub accepted_in : List Call → Book → ℕ
accepted_in [] b = 0
accepted_in (call ∷ calls) b = (if is_ok (answer_to call b) then 1 else 0) + accepted_in calls (book_after call b)

-- A fresh book holds no pair and no figure, and its today is 0.
abbrev pub fresh_book : Book
fresh_book = record {
  pairs = record { items = [] };
  cells = replicate cell_count none;
  summaries = replicate summary_count no_summary;
  today = 0;
  last_id = 0;
}
