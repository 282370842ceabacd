-- The journal: all that the accepted calls of a list post. docs/RULES.md, 'The calls' and 'A row'.
use Rattle.std.specs.Prelude.{◌≡◌, ℕ, Bool, ◌&&◌, ◌==◌, List, [], ◌∷◌, ◌++◌, map, filter, is_ok, if◌then◌else◌}
use Rattle.std.specs.List.{fold}
use Rattle.book.specs.declared.calls.Call.{Call}
use Rattle.book.specs.declared.calls.Call.TheVariants.{Enter, Settle, Close}
use Rattle.book.specs.declared.pairs.Pair.{Pair}
use Rattle.book.specs.declared.figures.Cell.{Cell}
use Rattle.book.specs.declared.figures.Posting.{Posting}
use Rattle.book.specs.declared.book.Book.{Book}
use Rattle.book.specs.Pairs.{entered}
use Rattle.book.specs.Figures.{post, post_summary}
use Rattle.book.specs.Answers.{has_id, answer_to}
use Rattle.book.specs.Postings.{late_fails, part_posting, fails_of, postings}
use Rattle.book.specs.Book.{book_after, book_after_all, fresh_book}
use Rattle.history.specs.History.{day_of, history_of}
use Rattle.history.specs.Sums.{sum_of, over_pairs}
use Rattle.counted.specs.PairCalls.{open_of}

-- what the accepted ones among the calls post, one after another from a book on
abbrev pub journal : List Call → Book → List Posting
journal [] b = []
journal (call ∷ calls) b = (if is_ok (answer_to call b) then postings call b else []) ++ journal calls (book_after call b)

-- The cells are the sum of it, from every book on.
abbrev pub CellsAreJournal : Type 0
CellsAreJournal = (calls : List Call) (b : Book) → (book_after_all calls b).cells ≡ fold post b.cells (journal calls b)

-- So are the participants' summaries.
abbrev pub SummariesAreJournal : Type 0
SummariesAreJournal = (calls : List Call) (b : Book) → (book_after_all calls b).summaries ≡ fold post_summary b.summaries (journal calls b)

-- ---- pair by pair; h are the accepted calls, the latest first

-- what a call on day t posts for the pair of id i; ps is that pair while it is open
abbrev pub posts : ℕ → ℕ → Call → List Pair → List Posting
posts i t (Enter e) ps = if e.id == i then late_fails t (entered e) else []
posts i t (Settle id part) ps = map (part_posting t part) (filter (has_id id) ps)
posts i t Close ps = fails_of t ps
posts i t _ ps = []

-- all that its own calls post
abbrev pub posted : ℕ → List Call → List Posting
posted i [] = []
posted i (call ∷ h) = posts i (day_of h) call (open_of i h) ++ posted i h

-- what postings add to any figure of a day
abbrev pub added_on : (Cell → ℕ) → ℕ → List Posting → ℕ
added_on figure d xs = sum_of (λ x. if x.day == d then figure x.figures else 0) xs

-- and those of the pairs with a category, deliverer and receiver that pass a test
abbrev pub added_for : (Cell → ℕ) → (ℕ → ℕ → ℕ → Bool) → ℕ → List Posting → ℕ
added_for figure selects d xs = sum_of (λ x. if selects x.category x.deliverer x.receiver && x.day == d then figure x.figures else 0) xs

-- Over any selection of pairs that looks at the enter alone, at its category or its two codes, the journal is the sum of what the
-- selected pairs' own calls post.
abbrev pub JournalIsByPairs : Type 0
JournalIsByPairs =
    (calls : List Call) (figure : Cell → ℕ) (selects : ℕ → ℕ → ℕ → Bool) (d : ℕ)
    → added_for figure selects d (journal calls fresh_book)
    ≡ over_pairs (λ e. selects e.category e.deliverer e.receiver) (λ e. added_on figure d (posted e.id (history_of calls))) (history_of calls)

-- ---- the same of any pairs, whose ids pass a test

-- what a call posts for them
abbrev pub postings_for : (ℕ → Bool) → Call → Book → List Posting
postings_for test (Enter e) b = if test e.id then postings (Enter e) b else []
postings_for test (Settle id part) b = if test id then postings (Settle id part) b else []
postings_for test Close b = fails_of b.today (filter (λ p. test p.id) b.pairs.items)
postings_for test _ b = []

-- what the accepted ones among the calls post for them
abbrev pub journal_for : (ℕ → Bool) → List Call → Book → List Posting
journal_for test [] b = []
journal_for test (call ∷ calls) b = (if is_ok (answer_to call b) then postings_for test call b else []) ++ journal_for test calls (book_after call b)

-- Ids are given one time each, so over any pairs at all the journal is the sum of what their own calls post.
abbrev pub JournalIsByIds : Type 0
JournalIsByIds =
    (calls : List Call) (figure : Cell → ℕ) (test : ℕ → Bool) (d : ℕ)
    → added_on figure d (journal_for test calls fresh_book)
    ≡ over_pairs (λ e. test e.id) (λ e. added_on figure d (posted e.id (history_of calls))) (history_of calls)
