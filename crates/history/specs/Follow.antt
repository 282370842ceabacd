-- Each call is answered, on the book that the call before handed back.
use Rattle.std.specs.Prelude.{◌≡◌, List, [], ◌∷◌, ◌++◌, length}
use Rattle.book.specs.declared.calls.Call.{Call}
use Rattle.book.specs.declared.book.Book.{Book}
use Rattle.book.specs.Answers.{answer_to}
use Rattle.book.specs.Book.{book_after, book_after_all}
use Rattle.history.specs.History.{answers}

-- one answer for each call of a list
abbrev pub EachIsAnswered : Type 0
EachIsAnswered = (calls : List Call) (b : Book) → length (answers calls b) ≡ length calls

-- One call more: its answer is that of the book after the others,
abbrev pub AnswersFollow : Type 0
AnswersFollow = (calls : List Call) (call : Call) (b : Book) → answers (calls ++ call ∷ []) b ≡ answers calls b ++ answer_to call (book_after_all calls b) ∷ []

-- and the book is what it leaves of that book.
abbrev pub BooksFollow : Type 0
BooksFollow = (calls : List Call) (call : Call) (b : Book) → book_after_all (calls ++ call ∷ []) b ≡ book_after call (book_after_all calls b)
