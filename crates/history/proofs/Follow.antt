-- Each call gets the book of the call before, by induction over the list.
use Rattle.history.proofs.Words.{suc, List, [], ◌∷◌, refl, ap, Answer, answer_to, book_after}
use Rattle.history.specs.Follow.{EachIsAnswered, AnswersFollow, BooksFollow}

pub each_answered : EachIsAnswered
each_answered [] b = refl
each_answered (call ∷ calls) b = ap suc (each_answered calls (book_after call b))

pub answers_follow : AnswersFollow
answers_follow [] call b = refl
answers_follow (first ∷ calls) call b = ap (λ (given : List Answer). answer_to first b ∷ given) (answers_follow calls call (book_after first b))

pub books_follow : BooksFollow
books_follow [] call b = refl
books_follow (first ∷ calls) call b = books_follow calls call (book_after first b)
