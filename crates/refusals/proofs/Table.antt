-- The answers are the table's: the first of the numbers that applies comes back, and it is the lowest.
use Rattle.history.proofs.Words.{List, ◌≡◌, ◌<◌, [], ◌∷◌, map, arith, Bool, true, false, Ok, Err, refl, ◌∙◌, Book, Call, Enter}
use Rattle.history.proofs.Words.{answer_to, Answer, Finished, OutOfRange, IdSpent, BookFull, NotOpen, NotDue, OnHold, WrongPart, lowest_of}
use Rattle.history.proofs.Words.{refused_if, refusal_number}
use Rattle.book.specs.declared.calls.Refusal.{Refusal}
use Rattle.refusals.specs.Table.{view_of, applies, IsLowest, LowestIsOne, LowestIsReturned, NumbersTellApart}

-- the first of the numbers of calls that passes a test
abbrev first_passing : (Refusal → Bool) → Answer
first_passing test =
    let numbers : List Refusal = Finished ∷ OutOfRange ∷ IdSpent ∷ BookFull ∷ NotOpen ∷ NotDue ∷ OnHold ∷ WrongPart ∷ [] in
    lowest_of (map (λ r. refused_if (test r) r) numbers)

-- it is the lowest
first_is_lowest : (test : Refusal → Bool) (r : Refusal) → first_passing test ≡ Err r
    → (test r ≡ true) × ((s : Refusal) → refusal_number s < refusal_number r → test s ≡ false)
first_is_lowest test r e = (grind arith, λ s l. grind arith)

-- and what comes back
first_comes_back : (call : Call) (b : Book) → first_passing (applies call (view_of b)) ≡ answer_to call b
first_comes_back (Enter e) b = refl
first_comes_back _ b = refl

pub lowest : LowestIsReturned
lowest call b = by (answer_to call b) refl
  where
    by : (a : Answer) → answer_to call b ≡ a → IsLowest (applies call (view_of b)) a
    by (Ok u) e = λ s. grind arith
    by (Err r) e = first_is_lowest (applies call (view_of b)) r (first_comes_back call b ∙ e)

-- ---- one number, one answer

pub apart : NumbersTellApart
apart a b e = grind arith

-- and so one answer is the lowest
pub one_lowest : LowestIsOne
one_lowest test (Ok u) (Ok v) l m = refl
one_lowest test (Ok u) (Err s) l m = absurd (let e = l s in let f = m.0 in cc)
one_lowest test (Err r) (Ok v) l m = absurd (let e = m r in let f = l.0 in cc)
one_lowest test (Err r) (Err s) l m = grind (arith, apart (Err r) (Err s), l.0, m.0, l.1 s, m.1 r)
