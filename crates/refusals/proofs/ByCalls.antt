-- The same from the accepted calls alone.
use Rattle.history.proofs.Words.{◌≡◌, ℕ, List, [], ◌∷◌, length, filter, Ok, refl, ap, ◌∙◌, sym, subst, arith, Call, Enter, Pair}
use Rattle.history.proofs.Words.{Book, answer_to, has_id, pair_of, accepted_after, entries, book_of, history_of, sum_of}
use Rattle.history.proofs.Accepted.{accepts}
use Rattle.counted.specs.PairCalls.{open_of}
use Rattle.counted.proofs.Counts.{Known, every_pair}
use Rattle.counted.proofs.Calls.{from_pairs}
use Rattle.counted.proofs.Whole.{known, every_list}
use Rattle.refusals.specs.Table.{view_of, view_of_calls, highest_id, applies, IsLowest, LowestByTheCalls}
use Rattle.refusals.proofs.Table.{lowest}

-- the last id is the highest
abbrev HasHighest : List Call → Book → Type 0
HasHighest h b = b.last_id ≡ highest_id (entries h)

step : (call : Call) (h : List Call) (b : Book) → Known h b → HasHighest h b → answer_to call b ≡ Ok tt
    → HasHighest (call ∷ h) (accepted_after call b)
step (Enter e) h b k same a = let above = (accepts e b a).above in omega arith
step _ h b k same a = same

highest : (calls : List Call) → (book_of calls).last_id ≡ highest_id (entries (history_of calls))
highest = every_list HasHighest refl step

-- the open pairs, each counted at its entry
length_sum : (ps : List Pair) → length ps ≡ sum_of (λ p. 1) ps
length_sum [] = refl
length_sum (p ∷ ps) = let e = length_sum ps in omega arith

-- so many are open
count : (h : List Call) (b : Book) → Known h b → length b.pairs.items ≡ sum_of (λ e. length (open_of e.id h)) (entries h)
count h b k =
    length_sum b.pairs.items
    ∙ from_pairs h b k (λ p. 1) every_pair
    ∙ (λ i. sum_of (λ e. sym (length_sum (open_of e.id h)) i) (entries h))

-- the open pair of an id
find-filter : (id : ℕ) (ps : List Pair) → pair_of id ps ≡ pair_of id (filter (has_id id) ps)
find-filter id [] = refl
find-filter id (p ∷ ps) = grind (arith, find-filter id ps)

-- so the two views are one, part by part
same : (calls : List Call) → view_of (book_of calls) ≡ view_of_calls (history_of calls)
same calls = λ i. record { today = k.kept.day i; highest = highest calls i; count = count h b k i; pair = λ id. pair id i }
  where
    h : List Call
    h = history_of calls

    b : Book
    b = book_of calls

    k : Known h b
    k = known calls

    pair : (id : ℕ) → pair_of id b.pairs.items ≡ pair_of id (open_of id h)
    pair id = find-filter id b.pairs.items ∙ ap (pair_of id) (sym (k.counts.replayed id))

pub by_calls : LowestByTheCalls
by_calls calls call = subst (λ v. IsLowest (applies call v) (answer_to call (book_of calls))) (same calls) (lowest call (book_of calls))
