-- Every list of calls keeps it.
use Rattle.history.proofs.Words.{◌≡◌, List, [], ◌∷◌, Ok, Call, Book, none, answer_to, answers, book_of, history_of}
use Rattle.history.proofs.Words.{arith, cell_count, summary_count, no_summary, accepted_after, book_after_all, fresh_book, accepted_onto}
use Rattle.std.proofs.lemmas.List.{length-replicate}
use Rattle.history.proofs.Kept as history
use Rattle.history.proofs.Kept.{fresh_kept}
use Rattle.counted.proofs.Counts.{Known}
use Rattle.counted.proofs.Calls.{counts_after}

pub step : (call : Call) (h : List Call) (b : Book) → Known h b → answer_to call b ≡ Ok tt → Known (call ∷ h) (accepted_after call b)
step call h b k a = record { kept = history.step h b k.kept call a; counts = counts_after h b k call a }

pub fresh_known : Known [] fresh_book
fresh_known = record {
  kept = fresh_kept;
  counts = grind (arith, length-replicate cell_count none, length-replicate summary_count no_summary);
}

-- what fresh books have and accepted calls keep holds after every list of calls
pub every_list : (P : List Call → Book → Type 0) → P [] fresh_book
    → ((call : Call) (h : List Call) (b : Book) → Known h b → P h b → answer_to call b ≡ Ok tt → P (call ∷ h) (accepted_after call b))
    → (calls : List Call) → P (history_of calls) (book_of calls)
every_list P first next calls = from calls [] fresh_book fresh_known first
  where
    from : (calls h : List Call) (b : Book) → Known h b → P h b → P (accepted_onto h calls (answers calls b)) (book_after_all calls b)
    from [] h b k p = p
    from (call ∷ calls) h b k p =
        let refused = from calls h b k p in
        let accepted = λ (e : answer_to call b ≡ Ok tt).
        from calls (call ∷ h) (accepted_after call b) (step call h b k e) (next call h b k p e) in
        grind arith

pub known : (calls : List Call) → Known (history_of calls) (book_of calls)
known = every_list Known fresh_known (λ call h b k same a. step call h b k a)
