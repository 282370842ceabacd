-- Each call keeps each pair's amount: a settle moves its part from the rest to the parts, a cancel the rest to the rest at cancel.
use Rattle.history.proofs.Words.{◌≡◌, List, [], ◌∷◌, Ok, refl, arith, AllByRecursion, nat_tests, Call, Enter, Settle, Cancel, Close}
use Rattle.history.proofs.Words.{Entry, Book, accepted_after, answer_to, day_of, entries, on_id, becomes}
use Rattle.history.proofs.Ids.{eq-own, eq-other, all-both, NoCancel, all-map}
use Rattle.history.proofs.Agrees.{IsSpent}
use Rattle.history.proofs.Accepted.{open_pair, accepts, settles}
use Rattle.counted.specs.PairCalls.{open_of}
use Rattle.counted.proofs.Calls.{none_open}
use Rattle.counted.proofs.Counts.{Known}
use Rattle.counted.proofs.Whole.{every_list}
use Rattle.selections.specs.Amounts.{at_cancel, IsKept, AmountsAreKept}
use Rattle.selections.proofs.OnePair.{sum_of-kept, other_opened}
use Rattle.selections.proofs.Whole.{each}

no_rest : (e : Entry) (h : List Call) → NoCancel e.id h → at_cancel e h ≡ 0
no_rest e [] n = refl
no_rest e (call ∷ h) n = rw n.0 (no_rest e h n.1)

abbrev Amounts : List Call → Book → Type 0
Amounts h b = AllByRecursion (IsKept h) (entries h)

next : (call : Call) (h : List Call) (b : Book) → Known h b → Amounts h b → answer_to call b ≡ Ok tt
    → Amounts (call ∷ h) (accepted_after call b)
next Close h b k kept a = kept
next (Settle id x) h b k kept a =
    let o = open_pair (Settle id x) b (grind arith) in
    let s = settles id x b o.pair o.found a in
    each (IsKept h) (IsKept (Settle id x ∷ h)) id h b o.pair k o.found kept (λ e i l. grind (arith, nat_tests))
    (λ e ne l. rw (eq-other id e.id ne, other_opened h e b.pairs.items (k.counts.replayed e.id) id (becomes (Settle id x) (day_of h)) ne) l)
next (Cancel id) h b k kept a =
    let o = open_pair (Cancel id) b (grind arith) in
    each (IsKept h) (IsKept (Cancel id ∷ h)) id h b o.pair k o.found kept (λ e i l. grind (arith, nat_tests))
    (λ e ne l. rw (eq-other id e.id ne, other_opened h e b.pairs.items (k.counts.replayed e.id) id (λ p. []) ne) l)
next (Enter n) h b k kept a =
    let above = (accepts n b a).above in
    let unused = k.kept.unused n.id above in (
      rw (eq-own n.id n.id refl, unused.parts, no_rest n h unused.kept, none_open h b k n.id above) (omega arith),
      all-both (IsKept h) (IsSpent b.last_id) (IsKept (Enter n ∷ h)) (entries h)
          (λ e l s. let below = s.below in rw (eq-other n.id e.id (λ same. omega arith)) l) kept k.kept.spent,
    )
next call h b k kept a =
    let same = λ (e : Entry). sum_of-kept (λ p. p.rest) (on_id call) (becomes call (day_of h)) (open_of e.id h) (λ p. omega arith) in
    all-map (IsKept h) (IsKept (call ∷ h)) (entries h) (λ e l. rw (same e) l) kept

pub amounts : AmountsAreKept
amounts = every_list Amounts tt next
