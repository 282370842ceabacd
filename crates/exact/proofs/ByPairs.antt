-- The journal, and pair by pair: what a call posts is the sum of what it posts for each pair. By induction over the list, with
-- what every list of calls keeps.
use Rattle.history.proofs.Words.{◌≡◌, ◌&&◌, ◌∷◌, ◌++◌, ◌∙◌, ◌==◌, nat_tests, answer_to, late_fail, postings, fails_of}
use Rattle.history.proofs.Words.{ℕ, true, List, [], map, Ok, refl, ap, sym, arith, fold, Call, Enter, Close, Cell, Entry, Pair, Book, post, fail}
use Rattle.history.proofs.Words.{◌+◌, ◌-◌, ◌<◌, Bool, filter, Settle, Posting, entered, has_id, posting, day_of, entries, answers, sum_of}
use Rattle.history.proofs.Words.{if◌then◌else◌, AllByRecursion, range_with_len, sides_at_close, is_first_part, book_after_all, accepted_after}
use Rattle.history.proofs.Words.{settled_part, post_summary, is_failing, book_after, fresh_book, accepted_onto, history_of, late_fails, over_pairs}
use Rattle.std.proofs.lemmas.List.Sums.{fold-append}
use Rattle.history.proofs.Ids.{all-map, filter-has_id}
use Rattle.history.proofs.Pairs.{sum_of-append}
use Rattle.history.proofs.Agrees.{IsSpent}
use Rattle.history.proofs.Accepted.{accepts}
use Rattle.counted.specs.PairCalls.{open_of}
use Rattle.counted.proofs.Gained.{Selection, picks}
use Rattle.counted.proofs.Own.{selects, sum_of_ext, sum_of_0}
use Rattle.counted.proofs.Counts.{Known, every_pair}
use Rattle.counted.proofs.Calls.{from_pairs, none_open}
use Rattle.counted.proofs.Whole.{step, fresh_known}
use Rattle.exact.specs.Journal.{journal, posts, posted, added_on, added_for, postings_for, journal_for}
use Rattle.exact.specs.Journal.{CellsAreJournal, SummariesAreJournal, JournalIsByPairs, JournalIsByIds}

-- what a book stores of what is posted is the journal added to it, posting by posting
module _ {A : Type 0} (read : Book → A) (add : A → Posting → A)
    (each : (call : Call) (b : Book) → read (accepted_after call b) ≡ fold add (read b) (postings call b)) where
  gathers : (calls : List Call) (b : Book) → read (book_after_all calls b) ≡ fold add (read b) (journal calls b)
  gathers [] b = refl
  gathers (call ∷ calls) b =
      let joined = fold-append add (read b) (postings call b) (journal calls (book_after call b)) in
      grind (arith, nat_tests, gathers calls (book_after call b), each call b)

pub cells : CellsAreJournal
cells = gathers (λ b. b.cells) post (λ call b. refl)

pub summaries : SummariesAreJournal
summaries = gathers (λ b. b.summaries) post_summary (λ call b. refl)

-- ---- nothing is posted for an id above the last

abbrev Unposted : List Call → Book → Type 0
Unposted h b = (i : ℕ) → b.last_id < i → posted i h ≡ []

unposted : (call : Call) (h : List Call) (b : Book) → Known h b → Unposted h b → answer_to call b ≡ Ok tt
    → Unposted (call ∷ h) (accepted_after call b)
unposted (Enter e) h b k u a = λ i l. let above = (accepts e b a).above in let none = u i (omega arith) in grind (arith, nat_tests)
unposted (Settle id x) h b k u a = λ i l. rw (none_open h b k i l) (u i l)
unposted Close h b k u a = λ i l. rw (none_open h b k i l) (u i l)
unposted call h b k u a = u

-- ---- any figure of a day, over the selected pairs whose id passes a test

module _ (figure : Cell → ℕ) (sel : Selection) (test : ℕ → Bool) (d : ℕ) where
  abbrev chosen : Entry → Bool
  chosen e = test e.id && selects sel e

  -- what postings add to it, and what those of the selected pairs do
  abbrev adds : List Posting → ℕ
  adds = added_on figure d

  abbrev adds_for : List Posting → ℕ
  adds_for = added_for figure sel d

  -- what postings of each id add to it
  abbrev over : (ℕ → List Posting) → List Entry → ℕ
  over of_id es = sum_of (λ e. if chosen e then adds (of_id e.id) else 0) es

  -- it is added up call by call,
  over-append : (xs ys : ℕ → List Posting) (es : List Entry) → over (λ i. xs i ++ ys i) es ≡ over xs es + over ys es
  over-append xs ys [] = refl
  over-append xs ys (e ∷ es) =
      grind (arith, sum_of-append (λ x. if x.day == d then figure x.figures else 0) (xs e.id) (ys e.id), over-append xs ys es)

  -- and nothing where nothing is posted
  over_none : (xs : ℕ → List Posting) (es : List Entry) → AllByRecursion (λ e. xs e.id ≡ []) es → over xs es ≡ 0
  over_none xs [] none = refl
  over_none xs (e ∷ es) none = rw none.0 (grind (arith, over_none xs es none.1))

  -- the pair of an id passes the test, or it does not
  under_test : (id : ℕ) (ps : List Pair) → filter (has_id id) (filter (λ p. test p.id) ps) ≡ (if test id then filter (has_id id) ps else [])
  under_test id [] = grind (arith, nat_tests)
  under_test id (p ∷ ps) = let later = under_test id ps in grind (arith, nat_tests)

  -- open pairs of which some post, each its figures
  module _ (t : ℕ) (figures : Pair → Cell) (which : Pair → Bool) where
    abbrev posts_of : List Pair → List Posting
    posts_of ps = map (λ p. posting t p (figures p)) (filter which ps)

    abbrev value : Pair → ℕ
    value p = if test p.id then (if which p then (if t == d then figure (figures p) else 0) else 0) else 0

    of_all : (ps : List Pair) → adds_for (posts_of (filter (λ p. test p.id) ps)) ≡ sum_of (λ p. if picks sel p then value p else 0) ps
    of_all [] = refl
    of_all (p ∷ ps) = let later = of_all ps in grind (arith, nat_tests)

    of_id : (i : ℕ) (ps : List Pair) → (if test i then adds (posts_of (filter (has_id i) ps)) else 0) ≡ sum_of value (filter (has_id i) ps)
    of_id i [] = grind (arith, nat_tests)
    of_id i (p ∷ ps) = let later = of_id i ps in grind (arith, nat_tests)

    -- Each is counted at its entry.
    each_posts : (h : List Call) (b : Book) → Known h b
        → adds_for (posts_of (filter (λ p. test p.id) b.pairs.items)) ≡ over (λ i. posts_of (open_of i h)) (entries h)
    each_posts h b k =
        of_all b.pairs.items ∙ from_pairs h b k value sel
        ∙ sum_of_ext (λ e. if chosen e then adds (posts_of (open_of e.id h)) else 0) _ (entries h)
        (λ e. let own = of_id e.id b.pairs.items in let replayed = k.counts.replayed e.id in grind (arith, nat_tests))

  -- a late pair's days
  of_late : (p : Pair) (days : List ℕ) → adds_for (map (late_fail p) days) ≡ (if picks sel p then adds (map (late_fail p) days) else 0)
  of_late p [] = grind (arith, nat_tests)
  of_late p (day ∷ days) = let later = of_late p days in grind (arith, nat_tests)

  -- ---- what each call posts

  -- what the own calls of the entries posted
  abbrev owned : List Call → List Entry → ℕ
  owned h es = over (λ i. posted i h) es

  -- a call adds what it posts
  abbrev Grows : Call → List Call → Book → Type 0
  Grows call h b = owned (call ∷ h) (entries (call ∷ h)) ≡ adds_for (postings_for test call b) + owned h (entries h)

  grows : (call : Call) (h : List Call) (b : Book) → Known h b
      → adds_for (postings_for test call b) ≡ over (λ i. posts i b.today call (open_of i h)) (entries (call ∷ h))
      → owned h (entries (call ∷ h)) ≡ owned h (entries h)
      → Grows call h b
  grows call h b k now before =
      let posts_now : ℕ → List Posting = λ i. posts i (day_of h) call (open_of i h) in
      let today : adds_for (postings_for test call b) ≡ over posts_now (entries (call ∷ h)) = rw (← k.kept.day) now in
      omega (arith, over-append posts_now (λ i. posted i h) (entries (call ∷ h)), today, before)

  each : (call : Call) (h : List Call) (b : Book) → Known h b → Unposted h b → answer_to call b ≡ Ok tt → Grows call h b
  each Close h b k u a =
      let figures = λ (p : Pair). fail (sides_at_close p.kind p.holds p.lack) p.rest (b.today == p.isd) in
      grows Close h b k (each_posts b.today figures (is_failing b.today) h b k) refl
  each (Settle id x) h b k u a =
      let posts = each_posts b.today (λ p. settled_part x (is_first_part b.today p.last_part)) (has_id id) h b k in
      let found = rw (under_test id b.pairs.items, filter-has_id id b.pairs.items k.kept.apart) at posts in
      grows (Settle id x) h b k (grind (arith, nat_tests)) refl
  each (Enter e) h b k u a =
      let above = (accepts e b a).above in
      let late = late_fails b.today (entered e) in
      let own = of_late (entered e) (range_with_len e.isd (b.today - e.isd)) in
      let old = all-map (IsSpent b.last_id) (λ f. ◌≡◌ {A = List Posting} (if e.id == f.id then late else []) []) (entries h)
      (λ f s. let below = s.below in grind (arith, nat_tests)) k.kept.spent in
      let others = over_none (λ i. if e.id == i then late else []) (entries h) old in
      grows (Enter e) h b k (grind (arith, nat_tests)) (omega (arith, over_none (λ i. posted i h) (e ∷ []) (u e.id above, tt)))
  each call h b k u a = grows call h b k (sym (sum_of_0 chosen (entries h))) refl

  -- ---- the list

  from : (calls h : List Call) (b : Book) → Known h b → Unposted h b → (let n : List Call = accepted_onto h calls (answers calls b) in
      adds_for (journal_for test calls b) + owned h (entries h) ≡ owned n (entries n))
  from [] h b k u = omega arith
  from (call ∷ calls) h b k u =
      let refused = from calls h b k u in
      let accepted = λ (e : answer_to call b ≡ Ok tt).
      from calls (call ∷ h) (accepted_after call b) (step call h b k e) (unposted call h b k u e) in
      let grown = λ (e : answer_to call b ≡ Ok tt). each call h b k u e in
      let joined = sum_of-append (λ x. if sel x.category x.deliverer x.receiver && x.day == d then figure x.figures else 0)
      (postings_for test call b) (journal_for test calls (accepted_after call b)) in
      grind (arith, nat_tests)

  by_chosen : (calls : List Call)
      → adds_for (journal_for test calls fresh_book) ≡ over_pairs chosen (λ e. adds (posted e.id (history_of calls))) (history_of calls)
  by_chosen calls = omega (arith, from calls [] fresh_book fresh_known (λ i l. refl))

-- every id passes the test
whole : (calls : List Call) (b : Book) → journal_for (λ i. true) calls b ≡ journal calls b
whole [] b = refl
whole (call ∷ calls) b = rw (one call, whole calls (book_after call b)) refl
  where
    all : (ps : List Pair) → filter (λ p. true) ps ≡ ps
    all [] = refl
    all (p ∷ ps) = ap (λ (qs : List Pair). p ∷ qs) (all ps)

    one : (call : Call) → postings_for (λ i. true) call b ≡ postings call b
    one Close = ap (fails_of b.today) (all b.pairs.items)
    one _ = refl

pub by_pairs : JournalIsByPairs
by_pairs calls g sel d = ap (added_for g sel d) (sym (whole calls fresh_book)) ∙ by_chosen g sel (λ i. true) d calls

pub by_ids : JournalIsByIds
by_ids calls g test d =
    let h = history_of calls in
    by_chosen g every_pair test d calls
    ∙ sum_of_ext (λ e. if test e.id then added_on g d (posted e.id h) else 0) _ (entries h) (λ e. grind (arith, nat_tests))
