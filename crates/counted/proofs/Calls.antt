-- Each accepted call keeps that the figures are counted, and leaves room for what is open: what it posts is what it gives.
use Rattle.history.proofs.Words.{◌≡◌, ◌≤◌, ◌∷◌, ◌∙◌, ◌==◌, nat_tests, day_limit, late_fail, postings, answer_to, is_close, on_id, becomes}
use Rattle.history.proofs.Words.{ℕ, suc, Bool, List, [], map, None, Some, Ok, refl, ap, sym, arith, Call, Enter, Close, Cell, Entry, Pair, Book}
use Rattle.history.proofs.Words.{zero, ◌+◌, ◌-◌, ◌<◌, Option, Settle, entered, posting, has_id, pair_of, Measure, sum_of, day_of, entries}
use Rattle.history.proofs.Words.{filter, filter-append, settled_part, is_failing, is_first_part, pairs_after, last_id_after, append-nil, part_posting}
use Rattle.history.proofs.Words.{if◌then◌else◌, AllByRecursion, range_with_len, option_to_list, largest_amount, sides_at_close, accepted_after}
use Rattle.history.proofs.Pairs.{IsSound, as_entered, all_of_pair}
use Rattle.history.proofs.Ids.{none_found, id-pair_of, filter-has_id}
use Rattle.history.proofs.Accepted.{open_day, open_pair, accepts, settles}
use Rattle.history.proofs.Agrees.{IsOpen, IsSpent, below_last}
use Rattle.history.proofs.Kept.{ids_rise, step}
use Rattle.counted.specs.PairCalls.{Column, total, in_part, in_fail, open_of, open_after, gives, given, counted}
use Rattle.counted.specs.Counted.{most_of_pair, measure_of}
use Rattle.counted.proofs.Gained.{Selection, picks, gained, part_weight, fail_weight, gained_today, gained_when_late}
use Rattle.counted.proofs.Own.{selects, sum_of_0, is_sum, sum_adds, each_own, filter_changed}
use Rattle.counted.proofs.Stores.{HasPlace, IsStored, sized_after}
use Rattle.counted.proofs.Counts.{Counts, Known, left, bound, most_small}

-- ---- what is posted has its places

-- late postings
places_when_late : (a n : ℕ) (p : Pair) → a + n ≤ day_limit → IsSound (as_entered p)
    → AllByRecursion HasPlace (map (late_fail p) (range_with_len a n))
places_when_late a zero p l s = tt
places_when_late a (suc n) p l s = grind (arith, places_when_late (a + 1) n p (omega arith) s)

-- ---- room for what is open

-- what was given to an id, what a call gives, and what is then left, of no open pair or of one
abbrev given_and_left : Measure → ℕ → ℕ → ℕ → Call → ℕ → List Pair → ℕ
given_and_left m d i t call was ps =
    gives (total m) d i t call ps + was + sum_of (left m (if is_close call then t + 1 else t) d) (open_after i t call ps)

-- Where there is no pair, only an enter gives, and to a new id.
given_none : (call : Call) (b : Book) → answer_to call b ≡ Ok tt → (m : Measure) (d i t was : ℕ) → was + 0 ≤ most_of_pair m
    → (b.last_id < i → was ≡ 0) → given_and_left m d i t call was [] ≤ most_of_pair m
given_none (Enter e) b a m d i t was l none =
    let above = (accepts e b a).above in let amount = (accepts e b a).sound.amount in grind (arith, nat_tests, l, none)
given_none _ b a m d i t was l none = omega arith

-- The pair was entered before, and a part is one of its rest.
given_one : (call : Call) (b : Book) (p : Pair) → answer_to call b ≡ Ok tt → (m : Measure) (d i t was : ℕ)
    → pair_of i b.pairs.items ≡ Some p → p.id ≡ i → p.id ≤ b.last_id
    → was + (left m t d p + 0) ≤ most_of_pair m → given_and_left m d i t call was (p ∷ []) ≤ most_of_pair m
given_one (Enter e) b p a m d i t was its_pair own below l =
    let above = (accepts e b a).above in grind (arith, nat_tests)
given_one _ b p a m d i t was its_pair own below l = grind (arith, nat_tests)

module _ (h : List Call) (b : Book) (known : Known h b) where
  abbrev Stands : Pair → Type 0
  Stands = IsOpen h b.today b.last_id

  -- ---- the open pairs and their entries

  -- a sum over them is one over the entries
  pub from_pairs : (W : Pair → ℕ) (sel : Selection)
      → sum_of (λ p. if picks sel p then W p else 0) b.pairs.items
      ≡ sum_of (λ e. if selects sel e then sum_of W (open_of e.id h) else 0) (entries h)
  from_pairs W sel =
      each_own b.today b.last_id W sel b.pairs.items h known.kept.pairs
      ∙ λ i. sum_of (λ e. if selects sel e then sum_of W (sym (known.counts.replayed e.id) i) else 0) (entries h)

  -- the open pair of an id is the one that is found, or none
  pub open_found : (i : ℕ) → open_of i h ≡ option_to_list (pair_of i b.pairs.items)
  open_found i = known.counts.replayed i ∙ filter-has_id i b.pairs.items known.kept.apart

  -- and none above the last
  pub none_open : (i : ℕ) → b.last_id < i → open_of i h ≡ []
  none_open i l = open_found i ∙ ap option_to_list (none_found b.last_id i b.pairs.items (below_last h b known.kept) l)

  -- The pairs of an id, replayed, are its pairs in the book.
  replay : (i : ℕ) (call : Call) → open_after i b.today call (filter (has_id i) b.pairs.items) ≡ filter (has_id i) (pairs_after call b)
  replay i (Enter e) = simp filter-append (grind (arith, append-nil (filter (has_id i) b.pairs.items)))
  replay i Close = refl
  replay i call = filter_changed i (on_id call) (becomes call b.today) b.pairs.items (λ p. grind arith)

  -- ---- what a call posts

  -- a settle for its pair, the one with its id
  part_posted : (id x : ℕ) → postings (Settle id x) b ≡ map (part_posting b.today x) (filter (has_id id) b.pairs.items)
  part_posted id x = ap (map (part_posting b.today x)) (sym (filter-has_id id b.pairs.items known.kept.apart))

  -- the rest of an open pair is no more than its amount
  rest_small : (p : Pair) → Stands p → p.rest ≤ largest_amount
  rest_small p o = omega (arith, o.rest, o.sound.amount)

  -- postings of today, of open pairs, have their places
  places_today : (test : Pair → Bool) (figures : Pair → Cell) (ps : List Pair) → b.today < day_limit → AllByRecursion Stands ps
      → AllByRecursion HasPlace (map (λ p. posting b.today p (figures p)) (filter test ps))
  places_today test figures [] l a = tt
  places_today test figures (p ∷ ps) l a =
      grind (arith, nat_tests, a.0.sound, places_today test figures ps l a.1)

  -- and so has any posting of an accepted call
  places : (call : Call) → answer_to call b ≡ Ok tt → AllByRecursion HasPlace (postings call b)
  places (Enter e) a =
      let sound = (accepts e b a).sound in
      places_when_late e.isd (b.today - e.isd) (entered e) (omega (arith, sound.isd, open_day (Enter e) b a)) sound
  places (Settle id x) a =
      rw (part_posted id x) (places_today (has_id id) (λ p. settled_part x (is_first_part b.today p.last_part)) b.pairs.items
      (open_day (Settle id x) b a) known.kept.pairs)
  places Close a = places_today (is_failing b.today) _ b.pairs.items (open_day Close b a) known.kept.pairs
  places _ a = tt

  -- what is posted is what is given to each pair, added up over the entries
  posts_given : (call : Call) → answer_to call b ≡ Ok tt → (k : Column) (sel : Selection) (d : ℕ)
      → gained k sel d (postings call b)
      ≡ sum_of (λ e. if selects sel e then gives k d e.id b.today call (open_of e.id h) else 0) (entries (call ∷ h))
  posts_given Close a k sel d =
      gained_today k sel d b.today (is_failing b.today) _
      (λ p. in_fail k (sides_at_close p.kind p.holds p.lack) p.rest (b.today == p.isd)) Stands
      (λ p o. fail_weight k (sides_at_close p.kind p.holds p.lack) p.rest (b.today == p.isd) (rest_small p o)) b.pairs.items known.kept.pairs
      ∙ from_pairs _ sel
  posts_given (Settle id x) a k sel d =
      let o = open_pair (Settle id x) b (grind arith) in
      let part = (settles id x b o.pair o.found a).1 in
      let rest = rest_small o.pair (all_of_pair Stands id b.pairs.items o.pair known.kept.pairs o.found) in
      ap (gained k sel d) (part_posted id x)
      ∙ gained_today k sel d b.today (has_id id) _ (λ p. in_part k x (is_first_part b.today p.last_part)) Stands
      (λ p o. part_weight k x (is_first_part b.today p.last_part) (omega arith)) b.pairs.items known.kept.pairs
      ∙ from_pairs _ sel
  posts_given (Enter e) a k sel d =
      let g = accepts e b a in
      let late = gained_when_late k sel d e.isd (b.today - e.isd) (entered e) g.sound.amount in
      grind (arith, nat_tests, late, others (entries h) g.above known.kept.spent)
    where
      others : (es : List Entry) → b.last_id < e.id → AllByRecursion (IsSpent b.last_id) es
          → sum_of (λ f. if selects sel f then gives k d f.id b.today (Enter e) (open_of f.id h) else 0) es ≡ 0
      others [] above spent = refl
      others (f ∷ es) above spent = let below = spent.0.below in grind (arith, nat_tests, others es above spent.1)
  posts_given _ a k sel d = sym (sum_of_0 (selects sel) (entries h))

  -- nothing was given to a new pair before
  given_before : (call : Call) → answer_to call b ≡ Ok tt → (k : Column) (sel : Selection) (d : ℕ)
      → sum_of (λ e. if selects sel e then given k d e.id h else 0) (entries (call ∷ h)) ≡ counted k (selects sel) d h
  given_before (Enter e) a k sel d = grind (arith, known.counts.unused k d e.id (accepts e b a).above)
  given_before _ a k sel d = refl

  -- so each figure grows by what is posted
  grows : (call : Call) → answer_to call b ≡ Ok tt → (k : Column) (sel : Selection) (d : ℕ)
      → counted k (selects sel) d (call ∷ h) ≡ gained k sel d (postings call b) + counted k (selects sel) d h
  grows call a k sel d =
      let now : Entry → ℕ = λ e. gives k d e.id (day_of h) call (open_of e.id h) in
      let was : Entry → ℕ = λ e. given k d e.id h in
      let posted : gained k sel d (postings call b) ≡ sum_of (λ e. if selects sel e then now e else 0) (entries (call ∷ h)) =
      rw (← known.kept.day) (posts_given call a k sel d) in
      let sum = sum_adds is_sum (selects sel) (λ e. now e + was e) now was (entries (call ∷ h)) (λ e. refl) in
      omega (arith, posted, given_before call a k sel d, sum)

  -- nothing is given to an id above the last
  unused : (call : Call) → answer_to call b ≡ Ok tt → (k : Column) (d i : ℕ) → last_id_after call b.last_id < i
      → given k d i (call ∷ h) ≡ 0
  unused call a k d i l =
      let ids = ids_rise call b a in rw (none_open i (omega arith), known.counts.unused k d i (omega arith)) (grind (arith, nat_tests))

  -- what is given and left stays within the most that a pair can give
  room : (call : Call) → answer_to call b ≡ Ok tt → (m : Measure) (d i : ℕ)
      → given_and_left m d i (day_of h) call (given (total m) d i h) (open_of i h) ≤ most_of_pair m
  room call a m d i = by (pair_of i b.pairs.items) refl
    where
      by : (o : Option Pair) → pair_of i b.pairs.items ≡ o
          → given_and_left m d i (day_of h) call (given (total m) d i h) (open_of i h) ≤ most_of_pair m
      by None e =
          let none : open_of i h ≡ [] = open_found i ∙ ap option_to_list e in
          rw none (given_none call b a m d i (day_of h) _ (rw none at (known.counts.room m d i)) (known.counts.unused (total m) d i))
      by (Some p) e =
          let one : open_of i h ≡ p ∷ [] = open_found i ∙ ap option_to_list e in
          let o = all_of_pair Stands i b.pairs.items p known.kept.pairs e in
          let own = id-pair_of i b.pairs.items p e in
          rw one (given_one call b p a m d i (day_of h) _ e own o.below (rw one at (known.counts.room m d i)))

  -- ---- all of it

  -- after an accepted call
  pub counts_after : (call : Call) → answer_to call b ≡ Ok tt → Counts (call ∷ h) (accepted_after call b)
  counts_after call a =
      let replayed : (i : ℕ) → open_of i (call ∷ h) ≡ filter (has_id i) (pairs_after call b) =
      λ i. rw (known.counts.replayed i, ← known.kept.day) (replay i call) in
      grind (arith, sized_after call b known.counts.sized, replayed, unused call a, room call a, figures)
    where
      figures : (q : Column) (sel : Selection) (d : ℕ) (read : Book → ℕ) → IsStored q sel d read
          → read (accepted_after call b) ≡ counted q (selects sel) d (call ∷ h)
      figures q sel d read stored =
          let was = known.counts.figures q sel d read stored in
          let grown = grows call a q sel d in
          let most = bound (call ∷ h) (accepted_after call b) (step h b known.kept call a) (room call a) q (selects sel) d in
          let top = most_small (measure_of q) in
          let now = stored.exact call b known.counts.sized (places call a) (omega arith) in
          omega arith
