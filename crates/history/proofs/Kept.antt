-- Accepted calls keep the agreement of book and history.
use Rattle.history.proofs.Words.{◌≡◌, ◌≤◌, ◌∷◌, AllByRecursion, pairs_after, last_id_after, accepted_after, fresh_book, today_after}
use Rattle.history.proofs.Words.{ℕ, Bool, false, List, [], Some, Ok, refl, arith, Call, Enter, Hold, Lack, Cancel, Close, Entry, Pair, Book}
use Rattle.history.proofs.Words.{◌+◌, ◌-◌, ◌<◌, ◌==◌, nat_tests, Settle, entered, with_part, pair_of, answer_to, entries, on_id, becomes}
use Rattle.history.proofs.Accepted.{Accepts, open_day, accepts, settles}
use Rattle.history.proofs.Ids.{AreApart, all_changed, apart_changed, apart_push, all-map, all-append, id-pair_of, none_found}
use Rattle.history.proofs.Agrees.{IsOpen, IsSpent, IsUnused, Kept, below_last, not_yet}

-- The last id never falls.
pub ids_rise : (call : Call) (b : Book) → answer_to call b ≡ Ok tt → b.last_id ≤ last_id_after call b.last_id
ids_rise call b a = grind (arith, nat_tests)

-- ---- a call leaves the readings of other ids

-- it enters, settles or cancels the pair of id i
abbrev concerns : ℕ → Call → Bool
concerns i (Enter e) = e.id == i
concerns i (Settle id x) = id == i
concerns i (Cancel id) = id == i
concerns i _ = false

module _ (h : List Call) (b : Book) (k : Kept h b) where
  -- no id above the last
  unused : (call : Call) → answer_to call b ≡ Ok tt → (i : ℕ) → last_id_after call b.last_id < i → IsUnused i (call ∷ h)
  unused call a i l =
      let ids = ids_rise call b a in
      let u = k.unused i (omega arith) in
      let other : concerns i call ≡ false = grind (arith, nat_tests, none_found b.last_id i b.pairs.items (below_last h b k)) in
      grind (arith, u.origin, u.parts, u.kept, u.unsettled)

  -- ---- the open pairs after a call

  -- what is kept of an open pair, before a call and after it
  abbrev Stands : Pair → Type 0
  Stands = IsOpen h b.today b.last_id

  abbrev StandsAfter : Call → Pair → Type 0
  StandsAfter call = IsOpen (call ∷ h) (today_after call b.today) (last_id_after call b.last_id)

  -- a pair of another id stays as it is
  stays : (call : Call) → answer_to call b ≡ Ok tt → (p : Pair) → concerns p.id call ≡ false → Stands p → StandsAfter call p
  stays call a p other o =
      let days : b.today ≤ today_after call b.today = grind arith in
      let ids = ids_rise call b a in
      let below = o.below in
      let day = k.day in
      grind (arith, nat_tests, o.sound, o.stems, o.rest, o.early, o.kept, o.left, o.first, o.past, not_yet p.id (b.today + 1) h)

  -- the pair that a part is taken from, where it leaves a rest
  takes_part : (x : ℕ) (p : Pair) → p.isd ≤ b.today → x ≤ p.rest → Stands p → 0 < p.rest - x
      → IsOpen (Settle p.id x ∷ h) b.today b.last_id (with_part b.today x p)
  takes_part x p due part o left =
      let day = k.day in grind (arith, nat_tests, o.sound, o.stems, o.rest, o.kept, o.below)

  -- a new pair
  new_stands : (e : Entry) → Accepts e b → StandsAfter (Enter e) (entered e)
  new_stands e g =
      let u = k.unused e.id g.above in
      grind (arith, nat_tests, g.sound, g.some, u.origin, u.parts, u.kept, u.unsettled b.today)

  -- the pair that a call is on
  own : (call : Call) → answer_to call b ≡ Ok tt → (p : Pair) → pair_of (on_id call) b.pairs.items ≡ Some p → Stands p
      → AllByRecursion (StandsAfter call) (becomes call b.today p)
  own (Settle id x) a p f o =
      let s = settles id x b p f a in
      let i : p.id ≡ id = id-pair_of id b.pairs.items p f in
      grind (arith, nat_tests, takes_part x p s.0 s.1 o)
  own (Hold id side on) a p f o = (stays (Hold id side on) a p refl o, tt)
  own (Lack id lack) a p f o = (stays (Lack id lack) a p refl o, tt)
  own _ a p f o = tt

  -- each pair that is open after the call
  pairs : (call : Call) → answer_to call b ≡ Ok tt → AllByRecursion (StandsAfter call) (pairs_after call b)
  pairs Close a = all-map Stands (StandsAfter Close) b.pairs.items (λ p o. stays Close a p refl o) k.pairs
  pairs (Enter e) a =
      let g = accepts e b a in
      let above = g.above in
      all-append (StandsAfter (Enter e)) b.pairs.items (entered e ∷ [])
      (all-map Stands (StandsAfter (Enter e)) b.pairs.items
      (λ p o. let below = o.below in stays (Enter e) a p (grind (arith, nat_tests)) o) k.pairs)
      (new_stands e g, tt)
  pairs call a =
      all_changed Stands (StandsAfter call) (on_id call) (becomes call b.today) b.pairs.items k.pairs (k.apart (on_id call))
      (λ p ne. stays call a p (grind (arith, nat_tests))) (own call a)

  -- no two of them share an id
  apart : (call : Call) → answer_to call b ≡ Ok tt → AreApart (pairs_after call b)
  apart Close a = k.apart
  apart (Enter e) a = apart_push b.last_id b.pairs.items (entered e) (below_last h b k) (accepts e b a).above k.apart
  apart call a = apart_changed (on_id call) (becomes call b.today) b.pairs.items (λ i p. grind arith) k.apart

  -- ---- all of it

  -- the entries after the call
  spent : (call : Call) → answer_to call b ≡ Ok tt → AllByRecursion (IsSpent (last_id_after call b.last_id)) (entries (call ∷ h))
  spent (Enter e) a =
      let g = accepts e b a in
      (grind (arith, g.sound), all-map (IsSpent b.last_id) (IsSpent e.id) (entries h) (λ f s. grind (arith, g.above)) k.spent)
  spent _ a = k.spent

  -- after an accepted call
  pub step : (call : Call) → answer_to call b ≡ Ok tt → Kept (call ∷ h) (accepted_after call b)
  step call a =
      let day = open_day call b a in
      grind (arith, nat_tests, k.day, k.last_day, k.last_id, k.few, pairs call a, apart call a, spent call a, unused call a)

-- of a fresh book
pub fresh_kept : Kept [] fresh_book
fresh_kept = grind arith
