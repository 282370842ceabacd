-- One pair balances, by its forecast: the fails of a day, and before its close those that it would have if the day closed now.
-- So one equation holds at every moment. A close moves nothing, and each other call changes it for its own pair alone.
use Rattle.history.proofs.Words.{◌≡◌, ◌≢◌, ℕ, ◌+◌, ◌-◌, ◌<◌, ◌≤◌, Bool, ◌&&◌, List, [], ◌∷◌, filter, refl, becomes}
use Rattle.history.proofs.Words.{sym, arith, if◌then◌else◌, ◌==◌, nat_le, nat_lt, nat_tests, Call, Enter, Settle, Cancel, Close, Entry}
use Rattle.history.proofs.Words.{Pair, is_failing, is_first_part, has_id, changed, Measure, Number, Value, sum_of, of_two, day_of, settled_on, Book}
use Rattle.selections.specs.Readings.{rest_of, rest_at_close, due_of, cancelled_of}
use Rattle.history.proofs.Pairs.{sum_of-append}
use Rattle.history.proofs.Ids.{plus_left, eq-own, not_before}
use Rattle.history.proofs.Agrees.{IsOpen, not_yet, not_on}
use Rattle.counted.specs.PairCalls.{settled, fails, of_part, open_of, given}
use Rattle.counted.proofs.Own.{sum_of_0, unchanged}
use Rattle.counted.proofs.Calls.{none_open}
use Rattle.counted.proofs.Counts.{Known}

-- ---- the balance of one pair

-- what an open pair would fail with on a day
abbrev pub due : Measure → ℕ → Pair → ℕ
due m d p = if nat_le p.isd d then of_two m p.rest else 0

-- the fails of a day, and before its close those that there would be if it closed now
abbrev pub forecast : Measure → ℕ → ℕ → List Call → ℕ
forecast m d i h = given (fails m) d i h + (if nat_le (day_of h) d then sum_of (due m d) (open_of i h) else 0)

-- the rest at the close of a day, and before its close the rest that there is
abbrev pub rest_by : Entry → ℕ → List Call → ℕ
rest_by e d h = if nat_lt d (day_of h) then rest_at_close e d h else rest_of e h

-- two SIs where the pair is part-settled by that rest
abbrev pub part_by : Measure → ℕ → List Call → Entry → ℕ
part_by m d h e = if settled_on e.id d h && nat_lt 0 (rest_by e d h) then of_two m 0 else 0

-- settled + forecast + cancelled = the forecast of the day before + newly due + part-settled
abbrev pub BalancedOn : Measure → ℕ → List Call → Entry → Type 0
BalancedOn m d h e =
    given (settled m) d e.id h + forecast m d e.id h + cancelled_of m d h e
    ≡ (if d == 0 then 0 else forecast m (d - 1) e.id h) + due_of m d h e + part_by m d h e

abbrev pub Balanced : List Call → Entry → Type 0
Balanced h e = (m : Measure) (d : ℕ) → BalancedOn m d h e

-- ---- close

-- what a close gives was forecast
closes : (m : Measure) (d t : ℕ) (ps : List Pair)
    → sum_of (λ p. if d == t && is_failing t p then of_two m p.rest else 0) ps + (if nat_le (t + 1) d then sum_of (due m d) ps else 0)
    ≡ (if nat_le t d then sum_of (due m d) ps else 0)
closes m d t [] = grind (arith, nat_tests)
closes m d t (p ∷ ps) = let later = closes m d t ps in grind (arith, nat_tests)

pub close : (h : List Call) (e : Entry) → Balanced h e → Balanced (Close ∷ h) e
close h e b m d =
    let none = sum_of_0 (λ p. d == day_of h && is_failing (day_of h) p) (open_of e.id h) in
    rw (forecasts d, forecasts (d - 1), none, parts) (simp plus_left (b m d))
  where
    forecasts : (d : ℕ) → forecast m d e.id (Close ∷ h) ≡ forecast m d e.id h
    forecasts d = omega (arith, closes m d (day_of h) (open_of e.id h))

    parts : part_by m d (Close ∷ h) e ≡ part_by m d h e
    parts = grind (arith, nat_tests)

-- ---- a call that changes no rest

pub sum_of-kept : (g : Pair → ℕ) (id : ℕ) (f : Pair → List Pair) (ps : List Pair) → ((p : Pair) → sum_of g (f p) ≡ g p)
    → sum_of g (changed id f ps) ≡ sum_of g ps
sum_of-kept g id f [] e = refl
sum_of-kept g id f (p ∷ ps) e = grind (arith, nat_tests, e p, sum_of-append g (f p) ps, sum_of-kept g id f ps e)

-- of the pairs of an id none is the one of another
none_named : (W : Pair → ℕ) (t : Bool) (i id : ℕ) (ps : List Pair) → i ≢ id
    → sum_of (λ p. if t && has_id id p then W p else 0) (filter (has_id i) ps) ≡ 0
none_named W t i id [] ne = refl
none_named W t i id (p ∷ ps) ne = let later = none_named W t i id ps ne in grind (arith, nat_tests)

-- ---- a settle, a cancel and an enter of another pair

module _ (h : List Call) (e : Entry) (ps : List Pair) (replayed : open_of e.id h ≡ filter (has_id e.id) ps) where
  -- The pair does not change.
  pub other_opened : (id : ℕ) (f : Pair → List Pair) → e.id ≢ id → changed id f (open_of e.id h) ≡ open_of e.id h
  other_opened id f ne = rw replayed (unchanged e.id id f ps ne)

  pub other_settle : (id x : ℕ) → e.id ≢ id → Balanced h e → Balanced (Settle id x ∷ h) e
  other_settle id x ne before m d =
      let was = before m d in
      let part = zeros (λ p. of_part m x (is_first_part (day_of h) p.last_part)) d in
      let today = zeros (λ p. 0) d in
      let day_before = zeros (λ p. 0) (d - 1) in
      let opened = other_opened id (becomes (Settle id x) (day_of h)) ne in
      grind (arith, nat_tests)
    where
      zeros : (W : Pair → ℕ) (d : ℕ) → sum_of (λ p. if d == day_of h && has_id id p then W p else 0) (open_of e.id h) ≡ 0
      zeros W d = rw replayed (none_named W (d == day_of h) e.id id ps ne)

  pub other_cancel : (id : ℕ) → e.id ≢ id → Balanced h e → Balanced (Cancel id ∷ h) e
  other_cancel id ne before m d = let was = before m d in let opened = other_opened id (λ p. []) ne in grind (arith, nat_tests)

  pub other_enter : (n : Entry) → e.id ≢ n.id → Balanced h e → Balanced (Enter n ∷ h) e
  other_enter n ne before m d = let was = before m d in grind (arith, nat_tests)

module _ (h : List Call) (b : Book) (k : Known h b) (e : Entry) where
  -- ---- its own settle and cancel

  -- the open pair of the entry
  pub record IsPair (id : ℕ) (p : Pair) : Type 0 where
    pub entry : e.id ≡ id
    pub own : p.id ≡ id
    pub amount : e.amount ≡ p.amount
    pub isd : e.isd ≡ p.isd
    pub alone : open_of e.id h ≡ p ∷ []
    pub stands : IsOpen h (day_of h) b.last_id p

  -- a part of the pair itself, on one day and in one measure
  part_of_own : (m : Measure) (id x : ℕ) (p : Pair) → IsPair id p → p.isd ≤ day_of h → x ≤ p.rest → (d : ℕ) → BalancedOn m d h e
      → BalancedOn m d (Settle id x ∷ h) e
  part_of_own Value id x p i is_due part d before =
      let was = rw i.alone at before in
      let stands = i.stands in
      rw (i.alone, eq-own p.id id (sym i.own), eq-own id e.id i.entry) (grind (arith, nat_tests))
  part_of_own Number id x p i is_due part d before =
      let was = rw i.alone at before in
      let stands = i.stands in
      let later = not_yet e.id d h in
      rw (i.alone, eq-own p.id id (sym i.own), eq-own id e.id i.entry) (grind (arith, nat_tests))

  pub own_settle : (id x : ℕ) (p : Pair) → IsPair id p → p.isd ≤ day_of h → x ≤ p.rest → Balanced h e → Balanced (Settle id x ∷ h) e
  own_settle id x p i is_due part before m d = part_of_own m id x p i is_due part d (before m d)

  -- What it would fail with is cancelled, or no longer newly due.
  pub own_cancel : (id : ℕ) (p : Pair) → IsPair id p → Balanced h e → Balanced (Cancel id ∷ h) e
  own_cancel id p i before m d =
      let was = before m d in
      let none_on = not_on p.id d h i.stands.kept in
      let none_before = not_before p.id d h i.stands.kept in
      grind (arith, nat_tests)

  -- ---- enter

  -- Nothing is known of its id before.
  pub own_enter : b.last_id < e.id → Balanced (Enter e ∷ h) e
  own_enter above m d =
      let new = k.kept.unused e.id above in
      let none_on = not_on e.id d h new.kept in
      let none_before = not_before e.id d h new.kept in
      let unsettled = new.unsettled d in
      let settled_none = k.counts.unused (settled m) d e.id above in
      let failed_none = k.counts.unused (fails m) d e.id above in
      let failed_before = k.counts.unused (fails m) (d - 1) e.id above in
      let none = none_open h b k e.id above in
      grind (arith, nat_tests)
