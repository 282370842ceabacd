-- Each pair balances after every list of calls, and so does any selection of pairs, which is a sum over pairs.
use Rattle.history.proofs.Words.{◌≡◌, ◌≢◌, inl, inr, ℕ, zero, suc, ◌+◌, ◌-◌, ◌<◌, Bool, true, false, ◌&&◌, List, []}
use Rattle.history.proofs.Words.{◌∷◌, filter, Some, Ok, refl, ap, ◌∙◌, sym, arith, if◌then◌else◌, ◌==◌, nat_le, nat_lt}
use Rattle.history.proofs.Words.{AllByRecursion, cases_Bool, nat_tests, Call, Enter, Settle, Cancel, Close, Entry, Pair, Book, entered}
use Rattle.history.proofs.Words.{accepted_after, answer_to, has_id, pair_of, Measure, Number, Value, sum_of, of_two, day_of, entries, settled_on}
use Rattle.history.proofs.Words.{book_of, history_of, eqb_tells, on_id, becomes}
use Rattle.history.proofs.Days.{closed_day}
use Rattle.history.proofs.Pairs.{as_entered, origins, all_of_pair}
use Rattle.history.proofs.Ids.{plus_left, all-both, all-map, id-pair_of}
use Rattle.history.proofs.Agrees.{IsOpen, IsSpent}
use Rattle.history.proofs.Accepted.{open_pair, accepts, settles}
use Rattle.counted.specs.PairCalls.{settled, fails, open_of, given}
use Rattle.counted.proofs.Own.{sum_of_0}
use Rattle.counted.proofs.Counts.{Known}
use Rattle.counted.proofs.Calls.{open_found}
use Rattle.counted.proofs.Whole.{every_list}
use Rattle.selections.specs.Readings.{rest_at_close, due_of, cancelled_of, part_settled_of}
use Rattle.selections.specs.Selections.{failed_before, SelectionsBalance}
use Rattle.selections.proofs.OnePair.{due, Balanced, close, sum_of-kept, other_settle, other_cancel, other_enter, IsPair, own_settle, own_cancel}
use Rattle.selections.proofs.OnePair.{own_enter}

-- ---- the entry of an open pair

-- each entry of an id is the one that its pair stems from
stem : (q : Pair) (i : ℕ) (h : List Call) → AllByRecursion (λ o. o ≡ q) (filter (has_id i) (origins h))
    → AllByRecursion (λ e. e.id ≡ i → entered e ≡ q) (entries h)
stem q i [] a = tt
stem q i (Enter e ∷ h) a =
    elim (cases_Bool (e.id == i)) as (λ t. AllByRecursion (λ e. e.id ≡ i → entered e ≡ q) (entries (Enter e ∷ h))) [
      | inl own ↦ (let here = rw own at a in (λ same. here.0, stem q i h here.1))
      | inr other ↦ (λ same. absurd (grind (arith, nat_tests)), stem q i h (rw other at a))
    ]
stem q i (_ ∷ h) a = stem q i h a

-- so for the pair that a call names: what becomes of its entry, and of each other
pub each : (P Q : Entry → Type 0) (id : ℕ) (h : List Call) (b : Book) (p : Pair) (k : Known h b) → pair_of id b.pairs.items ≡ Some p
    → AllByRecursion P (entries h)
    → ((e : Entry) → IsPair h b k e id p → P e → Q e)
    → ((e : Entry) → e.id ≢ id → P e → Q e)
    → AllByRecursion Q (entries h)
each P Q id h b p k its_pair all own other =
    all-both P (λ e. e.id ≡ p.id → entered e ≡ as_entered p) Q (entries h)
    (λ e l same. elim (eqb_tells e.id p.id) as (λ c. Q e)
    [ inl i ↦ own e (is_pair e (same i.1)) l | inr ne ↦ other e (λ s. ne.1 (s ∙ sym pid)) l ])
    all (stem (as_entered p) p.id h (rw stands.stems (refl, tt)))
  where
    pid : p.id ≡ id
    pid = id-pair_of id b.pairs.items p its_pair

    stands : IsOpen h b.today b.last_id p
    stands = all_of_pair (IsOpen h b.today b.last_id) id b.pairs.items p k.kept.pairs its_pair

    is_pair : (e : Entry) → entered e ≡ as_entered p → IsPair h b k e id p
    is_pair e same =
        let entry : e.id ≡ id = ap (λ (q : Pair). q.id) same ∙ pid in
        record {
          entry = entry;
          own = pid;
          amount = ap (λ (q : Pair). q.amount) same;
          isd = ap (λ (q : Pair). q.isd) same;
          alone = open_found h b k e.id ∙ rw (entry, its_pair) refl;
          stands = rw k.kept.day at stands;
        }

-- ---- each call

abbrev AllBalance : List Call → Book → Type 0
AllBalance h b = AllByRecursion (Balanced h) (entries h)

next : (call : Call) (h : List Call) (b : Book) → Known h b → AllBalance h b → answer_to call b ≡ Ok tt
    → AllBalance (call ∷ h) (accepted_after call b)
next Close h b k balances a = all-map (Balanced h) (Balanced (Close ∷ h)) (entries h) (close h) balances
next (Settle id x) h b k balances a =
    let o = open_pair (Settle id x) b (grind arith) in
    let s = settles id x b o.pair o.found a in
    each (Balanced h) (Balanced (Settle id x ∷ h)) id h b o.pair k o.found balances
    (λ e i. own_settle h b k e id x o.pair i (rw (← k.kept.day) s.0) s.1) (λ e. other_settle h e b.pairs.items (k.counts.replayed e.id) id x)
next (Cancel id) h b k balances a =
    let o = open_pair (Cancel id) b (grind arith) in
    each (Balanced h) (Balanced (Cancel id ∷ h)) id h b o.pair k o.found balances
    (λ e. own_cancel h b k e id o.pair) (λ e. other_cancel h e b.pairs.items (k.counts.replayed e.id) id)
next (Enter n) h b k balances a =
    let above = (accepts n b a).above in (
      own_enter h b k n above,
      all-both (Balanced h) (IsSpent b.last_id) (Balanced (Enter n ∷ h)) (entries h)
          (λ e l s. let below = s.below in other_enter h e b.pairs.items (k.counts.replayed e.id) n (λ same. omega arith) l) balances k.kept.spent,
    )
next call h b k balances a =
    let same = λ (e : Entry) (m : Measure) (d : ℕ).
    sum_of-kept (due m d) (on_id call) (becomes call (day_of h)) (open_of e.id h) (λ p. omega arith) in
    all-map (Balanced h) (Balanced (call ∷ h)) (entries h) (λ e l m d. rw (same e m d, same e m (d - 1)) (simp plus_left (l m d))) balances

balances : (calls : List Call) → AllBalance (history_of calls) (book_of calls)
balances = every_list AllBalance tt next

-- ---- any selection of pairs

-- on a closed day nothing is forecast any more
abbrev ClosedBalance : Measure → ℕ → List Call → Entry → Type 0
ClosedBalance m d h e =
    given (settled m) d e.id h + given (fails m) d e.id h + cancelled_of m d h e
    ≡ (if d == 0 then 0 else given (fails m) (d - 1) e.id h) + due_of m d h e + part_settled_of m d h e

when_closed : (m : Measure) (d : ℕ) (h : List Call) → d < day_of h → (e : Entry) → Balanced h e → ClosedBalance m d h e
when_closed m d h l e b =
    let past : nat_le (day_of h) d ≡ false = grind (arith, nat_tests) in
    let day_before : nat_le (day_of h) (d - 1) ≡ false = grind (arith, nat_tests) in
    let closed : nat_lt d (day_of h) ≡ true = grind (arith, nat_tests) in
    let was = rw (past, day_before, closed) at (b m d) in
    rw (part m) (grind (arith, nat_tests))
  where
    part : (m : Measure) → part_settled_of m d h e ≡ (if settled_on e.id d h && nat_lt 0 (rest_at_close e d h) then of_two m 0 else 0)
    part Value = grind (arith, nat_tests)
    part Number = refl

-- what holds at each pair holds of the sums over the selected ones
module _ (s : Entry → Bool) where
  abbrev over : (Entry → ℕ) → List Entry → ℕ
  over f es = sum_of (λ e. if s e then f e else 0) es

  added : (a b c x y z : Entry → ℕ) (es : List Entry) → AllByRecursion (λ e. a e + b e + c e ≡ x e + y e + z e) es
      → over a es + over b es + over c es ≡ over x es + over y es + over z es
  added a b c x y z [] all = refl
  added a b c x y z (e ∷ es) all = grind (arith, nat_tests, all.0, added a b c x y z es all.1)

-- the fails of the day before are given on it
all_before : (m : Measure) (s : Entry → Bool) (h : List Call) (d : ℕ)
    → over s (λ e. if d == 0 then 0 else given (fails m) (d - 1) e.id h) (entries h) ≡ failed_before m s d h
all_before m s h zero = sum_of_0 s (entries h)
all_before m s h (suc d) =
    let later : (suc d == 0) ≡ false = grind (arith, nat_tests) in
    let day_before : suc d - 1 ≡ d = omega arith in
    rw (later, day_before) refl

pub balance : SelectionsBalance
balance calls m s d is_closed =
    let h = history_of calls in
    let closed = when_closed m d h (closed_day d h is_closed) in
    rw (← (all_before m s h d)) (added s _ _ _ _ _ _ (entries h) (all-map (Balanced h) (ClosedBalance m d h) (entries h) closed (balances calls)))
