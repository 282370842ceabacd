-- Sums over a run of days: alike where each day is, bounded where each day is, so that they are stored as they are; and the closed
-- runs by the book's today are those by the calls.
use Rattle.history.proofs.Words.{◌≡◌, ℕ, ◌+◌, ◌*◌, ◌-◌, ◌<◌, ◌≤◌, List, [], ◌∷◌, map, get_or, refl, sym}
use Rattle.history.proofs.Words.{◌∙◌, ap, arith, Bool, true, ◌&&◌, nat_le, sum_by, and_parts, Call, Entry, Value, day_limit, book_of}
use Rattle.history.proofs.Words.{history_of, sum}
use Rattle.std.proofs.lemmas.List.Sums.{sum_by-cons, sum_by-le, sum-map}
use Rattle.std.proofs.lemmas.List.Folds.{fold-map}
use Rattle.std.proofs.lemmas.List.FromFn.{length-range_with_len}
use Rattle.rates.specs.Stored.{capped}
use Rattle.balance.proofs.Rows.{closed_same, in_days}
use Rattle.counted.specs.PairCalls.{Column, counted}
use Rattle.counted.specs.Counted.{most, measure_of}
use Rattle.counted.proofs.Counts.{most_small}
use Rattle.counted.proofs.Rows.{bounded}
use Rattle.reports.specs.Sums.{days}
use Rattle.reports.specs.Reports.{is_run}
use Rattle.reports.proofs.Meaning.{maps_same}
use Rattle.from_calls.specs.Sums.{counted_over, is_closed_run}

-- ---- sums

pub sum_by-two : {X : Type 0} (e f g : X → ℕ) → ((x : X) → e x ≡ f x + g x) → (xs : List X) → sum_by e xs ≡ sum_by f xs + sum_by g xs
sum_by-two e f g both [] = refl
sum_by-two e f g both (x ∷ xs) = omega (arith, sum_by-cons e x xs, sum_by-cons f x xs, sum_by-cons g x xs, both x, sum_by-two e f g both xs)

-- ---- bounds

-- no sum over a run of the 64 days reaches a two-hundredth of the largest number
pub over_most : (calls : List Call) (k : Column) (selects : Entry → Bool) (first last : ℕ) → last < day_limit
    → counted_over k selects first last (history_of calls) ≤ day_limit * most Value
over_most calls k selects first last inside =
    let sum = sum_by-le (λ d. counted k selects d (history_of calls)) (most Value) (days first last)
    (λ j e below. omega (arith, bounded.bounds calls k selects (get_or (days first last) j e), most_small (measure_of k))) in
    omega (arith, sum, length-range_with_len first (last + 1 - first))

-- what each day counts, added up over a run of the 64 days, and stored
module _ {X : Type 0} (calls : List Call) (k : Column) (selects : Entry → Bool) (first last : ℕ) (inside : last < day_limit)
    (read : X → ℕ) (f : ℕ → X) (each : (d : ℕ) → d < day_limit → read (f d) ≡ counted k selects d (history_of calls)) where
  pub sum_counted : sum_by read (map f (days first last)) ≡ counted_over k selects first last (history_of calls)
  sum_counted =
      fold-map (λ a x. a + read x) f 0 (days first last) ∙ sym (sum-map (λ d. read (f d)) (days first last))
      ∙ ap sum (maps_same (λ d. read (f d)) (λ d. counted k selects d (history_of calls)) first (last + 1 - first)
      (λ d low below. each d (omega arith))) ∙ sum-map _ (days first last)

  pub sum_stored : capped (sum_by read (map f (days first last))) ≡ counted_over k selects first last (history_of calls)
  sum_stored = ap capped sum_counted ∙ (let most = over_most calls k selects first last inside in omega arith)

-- ---- closed runs

pub run_same : (calls : List Call) (first last : ℕ) → is_run first last (book_of calls) ≡ is_closed_run first last (history_of calls)
run_same calls first last = ap (λ b. nat_le first last && b) (closed_same calls last)

pub run_inside : (first last : ℕ) (calls : List Call) → is_closed_run first last (history_of calls) ≡ true → last < day_limit
run_inside first last calls e = in_days calls last (and_parts (nat_le first last) _ e).1
