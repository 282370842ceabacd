-- A sum over a run of days goes on by a day: of each number, the stored sum of a list and one more is that of the longer list.
use Rattle.history.proofs.Words.{◌≡◌, ℕ, ◌+◌, ◌-◌, ◌≤◌, List, [], ◌∷◌, ◌++◌, map, sym, ◌∙◌, ap, arith, sum_by}
use Rattle.history.proofs.Words.{range_with_len, Row}
use Rattle.std.proofs.lemmas.List.Sums.{sum_by_push}
use Rattle.std.proofs.lemmas.List.FromFn.{map-range_with_len_more}
use Rattle.book.specs.declared.figures.Figure.{Figure}
use Rattle.rates.specs.Stored.{capped}
use Rattle.book.specs.Figures.{add_figure}
use Rattle.reports.specs.Sums.{figure_over, sums_of, no_row, add_row}

capped-sum_by_push : {X : Type 0} (f : X → ℕ) (xs : List X) (x : X) → capped (capped (sum_by f xs) + f x) ≡ capped (sum_by f (xs ++ x ∷ []))
capped-sum_by_push f xs x = omega (arith, sum_by_push f xs x)

pub add_figure-figure_over : {X : Type 0} (f : X → Figure) (xs : List X) (x : X)
    → add_figure (figure_over f xs) (f x) ≡ figure_over f (xs ++ x ∷ [])
add_figure-figure_over f xs x =
    λ i. record { number = capped-sum_by_push (λ x. (f x).number) xs x i; value = capped-sum_by_push (λ x. (f x).value) xs x i }

add_row-sums_of : (rows : List Row) (row : Row) → add_row (sums_of rows) row ≡ sums_of (rows ++ row ∷ [])
unfolding sums_of
add_row-sums_of rows row = λ i. record {
  total = add_figure-figure_over (λ (r : Row). r.total) rows row i;
  settled = add_figure-figure_over (λ (r : Row). r.settled) rows row i;
  securities = add_figure-figure_over (λ (r : Row). r.securities) rows row i;
  cash = add_figure-figure_over (λ (r : Row). r.cash) rows row i;
  isd_value = capped-sum_by_push (λ (r : Row). r.isd_value) rows row i;
}

-- what is known of each day of a run and a day more, where a sum of a list and one more is that of the longer list
pub sum_next : {X S : Type 0} (add : S → X → S) (sum : List X → S) (push : (xs : List X) (x : X) → add (sum xs) x ≡ sum (xs ++ x ∷ []))
    → (f : ℕ → X) (first day : ℕ) (so_far next : S) → first ≤ day → so_far ≡ sum (map f (range_with_len first (day - first)))
    → next ≡ add so_far (f day)
    → next ≡ sum (map f (range_with_len first (day + 1 - first)))
sum_next add sum push f first day so_far next order so_far_is next_is =
    next_is ∙ ap (λ s. add s (f day)) so_far_is ∙ push (map f (range_with_len first (day - first))) (f day)
    ∙ ap sum (sym (map-range_with_len_more f first (day - first) day (omega arith)))
    ∙ ap (λ n. sum (map f (range_with_len first n))) (let e : day - first + 1 ≡ day + 1 - first = omega arith in e)

pub rows_next : (f : ℕ → Row) (first day : ℕ) (so_far next : Row) → first ≤ day
    → so_far ≡ sums_of (map f (range_with_len first (day - first)))
    → next ≡ add_row so_far (f day) → next ≡ sums_of (map f (range_with_len first (day + 1 - first)))
rows_next = sum_next add_row sums_of add_row-sums_of

pub rows_none : (f : ℕ → Row) (first : ℕ) → no_row ≡ sums_of (map f (range_with_len first (first - first)))
unfolding sums_of
rows_none f first = ap (λ n. sums_of (map f (range_with_len first n))) (let e : 0 ≡ first - first = omega arith in e)
