-- Figures added up over a run of days.
use Rattle.std.specs.Prelude.{ℕ, ◌+◌, ◌-◌, List, sum_by}
use Rattle.std.specs.List.{range_with_len}
use Rattle.book.specs.declared.figures.Figure.{Figure}
use Rattle.book.specs.declared.rows.Row.{Row}
use Rattle.rates.specs.Stored.{capped}
use Rattle.book.specs.Figures.{nothing, add_figure}

-- the days of a run, both its ends included
abbrev pub days : ℕ → ℕ → List ℕ
days first last = range_with_len first (last + 1 - first)

-- a figure of several things, added up and stored
abbrev pub figure_over : {X : Type 0} → (X → Figure) → List X → Figure
figure_over f xs = record { number = capped (sum_by (λ x. (f x).number) xs); value = capped (sum_by (λ x. (f x).value) xs) }

-- the sums of rows: of each of their numbers
unfoldable pub sums_of : List Row → Row
sums_of rows = record {
  total = figure_over (λ (r : Row). r.total) rows;
  settled = figure_over (λ (r : Row). r.settled) rows;
  securities = figure_over (λ (r : Row). r.securities) rows;
  cash = figure_over (λ (r : Row). r.cash) rows;
  isd_value = capped (sum_by (λ (r : Row). r.isd_value) rows);
}

-- ---- what a loop adds

abbrev pub no_row : Row
no_row = record { total = nothing; settled = nothing; securities = nothing; cash = nothing; isd_value = 0 }

abbrev pub add_row : Row → Row → Row
add_row a b = record {
  total = add_figure a.total b.total;
  settled = add_figure a.settled b.settled;
  securities = add_figure a.securities b.securities;
  cash = add_figure a.cash b.cash;
  isd_value = capped (a.isd_value + b.isd_value);
}
