-- The rows, the summaries and the bounds, read off what is kept.
use Rattle.history.proofs.Words.{◌≡◌, ℕ, zero, suc, ◌^◌, ◌+◌, ◌<◌, ◌≤◌, Bool, List, [], ◌∷◌, length, refl}
use Rattle.history.proofs.Words.{◌∙◌, sym, arith, if◌then◌else◌, fold, AllByRecursion, range_with_len, nat_tests, Call, Cell, Entry, Book}
use Rattle.history.proofs.Words.{day_limit, category_count, largest_code, none, place, add_cell, in_measure, Measure, sum_of, counts, entries}
use Rattle.history.proofs.Words.{book_of, history_of, summary_at, take, drop, figures_of}
use Rattle.std.proofs.Math.Seq.{drop-cons}
use Rattle.history.proofs.Agrees.{IsSpent}
use Rattle.counted.specs.PairCalls.{Column, settled, securities, cash, fails, total, counted}
use Rattle.counted.specs.Counted.{RowsAreSums, NoneIsCapped, measure_of, names_participant}
use Rattle.counted.proofs.Gained.{weight, weight_none, weight_sum}
use Rattle.counted.proofs.Own.{is_sum}
use Rattle.counted.proofs.Stores.{cell_of, in_category, named, cell_stored, is_total, is_fails, summary_stored}
use Rattle.counted.proofs.Counts.{Known, counted_adds, bound, most_small}
use Rattle.counted.proofs.Whole.{known}

-- ---- bounds

pub bounded : NoneIsCapped
bounded = record {
  bounds = λ calls. bound (history_of calls) (book_of calls) (known calls).kept (known calls).counts.room;
  in_number = refl;
  in_value = refl;
  all_days = omega arith;
}

-- ---- summaries

-- the total and the fails of a participant's summary
pub summary_total : (calls : List Call) (m : Measure) (p d : ℕ) → 1 ≤ p → p ≤ largest_code → d < day_limit
    → in_measure m (summary_at (book_of calls).summaries d p).total ≡ counted (total m) (names_participant p) d (history_of calls)
summary_total calls m p d low high l = (known calls).counts.figures (total m) (named p) d _ (summary_stored (is_total m) p d low high l)

pub summary_fails : (calls : List Call) (m : Measure) (p d : ℕ) → 1 ≤ p → p ≤ largest_code → d < day_limit
    → in_measure m (summary_at (book_of calls).summaries d p).fails ≡ counted (fails m) (names_participant p) d (history_of calls)
summary_fails calls m p d low high l = (known calls).counts.figures (fails m) (named p) d _ (summary_stored (is_fails m) p d low high l)

-- ---- one category, and the nine together

-- category 0 counts those of the nine: a pair is of one of them
over_nine : (last : ℕ) (a : Entry → ℕ) (es : List Entry) → AllByRecursion (IsSpent last) es
    → sum_of (λ e. if counts 0 e then a e else 0) es
    ≡ sum_of (λ c. sum_of (λ e. if counts c e then a e else 0) es) (range_with_len 1 category_count)
over_nine last a [] i = refl
over_nine last a (e ∷ es) i = grind (arith, nat_tests, i.0, over_nine last a es i.1)

pub nine_of : (k : Column) (d : ℕ) (h : List Call) (b : Book) → Known h b → (f : ℕ → ℕ)
    → ((c : ℕ) → 1 ≤ c → c ≤ category_count → f c ≡ counted k (counts c) d h)
    → sum_of f (range_with_len 1 category_count) ≡ counted k (counts 0) d h
nine_of k d h b known f same = alike (λ c. counted k (counts c) d h) same ∙ sym (over_nine b.last_id _ (entries h) known.kept.spent)
  where
    alike : (g : ℕ → ℕ) → ((c : ℕ) → 1 ≤ c → c ≤ category_count → f c ≡ g c)
        → sum_of f (range_with_len 1 category_count) ≡ sum_of g (range_with_len 1 category_count)
    alike g e = grind (arith, e)

-- the cell of a category stores its sum
one_cell : (k : Column) (h : List Call) (b : Book) → Known h b → (d : ℕ) → d < day_limit → (c : ℕ) → 1 ≤ c → c ≤ category_count
    → weight k (cell_of b.cells c d) ≡ counted k (counts c) d h
one_cell k h b known d l c low high =
    known.counts.figures k (in_category c) d (λ b. weight k (cell_of b.cells c d)) (cell_stored k c d low high l)

-- n cells of a day added to x, from that of category c on, where nothing is capped
added : (k : Column) (cells : List Cell) (d n c : ℕ) (x : Cell) → 1 ≤ c → place category_count d c + n ≤ length cells
    → weight k x + sum_of (λ c. weight k (cell_of cells c d)) (range_with_len c n) < 2 ^ 64
    → weight k (fold add_cell x (take n (drop (place category_count d c) cells)))
    ≡ weight k x + sum_of (λ c. weight k (cell_of cells c d)) (range_with_len c n)
added k cells d zero c x low within small = omega arith
added k cells d (suc n) c x low within small =
    let next : place category_count d (c + 1) ≡ suc (place category_count d c) = omega arith in
    let first = weight_sum k x (cell_of cells c d) (omega arith) in
    let later = added k cells d n (c + 1) (add_cell x (cell_of cells c d)) (omega arith) (omega arith) (omega arith) in
    rw (drop-cons cells (place category_count d c) none (omega arith), ← next) (omega arith)

-- the figures of a category, and of all of them together
in_rows : (k : Column) (h : List Call) (b : Book) → Known h b → (c d : ℕ) → c ≤ category_count → d < day_limit
    → weight k (figures_of b.cells d c) ≡ counted k (counts c) d h
in_rows k h b known zero d high l =
    let size = known.counts.sized.cells in
    let pairs = nine_of k d h b known (λ c. weight k (cell_of b.cells c d)) (one_cell k h b known d l) in
    let small = bound h b known.kept known.counts.room k (counts 0) d in
    let top = most_small (measure_of k) in
    let empty = weight_none k in
    omega (arith, added k b.cells d category_count 1 none (omega arith) (omega arith) (omega arith))
in_rows k h b known (suc c) d high l = grind (arith, nat_tests, one_cell k h b known d l (suc c) (omega arith) high)

pub rows : RowsAreSums
rows calls k c d high l =
    let same = in_rows k (history_of calls) (book_of calls) (known calls) c d high l in
    let small = bounded.bounds calls k (counts c) d in
    let top = most_small (measure_of k) in
    grind arith

-- ---- figures of one another

-- The total is settled and fails, and fails are both fails.
pub total_adds : (m : Measure) (s : Entry → Bool) (d : ℕ) (h : List Call)
    → counted (total m) s d h ≡ counted (settled m) s d h + counted (fails m) s d h
total_adds m = counted_adds is_sum (total m) (settled m) (fails m) (λ x b. omega arith) (λ t v b. omega arith)

pub fails_add : (m : Measure) (s : Entry → Bool) (d : ℕ) (h : List Call)
    → counted (fails m) s d h ≡ counted (securities m) s d h + counted (cash m) s d h
fails_add m = counted_adds is_sum (fails m) (securities m) (cash m) (λ x b. omega arith) (λ t v b. grind arith)
