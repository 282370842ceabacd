-- The cells and the summaries gain what postings add, while that stays below the cap.
use Rattle.history.proofs.Words.{◌≡◌, ℕ, ◌+◌, ◌-◌, ◌^◌, ◌<◌, ◌≤◌, ◌&&◌, List, [], ◌∷◌, length, get_or, refl}
use Rattle.history.proofs.Words.{ap, ◌∙◌, arith, if◌then◌else◌, ◌==◌, fold, AllByRecursion, nat_tests, Call, Cell, Summary, Posting}
use Rattle.history.proofs.Words.{Book, day_limit, category_count, cell_count, largest_code, summary_count, none, no_summary, place, add_cell, post}
use Rattle.history.proofs.Words.{post_summary, in_measure, postings, accepted_after, fresh_book, Measure, summary_at, ◌||◌, set, get_or-set_same}
use Rattle.history.proofs.Words.{get_or-set_other, length-set, slice_index_or, add_summary, summary_of, gains_at}
use Rattle.std.proofs.lemmas.List.{get_or-replicate}
use Rattle.std.proofs.lemmas.Nat.{same_from_place}
use Rattle.history.proofs.Pairs.{IsCode}
use Rattle.counted.specs.PairCalls.{Column, fails, total}
use Rattle.counted.proofs.Gained.{Selection, weight, weight_none, weight_sum, gain, gained}

-- so many cells, so many summaries
pub record Sized (b : Book) : Type 0 where
  pub cells : length b.cells ≡ cell_count
  pub summaries : length b.summaries ≡ summary_count

-- a posting of a day, a category and participants that have their places
pub record HasPlace (x : Posting) : Type 0 where
  pub low : 1 ≤ x.category
  pub high : x.category ≤ category_count
  pub day : x.day < day_limit
  pub deliverer : IsCode x.deliverer
  pub receiver : IsCode x.receiver

-- a figure of day d that the book stores, over the selected pairs
pub record IsStored (k : Column) (sel : Selection) (d : ℕ) (read : Book → ℕ) : Type 0 where
  pub fresh : read fresh_book ≡ 0
  pub exact : (call : Call) (b : Book) → Sized b → AllByRecursion HasPlace (postings call b)
      → read b + gained k sel d (postings call b) < 2 ^ 64
      → read (accepted_after call b) ≡ read b + gained k sel d (postings call b)

-- ---- a store that takes one posting after another

-- what is read off it rises by what they add, where it rises so with each, and its length stays
module _ {X : Type 0} (k : Column) (sel : Selection) (d : ℕ) (read : List X → ℕ) (add : List X → Posting → List X) (n : ℕ)
    (same : (xs : List X) (p : Posting) → length (add xs p) ≡ length xs)
    (each : (xs : List X) (p : Posting) → length xs ≡ n → HasPlace p → read xs + gain k sel d p < 2 ^ 64
    → read (add xs p) ≡ read xs + gain k sel d p) where
  exact_fold : (xs : List X) (ps : List Posting) → length xs ≡ n → AllByRecursion HasPlace ps → read xs + gained k sel d ps < 2 ^ 64
      → read (fold add xs ps) ≡ read xs + gained k sel d ps
  exact_fold xs [] long a l = omega arith
  exact_fold xs (p ∷ ps) long a l =
      let now = each xs p long a.0 (omega arith) in
      let later = exact_fold (add xs p) ps (same xs p ∙ long) a.1 (omega arith) in
      omega arith

-- n places to a day: what is read at number c of day d, once v was added at number i of day t
module _ {X : Type 0} (n : ℕ) (empty : X) (add : X → X → X) (g : X → ℕ)
    (sums : (a b : X) → g a + g b < 2 ^ 64 → g (add a b) ≡ g a + g b)
    (d c : ℕ) (low : 1 ≤ c) (high : c ≤ n) where
  added_at : (xs : List X) (t i : ℕ) (v : X) → 1 ≤ i → i ≤ n → place n t i < length xs
      → g (get_or xs (place n d c) empty) + (if i == c && t == d then g v else 0) < 2 ^ 64
      → g (get_or (set xs (place n t i) (add (get_or xs (place n t i) empty) v)) (place n d c) empty)
      ≡ g (get_or xs (place n d c) empty) + (if i == c && t == d then g v else 0)
  added_at xs t i v i_low i_high within small =
      let was = get_or xs (place n t i) empty in
      let same = same_from_place d (c - 1) t (i - 1) n (omega arith) (omega arith) in
      let here = get_or-set_same xs (place n t i) (add was v) empty within in
      let elsewhere = get_or-set_other xs (place n t i) (place n d c) (add was v) empty in
      grind (arith, nat_tests, same, here, elsewhere, sums was v)

-- ---- cells

abbrev pub in_category : ℕ → Selection
in_category c own deliverer receiver = c == 0 || own == c

-- the cell of a category and day
abbrev pub cell_of : List Cell → ℕ → ℕ → Cell
cell_of cells c d = slice_index_or cells (place category_count d c) none

-- The cell stores each figure of its day and category.
pub cell_stored : (k : Column) (c d : ℕ) → 1 ≤ c → c ≤ category_count → d < day_limit
    → IsStored k (in_category c) d (λ b. weight k (cell_of b.cells c d))
cell_stored k c d low high day = record {
  fresh = ap (weight k) (get_or-replicate cell_count (place category_count d c) none none (omega arith)) ∙ weight_none k;
  exact = λ call b size places small.
      exact_fold k (in_category c) d (λ cells. weight k (cell_of cells c d)) post cell_count (λ cells x. length-set cells _ _)
      (λ cells x size at small.
      let add = added_at category_count none add_cell (weight k) (weight_sum k) d c low high cells x.day x.category x.figures at.low at.high in
      grind (arith, nat_tests, add (omega (arith, at.day))))
      b.cells (postings call b) size.cells places small;
}

-- ---- summaries

abbrev pub named : ℕ → Selection
named p own deliverer receiver = deliverer == p || receiver == p

-- a posting adds no summary
length-post_summary : (ss : List Summary) (x : Posting) → length (post_summary ss x) ≡ length ss
length-post_summary ss x = grind (arith, length-set {A = Summary})

-- a figure of a summary that has column k of a cell
pub record IsPart (k : Column) (g : Summary → ℕ) : Type 0 where
  empty : g no_summary ≡ 0
  sums : (a b : Summary) → g a + g b < 2 ^ 64 → g (add_summary a b) ≡ g a + g b
  same : (x : Cell) → weight k x < 2 ^ 64 → g (summary_of x) ≡ weight k x

pub is_total : (m : Measure) → IsPart (total m) (λ s. in_measure m s.total)
is_total m = record { empty = grind arith; sums = λ a b l. grind arith; same = λ x l. grind arith }

pub is_fails : (m : Measure) → IsPart (fails m) (λ s. in_measure m s.fails)
is_fails m = record { empty = grind arith; sums = λ a b l. grind arith; same = λ x l. grind arith }

-- The summary stores it, of the pairs that name its participant.
pub summary_stored : {k : Column} {g : Summary → ℕ} → IsPart k g → (p d : ℕ) → 1 ≤ p → p ≤ largest_code → d < day_limit
    → IsStored k (named p) d (λ b. g (summary_at b.summaries d p))
summary_stored {k} {g} part p d low high day = record {
  fresh = ap g (get_or-replicate summary_count (place largest_code d p) no_summary no_summary (omega arith)) ∙ part.empty;
  exact = λ call b size places small.
      exact_fold k (named p) d (λ ss. g (summary_at ss d p)) post_summary summary_count length-post_summary each
      b.summaries (postings call b) size.summaries places small;
}
  where
    each : (ss : List Summary) (x : Posting) → length ss ≡ summary_count → HasPlace x
        → g (summary_at ss d p) + gain k (named p) d x < 2 ^ 64
        → g (summary_at (post_summary ss x) d p) ≡ g (summary_at ss d p) + gain k (named p) d x
    each ss x size at small =
        let v : Summary = summary_of x.figures in
        let both : List Summary = gains_at x.day x.deliverer v ss in
        let add = added_at largest_code no_summary add_summary g part.sums d p low high in
        let longer : length both ≡ length ss = length-set ss _ _ in
        let first = add ss x.day x.deliverer v at.deliverer.low at.deliverer.high (omega (arith, at.day, at.deliverer.high)) in
        let second = add both x.day x.receiver v at.receiver.low at.receiver.high (omega (arith, at.day, at.receiver.high)) in
        grind (arith, nat_tests, part.same x.figures, first, second)

-- ---- lengths stay

-- what keeps the length at each step keeps it
length-fold : {X A : Type 0} (f : List X → A → List X) → ((xs : List X) (a : A) → length (f xs a) ≡ length xs)
    → (xs : List X) (as' : List A) → length (fold f xs as') ≡ length xs
length-fold f same xs [] = refl
length-fold f same xs (a ∷ rest) = length-fold f same (f xs a) rest ∙ same xs a

pub sized_after : (call : Call) (b : Book) → Sized b → Sized (accepted_after call b)
sized_after call b s = record {
  cells = length-fold post (λ cells x. length-set cells _ _) b.cells (postings call b) ∙ s.cells;
  summaries = length-fold post_summary length-post_summary b.summaries (postings call b) ∙ s.summaries;
}
