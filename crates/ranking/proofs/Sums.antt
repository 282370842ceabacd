-- A participant's summaries over a run of days, and all forty participants: each goes on by one.
use Rattle.std.proofs.Common.{◌≡◌, ℕ, zero, suc, ◌+◌, ◌-◌, ◌<◌, ◌≤◌, List, [], ◌∷◌, ◌++◌, length, get_or}
use Rattle.history.proofs.Words.{map, refl, Ok, sym, ◌∙◌, ap, arith, range_with_len, nat_tests, Summary, Book, largest_code, add_summary}
use Rattle.history.proofs.Words.{no_summary, Measure}
use Rattle.std.specs.Prelude.{◌==◌, nat_le, count_by}
use Rattle.std.proofs.lemmas.List.{same_lists}
use Rattle.std.proofs.lemmas.List.FromFn.{length-map-range_with_len, get_or-map-range_with_len}
use Rattle.std.proofs.lemmas.List.Sums.{sum_by-cons}
use Rattle.book.specs.Rows.{summary_at, summary_answer}
use Rattle.reports.proofs.Steps.{add_figure-figure_over, sum_next}
use Rattle.ranking.specs.declared.participant.Participant.{Participant}
use Rattle.ranking.specs.Meaning.{CodesRise}
use Rattle.ranking.specs.Runs.{summaries_over, participant_of, participants_of}
use Rattle.ranking.proofs.Counts.{one_if}

add_summary-summaries_over : (summaries : List Summary) (s : Summary)
    → add_summary (summaries_over summaries) s ≡ summaries_over (summaries ++ s ∷ [])
unfolding summaries_over
add_summary-summaries_over summaries s = λ i. record {
  total = add_figure-figure_over (λ (s : Summary). s.total) summaries s i;
  fails = add_figure-figure_over (λ (s : Summary). s.fails) summaries s i;
}

pub summaries_next : (f : ℕ → Summary) (first day : ℕ) (so_far next : Summary) → first ≤ day
    → so_far ≡ summaries_over (map f (range_with_len first (day - first)))
    → next ≡ add_summary so_far (f day) → next ≡ summaries_over (map f (range_with_len first (day + 1 - first)))
summaries_next = sum_next add_summary summaries_over add_summary-summaries_over

pub summaries_none : (f : ℕ → Summary) (first : ℕ) → no_summary ≡ summaries_over (map f (range_with_len first (first - first)))
unfolding summaries_over
summaries_none f first = ap (λ n. summaries_over (map f (range_with_len first n))) (let e : 0 ≡ first - first = omega arith in e)

-- a summary that is given
pub summary_given : (b : Book) (day code : ℕ) (summary : Summary) → summary_answer day code b ≡ Ok summary
    → summary ≡ summary_at b.summaries day code
summary_given b day code summary ok = grind arith

-- all participants, by places from 0 on
pub all_participants : (first last : ℕ) (m : Measure) (b : Book) (all : List Participant) → length all ≡ largest_code
    → ((place : ℕ) (d : Participant) → place < largest_code → get_or all place d ≡ participant_of first last m b (place + 1))
    → all ≡ participants_of first last m b
unfolding participants_of
all_participants first last m b all long each =
    let of = participant_of first last m b in
    same_lists all (map of (range_with_len 1 largest_code)) (omega (arith, length-map-range_with_len of 1 largest_code))
    (λ k d below. each k d (omega arith) ∙ sym (get_or-map-range_with_len of 1 largest_code k (k + 1) d (omega arith) (omega arith)))

-- ---- their codes

module _ (f : ℕ → Participant) (has : (code : ℕ) → (f code).code ≡ code) where
  pub codes_of : (low n : ℕ) → map (λ (p : Participant). p.code) (map f (range_with_len low n)) ≡ range_with_len low n
  codes_of low zero = refl
  codes_of low (suc n) = λ i. has low i ∷ codes_of (low + 1) n i

  -- from a code on each has its own
  counted_from : (low n code : ℕ) → count_by (λ (p : Participant). p.code == code) (map f (range_with_len low n)) ≤ one_if (nat_le low code)
  counted_from low zero code = omega arith
  counted_from low (suc n) code = omega (
    arith,
    sum_by-cons (λ (p : Participant). one_if (p.code == code)) (f low) (map f (range_with_len (low + 1) n)),
    ap (λ k. one_if (k == code)) (has low),
    counted_from (low + 1) n code,
    (let e : one_if (low == code) + one_if (nat_le (low + 1) code) ≤ one_if (nat_le low code) = grind (arith, nat_tests) in e),
  )

  pub distinct : (low n code : ℕ) → count_by (λ (p : Participant). p.code == code) (map f (range_with_len low n)) ≤ 1
  distinct low n code = grind (arith, counted_from low n code)

pub codes : CodesRise
unfolding participants_of
codes first last m b =
    let of = participant_of first last m b in
    (codes_of of (λ code. refl) 1 largest_code, distinct of (λ code. refl) 1 largest_code)
