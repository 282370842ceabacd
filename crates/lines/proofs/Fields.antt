-- The fields of a line are read right: a field digit by digit, and the values one after the other.
use Rattle.std.specs.Prelude.{◌≡◌, ℕ, zero, suc, ◌+◌, ◌-◌, ◌*◌, ◌/◌, ◌%◌, ◌<◌, ◌≤◌, ◌==◌}
use Rattle.std.specs.List.{AllByRecursion, AllZip}
use Rattle.std.specs.Prelude.{List, [], ◌∷◌, ◌++◌, Bool, true, false, slice_set, if◌then◌else◌, Ok, Err}
use Rattle.std.proofs.Common.{decimal, length, get_or, take, drop, refl, sym, ◌∙◌, ap, ⊎_elim, append_assoc, arith}
use Rattle.std.proofs.lemmas.Fmt.{decimal_digit, decimal_step}
use Rattle.std.proofs.lemmas.Bool.{cases_lt, cond_both, false_from_ne_true}
use Rattle.std.proofs.lemmas.Bool.Decides.{nat_tests}
use Rattle.std.proofs.lemmas.List.{drop_more, drop_all, take_rest, append-nil, length-set, nil_from_length, take_all, take_more_set}
use Rattle.std.proofs.lemmas.List.Elements.{length_all_zip}
use Rattle.lines.specs.Parts.{ends, continues, field_read, Parsed, and_then, values_read, end_of}
use Rattle.lines.specs.Table.{short_limit}
use Rattle.lines.specs.Grammar.{Begins}
use Rattle.lines.proofs.Readers.{IsWordOf, IsRightAnswer, Reads, both_reads}

-- the number of a field within its bounds, and its text
abbrev pub IsWithin : ℕ → ℕ → ℕ → Type 0
IsWithin lowest highest number = (lowest ≤ number) × (number ≤ highest)

abbrev pub field_word : ℕ → ℕ → List ℕ
field_word end number = decimal number ++ end ∷ []

-- the text of the digits that were read, and what is known of their value
abbrev so_far : Bool → ℕ → List ℕ
so_far empty value = if empty then [] else decimal value

abbrev IsSoFar : ℕ → ℕ → Bool → ℕ → Type 0
IsSoFar lowest highest true value = value ≡ 0
IsSoFar lowest highest false value = IsWithin lowest highest value

module _ (lowest highest end : ℕ) (lowest_bound : lowest ≤ 1) (order : lowest ≤ highest) (highest_bound : highest < short_limit)
    (end_bound : end < 48) where
  -- the digits of a number are read
  decimal_read : (fuel n : ℕ) → n < fuel → IsWithin lowest highest n → (rest : List ℕ)
      → field_read lowest highest end (decimal n ++ rest) true 0 ≡ field_read lowest highest end rest false n
  unfolding field_read
  decimal_read zero n enough within rest = absurd (omega arith)
  decimal_read (suc fuel) n enough within rest = ⊎_elim
      (λ small. rw (decimal_digit n small) (grind (arith, nat_tests)))
      (λ large. rw (decimal_step n large (omega arith), append_assoc (decimal (n / 10)) ((48 + n % 10) ∷ []) rest)
      (decimal_read fuel (n / 10) (omega arith) (omega arith, omega arith) ((48 + n % 10) ∷ rest) ∙ grind (arith, nat_tests)))
      (cases_lt n 10)

  -- so are those that were read so far
  reached : (empty : Bool) (value : ℕ) → IsSoFar lowest highest empty value → (rest : List ℕ)
      → field_read lowest highest end (so_far empty value ++ rest) true 0 ≡ field_read lowest highest end rest empty value
  reached true value none rest = ap (field_read lowest highest end rest true) (sym none)
  reached false value within rest = decimal_read (suc value) value (omega arith) within rest

  -- they begin a field
  begins : (empty : Bool) (value : ℕ) → IsSoFar lowest highest empty value
      → Begins (IsWordOf (IsWithin lowest highest) (field_word end)) (so_far empty value)
  begins true value none = (field_word end lowest, (lowest, (omega arith, order), refl))
  begins false value within = (end ∷ [], (value, within, refl))

  -- a byte that may follow makes one digit more
  push : (empty : Bool) (value byte : ℕ) → IsSoFar lowest highest empty value → continues lowest highest empty value byte ≡ true
      → so_far empty value ++ byte ∷ [] ≡ decimal (value * 10 + (byte - 48))
  push true value byte none on = grind (arith, nat_tests, decimal_digit)
  push false value byte within on = grind (arith, nat_tests, decimal_step)

  -- what is read behind them is right
  abbrev Right : List ℕ → Parsed ℕ → Type 0
  Right = IsRightAnswer (IsWithin lowest highest) (field_word end) (λ text. field_read lowest highest end text true 0)

  number_ends : (empty : Bool) (value byte : ℕ) (bytes : List ℕ) → IsSoFar lowest highest empty value → ends end empty byte ≡ true
      → Right (so_far empty value ++ byte ∷ bytes) (Ok (value, bytes))
  number_ends true value byte bytes none on = absurd (cc)
  number_ends false value byte bytes within on = (within, grind (arith, nat_tests, append_assoc (decimal value) (end ∷ []) bytes))

  field_right : (empty : Bool) (value : ℕ) → IsSoFar lowest highest empty value → (bytes : List ℕ)
      → Right (so_far empty value ++ bytes) (field_read lowest highest end bytes empty value)
  unfolding field_read
  field_right empty value read [] =
      record { front = so_far empty value; split = refl; begins = begins empty value read; refused = λ byte rest more e. absurd (cc) }
  field_right empty value read (byte ∷ bytes) =
      let digits = so_far empty value in
      cond_both (ends end empty byte) _ _ (Right (digits ++ byte ∷ bytes)) (number_ends empty value byte bytes read)
      (λ off. cond_both (continues lowest highest empty value byte) _ _ (Right (digits ++ byte ∷ bytes))
      (λ on.
      rw (← append_assoc digits (byte ∷ []) bytes, push empty value byte read on)
      (field_right false (value * 10 + (byte - 48)) (grind (arith, nat_tests), grind (arith, nat_tests)) bytes))
      (λ stuck. record {
        front = digits;
        split = refl;
        begins = begins empty value read;
        refused = λ other rest more e.
            let same : other ≡ byte = cc in
            rw (reached empty value read (other ∷ more), same, off, stuck);
      }))

  pub field_reads : Reads (IsWithin lowest highest) (field_word end) (λ text. field_read lowest highest end text true 0)
  unfolding field_read
  field_reads = record {
    right = field_right true 0 refl;
    complete = λ n rest within.
        rw (append_assoc (decimal n) (end ∷ []) rest, decimal_read (suc n) n (omega arith) within (end ∷ rest))
        (grind (arith, nat_tests));
  }

-- ---- the values

-- values are up to these highest ones
abbrev pub AreUpTo : List ℕ → List ℕ → Type 0
AreUpTo = AllZip (λ value highest. value ≤ highest)

-- numbers as the end of a line
abbrev pub ended : List ℕ → List ℕ
ended [] = []
ended (value ∷ values) = decimal value ++ end_of values ∷ ended values

-- as many values as columns
pub end_same : (values highest : List ℕ) → AreUpTo values highest → end_of values ≡ end_of highest
end_same [] [] up = refl
end_same (v ∷ vs) (h ∷ hs) up = refl
end_same values highest up = absurd up

-- the highest values are such values
pub up_to_themselves : (highest : List ℕ) → AreUpTo highest highest
up_to_themselves [] = tt
up_to_themselves (h ∷ hs) = (omega arith, up_to_themselves hs)

pub values_reads : (highest : List ℕ) → AllByRecursion (λ h. h < short_limit) highest
    → Reads (λ values. AreUpTo values highest) ended (values_read highest)
unfolding values_read
values_reads [] short =
    record { right = λ text. (tt, refl); complete = λ vs rest up. rw (nil_from_length vs (length_all_zip _ vs [] up)) refl }
values_reads (h ∷ hs) short =
    both_reads (IsWithin 0 h) (field_word (end_of hs)) _ (λ _ values. AreUpTo values hs) ended _ (λ values. AreUpTo values (h ∷ hs)) ended _
    (field_reads 0 h (end_of hs) (omega arith) (omega arith) short.0 (no_digit hs)) (λ n within. values_reads hs short.1)
    (λ n within. (hs, up_to_themselves hs))
    (λ n values within up. ((within.1, up), rw (end_same values hs up, append_assoc (decimal n) (end_of hs ∷ []) (ended values)))) made where
      no_digit : (hs : List ℕ) → end_of hs < 48
      no_digit [] = omega arith
      no_digit (h ∷ hs) = omega arith

      made : (values : List ℕ) → AreUpTo values (h ∷ hs)
          → (n : ℕ) × (vs : List ℕ) × IsWithin 0 h n × AreUpTo vs hs × (values ≡ n ∷ vs)
      made [] up = absurd up
      made (v ∷ vs) up = (v, vs, (omega arith, up.0), up.1, refl)

-- what is read, with the values in front of it
abbrev pub behind : List ℕ → Parsed (List ℕ) → Parsed (List ℕ)
behind front answer = and_then answer (λ more. Ok (front ++ more.0, more.1))

pub behind_none : (answer : Parsed (List ℕ)) → behind [] answer ≡ answer
behind_none (Ok read) = refl
behind_none (Err left) = refl

behind_more : (front : List ℕ) (value : ℕ) (answer : Parsed (List ℕ))
    → behind front (behind (value ∷ []) answer) ≡ behind (front ++ value ∷ []) answer
behind_more front value (Ok read) = rw (append_assoc front (value ∷ []) read.0)
behind_more front value (Err left) = refl

module _ (highest values left : List ℕ) (i n : ℕ) (len : length highest ≡ n) (count : length values ≡ n) where
  -- all were read
  pub all_read : n ≤ i → behind (take i values) (values_read (drop i highest) left) ≡ Ok (values, left)
  unfolding values_read
  all_read past = rw (drop_all i highest (omega arith), append-nil (take i values), take_all i values (omega arith))

  -- one more: it is wrong, or it is put behind the others
  end_at : i < n → end_of (drop (i + 1) highest) ≡ (if i + 1 == n then 10 else 44)
  end_at below = grind (arith, nat_tests, drop_more highest (i + 1) 0, drop_all (i + 1) highest)

  pub one_more : (answer : Parsed ℕ) → i < n
      → field_read 0 (get_or highest i 0) (if i + 1 == n then 10 else 44) left true 0 ≡ answer
      → behind (take i values) (values_read (drop i highest) left)
      ≡ and_then answer (λ read. behind (take (i + 1) (slice_set values i read.0)) (values_read (drop (i + 1) highest) read.1))
  unfolding values_read
  one_more (Err at) below is = rw (drop_more highest i 0 (omega arith), end_at below, is)
  one_more (Ok (value, rest)) below is =
      rw (drop_more highest i 0 (omega arith), end_at below, is, take_more_set values i value (omega arith))
      (behind_more (take i values) value (values_read (drop (i + 1) highest) rest))

-- what the proofs of the two loops take
pub ruleset field_loop = (false_from_ne_true, drop_more, drop_all, take_rest, nat_tests)

pub ruleset values_loop = (behind_none, all_read, one_more, length-set)
