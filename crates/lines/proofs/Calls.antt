-- The lines of calls are read right: a call is the numbers of its line, case by case, and its number picks the values.
use Rattle.std.specs.Prelude.{◌≡◌, ℕ, ◌-◌, ◌<◌, List, [], ◌∷◌, ◌++◌, length, get_or, drop, map, replicate, refl}
use Rattle.std.specs.List.{AllByRecursion, range_with_len}
use Rattle.std.proofs.Common.{decimal, slice_index_or, Some, sym, ◌∙◌, ap, subst, append_assoc, arith, length-append, rules}
use Rattle.std.proofs.lemmas.List.FromFn.{fill_by_all}
use Rattle.std.proofs.lemmas.Bool.Decides.{nat_tests}
use Rattle.std.proofs.lemmas.List.Elements.{length_all_zip}
use Rattle.book.specs.declared.calls.Call.{Call}
use Rattle.book.specs.declared.calls.Call.TheVariants.{Close}
use Rattle.texts.specs.Lines.{line_text}
use Rattle.lines.specs.Table.{column_count, call_count, short_limit, numbers_of, call_made, call_from, highest_of, IsNumber, CallsAreNumbers}
use Rattle.lines.specs.Grammar.{HasShortFields, line_of}
use Rattle.lines.specs.Parts.{Parsed, call_read, end_of}
use Rattle.lines.proofs.Readers.{IsRightAnswer, Reads, both_reads}
use Rattle.lines.proofs.Fields.{field_word, field_reads, AreUpTo, ended, end_same, up_to_themselves, values_reads}

-- ---- the table: a clause with a name covers the calls that have no clause of their own

same_call : (call : Call) → (length (numbers_of call) ≡ column_count)
    × IsNumber (slice_index_or (numbers_of call) 0 0) × (call_from (numbers_of call) ≡ call)
same_call Close = (refl, (omega arith, omega arith), refl)
same_call call = (refl, (omega arith, omega arith), refl)

-- each number is that of some call
numbered : (n : ℕ) → IsNumber n → slice_index_or (numbers_of (call_made n (replicate (column_count - 1) 0))) 0 0 ≡ n
numbered n within = grind (arith, nat_tests)

pub calls_are_numbers : CallsAreNumbers
calls_are_numbers =
    let made : (call : Call) → numbers_of (call_from (numbers_of call)) ≡ numbers_of call = λ call. ap numbers_of (same_call call).2 in
    let is_made : (call : Call) (ns : List ℕ) → numbers_of call ≡ ns → numbers_of (call_from ns) ≡ ns =
    λ call ns e. subst (λ l. numbers_of (call_from l) ≡ l) e (made call) in
    record {
      count = λ call. (same_call call).0;
      number = λ n. (
        λ (call, e). subst IsNumber e (same_call call).1,
        λ within. (call_made n (replicate (column_count - 1) 0), numbered n within),
      );
      same_call = λ call. (same_call call).2;
      of_a_call = λ ns. (λ (call, e). is_made call ns e, λ makes. (call_from ns, makes));
      of_none = λ ns. (λ none makes. none (call_from ns) makes, λ unmade call e. unmade (is_made call ns e));
    }

-- ---- the values of each number's call

-- of a number: its highest values, and the call of values up to them
abbrev IsCallOf : ℕ → List ℕ → Type 0
IsCallOf n values =
    AreUpTo values (drop 1 (highest_of n)) → HasShortFields (call_made n values) × (numbers_of (call_made n values) ≡ n ∷ values)

record Picks (n : ℕ) : Type 0 where
  short : AllByRecursion (λ h. h < short_limit) (drop 1 (highest_of n))
  more : end_of (drop 1 (highest_of n)) ≡ 44
  count : length (drop 1 (highest_of n)) ≡ column_count - 1
  call : (values : List ℕ) → IsCallOf n (map (λ k. get_or values k 0) (range_with_len 0 (column_count - 1)))

picks : (call : Call) → Picks (slice_index_or (numbers_of call) 0 0)
picks Close = record { short = search rules; more = refl; count = refl; call = λ values up. (search rules, grind arith) }
picks call = record { short = search rules; more = refl; count = refl; call = λ values up. (search rules, grind arith) }

numbers : (n : ℕ) → IsNumber n → Picks n
numbers n within = subst Picks (numbered n within) (picks (call_made n (replicate (column_count - 1) 0)))

-- ---- a line

-- numbers as text, field by field
text_ended : (ns : List ℕ) → 0 < length ns → line_text (map (λ n. Some n) ns) ≡ ended ns
text_ended [] some = absurd (omega arith)
text_ended (n ∷ []) some = refl
text_ended (n ∷ m ∷ ns) some = append_assoc (decimal n) _ (10 ∷ []) ∙ ap (λ l. decimal n ++ 44 ∷ l) (text_ended (m ∷ ns) (omega arith))

pub line_ended : (call : Call) → line_of call ≡ ended (numbers_of call)
line_ended call = text_ended (numbers_of call) (omega (arith, calls_are_numbers.count call))

pub line_some : (call : Call) → 0 < length (line_of call)
line_some call = simp length-append (omega arith)

-- the call of a number and values that it may have: its fields are short, and its line is theirs
call_fits : (n : ℕ) (values : List ℕ) → IsNumber n → AreUpTo values (drop 1 (highest_of n))
    → HasShortFields (call_made n values) × (line_of (call_made n values) ≡ field_word 44 n ++ ended values)
call_fits n values within up =
    let number = numbers n within in
    let long = length_all_zip _ values (drop 1 (highest_of n)) up ∙ number.count in
    let out = fill_by_all (λ k. get_or values k 0) values (column_count - 1) 0 long (λ k below. refl) in
    let call = subst (IsCallOf n) (sym out) (number.call values) up in
    (call.0, rw (line_ended (call_made n values), call.1, end_same values _ up, number.more, append_assoc (decimal n) (44 ∷ []) (ended values)))

-- and each call with short fields is one
made : (call : Call) → HasShortFields call
    → (n : ℕ) × (values : List ℕ) × IsNumber n × AreUpTo values (drop 1 (highest_of n)) × (call ≡ call_made n values)
made Close short = (slice_index_or (numbers_of Close) 0 0, drop 1 (numbers_of Close), (omega arith, omega arith), search rules, refl)
made call short = (slice_index_or (numbers_of call) 0 0, drop 1 (numbers_of call), (omega arith, omega arith), search rules, refl)

pub call_reads : Reads HasShortFields line_of call_read
unfolding call_read
call_reads =
    both_reads IsNumber (field_word 44) _ (λ n values. AreUpTo values (drop 1 (highest_of n))) ended _ HasShortFields line_of call_made
    (field_reads 1 call_count 44 (omega arith) (omega arith) (omega arith) (omega arith))
    (λ n within. values_reads (drop 1 (highest_of n)) (numbers n within).short)
    (λ n within. (drop 1 (highest_of n), up_to_themselves (drop 1 (highest_of n)))) call_fits made

-- what a text is read as is right, and no call's line begins another's
pub right : (text : List ℕ) (answer : Parsed Call) → call_read text ≡ answer → IsRightAnswer HasShortFields line_of call_read text answer
right text answer is = subst (IsRightAnswer HasShortFields line_of call_read text) is (call_reads.right text)

pub one_line : (one other : Call) (rest more : List ℕ) → HasShortFields one → HasShortFields other
    → line_of one ++ rest ≡ line_of other ++ more → (one ≡ other) × (rest ≡ more)
one_line one other rest more short also e =
    let pair : ◌≡◌ {A = Call × List ℕ} (one, rest) (other, more) =
    cc (call_reads.complete one rest short, call_reads.complete other more also) in
    (ap (λ read. read.0) pair, ap (λ read. read.1) pair)
