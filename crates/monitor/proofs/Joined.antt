-- A text behind another, in parts, and a loop that writes part after part.
use Rattle.std.proofs.Common.{[], length, get_or, ◌∙◌, append_assoc, length-append, flat_map, All, map-id, ◌<◌, ◌*◌, ℕ, List}
use Rattle.history.proofs.Words.{◌∷◌, take, arith, ap, sym, ◌≡◌, ◌++◌, ◌≤◌, ◌+◌, range_with_len}
use Rattle.std.proofs.lemmas.List.{flat_map_more}
use Rattle.std.proofs.lemmas.List.Concat.{length-flat_map}
use Rattle.std.proofs.lemmas.List.Sums.{sum_by-le}
use Rattle.std.proofs.lemmas.List.FromFn.{get_or-range_with_len, length-range_with_len, map-range_with_len_more, take-map-range_with_len}
use Rattle.std.proofs.lemmas.List.Folds.{length-flat_map-take}

-- ---- parts

pub two_parts : (old new newer a b : List ℕ) → new ≡ old ++ a → newer ≡ new ++ b → newer ≡ old ++ (a ++ b)
two_parts old new newer a b first second = second ∙ ap (λ l. l ++ b) first ∙ append_assoc old a b

pub three_parts : (old new newer newest a b c : List ℕ) → new ≡ old ++ a → newer ≡ new ++ b → newest ≡ newer ++ c
    → newest ≡ old ++ (a ++ (b ++ c))
three_parts old new newer newest a b c first second third = two_parts old new newest a (b ++ c) first (two_parts new newer newest b c second third)

-- ---- loops

-- what is written of one thing more has room where all have
pub has_room : {X : Type 0} (line : X → List ℕ) (xs : List X) (i : ℕ) (d : X) (old now : List ℕ) (room : ℕ) → i < length xs
    → now ≡ old ++ flat_map line (take i xs)
    → length old + length (flat_map line xs) ≤ room → length now + length (line (get_or xs i d)) ≤ room
has_room line xs i d old now room within is fits =
    omega (arith, ap length is ∙ length-append old (flat_map line (take i xs)), length-flat_map-take line xs i d within)

-- the numbers from 0 on, and one more
range_more : (n : ℕ) → range_with_len 0 (n + 1) ≡ range_with_len 0 n ++ n ∷ []
range_more n = simp map-id at (map-range_with_len_more (λ x. x) 0 n n (omega arith))

-- what is written of the numbers from 0 on, and of one more
pub numbers_more : (line : ℕ → List ℕ) (n : ℕ) (old now newer : List ℕ) → now ≡ old ++ flat_map line (range_with_len 0 n)
    → newer ≡ now ++ line n → newer ≡ old ++ flat_map line (range_with_len 0 (n + 1))
numbers_more line n old now newer is step =
    step ∙ ap (λ l. l ++ line n) is ∙ flat_map_more line old (range_with_len 0 n) n ∙ ap (λ l. old ++ flat_map line l) (sym (range_more n))

-- it has room where all have
pub numbers_room : (line : ℕ → List ℕ) (n end : ℕ) (old now : List ℕ) (room : ℕ) → n < end
    → now ≡ old ++ flat_map line (range_with_len 0 n)
    → length old + length (flat_map line (range_with_len 0 end)) ≤ room → length now + length (line n) ≤ room
numbers_room line n end old now room within is fits =
    let all = range_with_len 0 end in
    let front = simp map-id at (take-map-range_with_len (λ x. x) 0 end n (omega arith)) in
    let here : get_or all n 0 ≡ n = omega (arith, get_or-range_with_len 0 end n 0 within) in
    rw (sym here) (has_room line all n 0 old now room (omega (arith, length-range_with_len 0 end)) (rw front is) fits)

-- lines of so many bytes
pub lines_short : {X : Type 0} (line : X → List ℕ) (k : ℕ) (xs : List X) → All (λ x. length (line x) ≤ k) xs
    → length (flat_map line xs) ≤ length xs * k
lines_short line k xs short = omega (arith, length-flat_map line xs, sum_by-le (λ x. length (line x)) k xs short)
