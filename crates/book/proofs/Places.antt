-- Where the open pair of an id stands.
use Rattle.std.proofs.Common.{◌≡◌, ℕ, suc, ◌+◌, ◌<◌, List, [], ◌∷◌, ◌++◌, length, take, drop, get_or, None, Some, refl, not}
use Rattle.std.proofs.Common.{◌-◌, set, ◌∙◌, arith}
use Rattle.std.specs.List.{position, position_or_len, range_with_len}
use Rattle.std.proofs.lemmas.Grind.{common_steps}
use Rattle.std.proofs.lemmas.List.{set_split}
use Rattle.std.proofs.lemmas.List.Sums.{prefix_len-le-length}
use Rattle.std.specs.List.{refill, copy_within}
use Rattle.std.proofs.lemmas.List.{length-set}
use Rattle.arrayvec.specs.ArrayVec.{ArrayVec, array_vec_len, with_items}
use Rattle.arrayvec.proofs.ArrayVecLemmas.{items-with_items}
use Rattle.book.specs.Pairs.{Pair}
use Rattle.book.specs.Answers.{has_id, pair_of}
use Rattle.book.specs.Book.{changed}
use Rattle.book.specs.Places.{IsAt, at_place}

pub changed_at : (id : ℕ) (f : Pair → List Pair) (ps : List Pair) (d : Pair) (i : ℕ) → i ≡ position_or_len (has_id id) ps → i < length ps
    → changed id f ps ≡ take i ps ++ (f (get_or ps i d) ++ drop (suc i) ps)
changed_at id f [] d i e h = absurd (omega arith)
changed_at id f (p ∷ ps) d i e h = grind (arith, common_steps, changed_at id f ps d)

pub found_at : (id : ℕ) (ps : List Pair) (d : Pair) (i : ℕ) → i ≡ position_or_len (has_id id) ps → i < length ps
    → pair_of id ps ≡ Some (get_or ps i d)
found_at id [] d i e h = absurd (omega arith)
found_at id (p ∷ ps) d i e h = grind (arith, common_steps, found_at id ps d)

missed : (id : ℕ) (ps : List Pair) → length ps ≡ position_or_len (has_id id) ps → pair_of id ps ≡ None
missed id [] e = refl
missed id (p ∷ ps) e = grind (arith, common_steps, missed id ps)

-- where `position` gives none
pub none_from_position : (id : ℕ) (ps : List Pair) → position (has_id id) ps ≡ None → pair_of id ps ≡ None
none_from_position id ps e = let h = prefix_len-le-length (λ p. not (has_id id p)) ps in missed id ps (grind (arith, common_steps))

-- what `position` gives is the place of the open pair
pub at_from_position : (id : ℕ) (ps : List Pair) (i : ℕ) (d : Pair) → position (has_id id) ps ≡ Some i → IsAt id ps i (get_or ps i d)
at_from_position id ps i d e =
    let at : i ≡ position_or_len (has_id id) ps = grind (arith, common_steps) in
    let within : i < length ps = grind (arith, common_steps) in
    record {
      within = within;
      pair = found_at id ps d i at within;
      becomes = λ f. changed_at id f ps d i at within;
    }

-- a write through a vector of fixed capacity
pub written_at : (v : ArrayVec Pair) (xs : List Pair) (i : ℕ) (q : Pair) → xs ≡ v.items → i < length v.items
    → refill (array_vec_len v) v.items (set xs i q) ≡ take i v.items ++ q ∷ drop (suc i) v.items
written_at v xs i q e h =
    rw e (items-with_items v (set v.items i q) (length-set v.items i q) ∙ set_split v.items i q h)

-- those behind a place moved up, and the last one left out
pub taken_out : (v : ArrayVec Pair) (xs ys zs : List Pair) (i : ℕ) → zs ≡ take (array_vec_len (with_items v ys) - 1) (with_items v ys).items
    → ys ≡ copy_within xs (i + 1) (length xs) i → xs ≡ v.items → i < length v.items → zs ≡ at_place v.items i []
taken_out v xs ys zs i rest moved e h =
    let same : length ys ≡ length v.items = grind (arith, common_steps) in
    rest ∙ rw (items-with_items v ys same) (grind (arith, common_steps))

-- the days from one on begin with it
pub next_day : (day today : ℕ) → day < today → range_with_len day (today - day) ≡ day ∷ range_with_len (day + 1) (today - (day + 1))
next_day day today h = let e : today - day ≡ suc (today - (day + 1)) = omega arith in rw e refl
