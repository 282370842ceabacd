-- The book and the history agree: each open pair stems from its enter, and its rest is the amount less its parts.
use Rattle.history.proofs.Words.{◌≡◌, ℕ, ◌+◌, ◌<◌, ◌≤◌, Bool, true, false, not, List, [], ◌∷◌, length, filter, Option}
use Rattle.history.proofs.Words.{None, Some, refl, arith, nat_le, AllByRecursion, nat_tests, Call, Entry, Pair, Book, day_limit, category_count}
use Rattle.history.proofs.Words.{largest_id, has_id, is_first_part, day_of, entries, parts, settled_on, cancelled_on}
use Rattle.history.proofs.Pairs.{IsSound, unheld, as_entered, origins}
use Rattle.history.proofs.Ids.{NoCancel, AreApart, all-map}

-- what is not cancelled is cancelled on no day
pub not_on : (i d : ℕ) (h : List Call) → NoCancel i h → cancelled_on i d h ≡ false
not_on i d [] n = refl
not_on i d (call ∷ h) n = rw n.0 (not_on i d h n.1)

-- nothing has settled on a day to come
pub not_yet : (i d : ℕ) (h : List Call) → day_of h < d → settled_on i d h ≡ false
not_yet i d [] l = refl
not_yet i d (call ∷ h) l = grind (arith, nat_tests, not_yet i d h)

-- the last part, if there is one, is not of a later day than t
abbrev pub is_past : ℕ → Option ℕ → Bool
is_past t None = true
is_past t (Some d) = nat_le d t

-- an open pair on day t, its holds and its lack left out
pub record IsOpenUnheld (h : List Call) (t last : ℕ) (p : Pair) : Type 0 where
  pub sound : IsSound (as_entered p)
  pub stems : filter (has_id p.id) (origins h) ≡ as_entered p ∷ []
  pub rest : p.rest + parts p.id h ≡ p.amount
  pub early : t < p.isd → p.rest ≡ p.amount
  pub kept : NoCancel p.id h
  pub below : p.id ≤ last
  pub left : 0 < p.rest
  pub first : is_first_part t p.last_part ≡ not (settled_on p.id t h)
  pub past : is_past t p.last_part ≡ true

-- A hold and a lack change none of it.
abbrev pub IsOpen : List Call → ℕ → ℕ → Pair → Type 0
IsOpen h t last p = IsOpenUnheld h t last (unheld p)

-- an accepted enter: its id, and a category from 1 to 9
pub record IsSpent (last : ℕ) (e : Entry) : Type 0 where
  pub below : e.id ≤ last
  pub low : 1 ≤ e.category
  pub high : e.category ≤ category_count

-- no accepted call is on that id
pub record IsUnused (i : ℕ) (h : List Call) : Type 0 where
  pub origin : filter (has_id i) (origins h) ≡ []
  pub parts : parts i h ≡ 0
  pub kept : NoCancel i h
  pub unsettled : (d : ℕ) → settled_on i d h ≡ false

-- what every list of calls keeps of the book and its history: so each open pair is, no two share an id, the ids above the last
-- are unused, and there are no more pairs than ids
pub record Kept (h : List Call) (b : Book) : Type 0 where
  pub day : b.today ≡ day_of h
  pub last_day : b.today ≤ day_limit
  pub last_id : b.last_id ≤ largest_id
  pub pairs : AllByRecursion (IsOpen h b.today b.last_id) b.pairs.items
  pub apart : AreApart b.pairs.items
  pub spent : AllByRecursion (IsSpent b.last_id) (entries h)
  pub unused : (i : ℕ) → b.last_id < i → IsUnused i h
  pub few : length (entries h) ≤ b.last_id

-- no open pair has an id above the last
pub below_last : (h : List Call) (b : Book) → Kept h b → AllByRecursion (λ p. p.id ≤ b.last_id) b.pairs.items
below_last h b k = all-map (IsOpen h b.today b.last_id) (λ p. p.id ≤ b.last_id) b.pairs.items (λ p o. o.below) k.pairs
