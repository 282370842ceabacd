-- Where the open pair of an id stands.
use Rattle.std.specs.Prelude.{◌≡◌, ℕ, suc, ◌<◌, List, ◌++◌, length, take, drop, Some}
use Rattle.book.specs.Pairs.{Pair}
use Rattle.book.specs.Answers.{pair_of}
use Rattle.book.specs.Book.{changed}

-- the pairs with others in the place of one
abbrev pub at_place : List Pair → ℕ → List Pair → List Pair
at_place pairs i others = take i pairs ++ (others ++ drop (suc i) pairs)

-- the open pair of that id stands there, and what becomes of it comes there
pub record IsAt (id : ℕ) (pairs : List Pair) (i : ℕ) (p : Pair) : Type 0 where
  pub within : i < length pairs
  pub pair : pair_of id pairs ≡ Some p
  pub becomes : (f : Pair → List Pair) → changed id f pairs ≡ at_place pairs i (f p)
