-- What makes a reader right: what it answers stands there, what stands there it answers, and where it stops, the bytes in front
-- begin a word, and the byte there is refused whatever follows it. Of two readers one behind the other so is the whole.
use Rattle.std.specs.Prelude.{◌≡◌, ℕ, List, ◌∷◌, ◌++◌, Ok, Err}
use Rattle.std.proofs.Common.{ap, append_assoc}
use Rattle.lines.specs.Parts.{Parsed, and_then, both_read}
use Rattle.lines.specs.Grammar.{Begins}

-- the text of a value that fits
abbrev pub IsWordOf : {A : Type 0} → (A → Type 0) → (A → List ℕ) → List ℕ → Type 0
IsWordOf {A} Fits word text = (value : A) × Fits value × (text ≡ word value)

-- where a reader stops, whatever follows the byte there
abbrev pub Refuses : {A : Type 0} → (List ℕ → Parsed A) → List ℕ → List ℕ → Type 0
Refuses read front left = (byte : ℕ) (rest more : List ℕ) → left ≡ byte ∷ rest → read (front ++ byte ∷ more) ≡ Err (byte ∷ more)

pub record Stops {A : Type 0} (L : List ℕ → Type 0) (read : List ℕ → Parsed A) (text left : List ℕ) : Type 0 where
  pub front : List ℕ
  pub split : text ≡ front ++ left
  pub begins : Begins L front
  pub refused : Refuses read front left

-- an answer is right
abbrev pub IsRightAnswer : {A : Type 0} → (A → Type 0) → (A → List ℕ) → (List ℕ → Parsed A) → List ℕ → Parsed A → Type 0
IsRightAnswer Fits word read text (Ok found) = Fits found.0 × (text ≡ word found.0 ++ found.1)
IsRightAnswer Fits word read text (Err left) = Stops (IsWordOf Fits word) read text left

-- a reader is right, and misses nothing
pub record Reads {A : Type 0} (Fits : A → Type 0) (word : A → List ℕ) (read : List ℕ → Parsed A) : Type 0 where
  pub right : (text : List ℕ) → IsRightAnswer Fits word read text (read text)
  pub complete : (value : A) (rest : List ℕ) → Fits value → read (word value ++ rest) ≡ Ok (value, rest)

-- Two readers one behind the other, where their values make one that fits, and each that fits is made so.
module _ {A B C : Type 0} (First : A → Type 0) (first_word : A → List ℕ) (first : List ℕ → Parsed A)
    (Second : A → B → Type 0) (second_word : B → List ℕ) (second : A → List ℕ → Parsed B)
    (Fits : C → Type 0) (word : C → List ℕ) (join : A → B → C)
    (is_first : Reads First first_word first) (is_second : (a : A) → First a → Reads (Second a) second_word (second a))
    (some : (a : A) → First a → (b : B) × Second a b)
    (fit : (a : A) (b : B) → First a → Second a b → Fits (join a b) × (word (join a b) ≡ first_word a ++ second_word b))
    (made : (c : C) → Fits c → (a : A) × (b : B) × First a × Second a b × (c ≡ join a b)) where
  -- behind the first one's word
  behind_first : (a : A) (left : List ℕ) → First a → (answer : Parsed B) → IsRightAnswer (Second a) second_word (second a) left answer
      → IsRightAnswer Fits word (both_read first second join) (first_word a ++ left) (and_then answer (λ more. Ok (join a more.0, more.1)))
  behind_first a left fits (Ok more) right =
      let whole = fit a more.0 fits right.0 in
      (whole.0, rw (right.1, whole.1, append_assoc (first_word a) (second_word more.0) more.1))
  behind_first a left fits (Err at) stops =
      let begun = stops.begins.1 in
      let whole = fit a begun.0 fits begun.1 in
      record {
        front = first_word a ++ stops.front;
        split = rw (stops.split, append_assoc (first_word a) stops.front at);
        begins = (stops.begins.0, (join a begun.0, whole.0, rw (append_assoc (first_word a) stops.front stops.begins.0, begun.2, whole.1)));
        refused = λ byte rest more e.
            let passed = is_first.complete a (stops.front ++ byte ∷ more) fits in
            rw (append_assoc (first_word a) stops.front (byte ∷ more), passed, stops.refused byte rest more e);
      }

  -- from the start
  from_first : (text : List ℕ) (answer : Parsed A) → IsRightAnswer First first_word first text answer
      → IsRightAnswer Fits word (both_read first second join) text
      (and_then answer (λ read. and_then (second read.0 read.1) (λ more. Ok (join read.0 more.0, more.1))))
  from_first text (Ok read) right = rw right.1 (behind_first read.0 read.1 right.0 (second read.0 read.1) ((is_second read.0 right.0).right read.1))
  from_first text (Err left) stops =
      let (more, (one, is_one, begun)) = stops.begins in
      let (other, is_other) = some one is_one in
      let whole = fit one other is_one is_other in
      record {
        front = stops.front;
        split = stops.split;
        begins = (more ++ second_word other, (join one other, whole.0, rw (← append_assoc stops.front more (second_word other), begun, whole.1)));
        refused = λ byte rest more e. rw (stops.refused byte rest more e);
      }

  pub both_reads : Reads Fits word (both_read first second join)
  both_reads = record {
    right = λ text. from_first text (first text) (is_first.right text);
    complete = λ c rest fits.
        let (a, b, is_a, is_b, joined) = made c fits in
        rw (joined, (fit a b is_a is_b).1, append_assoc (first_word a) (second_word b) rest, is_first.complete a (second_word b ++ rest) is_a)
        ((ap (λ answer. and_then answer (λ more. Ok (join a more.0, more.1))) ((is_second a is_a).complete b rest is_b)));
  }
