-- What was read stands at the buffer's start: the front grows by each read, and at the end it is as much of the input as the
-- buffer has room for.
use Rattle.std.proofs.Common.{◌≡◌, ℕ, ◌+◌, List, ◌++◌, Option, None, Some, length, take, drop, sym, ap, ◌∙◌, subst}
use Rattle.std.proofs.Common.{append_assoc, Result, Ok, Err, IfOk, drop_at}
use Rattle.std.specs.Io.{ReadsAtMost}
use Rattle.std.specs.Io.KnownBytes.{ReadConsumes, Consumes}
use Rattle.std.proofs.lemmas.List.{take-append-le}
use lib.Seq.{take-add}

-- what was read into a part stands behind the front
pub read_behind : {E : Type 0} (a b : Option (List ℕ)) (r : Result ℕ E) (front part rest : List ℕ) (at : ℕ) → length front ≡ at
    → ReadsAtMost r part
    → ReadConsumes a b r part → IfOk r (λ n. Consumes a b (take n (drop at (front ++ (part ++ rest)))))
read_behind a b (Ok n) front part rest at long fits read =
    subst (Consumes a b) (sym (ap (take n) (drop_at front (part ++ rest) at long) ∙ take-append-le n part rest fits.0)) read.0
read_behind a b (Err e) front part rest at long fits read = tt

-- one read after another
joined : (a b c : Option (List ℕ)) (first second : List ℕ) → Consumes a b first → Consumes b c second → Consumes a c (first ++ second)
joined None b c first second p q = tt
joined (Some x) None c first second p q = absurd p
joined (Some x) (Some y) None first second p q = absurd q
joined (Some x) (Some y) (Some z) first second p q = p ∙ ap (λ l. first ++ l) q ∙ sym (append_assoc first second z)

pub more_read : (a b c : Option (List ℕ)) (old new : List ℕ) (at n : ℕ) → take at new ≡ take at old → Consumes a b (take at old)
    → Consumes b c (take n (drop at new)) → Consumes a c (take (at + n) new)
more_read a b c old new at n front before read =
    subst (Consumes a c) (ap (λ l. l ++ take n (drop at new)) (sym front) ∙ sym (take-add at n new)) (joined a b c _ _ before read)
