-- The ranges of an enter's values: those of kind and side, and those of the numbers.
use Rattle.std.proofs.Common.{◌≡◌, ◌&&◌, arith}
use Rattle.book.specs.Pairs.{Entry, is_within, in_range}

pub in_range_lem : (e : Entry) → in_range e ≡ (is_within 1 4 e.kind && (is_within 1 2 e.side && in_range (record e { kind = 1; side = 1 })))
in_range_lem e = grind arith
