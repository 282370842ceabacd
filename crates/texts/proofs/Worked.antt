-- The worked lines and buffers, by computation.
use Rattle.std.proofs.Common.{refl}
use Rattle.std.specs.Fmt.{digits}
use Rattle.texts.specs.Worked.{WorkedLines}

pub worked_lines : WorkedLines
unfolding digits
worked_lines = record { fields = refl; largest = refl; alone = refl; empty = refl; short = refl; cut_off = refl; no_room = refl }
