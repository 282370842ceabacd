use Rattle.lines.proofs.Files.{round_trip}
use Rattle.lines.proofs.theorems.round_trip.Goals as goal

pub returns : goal.returns
returns c = round_trip
