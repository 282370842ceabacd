use Rattle.console.proofs.Reading.{more_read}
use Rattle.console.proofs.streams.read_all.Goals as goal

pub loop-at-preserved : goal.loop-at-preserved
loop-at-preserved g c = record {
  within = c.in_ok-count.ensures.fits;
  read = more_read _ _ _ _ _ _ _ c.read_at.ensures.front c.loop-at.invariant.read c.in_ok-count.ensures.read;
}
