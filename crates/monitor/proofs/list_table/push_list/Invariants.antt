use Rattle.monitor.proofs.Words.{◌≡◌, ◌++◌, take, flat_map, participant_line}
use Rattle.monitor.proofs.list_table.push_list.Given as goal

abbrev pub invariant-loop-participant : goal.invariant-loop-participant
invariant-loop-participant g l = l.page.items ≡ l.fn.page.items ++ flat_map (participant_line l.measure) (take l.participant-index l.list)
