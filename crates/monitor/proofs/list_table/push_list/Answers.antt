use Rattle.monitor.proofs.Words.{rules, Participant, participant_line}
use Rattle.monitor.proofs.Joined.{has_room}
use Rattle.monitor.proofs.list_table.push_list.Goals as goal

pub push_participant-requires : goal.push_participant-requires
push_participant-requires g c =
    let none : Participant = record { code = 0; fails = 0; total = 0 } in
    let loop = c.loop-participant in
    (search rules, has_room (participant_line c.args.measure) c.args.list.now _ none _ _ _ c.loop-participant-test.true loop.invariant c.requires)
