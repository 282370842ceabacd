use Rattle.std.proofs.Common.{ℕ, rules, arith, ap, length, length-append}
use Rattle.texts.proofs.Left.{has_room}
use Rattle.texts.proofs.page.push_line.Goals as goal

pub push_field-requires : goal.push_field-requires
push_field-requires g c = (search rules, omega (arith, has_room _ _ _ _ _ _ _ c.loop-field.invariant c.in-Some.ensures.cases.0 c.requires))

pub push-requires : goal.push-requires
push-requires g c =
    let room = has_room _ _ _ _ _ _ _ c.loop-field.invariant c.in-Some.ensures.cases.0 c.requires in
    (search rules, omega (arith, room, ap length c.push_field.ensures, length-append {A = ℕ}))
