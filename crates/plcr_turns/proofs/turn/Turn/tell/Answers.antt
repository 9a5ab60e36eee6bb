use Rattle.std.proofs.Common.{refl}
use Rattle.plcr_turns.specs.Turns.{IsTurn, turn_state}
use Rattle.plcr_turns.proofs.Turned.{told_turn}
use Rattle.plcr_turns.proofs.turn.Turn.tell.Goals as goal

turn_told : (c : goal.After-told) → IsTurn (turn_state c.told.new.self c.self.inside.journal.items c.self.inside.parts.items)
turn_told c =
    told_turn (turn_state c.self.inside.writer c.self.inside.journal.items c.self.inside.parts.items) c.args.note (turn_state c.told.new.self c.self.inside.journal.items c.self.inside.parts.items)
    c.self.invariant.0
    (record { writer = c.told.ensures.told; same = refl })
    c.told.ensures.rest

pub invariant_of-self : goal.invariant_of-self
invariant_of-self c = (turn_told c, c.self.invariant.1)

pub returns-clause-turn : goal.returns-clause-turn
returns-clause-turn c = turn_told c
