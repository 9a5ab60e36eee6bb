use Rattle.plcr_wire.specs.Message.{spelling}
use Rattle.plcr_wire.proofs.Writing.{wrote_bytes}
use Rattle.plcr_encode.proofs.fields.put_message.Goals as goal

pub returns-clause-wrote : goal.returns-clause-wrote
returns-clause-wrote g c =
    wrote_bytes _ _ _ c.args.field (spelling (g.M.Message.fields c.args.message.now)) (rw (← c.len-length.ensures.size) c.head.ensures) c.put.ensures
