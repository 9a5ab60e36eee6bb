use Rattle.plcr_wire.proofs.Writing.{wrote_bytes}
use Rattle.plcr_wire.proofs.ink.Ink.text.Goals as goal

pub returns : goal.returns
returns g c = wrote_bytes _ _ _ c.args.field c.args.bytes.now c.head.ensures c.raw.ensures
