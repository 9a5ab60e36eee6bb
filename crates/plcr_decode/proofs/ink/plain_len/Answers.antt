use Rattle.std.proofs.Common.{sym, ◌∙◌}
use Rattle.plcr_decode.proofs.Escaping.{plain_more}
use Rattle.plcr_decode.proofs.ink.plain_len.Goals as goal

pub loop-i-preserved : goal.loop-i-preserved
loop-i-preserved c = plain_more c.args.text.now c.loop-i.i c.loop-i-test.true c.loop-i.invariant (sym c.is_plain.ensures ∙ c.if-not-is_plain.false)
