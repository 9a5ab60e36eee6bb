use Rattle.plcr_encode.proofs.Spread.{within_for}
use Rattle.plcr_encode.proofs.answers.answer_rows.Goals as goal

pub answer_all-requires-clause-within : goal.answer_all-requires-clause-within
answer_all-requires-clause-within g c = within_for (g.I.Images.images c.args.images.now) c.args.rows.now c.args.lookups.now c.requires.lookups c.requires.placed
