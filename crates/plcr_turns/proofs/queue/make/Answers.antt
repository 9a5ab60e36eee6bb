use Rattle.plcr_turns.proofs.Beginning.{begins}
use Rattle.plcr_turns.proofs.queue.make.Goals as goal

pub ruled-requires-clause-rule : goal.ruled-requires-clause-rule
ruled-requires-clause-rule c = begins
