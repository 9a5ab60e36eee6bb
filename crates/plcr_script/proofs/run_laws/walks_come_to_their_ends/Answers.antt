use Rattle.plcr_script.proofs.WalkEnds.{ended_walk_stays}
use Rattle.plcr_script.proofs.SoundRuns.{run_walk_ends}
use Rattle.plcr_script.proofs.run_laws.walks_come_to_their_ends.Goals as goal

pub returns : goal.returns
returns c = record { ends = run_walk_ends; stay = ended_walk_stays }
