use Rattle.plcr_cursor.proofs.Chained.{are_frames, only_frames}
use Rattle.plcr_cursor.proofs.laws.frames_lead.Goals as goal

pub returns-clause-lead : goal.returns-clause-lead
returns-clause-lead c = are_frames

pub returns-clause-only : goal.returns-clause-only
returns-clause-only c = only_frames
