use Rattle.plcr_leb128.proofs.leb128.+read.Given as goal

abbrev pub decreases-read : goal.decreases-read
decreases-read g l = l.left
