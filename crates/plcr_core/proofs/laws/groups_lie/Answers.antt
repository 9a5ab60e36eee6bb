use Rattle.plcr_core.proofs.GroupSteps.{groups_stand, groups_found}
use Rattle.plcr_core.proofs.laws.groups_lie.Goals as goal

pub returns : goal.returns
returns c = record {
  found = λ bytes groups. groups_stand groups bytes;
  only = λ bytes groups. groups_found groups bytes;
}
