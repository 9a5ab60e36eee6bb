use Rattle.std.proofs.Common.{refl}
use Rattle.plcr_script.specs.Reading.{is_named}
use Rattle.plcr_script.proofs.names.names_of.Goals as goal

pub loop-script-init : goal.loop-script-init
unfolding is_named
loop-script-init c = λ name. rw c.new-names.ensures.empty refl
