use Rattle.std.proofs.Common.{◌≡◌, cond, drop}
use Rattle.std.specs.Option.{option_map}
use Rattle.plcr_machine.specs.Walks.{first_of_list, next_in}
use Rattle.plcr_machine.specs.Changes.{load_of}
use Rattle.plcr_machine.proofs.plain.walks.next_in.Given as goal

abbrev pub invariant-loop-image : goal.invariant-loop-image
invariant-loop-image l = option_map load_of (next_in load_of l.load l.list) ≡ cond l.found (option_map load_of (first_of_list load_of (drop l.image-index l.list))) (option_map load_of (next_in load_of l.load (drop l.image-index l.list)))
