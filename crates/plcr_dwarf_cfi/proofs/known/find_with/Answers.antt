use Rattle.plcr_dwarf_cfi.proofs.Stored.{stored_runs}
use Rattle.plcr_dwarf_cfi.proofs.known.find_with.Goals as goal

pub returns-in-Some-clause-known : goal.returns-in-Some-clause-known
returns-in-Some-clause-known c =
    stored_runs c.args.memory.now c.args.part.at c.args.part.size c.in-Some.bytes.now c.description_with.new.runs c.in-Some.ensures.bytes c.in-Some.ensures.within c.description_with.ensures.known
