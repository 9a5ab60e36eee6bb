-- What a take that fails means.
use Rattle.plcr_io.specs.declared.desks.TakeFault.{TakeFault}
use Rattle.plcr_io.specs.declared.desks.TakeFault.TheVariants as takes
use Rattle.plcr_command.specs.declared.files.FileWord.{FileWord}
use Rattle.plcr_command.specs.declared.refusals.Refusal.{Refusal}
use Rattle.plcr_command.specs.declared.refusals.Refusal.TheVariants.{CannotRead, TooLong, OutOfMemory}

-- what a fault of a take says of the command
abbrev pub refusal_of : FileWord → TakeFault → Refusal
refusal_of word takes.Failed = CannotRead word
refusal_of word (takes.TooLong limit) = TooLong word
refusal_of word takes.Memory = OutOfMemory
