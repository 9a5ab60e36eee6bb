-- How what was made is handed out, and what is left then, by the ending.
use Rattle.std.specs.Prelude.{◌≡◌, ℕ, List, Option, None}
use Rattle.plcr_imagelist.specs.States.{WriterState}
use Rattle.plcr_io.specs.MemFiles.{File}
use Rattle.plcr_command.specs.declared.endings.Ending.{Ending}
use Rattle.plcr_command.specs.declared.endings.Ending.TheVariants.{Done, Stopped, Refused, Misused}
use Rattle.plcr_command.specs.Seen.{Seen}
use Rattle.plcr_command.specs.Endings.{HasKept}
use Rattle.plcr_maker.specs.Make.{StopsIn, MadeLeft}

-- the files were kept and the line printed, or not all of that
abbrev pub HandsOut : (files : List File) → (line : List ℕ) → Seen → Seen → Ending → Type 0
HandsOut files line old new Done = HasKept files line old new
HandsOut files line old new Stopped = StopsIn files line old new
HandsOut files line old new ending = ⊥

-- the writer of the run, where there was one
abbrev pub LeavesBy : (images : ℕ) → Option WriterState → Ending → Type 0
LeavesBy images past Done = MadeLeft images past
LeavesBy images past Stopped = MadeLeft images past
LeavesBy images past (Refused refusal) = past ≡ None
LeavesBy images past Misused = past ≡ None
