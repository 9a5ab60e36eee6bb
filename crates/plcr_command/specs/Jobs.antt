-- Cores and the scripts that are run on them: what a command reads before its run.
use Rattle.std.specs.Prelude.{◌≡◌, ◌≢◌, ◌+◌, ℕ, List, [], ◌∷◌, ◌++◌, Result, Ok, Err, All, length, map}
use denote.Ref.{Bor}
use Rattle.plcr_base.specs.Bytes.{IsBytes}
use Rattle.plcr_base.specs.Chains.{◌>>=◌}
use Rattle.plcr_core.specs.declared.fault.CoreFault.{CoreFault}
use Rattle.plcr_core.specs.declared.fault.CoreFault.TheVariants as cores
use Rattle.plcr_core.specs.declared.read.Core.{Core}
use Rattle.plcr_core.specs.Cores.{AreThreads, parts_in}
use Rattle.plcr_core.specs.Reading.{IsAnswer}
use Rattle.plcr_script.specs.declared.modes.Mode.{Mode}
use Rattle.plcr_script.specs.Lawful.{IsLawful}
use Rattle.plcr_script.specs.Reading.{script_in}
use Rattle.plcr_script.specs.Refusals.{Refusal as Line}
use Rattle.plcr_script.specs.Scripts.{ScriptValue}
use Rattle.plcr_command.specs.declared.jobs.Job.{Job}
use Rattle.plcr_command.specs.declared.jobs.Modes.{Modes}
use Rattle.plcr_command.specs.declared.refusals.Refusal.{Refusal}
use Rattle.plcr_command.specs.declared.refusals.Refusal.TheVariants.{CoreRefused, ScriptRefused, OutOfMemory}
use Rattle.plcr_command.specs.Files.{File, core_file, script_file}

-- texts that are lent
abbrev pub texts : List (Bor (List ℕ)) → List (List ℕ)
texts lent = map (λ text. text.now) lent

-- the files of a core and of scripts, in the order in which they are taken
abbrev pub job_files : List ℕ → List (List ℕ) → List File
job_files core scripts = core_file core ∷ map script_file scripts

-- bytes are a core; read_core's contract says what that is
abbrev pub IsCore : List ℕ → Core → Type 0
IsCore bytes core = IsAnswer bytes (parts_in bytes) (Ok core)

-- bytes are no core, and this is their first fault
pub record IsNoCore (bytes : List ℕ) (fault : CoreFault) : Type 0 where
  pub first : IsAnswer bytes (parts_in bytes) (Err fault)
  pub no_want : fault ≢ cores.Memory

-- the number of a refused script, from 1, with its first refused line and that line's kind
pub record RefusedScript : Type 0 where
  pub script : ℕ
  pub line : ℕ
  pub kind : ℕ

-- the script, or its refusal with its number
abbrev pub numbered : ℕ → Result ScriptValue Line → Result ScriptValue RefusedScript
numbered number (Ok script) = Ok script
numbered number (Err refusal) =
    Err (record { script = number; line = refusal.line; kind = refusal.kind })

-- what the bytes of scripts mean, behind these: all the scripts, or the first that is refused. The
-- first of them is read in the one mode, the others in the other
unfoldable pub scripts_from : Mode → Mode → List ScriptValue → List (List ℕ) →
    Result (List ScriptValue) RefusedScript
scripts_from mode later before [] = Ok before
scripts_from mode later before (bytes ∷ others) =
    numbered (length before + 1) (script_in mode before bytes) >>= λ script.
    scripts_from later later (before ++ script ∷ []) others

abbrev pub scripts_in : Modes → List (List ℕ) → Result (List ScriptValue) RefusedScript
scripts_in modes contents = scripts_from modes.first modes.later [] contents

-- the first file holds a core, and the others hold scripts
abbrev pub IsJob : Modes → List (List ℕ) → Job → Type 0
IsJob modes [] job = ⊥
IsJob modes (core_bytes ∷ contents) job = IsCore core_bytes job.core
    × (scripts_in modes contents ≡ Ok job.scripts)

-- what the bytes of scripts are refused for
abbrev pub ScriptsMisread : Modes → List (List ℕ) → Refusal → Type 0
ScriptsMisread modes contents (ScriptRefused script line kind) =
    scripts_in modes contents ≡ Err (record { script = script; line = line; kind = kind })
ScriptsMisread modes contents OutOfMemory = Unit {0}
ScriptsMisread modes contents refusal = ⊥

-- what a core and scripts are refused for; the faults of the scripts count where the first file is
-- a core
abbrev pub JobMisread : Modes → List (List ℕ) → Refusal → Type 0
JobMisread modes (core_bytes ∷ contents) (CoreRefused fault) = IsNoCore core_bytes fault
JobMisread modes (core_bytes ∷ contents) (ScriptRefused script line kind) =
    (core : Core) × IsCore core_bytes core
    × ScriptsMisread modes contents (ScriptRefused script line kind)
JobMisread modes (core_bytes ∷ contents) OutOfMemory = Unit {0}
JobMisread modes contents refusal = ⊥

-- the first file is no core
abbrev pub HasNoCore : List (List ℕ) → Type 0
HasNoCore [] = ⊥
HasNoCore (core_bytes ∷ contents) = (fault : CoreFault) × IsNoCore core_bytes fault

-- the first file is a core, and one of the others is no script
abbrev pub HasNoScript : Modes → List (List ℕ) → Type 0
HasNoScript modes [] = ⊥
HasNoScript modes (core_bytes ∷ contents) = (core : Core) × IsCore core_bytes core
    × ((refused : RefusedScript) × (scripts_in modes contents ≡ Err refused))

-- the threads of the core can be written, its memory is over bytes, and its scripts are within
-- their limits
pub record IsLawfulJob (job : Job) : Type 0 where
  pub threads : AreThreads job.core.arch job.core.threads
  pub bytes : IsBytes job.core.memory.file
  pub scripts : All IsLawful job.scripts
