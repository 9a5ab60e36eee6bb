-- What `threads CORE SCRIPT...` has done, by its status, if it returns; and what it answers where
-- its files are told and no count of faults rises.
use Rattle.std.specs.Prelude.{◌≡◌, ◌⊎◌, ℕ, List, Option, None}
use Rattle.plcr_base.specs.Causes.{Rose}
use Rattle.plcr_core.specs.declared.fault.CoreFault.{CoreFault}
use Rattle.plcr_imagelist.specs.States.{WriterState}
use Rattle.plcr_command.specs.declared.jobs.Job.{Job}
use Rattle.plcr_command.specs.declared.refusals.Refusal.TheVariants.{CoreRefused, ScriptRefused}
use Rattle.plcr_command.specs.Seen.{Seen}
use Rattle.plcr_command.specs.Taking.{TookAll}
use Rattle.plcr_command.specs.Jobs.{IsJob, JobMisread, HasNoCore, HasNoScript, job_files}
use Rattle.plcr_command.specs.Complete.{CanBeTaken, ComesWhere, LongFilesAreRefused}
use Rattle.plcr_command.specs.Endings.{HasRead}
use Rattle.plcr_workers.specs.declared.command.TheConstants.{SIDE_BY_SIDE}
use Rattle.plcr_workers.specs.Command.{AllKept, HasStopped, LeftByScripts, ThreadsDoes, ThreadsLeave, ThreadsKept, ThreadsRan, ThreadsTell}
use Rattle.plcr_tool.specs.Headline.{TopTellsTruly}
use Rattle.plcr_tool.specs.Past.{TopLeaves}
use Rattle.plcr_tool.specs.Statuses.{CannotTake, IsNone, WantsMemory}
use Rattle.plcr_tool.specs.Top.{SideBySide, TopDoes, form_of}

-- 3: the first file is no core. 4: it is one, and one of the others is no script
abbrev pub NoCore : List ℕ → List (List ℕ) → Seen → Seen → Type 0
NoCore core scripts old new =
    (fault : CoreFault)
    × IsNone (JobMisread SIDE_BY_SIDE) (job_files core scripts) (CoreRefused fault) old new

abbrev pub NoScript : List ℕ → List (List ℕ) → Seen → Seen → Type 0
NoScript core scripts old new =
    (number : ℕ) × (line : ℕ) × (kind : ℕ)
    × IsNone (JobMisread SIDE_BY_SIDE) (job_files core scripts) (ScriptRefused number line kind) old
    new

abbrev pub ThreadsIs : List ℕ → List (List ℕ) → Seen → Seen → Option WriterState → ℕ → Type 0
ThreadsIs core scripts old new past status =
    ((status ≡ 0) × HasRead (IsJob SIDE_BY_SIDE) (job_files core scripts) AllKept old new
    × LeftByScripts core scripts old new past)
    ⊎ ((status ≡ 2) × CannotTake (job_files core scripts) old new × (past ≡ None))
    ⊎ ((status ≡ 3) × NoCore core scripts old new × (past ≡ None))
    ⊎ ((status ≡ 4) × NoScript core scripts old new × (past ≡ None))
    ⊎ ((status ≡ 5) × HasRead (IsJob SIDE_BY_SIDE) (job_files core scripts) HasStopped old new
    × LeftByScripts core scripts old new past)
    ⊎ ((status ≡ 7) × WantsMemory (job_files core scripts) old new × (past ≡ None))

-- what the contract of the command says, read by the status
abbrev pub ThreadsByStatus : Type 0
ThreadsByStatus =
    (core : List ℕ) → (scripts : List (List ℕ)) → (old new : Seen) → (past : Option WriterState) →
    (status : ℕ)
    → ThreadsDoes core scripts old new status → ThreadsLeave core scripts old new past status
    → ThreadsIs core scripts old new past status

-- on a core and scripts: all are taken, and all files are made and kept and a log is printed, or
-- memory is wanting
abbrev pub ThreadsAreComplete : Type 0
ThreadsAreComplete =
    (core : List ℕ) → (scripts : List (List ℕ)) → (contents : List (List ℕ)) → (job : Job)
    → (old new : Seen) → (status : ℕ)
    → CanBeTaken (job_files core scripts) contents old.desk new.desk
    → IsJob SIDE_BY_SIDE contents job
    → ¬ Rose old.desk.out_faults new.desk.out_faults
    → ¬ Rose old.line_faults new.line_faults
    → ThreadsDoes core scripts old new status
    → ((status ≡ 0) × TookAll (job_files core scripts) contents old.desk new.desk
    × AllKept job old new)
    ⊎ (status ≡ 7)

-- it refuses the core exactly where it is none
abbrev pub ThreadsRefuseCores : Type 0
ThreadsRefuseCores =
    (core : List ℕ) → (scripts : List (List ℕ))
    → ComesWhere 3 (job_files core scripts) HasNoCore (ThreadsDoes core scripts)

-- it refuses a script exactly where one is none and the core is one
abbrev pub ThreadsRefuseScripts : Type 0
ThreadsRefuseScripts =
    (core : List ℕ) → (scripts : List (List ℕ))
    → ComesWhere 4 (job_files core scripts) (HasNoScript SIDE_BY_SIDE) (ThreadsDoes core scripts)

-- it refuses the first of its files that is too long
abbrev pub ThreadsRefuseLong : Type 0
ThreadsRefuseLong =
    (core : List ℕ) → (scripts : List (List ℕ))
    → LongFilesAreRefused (job_files core scripts) (ThreadsDoes core scripts)

-- words of the form `threads CORE SCRIPT...` do what that command does
abbrev pub WordsThreads : Type 0
WordsThreads =
    (words : List (List ℕ)) → (core : List ℕ) → (scripts : List (List ℕ)) → (old new : Seen) →
    (status : ℕ)
    → form_of words ≡ SideBySide core scripts → TopDoes words old new status
    → ThreadsDoes core scripts old new status

-- they leave what it leaves
abbrev pub WordsLeaveAsThreads : Type 0
WordsLeaveAsThreads =
    (words : List (List ℕ)) → (core : List ℕ) → (scripts : List (List ℕ)) → (old new : Seen)
    → (past : Option WriterState) → (status : ℕ) → form_of words ≡ SideBySide core scripts
    → TopLeaves words old new past status → ThreadsLeave core scripts old new past status

-- and the headline tells of them what it tells of that command
abbrev pub WordsTellAsThreads : Type 0
WordsTellAsThreads =
    (words : List (List ℕ)) → (core : List ℕ) → (scripts : List (List ℕ)) → (old new : Seen)
    → (past : Option WriterState) → (status : ℕ) → form_of words ≡ SideBySide core scripts
    → TopTellsTruly words old new past status
    → ThreadsTell core scripts old new past status × ThreadsRan core scripts old new past status
    × ThreadsKept core scripts old new past status
