-- The headline: what the captures of a run leave, whatever script of loads, unloads and captures is
-- run on whatever core.
use Rattle.std.specs.Prelude.{◌≡◌, ◌⊎◌, ℕ, ◌≤◌, List, [], ◌∷◌, ◌++◌, All, Option, Ok, length}
use Rattle.plcr_base.specs.Causes.{Rose}
use Rattle.plcr_base.specs.Told.{Gains}
use Rattle.plcr_machine.specs.declared.entry.Entry.TheVariants.{Leave}
use Rattle.plcr_machine.specs.declared.change.Named.{Named}
use Rattle.plcr_machine.specs.Histories.{IsHistory}
use Rattle.plcr_machine.specs.Holds.{IsKept}
use Rattle.plcr_machine.specs.Changes.{load_of, list_after_changes}
use Rattle.plcr_machine.specs.Events.{Event, Noted, changes_in, events_of}
use Rattle.plcr_machine.specs.Walks.{IsLawfulWalk}
use Rattle.plcr_encode.specs.Values.{process_report}
use Rattle.plcr_decode.specs.Reads.{reads}
use Rattle.plcr_imagelist.specs.States.{WriterState}
use Rattle.plcr_core.specs.declared.read.Core.{Core}
use Rattle.plcr_script.specs.Scripts.{ScriptValue}
use Rattle.plcr_script.specs.Reading.{files_of}
use Rattle.plcr_script.specs.Contexts.{context_of}
use Rattle.plcr_script.specs.RunTurns.{listed}
use Rattle.plcr_script.specs.RunLaws.{Follows, changes_before}
use Rattle.plcr_command.specs.declared.jobs.Job.{Job}
use Rattle.plcr_command.specs.Seen.{Seen}
use Rattle.plcr_command.specs.Jobs.{IsJob}
use Rattle.plcr_command.specs.Endings.{HasRead, kept_names}
use Rattle.plcr_run.specs.Past.{HasMetAll}
use Rattle.plcr_workers.specs.Command.{ThreadsKept, ThreadsRan, ThreadsTell}
use Rattle.plcr_tool.specs.declared.report.TheConstants.{ALONE}
use Rattle.plcr_tool.specs.Report.{report_files}
use Rattle.plcr_tool.specs.Top.{Form, Report, Show, Make, SideBySide, Usage, form_of}

-- A file tells truly of the core's process and of what happened on the image list. There was a hold
-- of a pass, in which the images were met by a lawful walk through the lists that the changes made:
-- from the list as the pass entered to one that stood before it left. The numbers of their loads
-- rise; each was in one of those lists; each that was in all of them is there; and where the list
-- did not change, they are the list. The file decodes to the report that has each thread's
-- registers, the frames that the unwinding rules give for them, and these images.
pub record TellsTruly (core : Core) (script : ScriptValue) (happened : List Event) (file : List ℕ
    × List ℕ) : Type 0 where
  pub pass : ℕ
  pub inside : List Event
  pub hold : Follows (Noted (Leave pass) ∷ inside) happened
  pub met : List Named
  pub end : ℕ
  pub within : end ≤ length (changes_in inside)
  pub lawful : IsLawfulWalk load_of (list_after_changes (changes_in happened))
      (changes_before pass inside) end met
  pub decodes : reads file.1
      ≡ Ok (process_report (context_of script core.arch) core.threads core.memory (listed met))

-- a count of faults rose: that of the outputs of the desk, or that of the sink of the lines
abbrev pub SinkFailed : Seen → Seen → Type 0
SinkFailed old new =
    Rose old.desk.out_faults new.desk.out_faults ⊎ Rose old.line_faults new.line_faults

-- What a run of the job's script came to.
pub record RanTruly (past : Option WriterState) (status : ℕ) (job : Job) (old new : Seen) : Type 0
  where
    pub script : ScriptValue
    pub alone : job.scripts ≡ script ∷ []
    -- the one history of the list that was opened for the run: its writer has met every pass
    pub writer : WriterState
    pub all : HasMetAll script past writer
    pub history : IsHistory script.nodes script.passes writer.history writer.names
    -- no node that a reader inside can reach is given again
    pub kept : IsKept writer.history
    -- each capture returned, and its file was kept, in the order of the script; unless the count of
    -- faults of a sink rose
    pub files : List (List ℕ × List ℕ)
    pub gained : Gains old.desk.kept new.desk.kept files
    pub others : List (List ℕ)
    pub each : files_of script.statements ≡ kept_names files ++ others
    pub whole : status ≡ 0 → others ≡ []
    pub unless : status ≡ 5 → SinkFailed old new
    -- each file tells truly of this history
    pub truly : All (TellsTruly job.core script (events_of writer.names writer.history)) files

-- For every core and every script of loads, unloads and captures, in which a change may stand
-- frozen between any two of its steps: where the run began, it ended so. No capture takes memory,
-- since none is passed an allocator
abbrev pub ReportsTellTruly : List ℕ → List ℕ → Seen → Seen → Option WriterState → ℕ → Type 0
ReportsTellTruly core script old new past status =
    (status ≡ 0) ⊎ (status ≡ 5)
    → HasRead (IsJob ALONE) (report_files core script) (RanTruly past status) old new

-- The same for the words of the command line. Of scripts side by side it tells that the journal and
-- the history are one another's; and where all was done, that the other lines and the files are
-- those of runs of the scripts over this history
abbrev pub FormTellsTruly : Form → Seen → Seen → Option WriterState → ℕ → Type 0
FormTellsTruly (Report core script) old new past status =
    ReportsTellTruly core script old new past status
FormTellsTruly (Show report) old new past status = Unit {0}
FormTellsTruly (Make images core script) old new past status = Unit {0}
FormTellsTruly (SideBySide core scripts) old new past status =
    ThreadsTell core scripts old new past status × ThreadsRan core scripts old new past status
    × ThreadsKept core scripts old new past status
FormTellsTruly Usage old new past status = Unit {0}

abbrev pub TopTellsTruly : List (List ℕ) → Seen → Seen → Option WriterState → ℕ → Type 0
TopTellsTruly words old new past status = FormTellsTruly (form_of words) old new past status
