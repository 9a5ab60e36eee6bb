-- The words of the command line: the command that they choose, and what the program does for them.
use Rattle.std.specs.Prelude.{◌≡◌, ℕ, ◌&&◌, List, [], ◌∷◌, Option, Some, None, length, codes, nat_le, if◌then◌else◌}
use Rattle.std.specs.Str.{bytes_eq}
use Rattle.plcr_base.specs.Told.{Prints}
use Rattle.plcr_command.specs.declared.endings.Ending.{Ending}
use Rattle.plcr_command.specs.declared.endings.Ending.TheVariants.{Misused}
use Rattle.plcr_command.specs.declared.limits.TheConstants.{MOST_SCRIPTS}
use Rattle.plcr_command.specs.Seen.{Seen}
use Rattle.plcr_command.specs.Endings.{Ended}
use Rattle.plcr_maker.specs.Numerals.{images_in}
use Rattle.plcr_maker.specs.Make.{Makes}
use Rattle.plcr_workers.specs.Command.{Threads}
use Rattle.plcr_tool.specs.Report.{Reports}
use Rattle.plcr_tool.specs.Show.{Shows}

-- the command that the words ask for; `Usage` where they fit no form
pub data Form : Type 0 where
  Report : (core script : List ℕ) → Form
  Show : (report : List ℕ) → Form
  Make : (images : ℕ) → (core script : List ℕ) → Form
  SideBySide : (core : List ℕ) → (scripts : List (List ℕ)) → Form
  Usage : Form

-- `make` of so many images, where the word tells how many
abbrev pub make_form : Option ℕ → (core script : List ℕ) → Form
make_form None core script = Usage
make_form (Some images) core script = Make images core script

-- `threads CORE SCRIPT...` has 1 to 64 scripts
abbrev pub threads_form : (core : List ℕ) → (scripts : List (List ℕ)) → Option Form
threads_form core scripts = if nat_le 1 (length scripts) && nat_le (length scripts) MOST_SCRIPTS
    then Some (SideBySide core scripts) else None

-- what the words ask for where the first is `threads`
abbrev pub threads_in : List (List ℕ) → Option Form
threads_in (word ∷ core ∷ scripts) = if bytes_eq word (codes "threads")
    then threads_form core scripts else None
threads_in words = None

-- `report CORE SCRIPT`, `show REPORT`, `make N CORE SCRIPT`
abbrev pub other_form : List (List ℕ) → Form
other_form (word ∷ report ∷ []) = if bytes_eq word (codes "show") then Show report else Usage
other_form (word ∷ core ∷ script ∷ []) = if bytes_eq word (codes "report") then Report core script
    else Usage
other_form (word ∷ number ∷ core ∷ script ∷ []) = if bytes_eq word (codes "make")
    then make_form (images_in number) core script else Usage
other_form words = Usage

abbrev pub form_or : Option Form → Form → Form
form_or None other = other
form_or (Some form) other = form

-- one of these four forms, and nothing else
abbrev pub form_of : List (List ℕ) → Form
form_of words = form_or (threads_in words) (other_form words)

-- the command forms, in one line
abbrev pub usage_line : List ℕ
usage_line = codes "usage: report CORE SCRIPT / show REPORT / make N CORE SCRIPT / threads CORE SCRIPT...\n"

-- the usage line was printed, and the desk wasn't touched
pub record IsMisused (old new : Seen) : Type 0 where
  pub desk : new.desk ≡ old.desk
  pub printed : Prints old.lines new.lines usage_line old.line_faults new.line_faults

-- what the program did for words of this form, where it ended so
abbrev pub Does : Form → Seen → Seen → Ending → Type 0
Does (Report core script) old new ending = Reports core script old new ending
Does (Show report) old new ending = Shows report old new ending
Does (Make images core script) old new ending = Makes images core script old new ending
Does (SideBySide core scripts) old new ending = Threads core scripts old new ending
Does Usage old new Misused = IsMisused old new
Does Usage old new ending = ⊥

-- what the program does for words of this form
abbrev pub FormDoes : Form → Seen → Seen → ℕ → Type 0
FormDoes form old new status = Ended (Does form old new) status old new

-- what the program does for its words
abbrev pub TopDoes : List (List ℕ) → Seen → Seen → ℕ → Type 0
TopDoes words old new status = FormDoes (form_of words) old new status
