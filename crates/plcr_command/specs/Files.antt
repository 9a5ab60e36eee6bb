-- The files that a command reads, by the words that name them.
use Rattle.std.specs.Prelude.{ℕ, List, map}
use Rattle.plcr_command.specs.declared.files.FileWord.{FileWord}
use Rattle.plcr_command.specs.declared.limits.TheConstants.{CORE_LIMIT, SCRIPT_LIMIT, REPORT_LIMIT}

-- a file that a command reads: its name, and the most bytes that it may have
pub record File : Type 0 where
  pub name : List ℕ
  pub limit : ℕ

-- the file that a word of the command names
abbrev pub named : FileWord → File
named word = record { name = word.name.now; limit = word.limit }

-- the core, the script and the report of a name
abbrev pub core_file : List ℕ → File
core_file name = record { name = name; limit = CORE_LIMIT }

abbrev pub script_file : List ℕ → File
script_file name = record { name = name; limit = SCRIPT_LIMIT }

abbrev pub report_file : List ℕ → File
report_file name = record { name = name; limit = REPORT_LIMIT }

-- the names of some files
abbrev pub names_of : List File → List (List ℕ)
names_of files = map (λ file. file.name) files
