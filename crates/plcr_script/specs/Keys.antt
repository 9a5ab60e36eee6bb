-- The keys of descriptive values: their words, the limits of their numbers, and what each sets.
use Rattle.std.specs.Prelude.{ℕ, ◌^◌, List, Option, Some, None, ◌==◌, if◌then◌else◌, codes}
use Rattle.std.specs.Str.{bytes_eq}
use Rattle.plcr_script.specs.declared.keys.NumberKey.{NumberKey}
use Rattle.plcr_script.specs.declared.keys.NumberKey.TheVariants.{Os, Timestamp, Address, Pid, Ppid, Crashed, User, Bits}
use Rattle.plcr_script.specs.declared.keys.TextKey.{TextKey}
use Rattle.plcr_script.specs.declared.keys.TextKey.TheVariants.{OsVersion, Identifier, Version, Signal, Code, Process}
use Rattle.plcr_script.specs.declared.values.DescriptiveValues.{DescriptiveValues}

-- the key of a number by its word
abbrev pub number_key_in : List ℕ → Option NumberKey
number_key_in word =
    if bytes_eq word (codes "os") then Some Os else
    if bytes_eq word (codes "timestamp") then Some Timestamp else
    if bytes_eq word (codes "address") then Some Address else
    if bytes_eq word (codes "pid") then Some Pid else
    if bytes_eq word (codes "ppid") then Some Ppid else
    if bytes_eq word (codes "crashed") then Some Crashed else
    if bytes_eq word (codes "user") then Some User else
    if bytes_eq word (codes "bits") then Some Bits else None

-- the key of a text by its word
abbrev pub text_key_in : List ℕ → Option TextKey
text_key_in word =
    if bytes_eq word (codes "osversion") then Some OsVersion else
    if bytes_eq word (codes "identifier") then Some Identifier else
    if bytes_eq word (codes "version") then Some Version else
    if bytes_eq word (codes "signal") then Some Signal else
    if bytes_eq word (codes "code") then Some Code else
    if bytes_eq word (codes "process") then Some Process else None

-- the least number of a key
abbrev pub least_of : NumberKey → ℕ
least_of Os = 0
least_of Timestamp = 0
least_of Address = 0
least_of Pid = 0
least_of Ppid = 0
least_of Crashed = 0
least_of User = 0
least_of Bits = 32

-- one past the greatest number of a key
abbrev pub limit_of : NumberKey → ℕ
limit_of Os = 3
limit_of Timestamp = 2 ^ 63
limit_of Address = 2 ^ 64
limit_of Pid = 2 ^ 32
limit_of Ppid = 2 ^ 32
limit_of Crashed = 2 ^ 32
limit_of User = 2
limit_of Bits = 65

-- the values with another number for a key; for `user` 1 is yes
abbrev pub with_number : NumberKey → ℕ → DescriptiveValues → DescriptiveValues
with_number Os number values = record values { os = number }
with_number Timestamp number values = record values { timestamp = number }
with_number Address number values = record values { address = number }
with_number Pid number values = record values { pid = number }
with_number Ppid number values = record values { ppid = number }
with_number Crashed number values = record values { crashed = number }
with_number User number values = record values { user = number == 1 }
with_number Bits number values = record values { bits = number }

-- the values with another text for a key
abbrev pub with_text : TextKey → List ℕ → DescriptiveValues → DescriptiveValues
with_text OsVersion text values = record values { os_version = text }
with_text Identifier text values = record values { identifier = text }
with_text Version text values = record values { version = text }
with_text Signal text values = record values { signal = text }
with_text Code text values = record values { code = text }
with_text Process text values = record values { process = text }
