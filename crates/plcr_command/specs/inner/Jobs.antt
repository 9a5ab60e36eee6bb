-- What a core, and one script of several, is refused for.
use Rattle.std.specs.Prelude.{◌≡◌, ℕ, List, Err}
use Rattle.plcr_script.specs.declared.modes.Mode.{Mode}
use Rattle.plcr_script.specs.Reading.{script_in}
use Rattle.plcr_script.specs.Scripts.{ScriptValue}
use Rattle.plcr_command.specs.declared.refusals.Refusal.{Refusal}
use Rattle.plcr_command.specs.declared.refusals.Refusal.TheVariants.{CoreRefused, ScriptRefused, OutOfMemory}
use Rattle.plcr_command.specs.Jobs.{IsNoCore, numbered}

-- what the bytes of a core are refused for; want of memory has no cause
abbrev pub CoreMisread : List ℕ → Refusal → Type 0
CoreMisread bytes (CoreRefused fault) = IsNoCore bytes fault
CoreMisread bytes OutOfMemory = Unit {0}
CoreMisread bytes refusal = ⊥

-- what the bytes of the script of this number are refused for, behind these scripts
abbrev pub ScriptMisread : ℕ → Mode → List ScriptValue → List ℕ → Refusal → Type 0
ScriptMisread number mode before bytes (ScriptRefused script line kind) =
    numbered number (script_in mode before bytes)
    ≡ Err (record { script = script; line = line; kind = kind })
ScriptMisread number mode before bytes OutOfMemory = Unit {0}
ScriptMisread number mode before bytes refusal = ⊥
