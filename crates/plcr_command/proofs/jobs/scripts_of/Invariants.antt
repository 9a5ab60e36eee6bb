use Rattle.std.proofs.Common.{◌≡◌, All, drop, vec_len}
use Rattle.plcr_script.specs.Lawful.{IsLawful}
use Rattle.plcr_command.specs.Jobs.{scripts_from, scripts_in}
use Rattle.plcr_command.proofs.jobs.scripts_of.Given as goal

-- the scripts that are left, read behind those so far, are all scripts
abbrev pub invariant-loop-bytes : goal.invariant-loop-bytes
invariant-loop-bytes l = record {
  read : scripts_from l.mode l.modes.later l.scripts.items (drop l.bytes-index l.contents) ≡ scripts_in l.modes l.contents;
  count : vec_len l.scripts ≡ l.bytes-index;
  lawful : All IsLawful l.scripts.items;
}
