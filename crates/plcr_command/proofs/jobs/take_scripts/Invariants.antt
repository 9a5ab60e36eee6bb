use Rattle.std.proofs.Common.{◌≡◌, ◌<◌, ◌^◌, All, List, ℕ, length, take, vec_len}
use Rattle.plcr_command.specs.Taking.{MadeNothing, TookAll}
use Rattle.plcr_command.proofs.Numbered.{files_of}
use Rattle.plcr_command.proofs.jobs.take_scripts.Given as goal

-- the scripts so far were taken
abbrev pub invariant-loop-script : goal.invariant-loop-script
invariant-loop-script g l = record {
  took : TookAll (files_of (take l.script-index l.scripts)) l.taken.items (g.D.Desk.told l.initial.desk) (g.D.Desk.told l.desk);
  count : vec_len l.taken ≡ l.script-index;
  short : All (λ (bytes : List ℕ). length bytes < 2 ^ 32) l.taken.items;
  nothing : MadeNothing (g.D.Desk.told l.initial.desk) (g.D.Desk.told l.desk);
}
