use Rattle.std.proofs.Common.{◌≡◌, ◌≤◌, length, take}
use Rattle.plcr_script.specs.Reading.{files_of}
use Rattle.plcr_workers.proofs.crew.reports_of.Given as goal

abbrev pub invariant-loop-at : goal.invariant-loop-at
invariant-loop-at l = record {
  count : l.count ≡ length (files_of (take l.at l.script.statements));
  few : l.count ≤ l.at;
}
