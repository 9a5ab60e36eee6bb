use Rattle.std.proofs.Common.{List, All, length, sym, ap, subst, arith}
use Rattle.plcr_script.specs.Lawful.{IsLawful}
use Rattle.plcr_script.specs.Scripts.{ScriptValue}
use Rattle.plcr_command.specs.Seen.{seen}
use Rattle.plcr_workers.specs.inner.Own.{HaveOwnLines}
use Rattle.plcr_workers.specs.inner.Stages.{RunEnds, WholeBy, job_of}
use Rattle.plcr_workers.specs.inner.Stages.{KeptBy}
use Rattle.plcr_workers.proofs.command.run_job.Goals as goal

pub open-requires-clause-some : goal.open-requires-clause-some
open-requires-clause-some g c = let lent = ap length c.as_slice-scripts.ensures in let some = c.requires.scripts.0 in omega (arith, lent, some)

pub open-requires-clause-few : goal.open-requires-clause-few
open-requires-clause-few g c = let lent = ap length c.as_slice-scripts.ensures in let few = c.requires.scripts.1 in omega (arith, lent, few)

pub run_stage-requires-clause-some : goal.run_stage-requires-clause-some
run_stage-requires-clause-some g c = let lent = ap length c.as_slice-scripts.ensures in let some = c.requires.scripts.0 in omega (arith, lent, some)

pub run_stage-requires-clause-few : goal.run_stage-requires-clause-few
run_stage-requires-clause-few g c = let lent = ap length c.as_slice-scripts.ensures in let few = c.requires.scripts.1 in omega (arith, lent, few)

pub run_stage-requires-clause-lawful : goal.run_stage-requires-clause-lawful
run_stage-requires-clause-lawful g c = λ κs within. record {
  threads = c.requires.lawful.threads;
  bytes = c.requires.lawful.bytes;
  scripts = subst (All IsLawful) (sym c.as_slice-scripts.ensures) c.requires.lawful.scripts;
}

pub run_stage-requires-clause-apart : goal.run_stage-requires-clause-apart
run_stage-requires-clause-apart g c = λ κs within. subst (All (λ (script : ScriptValue). HaveOwnLines script.statements)) (sym c.as_slice-scripts.ensures) c.requires.apart

pub returns-in-Ok-clause-ends : goal.returns-in-Ok-clause-ends
returns-in-Ok-clause-ends g c =
    subst (λ (scripts : List ScriptValue). RunEnds (job_of c.args.job.core scripts) (seen (g.D.Desk.told c.args.desk.now) (g.L.Sink.written c.args.lines.now) (g.L.Sink.faults c.args.lines.now))
    (seen (g.D.Desk.told c.run_stage.new.desk) (g.L.Sink.written c.run_stage.new.lines) (g.L.Sink.faults c.run_stage.new.lines)) c.run_stage.new.past c.run_stage.result) c.as_slice-scripts.ensures c.run_stage.ensures.ends

pub returns-in-Ok-clause-ran : goal.returns-in-Ok-clause-ran
returns-in-Ok-clause-ran g c =
    subst (λ (scripts : List ScriptValue). WholeBy (job_of c.args.job.core scripts) (seen (g.D.Desk.told c.args.desk.now) (g.L.Sink.written c.args.lines.now) (g.L.Sink.faults c.args.lines.now))
    (seen (g.D.Desk.told c.run_stage.new.desk) (g.L.Sink.written c.run_stage.new.lines) (g.L.Sink.faults c.run_stage.new.lines)) c.run_stage.new.past c.run_stage.result) c.as_slice-scripts.ensures c.run_stage.ensures.ran

pub returns-in-Ok-clause-kept : goal.returns-in-Ok-clause-kept
returns-in-Ok-clause-kept g c =
    subst (λ (scripts : List ScriptValue). KeptBy (job_of c.args.job.core scripts) (seen (g.D.Desk.told c.args.desk.now) (g.L.Sink.written c.args.lines.now) (g.L.Sink.faults c.args.lines.now))
    (seen (g.D.Desk.told c.run_stage.new.desk) (g.L.Sink.written c.run_stage.new.lines) (g.L.Sink.faults c.run_stage.new.lines)) c.run_stage.new.past c.run_stage.result) c.as_slice-scripts.ensures c.run_stage.ensures.kept
