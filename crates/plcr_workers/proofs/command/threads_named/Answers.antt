use Rattle.std.proofs.Common.{arith}
use Rattle.plcr_command.specs.Jobs.{JobMisread, job_files, texts}
use Rattle.plcr_command.proofs.Takings.{still_refused}
use Rattle.plcr_workers.specs.declared.command.TheConstants.{SIDE_BY_SIDE}
use Rattle.plcr_workers.proofs.Apart.{job_apart}
use Rattle.plcr_workers.proofs.Runnable.{job_runnable}
use Rattle.plcr_workers.proofs.Wholly.{run_whole}
use Rattle.plcr_workers.proofs.Commanded.{run_left, run_tells, threads_run}
use Rattle.plcr_workers.proofs.Told.{run_keeps}
use Rattle.plcr_workers.proofs.command.threads_named.Goals as goal

pub run_job-requires-clause-scripts : goal.run_job-requires-clause-scripts
run_job-requires-clause-scripts g c = λ κs within. let count = c.in-Ok.ensures.count in let some = c.requires.scripts.0 in let few = c.requires.scripts.1 in (omega (arith, count, some), omega (arith, count, few))

pub run_job-requires-clause-apart : goal.run_job-requires-clause-apart
run_job-requires-clause-apart g c = λ κs within. job_apart SIDE_BY_SIDE c.in-Ok.ensures.read.contents c.in-Ok.job c.in-Ok.ensures.read.read

pub returns-in-Ok-clause-did : goal.returns-in-Ok-clause-did
returns-in-Ok-clause-did g c =
    threads_run c.args.core.now (texts c.args.scripts.now) c.in-Ok.job c.run_job.new.past c.run_job.result (g.D.Desk.told c.args.desk.now) (g.D.Desk.told c.read_job.new.desk) (g.D.Desk.told c.run_job.new.desk) (g.L.Sink.written c.args.lines.now) (g.L.Sink.written c.run_job.new.lines) (g.L.Sink.faults c.args.lines.now) (g.L.Sink.faults c.run_job.new.lines)
    c.in-Ok.ensures.read c.read_job.ensures.nothing c.run_job.ensures.goes_on.desk.taken c.run_job.ensures.ends

pub returns-in-Ok-clause-leaves : goal.returns-in-Ok-clause-leaves
returns-in-Ok-clause-leaves g c =
    run_left c.args.core.now (texts c.args.scripts.now) c.in-Ok.job c.run_job.new.past c.run_job.result (g.D.Desk.told c.args.desk.now) (g.D.Desk.told c.read_job.new.desk) (g.D.Desk.told c.run_job.new.desk) (g.L.Sink.written c.args.lines.now) (g.L.Sink.written c.run_job.new.lines) (g.L.Sink.faults c.args.lines.now) (g.L.Sink.faults c.run_job.new.lines)
    c.in-Ok.ensures.read c.run_job.ensures.goes_on.desk.taken c.run_job.ensures.ends

pub returns-in-Ok-clause-tells : goal.returns-in-Ok-clause-tells
returns-in-Ok-clause-tells g c =
    run_tells c.args.core.now (texts c.args.scripts.now) c.in-Ok.job c.run_job.new.past c.run_job.result (g.D.Desk.told c.args.desk.now) (g.D.Desk.told c.read_job.new.desk) (g.D.Desk.told c.run_job.new.desk) (g.L.Sink.written c.args.lines.now) (g.L.Sink.written c.run_job.new.lines) (g.L.Sink.faults c.args.lines.now) (g.L.Sink.faults c.run_job.new.lines)
    c.in-Ok.ensures.read c.read_job.ensures.nothing c.run_job.ensures.goes_on.desk.taken c.run_job.ensures.ends

pub returns-in-Err-clause-did : goal.returns-in-Err-clause-did
returns-in-Err-clause-did g c = record {
  cause = still_refused (JobMisread SIDE_BY_SIDE) (job_files c.args.core.now (texts c.args.scripts.now)) c.in-Err.refusal c.refuse.result (g.D.Desk.told c.args.desk.now) (g.D.Desk.told c.read_job.new.desk) c.in-Err.ensures.read c.refuse.ensures.refusal;
  nothing = c.read_job.ensures.nothing;
  printed = c.refuse.ensures.printed;
  silent = c.refuse.ensures.silent;
}

pub returns-in-Ok-clause-ran : goal.returns-in-Ok-clause-ran
returns-in-Ok-clause-ran g c =
    run_whole c.args.core.now (texts c.args.scripts.now) c.in-Ok.job c.run_job.new.past c.run_job.result (g.D.Desk.told c.args.desk.now) (g.D.Desk.told c.read_job.new.desk) (g.D.Desk.told c.run_job.new.desk) (g.L.Sink.written c.args.lines.now) (g.L.Sink.written c.run_job.new.lines) (g.L.Sink.faults c.args.lines.now) (g.L.Sink.faults c.run_job.new.lines)
    c.in-Ok.ensures.read c.read_job.ensures.nothing c.run_job.ensures.goes_on.desk.taken (job_runnable c.in-Ok.ensures.read.contents c.in-Ok.job c.in-Ok.ensures.read.read) c.run_job.ensures.ran

pub returns-in-Ok-clause-kept : goal.returns-in-Ok-clause-kept
returns-in-Ok-clause-kept g c =
    run_keeps c.args.core.now (texts c.args.scripts.now) c.in-Ok.job c.run_job.new.past c.run_job.result (g.D.Desk.told c.args.desk.now) (g.D.Desk.told c.read_job.new.desk) (g.D.Desk.told c.run_job.new.desk) (g.L.Sink.written c.args.lines.now) (g.L.Sink.written c.run_job.new.lines) (g.L.Sink.faults c.args.lines.now) (g.L.Sink.faults c.run_job.new.lines)
    c.in-Ok.ensures.read c.read_job.ensures.nothing c.run_job.ensures.goes_on.desk.taken c.run_job.ensures.kept
