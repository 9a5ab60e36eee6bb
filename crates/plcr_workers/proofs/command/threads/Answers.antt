use Rattle.std.proofs.Common.{ℕ, List, length, map, refl, ap, subst, ◌∙◌, arith}
use Rattle.std.specs.Prelude.{string_bytes}
use Rattle.plcr_command.specs.Jobs.{texts}
use Rattle.plcr_command.specs.Seen.{seen}
use Rattle.plcr_workers.specs.Command.{Threads}
use Rattle.plcr_workers.specs.inner.Stages.{LeavesBy, TellsBy, WholeIn}
use Rattle.plcr_workers.proofs.Commanded.{wants_first}
use Rattle.plcr_workers.specs.inner.Stages.{KeptIn}
use Rattle.plcr_workers.proofs.command.threads.Goals as goal

pub threads_named-requires-clause-scripts : goal.threads_named-requires-clause-scripts
threads_named-requires-clause-scripts g c = λ κs within.
    let lent = ap length c.as_slice-lent.ensures.value in let count = c.in-Ok.ensures.count in let some = c.requires.scripts.0 in let few = c.requires.scripts.1 in (omega (arith, lent, count, some), omega (arith, lent, count, few))

pub returns-in-Ok-clause-did : goal.returns-in-Ok-clause-did
returns-in-Ok-clause-did g c =
    subst (λ (names : List (List ℕ)). Threads c.args.core.now names (seen (g.D.Desk.told c.args.desk.now) (g.L.Sink.written c.args.lines.now) (g.L.Sink.faults c.args.lines.now))
    (seen (g.D.Desk.told c.threads_named.new.desk) (g.L.Sink.written c.threads_named.new.lines) (g.L.Sink.faults c.threads_named.new.lines)) c.threads_named.result) (ap texts c.as_slice-lent.ensures.value ∙ c.in-Ok.ensures.names) c.threads_named.ensures.did

pub returns-in-Ok-clause-leaves : goal.returns-in-Ok-clause-leaves
returns-in-Ok-clause-leaves g c =
    subst (λ (names : List (List ℕ)). LeavesBy c.args.core.now names (seen (g.D.Desk.told c.args.desk.now) (g.L.Sink.written c.args.lines.now) (g.L.Sink.faults c.args.lines.now))
    (seen (g.D.Desk.told c.threads_named.new.desk) (g.L.Sink.written c.threads_named.new.lines) (g.L.Sink.faults c.threads_named.new.lines)) c.threads_named.new.past c.threads_named.result) (ap texts c.as_slice-lent.ensures.value ∙ c.in-Ok.ensures.names) c.threads_named.ensures.leaves

pub returns-in-Ok-clause-tells : goal.returns-in-Ok-clause-tells
returns-in-Ok-clause-tells g c =
    subst (λ (names : List (List ℕ)). TellsBy c.args.core.now names (seen (g.D.Desk.told c.args.desk.now) (g.L.Sink.written c.args.lines.now) (g.L.Sink.faults c.args.lines.now))
    (seen (g.D.Desk.told c.threads_named.new.desk) (g.L.Sink.written c.threads_named.new.lines) (g.L.Sink.faults c.threads_named.new.lines)) c.threads_named.new.past c.threads_named.result) (ap texts c.as_slice-lent.ensures.value ∙ c.in-Ok.ensures.names) c.threads_named.ensures.tells

pub returns-in-Err-clause-did : goal.returns-in-Err-clause-did
returns-in-Err-clause-did g c = wants_first c.args.core.now (map string_bytes c.args.scripts.now) (seen (g.D.Desk.told c.args.desk.now) (g.L.Sink.written c.args.lines.now) (g.L.Sink.faults c.args.lines.now))

pub returns-in-Err-clause-goes : goal.returns-in-Err-clause-goes
returns-in-Err-clause-goes g c = record { files = refl; take_faults = omega arith; out_faults = omega arith; line_faults = omega arith }

pub returns-in-Ok-clause-ran : goal.returns-in-Ok-clause-ran
returns-in-Ok-clause-ran g c =
    subst (λ (names : List (List ℕ)). WholeIn c.args.core.now names (seen (g.D.Desk.told c.args.desk.now) (g.L.Sink.written c.args.lines.now) (g.L.Sink.faults c.args.lines.now))
    (seen (g.D.Desk.told c.threads_named.new.desk) (g.L.Sink.written c.threads_named.new.lines) (g.L.Sink.faults c.threads_named.new.lines)) c.threads_named.new.past c.threads_named.result) (ap texts c.as_slice-lent.ensures.value ∙ c.in-Ok.ensures.names) c.threads_named.ensures.ran

pub returns-in-Ok-clause-kept : goal.returns-in-Ok-clause-kept
returns-in-Ok-clause-kept g c =
    subst (λ (names : List (List ℕ)). KeptIn c.args.core.now names (seen (g.D.Desk.told c.args.desk.now) (g.L.Sink.written c.args.lines.now) (g.L.Sink.faults c.args.lines.now))
    (seen (g.D.Desk.told c.threads_named.new.desk) (g.L.Sink.written c.threads_named.new.lines) (g.L.Sink.faults c.threads_named.new.lines)) c.threads_named.new.past c.threads_named.result) (ap texts c.as_slice-lent.ensures.value ∙ c.in-Ok.ensures.names) c.threads_named.ensures.kept
