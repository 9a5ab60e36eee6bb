use Rattle.std.proofs.Common.{None, subst}
use Rattle.plcr_io.specs.MemDesk.{contents, tells}
use Rattle.plcr_script.specs.Contexts.{context_of}
use Rattle.plcr_script.specs.Meanings.{Meanings}
use Rattle.plcr_script.proofs.SameContexts.{same_writable}
use Rattle.plcr_command.specs.Seen.{seen}
use Rattle.plcr_command.specs.Process.{fault_at}
use Rattle.plcr_command.proofs.Reported.{report_is, threads_writable}
use Rattle.plcr_run.specs.Past.{RanWhole}
use Rattle.plcr_maker.specs.declared.runs.Ran.{Ran}
use Rattle.plcr_maker.proofs.Played.{played}
use Rattle.plcr_maker.proofs.runs.run_made.Goals as goal

pub play-ending-requires-clause-context : goal.play-ending-requires-clause-context
play-ending-requires-clause-context c =
    let core = c.args.core.now in
    (rw c.context-context.ensures.same.arch (threads_writable core.arch core.threads c.requires.threads), same_writable c.context-context.result (context_of c.args.script.now core.arch) c.context-context.ensures.same (c.requires.script.writable core.arch))

pub returns : goal.returns
returns c =
    let core = c.args.core.now in
    let script = c.args.script.now in
    let same = report_is core script c.context-context.result c.context-context.ensures.same in
    let before = contents c.in_ok-desk.desk in
    let after = contents c.play-ending.new.desk in
    let run = subst (λ (m : Meanings). RanWhole m script (seen (tells before) None 0) (seen (tells after) None 0) c.play-ending.new.past) (λ i. record { fault = fault_at core; report = λ images. same images i }) c.in-Done.ensures.played in
    let ran : Ran = record { report = c.in_ok-report.report; writer = c.in_ok-writer.writer } in
    played core script before after None None 0 0 c.play-ending.new.past ran c.in_ok-desk.ensures.files c.in_ok-desk.ensures.kept c.play-ending.ensures.goes_on.desk.files run c.in_ok-writer.was c.in_ok-report.ensures
