use Rattle.std.proofs.Common.{Result, sym, subst, List}
use Rattle.std.specs.Prelude.{OnOk, OnErr}
use Rattle.plcr_script.specs.Meanings.{meanings}
use Rattle.plcr_script.proofs.PrefixRuns.{stopped_prefix}
use Rattle.plcr_command.specs.Seen.{seen}
use Rattle.plcr_run.specs.declared.slots.Slot.{Slot}
use Rattle.plcr_run.specs.declared.stepping.Stop.{Stop}
use Rattle.plcr_run.specs.declared.writing.Writing.TheVariants.{Resting}
use Rattle.plcr_run.specs.inner.Tokens.{AreTokens}
use Rattle.plcr_run.specs.inner.Running.{IsFresh, RunDone, RunStopped}
use Rattle.plcr_run.specs.inner.Ending.{EndsIn}
use Rattle.plcr_run.proofs.Played.{slots_left, ran_whole, ran_part}
use Rattle.plcr_run.proofs.Openings.{opened_tokens, opened_fresh}
use Rattle.plcr_run.proofs.scripts.play_on.Goals as goal

pub run-writing-requires-clause-tokens : goal.run-writing-requires-clause-tokens
run-writing-requires-clause-tokens g c = subst (λ (l : List Slot). AreTokens c.args.opened.list (Resting c.args.opened.writer) l) (sym c.as_mut_slice.ensures.value) (opened_tokens _ _ c.args.opened c.requires.opened)

pub run-writing-requires-clause-fresh : goal.run-writing-requires-clause-fresh
run-writing-requires-clause-fresh g c = subst (λ (l : List Slot). IsFresh c.args.script.now (Resting c.args.opened.writer) l) (sym c.as_mut_slice.ensures.value) (opened_fresh c.args.script.now c.args.opened c.requires.opened)

pub end_script-requires : goal.end_script-requires
end_script-requires g c =
    let same = slots_left _ c.args.script.now _ _ c.args.opened c.args.opened.slots.len c.run-writing.result.0 c.run-writing.new.slots c.run-writing.result.1 c.requires.opened c.run-writing.ensures.tokens c.run-writing.ensures.done c.run-writing.ensures.stopped (sym c.args.opened.slots.ok.0) in
    record { tokens = subst (λ (l : List Slot). AreTokens c.args.opened.list c.run-writing.result.0 l) (sym same) c.run-writing.ensures.tokens }

pub returns-in-Ok-clause-played : goal.returns-in-Ok-clause-played
returns-in-Ok-clause-played g c =
    let same = slots_left _ c.args.script.now _ _ c.args.opened c.args.opened.slots.len c.run-writing.result.0 c.run-writing.new.slots c.run-writing.result.1 c.requires.opened c.run-writing.ensures.tokens c.run-writing.ensures.done c.run-writing.ensures.stopped (sym c.args.opened.slots.ok.0) in
    let ends = subst (λ (l : List Slot). EndsIn c.run-writing.result.0 l c.end_script.result) same c.end_script.ensures.ends in
    let P : Result (Unit {0}) Stop → Type 0 = λ r. OnOk r (RunDone (meanings (g.P.Process.image_fault c.args.process.now) (g.P.Process.report c.args.process.now c.args.context.now)) c.args.script.now (seen (g.D.Desk.told c.args.desk.now) (g.L.Sink.written c.args.lines.now) (g.L.Sink.faults c.args.lines.now)) c.run-writing.result.0 c.run-writing.new.slots
    (seen (g.D.Desk.told c.run-writing.new.desk) (g.L.Sink.written c.run-writing.new.lines) (g.L.Sink.faults c.run-writing.new.lines))) in
    ran_whole _ c.args.script.now _ _ c.run-writing.result.0 c.run-writing.new.slots c.end_script.result (subst P c.in-Ok.is c.run-writing.ensures.done) ends

pub returns-clause-played : goal.returns-clause-played
returns-clause-played g c =
    let same = slots_left _ c.args.script.now _ _ c.args.opened c.args.opened.slots.len c.run-writing.result.0 c.run-writing.new.slots c.run-writing.result.1 c.requires.opened c.run-writing.ensures.tokens c.run-writing.ensures.done c.run-writing.ensures.stopped (sym c.args.opened.slots.ok.0) in
    let ends = subst (λ (l : List Slot). EndsIn c.run-writing.result.0 l c.end_script.result) same c.end_script.ensures.ends in
    let P : Result (Unit {0}) Stop → Type 0 = λ r. OnErr r (RunStopped (meanings (g.P.Process.image_fault c.args.process.now) (g.P.Process.report c.args.process.now c.args.context.now)) c.args.script.now (seen (g.D.Desk.told c.args.desk.now) (g.L.Sink.written c.args.lines.now) (g.L.Sink.faults c.args.lines.now)) c.run-writing.result.0 c.run-writing.new.slots
    (seen (g.D.Desk.told c.run-writing.new.desk) (g.L.Sink.written c.run-writing.new.lines) (g.L.Sink.faults c.run-writing.new.lines))) in
    ran_part _ c.args.script.now _ _ c.run-writing.result.0 c.run-writing.new.slots c.end_script.result stopped_prefix (subst P c.in-Err.is c.run-writing.ensures.stopped) ends
