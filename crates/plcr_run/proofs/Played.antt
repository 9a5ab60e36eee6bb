-- What a run leaves once its script has ended.
use Rattle.std.proofs.Common.{◌≡◌, ℕ, List, ◌++◌, length, take, drop, Some, Result, Ok, Err, refl, sym, ap, subst, ◌∙◌, arith}
use Rattle.std.specs.Prelude.{OnOk, OnErr}
use Rattle.plcr_machine.specs.declared.change.Change.{Change}
use Rattle.plcr_machine.specs.Histories.{IsHistory}
use Rattle.plcr_machine.specs.Changes.{changes_of}
use Rattle.plcr_machine.specs.Events.{Event, events_of, changes_in}
use Rattle.plcr_machine.proofs.EventsMade.{events-changes}
use Rattle.plcr_imagelist.specs.States.{WriterState}
use Rattle.plcr_script.specs.Scripts.{ScriptValue}
use Rattle.plcr_script.specs.Meanings.{Meanings}
use Rattle.plcr_script.specs.RunStates.{ended}
use Rattle.plcr_script.specs.Run.{end_after, changes_after}
use Rattle.plcr_script.specs.RunLaws.{Follows, state_behind, StoppedRunsArePrefixes}
use Rattle.plcr_script.proofs.HeldRuns.{ended_follows}
use Rattle.plcr_script.proofs.PrefixRuns.{ended_changes}
use Rattle.plcr_command.specs.Seen.{Seen}
use Rattle.plcr_run.specs.declared.stepping.Stop.{Stop}
use Rattle.plcr_run.specs.declared.slots.Slot.{Slot}
use Rattle.plcr_run.specs.declared.writing.Writing.{Writing}
use Rattle.plcr_run.specs.inner.Tokens.{writer_of, AreTokens}
use Rattle.plcr_run.specs.declared.scripts.Opened.{Opened}
use Rattle.plcr_run.specs.inner.Opening.{IsOpened}
use Rattle.plcr_run.proofs.Meetings.{take_front}
use Rattle.plcr_run.proofs.Openings.{opened_tokens, opened_fresh}
use Rattle.plcr_run.specs.inner.Ending.{EndsIn}
use Rattle.plcr_run.specs.inner.Running.{RunDone, RunStopped}
use Rattle.plcr_run.specs.Past.{HasMetAll, RanWhole, RanPart}

met_by : (script : ScriptValue) (writing : Writing) (slots : List Slot) (writer : WriterState) → (writer_of writing).nodes ≡ script.nodes → (writer_of writing).passes ≡ script.passes → EndsIn writing slots writer → HasMetAll script (Some writer) writer
met_by script writing slots writer nodes passes e = record {
  is = refl;
  nodes = e.nodes ∙ nodes;
  passes = e.passes ∙ passes;
  met = λ k below. e.joined k (let sized = e.passes in omega (arith, passes, sized));
}

known_by : (script : ScriptValue) (writing : Writing) (slots : List Slot) (writer : WriterState) → (writer_of writing).nodes ≡ script.nodes → (writer_of writing).passes ≡ script.passes → EndsIn writing slots writer → IsHistory script.nodes script.passes writer.history writer.names
known_by script writing slots writer nodes passes e =
    subst (λ n. IsHistory n script.passes writer.history writer.names) (e.nodes ∙ nodes) (subst (λ p. IsHistory writer.nodes p writer.history writer.names) (e.passes ∙ passes) e.lists.known)

-- where it ended, the sizes are the script's
pub sized_as : (process : Meanings) (script : ScriptValue) (old new : Seen) (writing : Writing) (slots : List Slot) (result : Result (Unit {0}) Stop) → OnOk result (RunDone process script old writing slots new) → OnErr result (RunStopped process script old writing slots new) → (writer_of writing).passes ≡ script.passes
sized_as process script old new writing slots (Ok x) done stopped = done.passes
sized_as process script old new writing slots (Err x) done stopped = stopped.passes

-- the slots that a run leaves, as the vector has them that they were lent from
pub slots_left : (process : Meanings) (script : ScriptValue) (old new : Seen) (opened : Opened) (len : ℕ) (writing : Writing) (news : List Slot) (result : Result (Unit {0}) Stop) → IsOpened script.nodes script.passes opened → AreTokens opened.list writing news
    → OnOk result (RunDone process script old writing news new) → OnErr result (RunStopped process script old writing news new) → length opened.slots.items ≡ len → take len (news ++ drop (length news) opened.slots.items) ≡ news
slots_left process script old new opened len writing news result is after done stopped all =
    let before = opened_tokens script.nodes script.passes opened is in
    let fresh = opened_fresh script opened is in
    let sized = sized_as process script old new writing news result done stopped in
    take_front len news opened.slots.items (after.count ∙ sized ∙ sym fresh.passes ∙ sym before.count) all

pub ran_whole : (process : Meanings) (script : ScriptValue) (old new : Seen) (writing : Writing) (slots : List Slot) (writer : WriterState) → RunDone process script old writing slots new → EndsIn writing slots writer → RanWhole process script old new (Some writer)
unfolding end_after
ran_whole process script old new writing slots writer done e =
    let events : events_of writer.names writer.history ≡ ended script.passes (state_behind process script script.statements) =
    e.events (state_behind process script script.statements) (done.state e.all) ∙ ap (λ n. ended n (state_behind process script script.statements)) (e.passes ∙ done.passes) in
    record {
      done = done.done e.all;
      past_is = record {
        writer = writer;
        all = met_by script writing slots writer done.nodes done.passes e;
        may = record {
          are = events;
          legal = known_by script writing slots writer done.nodes done.passes e;
          first = e.lists.first;
        };
      };
    }

pub ran_part : (process : Meanings) (script : ScriptValue) (old new : Seen) (writing : Writing) (slots : List Slot) (writer : WriterState) → StoppedRunsArePrefixes → RunStopped process script old writing slots new → EndsIn writing slots writer → RanPart process script old new (Some writer)
unfolding end_after
ran_part process script old new writing slots writer prefixes stopped e =
    let b = stopped.behind e.all in
    let p = prefixes process script b.done b.others b.parts in
    let events : events_of writer.names writer.history ≡ ended writer.passes b.state = e.events b.state b.is in
    let mine : changes_of writer.names writer.history ≡ changes_after process script b.done =
    sym (events-changes writer.names writer.history) ∙ ap changes_in events ∙ ended_changes writer.passes b.state ∙ b.changes ∙ sym (ended_changes script.passes (state_behind process script b.done)) in
    record {
      stopped = stopped.stopped e.all;
      past_is = record {
        done = b.done;
        others = b.others;
        parts = b.parts;
        writer = writer;
        all = met_by script writing slots writer stopped.nodes stopped.passes e;
        legal = known_by script writing slots writer stopped.nodes stopped.passes e;
        first = e.lists.first;
        went = subst (λ (es : List Event). Follows (state_behind process script b.done).events es) (sym events)
            (ended_follows (state_behind process script b.done).events writer.passes b.state b.went);
        made = mine;
        later = p.0;
        changes = p.1 ∙ ap (λ (cs : List Change). p.0 ++ cs) (sym mine);
      };
      kept = b.kept;
    }
