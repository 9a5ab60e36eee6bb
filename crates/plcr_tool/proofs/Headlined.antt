-- Each file that a run keeps tells truly.
use Rattle.std.proofs.Common.{◌≡◌, ◌⊎◌, inl, inr, ℕ, List, [], ◌∷◌, ◌++◌, Option, Some, None, refl, sym, ap, subst, ◌∙◌, arith, append-nil}
use Rattle.std.specs.Prelude.{All}
use Rattle.std.specs.List.{cons_option}
use Rattle.std.proofs.lemmas.List.Elements.{All-nil, All-cons, All-head, All-tail, All-append, All-weaker}
use Rattle.plcr_base.specs.Bytes.{IsBytes}
use Rattle.plcr_base.specs.Causes.{Rose}
use Rattle.plcr_base.specs.Told.{Gains}
use Rattle.plcr_io.specs.Desk.{Told}
use Rattle.plcr_machine.specs.declared.change.Change.{Change}
use Rattle.plcr_machine.specs.Changes.{load_of, list_after_changes, changes_of}
use Rattle.plcr_machine.specs.Walks.{IsLawfulWalk}
use Rattle.plcr_machine.specs.Events.{Event, events_of, changes_in}
use Rattle.plcr_machine.proofs.EventsMade.{events-changes}
use Rattle.plcr_machine.proofs.Reach.{legal_kept}
use Rattle.plcr_core.specs.declared.read.Core.{Core}
use Rattle.plcr_decode.specs.Reads.{reads}
use Rattle.plcr_imagelist.specs.States.{WriterState}
use Rattle.plcr_script.specs.declared.statements.NumberedStatement.{NumberedStatement}
use Rattle.plcr_script.specs.Lawful.{IsFitStatement, IsLawful}
use Rattle.plcr_script.specs.Meanings.{Meanings}
use Rattle.plcr_script.specs.Reading.{file_of, files_of}
use Rattle.plcr_script.specs.Scripts.{ScriptValue}
use Rattle.plcr_script.specs.Contexts.{context_of}
use Rattle.plcr_script.specs.RunTurns.{listed}
use Rattle.plcr_script.specs.Run.{NumberedTurn, run_of, kept_by, changes_after}
use Rattle.plcr_script.specs.RunLaws.{Follows, IsLawfulReport, changes_before, state_behind}
use Rattle.plcr_script.proofs.HeldRuns.{ends_follow}
use Rattle.plcr_script.proofs.KeptRuns.{run_keeps_lawfully, run_keeps_its_files}
use Rattle.plcr_command.specs.declared.jobs.Job.{Job}
use Rattle.plcr_command.specs.declared.endings.Ending.{Ending}
use Rattle.plcr_command.specs.declared.endings.Ending.TheVariants.{Done, Stopped, Refused, Misused}
use Rattle.plcr_command.specs.declared.refusals.Refusal.TheVariants.{CannotRead, TooLong, CoreRefused, ScriptRefused, ReportRefused, OutOfMemory}
use Rattle.plcr_command.specs.Seen.{Seen, seen}
use Rattle.plcr_command.specs.Taking.{MadeNothing}
use Rattle.plcr_command.specs.Refusals.{IsRead}
use Rattle.plcr_command.specs.Jobs.{IsJob, IsLawfulJob}
use Rattle.plcr_command.specs.Process.{meanings_of, report_bytes}
use Rattle.plcr_command.specs.Endings.{HasRead, kept_names, status_of}
use Rattle.plcr_command.proofs.Reported.{threads_writable}
use Rattle.plcr_command.proofs.Takings.{read_after}
use Rattle.plcr_run.specs.Runs.{run_behind, IsStopped}
use Rattle.plcr_run.specs.Past.{RanWhole, RanPart}
use Rattle.plcr_tool.specs.declared.report.TheConstants.{ALONE}
use Rattle.plcr_tool.specs.Report.{report_files}
use Rattle.plcr_tool.specs.Laws.{IsHandedContext, AreHandedStates}
use Rattle.plcr_tool.specs.Headline.{TellsTruly, SinkFailed, RanTruly, ReportsTellTruly}
use Rattle.plcr_tool.specs.inner.Report.{RunEnds, TrulyBy}
use Rattle.plcr_tool.proofs.Captured.{captured_again}
use Rattle.plcr_tool.proofs.CoreStates.{core_states}
use Rattle.plcr_tool.proofs.Fitting.{run_met_fits}

abbrev IsFit : NumberedStatement → Type 0
IsFit x = IsFitStatement x.statement

-- what a core and a script hand in for reports
record Handed (core : Core) (script : ScriptValue) : Type 0 where
  about : IsHandedContext (context_of script core.arch)
  states : AreHandedStates (context_of script core.arch) core.threads
  bytes : IsBytes core.memory.file
  fit : All IsFit script.statements

-- one file, where what happened has the changes of the statements that were done
tells_truly : (core : Core) (script : ScriptValue) (done : List NumberedStatement) (happened : List Event) (turn : NumberedTurn) (file : List ℕ × List ℕ) → Handed core script → All IsFit done → changes_in happened ≡ changes_after (meanings_of core script) script done
    → IsLawfulReport (meanings_of core script) happened turn.turn file → TellsTruly core script happened file
unfolding report_bytes
tells_truly core script done happened turn file h fit same r =
    let walked = r.walked in
    let lawful = subst (λ (cs : List Change). IsLawfulWalk load_of (list_after_changes cs) (changes_before r.pass r.inside) walked.end r.met) same walked.lawful in
    let images = run_met_fits (meanings_of core script) script done (changes_before r.pass r.inside) walked.end r.met fit lawful in
    record {
      pass = r.pass;
      inside = r.inside;
      hold = r.hold;
      met = r.met;
      end = walked.end;
      within = r.within;
      lawful = walked.lawful;
      decodes = ap reads r.bytes ∙ captured_again (context_of script core.arch) core.threads core.memory (listed r.met) h.about h.states h.bytes images;
    }

-- all files of all turns
all_files : (P : NumberedTurn → List ℕ × List ℕ → Type 0) (Q : List ℕ × List ℕ → Type 0) (run : List NumberedTurn) → ((t : NumberedTurn) (file : List ℕ × List ℕ) → P t file → Q file) → All (λ (t : NumberedTurn). All (P t) t.turn.kept) run → All Q (kept_by run)
all_files P Q [] holds all = All-nil Q
all_files P Q (t ∷ run) holds all =
    All-append Q t.turn.kept (kept_by run)
    (All-weaker (P t) Q (holds t) t.turn.kept (All-head (λ (t : NumberedTurn). All (P t) t.turn.kept) t run all))
    (all_files P Q run holds (All-tail (λ (t : NumberedTurn). All (P t) t.turn.kept) t run all))

kept_truly : (core : Core) (script : ScriptValue) (done : List NumberedStatement) (happened : List Event) → Handed core script → All IsFit done → changes_in happened ≡ changes_after (meanings_of core script) script done
    → Follows (state_behind (meanings_of core script) script done).events happened → All (TellsTruly core script happened) (kept_by (run_behind (meanings_of core script) script done))
unfolding run_of
kept_truly core script done happened h fit same on =
    let process = meanings_of core script in
    let run = run_behind process script done in
    let P : List Event → Type 0 = λ es. All (λ (t : NumberedTurn). All (IsLawfulReport process es t.turn) t.turn.kept) run in
    all_files (λ t. IsLawfulReport process happened t.turn) (TellsTruly core script happened) run
    (λ t file r. tells_truly core script done happened t file h fit same r)
    (subst P (sym on.1) (run_keeps_lawfully process (record script { statements = done }) on.0))

-- the files of the statements that were done, and those of the others
files_two : (xs ys : List NumberedStatement) → files_of (xs ++ ys) ≡ files_of xs ++ files_of ys
files_two [] ys = refl
files_two (x ∷ xs) ys = rw (files_two xs ys) (of (file_of x.statement))
  where
    of : (o : Option (List ℕ)) → cons_option o (files_of xs ++ files_of ys) ≡ cons_option o (files_of xs) ++ files_of ys
    of None = refl
    of (Some file) = refl

kept_names_of : (process : Meanings) (script : ScriptValue) (done : List NumberedStatement) → kept_names (kept_by (run_behind process script done)) ≡ files_of done
unfolding run_of
kept_names_of process script done = run_keeps_its_files process (record script { statements = done })

-- the first of some statements
front_fits : (xs ys : List NumberedStatement) → All IsFit (xs ++ ys) → All IsFit xs
front_fits [] ys all = All-nil IsFit
front_fits (x ∷ xs) ys all = All-cons IsFit x xs (All-head IsFit x (xs ++ ys) all) (front_fits xs ys (All-tail IsFit x (xs ++ ys) all))

-- the history has the changes of the statements that were done
same_changes : (writer : WriterState) (cs : List Change) → changes_of writer.names writer.history ≡ cs → changes_in (events_of writer.names writer.history) ≡ cs
same_changes writer cs same = events-changes writer.names writer.history ∙ same

whole_truly : (job : Job) (script : ScriptValue) (old new : Seen) (past : Option WriterState) → job.scripts ≡ script ∷ [] → Handed job.core script → RanWhole (meanings_of job.core script) script old new past → RanTruly past 0 job old new
unfolding run_of
whole_truly job script old new past alone h ran =
    let process = meanings_of job.core script in
    let left = ran.past_is in
    let may = left.may in
    let writer = left.writer in
    let done = ran.done in
    let F : List Event → Type 0 = λ es. Follows (state_behind process script script.statements).events es in
    record {
      script = script;
      alone = alone;
      writer = writer;
      all = left.all;
      history = may.legal;
      kept = legal_kept script.nodes script.passes writer.history may.legal.legal;
      files = kept_by (run_behind process script script.statements);
      gained = done.kept;
      others = [];
      each = sym (append-nil (kept_names (kept_by (run_behind process script script.statements))) ∙ kept_names_of process script script.statements);
      whole = λ zero. refl;
      unless = λ five. absurd (omega (arith, five));
      truly = kept_truly job.core script script.statements (events_of writer.names writer.history) h h.fit (ap changes_in may.are) (subst F (sym may.are) (ends_follow process script script.statements));
    }

stop_failed : (run : List NumberedTurn) (old new : Seen) → IsStopped run old new → SinkFailed old new
stop_failed run old new stop = elim stop.how [ inl keep ↦ inl keep.stop.cause | inr log ↦ inr log.cause ]

part_truly : (job : Job) (script : ScriptValue) (old new : Seen) (past : Option WriterState) → job.scripts ≡ script ∷ [] → Handed job.core script → RanPart (meanings_of job.core script) script old new past → RanTruly past 5 job old new
part_truly job script old new past alone h ran =
    let process = meanings_of job.core script in
    let left = ran.past_is in
    let writer = left.writer in
    let fit : All IsFit left.done = front_fits left.done left.others (subst (All IsFit) left.parts h.fit) in
    record {
      script = script;
      alone = alone;
      writer = writer;
      all = left.all;
      history = left.legal;
      kept = legal_kept script.nodes script.passes writer.history left.legal.legal;
      files = kept_by (run_behind process script left.done);
      gained = ran.kept;
      others = files_of left.others;
      each = ap files_of left.parts ∙ files_two left.done left.others ∙ ap (λ (names : List (List ℕ)). names ++ files_of left.others) (sym (kept_names_of process script left.done));
      whole = λ zero. absurd (omega (arith, zero));
      unless = λ five. stop_failed (run_of process script) old new ran.stopped;
      truly = kept_truly job.core script left.done (events_of writer.names writer.history) h fit (same_changes writer (changes_after process script left.done) left.made) left.went;
    }

-- what is known of a job that was read
handed_job : (contents : List (List ℕ)) (job : Job) (script : ScriptValue) → IsJob ALONE contents job → IsLawfulJob job → job.scripts ≡ script ∷ [] → IsHandedContext (context_of script job.core.arch) → Handed job.core script
handed_job [] job script is lawful alone about = absurd is
handed_job (core_bytes ∷ contents) job script is lawful alone about = record {
  about = about;
  states = record { whole = threads_writable job.core.arch job.core.threads lawful.threads; each = core_states core_bytes job.core is.0 lawful.bytes };
  bytes = lawful.bytes;
  fit = (All-head IsLawful script [] (subst (All IsLawful) alone lawful.scripts)).statements;
}

-- as seen from before the files were taken
failed_since : (old mid new : Told) (lines lines' : Option (List ℕ)) (faults faults' : ℕ) → MadeNothing old mid → SinkFailed (seen mid lines faults) (seen new lines' faults') → SinkFailed (seen old lines faults) (seen new lines' faults')
failed_since old mid new lines lines' faults faults' nothing failed = elim failed [
  | inl out ↦ inl (subst (λ (n : ℕ). Rose n new.out_faults) nothing.out_faults out)
  | inr line ↦ inr line
]

truly_since : (job : Job) (past : Option WriterState) (status : ℕ) (old mid new : Told) (lines lines' : Option (List ℕ)) (faults faults' : ℕ) → MadeNothing old mid → RanTruly past status job (seen mid lines faults) (seen new lines' faults') → RanTruly past status job (seen old lines faults) (seen new lines' faults')
truly_since job past status old mid new lines lines' faults faults' nothing ran = record {
  script = ran.script;
  alone = ran.alone;
  writer = ran.writer;
  all = ran.all;
  history = ran.history;
  kept = ran.kept;
  files = ran.files;
  gained = subst (λ (k : Option (List (List ℕ × List ℕ))). Gains k new.kept ran.files) nothing.kept ran.gained;
  others = ran.others;
  each = ran.each;
  whole = ran.whole;
  unless = λ five. failed_since old mid new lines lines' faults faults' nothing (ran.unless five);
  truly = ran.truly;
}

pub run_truly : (core script : List ℕ) (job : Job) (past : Option WriterState) (ending : Ending) (old mid new : Told) (lines lines' : Option (List ℕ)) (faults faults' : ℕ) → IsRead (IsJob ALONE) (report_files core script) old mid job → IsLawfulJob job → MadeNothing old mid → new.taken ≡ mid.taken
    → RunEnds job (seen mid lines faults) (seen new lines' faults') past ending → TrulyBy core script (seen old lines faults) (seen new lines' faults') past ending
run_truly core script job past Done old mid new lines lines' faults faults' read lawful nothing same ran = record {
  value = job;
  read = read_after (IsJob ALONE) (report_files core script) job old mid new read same;
  ends = truly_since job past 0 old mid new lines lines' faults faults' nothing (whole_truly job ran.script (seen mid lines faults) (seen new lines' faults') past ran.alone (handed_job read.contents job ran.script read.read lawful ran.alone ran.about) ran.ends);
}
run_truly core script job past Stopped old mid new lines lines' faults faults' read lawful nothing same ran = record {
  value = job;
  read = read_after (IsJob ALONE) (report_files core script) job old mid new read same;
  ends = truly_since job past 5 old mid new lines lines' faults faults' nothing (part_truly job ran.script (seen mid lines faults) (seen new lines' faults') past ran.alone (handed_job read.contents job ran.script read.read lawful ran.alone ran.about) ran.ends);
}
run_truly core script job past (Refused refusal) old mid new lines lines' faults faults' read lawful nothing same ran = tt
run_truly core script job past Misused old mid new lines lines' faults faults' read lawful nothing same ran = tt

-- by the status
neither : {A : Type 0} (status other : ℕ) → status ≡ other → (other ≡ 0 → ⊥) → (other ≡ 5 → ⊥) → (status ≡ 0) ⊎ (status ≡ 5) → A
neither status other is zero five (inl e) = absurd (zero (sym is ∙ e))
neither status other is zero five (inr e) = absurd (five (sym is ∙ e))

pub truly_by : (core script : List ℕ) (old new : Seen) (past : Option WriterState) (ending : Ending) (status : ℕ) → status ≡ status_of ending → TrulyBy core script old new past ending → ReportsTellTruly core script old new past status
truly_by core script old new past Done status is truly = λ how. subst (λ (n : ℕ). HasRead (IsJob ALONE) (report_files core script) (RanTruly past n) old new) (sym is) truly
truly_by core script old new past Stopped status is truly = λ how. subst (λ (n : ℕ). HasRead (IsJob ALONE) (report_files core script) (RanTruly past n) old new) (sym is) truly
truly_by core script old new past (Refused (CannotRead word)) status is truly = λ how. neither status 2 is (λ e. omega (arith, e)) (λ e. omega (arith, e)) how
truly_by core script old new past (Refused (TooLong word)) status is truly = λ how. neither status 2 is (λ e. omega (arith, e)) (λ e. omega (arith, e)) how
truly_by core script old new past (Refused (CoreRefused fault)) status is truly = λ how. neither status 3 is (λ e. omega (arith, e)) (λ e. omega (arith, e)) how
truly_by core script old new past (Refused (ScriptRefused number line kind)) status is truly = λ how. neither status 4 is (λ e. omega (arith, e)) (λ e. omega (arith, e)) how
truly_by core script old new past (Refused (ReportRefused fault)) status is truly = λ how. neither status 6 is (λ e. omega (arith, e)) (λ e. omega (arith, e)) how
truly_by core script old new past (Refused OutOfMemory) status is truly = λ how. neither status 7 is (λ e. omega (arith, e)) (λ e. omega (arith, e)) how
truly_by core script old new past Misused status is truly = λ how. neither status 1 is (λ e. omega (arith, e)) (λ e. omega (arith, e)) how
