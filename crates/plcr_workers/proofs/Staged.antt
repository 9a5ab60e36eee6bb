-- What a run on threads comes to, once its outputs are kept and its lines are printed.
use Rattle.std.proofs.Common.{inl, inr, ◌≡◌, ℕ, List, [], ◌∷◌, ◌++◌, length, take, drop, Option, Some, None, Result, Ok, Err, refl, sym, ap, subst, ◌∙◌, append-nil, take_all, arith}
use Rattle.std.specs.Prelude.{All, OnOk, IfErr, unwrap_or}
use Rattle.std.specs.Io.KnownBytes.{append_known}
use Rattle.std.proofs.lemmas.List.{drop_all, map-append, length-map}
use Rattle.std.proofs.lemmas.List.Elements.{All-head}
use Rattle.plcr_base.specs.Causes.{Rose}
use Rattle.plcr_base.specs.Told.{IfTold, Gains, AppendsProperFront, Prints}
use Rattle.plcr_base.proofs.Appended.{append_nothing}
use Rattle.plcr_base.proofs.Gained.{gains_none}
use Rattle.plcr_base.proofs.Risen.{rose_second}
use Rattle.plcr_io.specs.Desk.{Told}
use Rattle.plcr_script.specs.Meanings.{Meanings}
use Rattle.plcr_script.specs.Scripts.{ScriptValue}
use Rattle.plcr_script.specs.Reading.{written_by}
use Rattle.plcr_imagelist.specs.States.{WriterState}
use Rattle.plcr_command.specs.declared.jobs.Job.{Job}
use Rattle.plcr_command.specs.declared.endings.Ending.{Ending}
use Rattle.plcr_command.specs.declared.endings.Ending.TheVariants.{Done, Stopped, Refused, Misused}
use Rattle.plcr_command.specs.Saving.{TookNothing}
use Rattle.plcr_command.specs.Seen.{seen}
use Rattle.plcr_command.specs.Lines.{cannot_write}
use Rattle.plcr_command.specs.Endings.{kept_names}
use Rattle.plcr_turns.specs.declared.lines.ChangeLine.{ChangeLine}
use Rattle.plcr_workers.specs.declared.drafts.Draft.{Draft}
use Rattle.plcr_workers.specs.declared.drafts.Progress.TheVariants.{Written}
use Rattle.plcr_workers.specs.declared.lines.PassLine.{PassLine}
use Rattle.plcr_workers.specs.declared.making.Unwritten.{Unwritten}
use Rattle.plcr_workers.specs.declared.worker.Worker.{Worker}
use Rattle.plcr_workers.specs.Log.{threads_log}
use Rattle.plcr_workers.specs.Command.{AllApplied, AllKept, IsJournalOf, IsWriterOf, NotAllKept, NotPrinted, meanings_in}
use Rattle.plcr_workers.specs.inner.Outputs.{name_at, draft_names, outputs_of, AreFiles, HasKeptAll, HasKeptUpTo, HasDropped, HasOpenFor, IsDraftOf, NotAllMade, StandsAt}
use Rattle.plcr_workers.specs.inner.Own.{KnowsOwnOf}
use Rattle.plcr_workers.specs.inner.Stages.{AppliesAll, HasWorked, LeftOf, LogEnds, RunEnds, Settles}
use Rattle.plcr_workers.proofs.Settled.{nothing_twice, rose_first}
use Rattle.plcr_workers.proofs.Worked.{all_behind}

-- the same list, where it is told
pub gains_same : {A : Type 0} (old new : Option (List A)) → new ≡ old → Gains old new []
gains_same old new same = subst (λ n. Gains old n []) (sym same) (gains_none old)

module _ {K : Type 0} (written : K → Option (List ℕ)) (scripts : List ScriptValue) where
  -- files with the names of outputs, and what these have written
  pub record SomeFiles (drafts : List (Draft K)) : Type 0 where
    pub files : List (List ℕ × List ℕ)
    pub are : AreFiles written scripts drafts files
    pub names : kept_names files ≡ draft_names scripts drafts

  told_bytes : (bytes : Option (List ℕ)) → IfTold bytes (λ b. b ≡ unwrap_or bytes [])
  told_bytes None = tt
  told_bytes (Some b) = refl

  pub some_files : (drafts : List (Draft K)) → SomeFiles drafts
  some_files [] = record { files = []; are = refl; names = refl }
  some_files (d ∷ drafts) =
      let rest = some_files drafts in
      let name = name_at scripts d.script d.at in
      let file : List ℕ × List ℕ = (name, unwrap_or (written d.out) []) in
      record {
        files = file ∷ rest.files;
        are = (refl, told_bytes (written d.out), rest.are);
        names = λ i. name ∷ rest.names i;
      }

module _ {K : Type 0} (written : K → Option (List ℕ)) (faults : K → ℕ) (job : Job) (workers : List (Worker K)) (drafts : List (Draft K)) (same : drafts ≡ outputs_of workers)
    (old mid new : Told) (lines lines' : Option (List ℕ)) (counts counts' : ℕ) where
  pub names_are : HasWorked faults job.scripts workers old mid → draft_names job.scripts drafts ≡ written_by job.scripts
  names_are w = ap (λ (l : List (Draft K)). draft_names job.scripts l) same ∙ w.names

  made_all : HasWorked faults job.scripts workers old mid → new.made ≡ mid.made → Gains old.made new.made (written_by job.scripts)
  made_all w stay = subst (λ (m : Option (List (List ℕ))). Gains old.made m (written_by job.scripts)) (sym stay) w.made.made

  pub kept_some : (files : List (List ℕ × List ℕ)) → HasWorked faults job.scripts workers old mid → Gains mid.kept new.kept files → Gains old.kept new.kept files
  kept_some files w gains = subst (λ (k : Option (List (List ℕ × List ℕ))). Gains k new.kept files) w.made.kept gains

  pub all_kept : (journal : List ChangeLine) (others : List (List PassLine)) → HasWorked faults job.scripts workers old mid → HasKeptAll written job.scripts drafts mid new → lines' ≡ append_known lines (threads_log job.scripts journal others)
      → AllKept job (seen old lines counts) (seen new lines' counts')
  all_kept journal others w k printed =
      let f = some_files written job.scripts drafts in
      let names : kept_names f.files ≡ written_by job.scripts = f.names ∙ names_are w in
      record {
        journal = journal;
        others = others;
        files = f.files;
        names = names;
        kept = record {
          made = subst (λ (l : List (List ℕ)). Gains old.made new.made l) (sym names) (made_all w k.made);
          kept = kept_some f.files w (k.kept f.files f.are);
          dropped = gains_same old.dropped new.dropped (k.dropped ∙ w.made.dropped);
          lines = printed;
        };
      }

  pub not_printed : (journal : List ChangeLine) (others : List (List PassLine)) → HasWorked faults job.scripts workers old mid → HasKeptAll written job.scripts drafts mid new → AppendsProperFront lines lines' (threads_log job.scripts journal others) → Rose counts counts' → AllApplied job.scripts journal
      → NotPrinted job journal (seen old lines counts) (seen new lines' counts')
  not_printed journal others w k cut rose applied =
      let f = some_files written job.scripts drafts in
      let names : kept_names f.files ≡ written_by job.scripts = f.names ∙ names_are w in
      record {
        others = others;
        files = f.files;
        names = names;
        cut = record {
          made = subst (λ (l : List (List ℕ)). Gains old.made new.made l) (sym names) (made_all w k.made);
          kept = kept_some f.files w (k.kept f.files f.are);
          dropped = gains_same old.dropped new.dropped (k.dropped ∙ w.made.dropped);
          lines = subst (λ (o : Option (List ℕ)). AppendsProperFront o lines' (threads_log job.scripts journal others)) (sym (append_nothing lines)) cut;
          cause = rose;
        };
        applied = applied;
      }

  pub not_kept : (script at : ℕ) → HasWorked faults job.scripts workers old mid → HasKeptUpTo written job.scripts drafts script at mid new → Prints lines lines' (cannot_write (name_at job.scripts script at)) counts counts'
      → NotAllKept job (seen old lines counts) (seen new lines' counts')
  not_kept script at w k prints =
      let f = some_files written job.scripts k.before in
      let name : name_at job.scripts k.draft.script k.draft.at ≡ name_at job.scripts script at = λ i. name_at job.scripts (k.place.0 i) (k.place.1 i) in
      let parts : draft_names job.scripts drafts ≡ draft_names job.scripts k.before ++ name_at job.scripts k.draft.script k.draft.at ∷ draft_names job.scripts k.after =
      ap (λ (l : List (Draft K)). draft_names job.scripts l) k.parts ∙ map-append (λ (d : Draft K). name_at job.scripts d.script d.at) k.before (k.draft ∷ k.after) in
      record {
        name = name_at job.scripts script at;
        files = f.files;
        later = draft_names job.scripts k.after;
        outcome = inr (sym (names_are w) ∙ parts ∙ (λ i. sym f.names i ++ name i ∷ draft_names job.scripts k.after), made_all w k.made);
        kept = kept_some f.files w (k.kept f.files f.are);
        lines = prints;
        cause = rose_second _ _ _ w.made.nothing.out_faults k.cause;
      }

  pub not_made : (script at : ℕ) → NotAllMade job.scripts workers script at old mid → HasDropped mid new → Prints lines lines' (cannot_write (name_at job.scripts script at)) counts counts'
      → NotAllKept job (seen old lines counts) (seen new lines' counts')
  not_made script at u d prints = record {
    name = name_at job.scripts script at;
    files = [];
    later = u.later;
    outcome = inl (u.before, refl, u.parts, subst (λ (m : Option (List (List ℕ))). Gains old.made m u.before) (sym d.made) u.made.made);
    kept = gains_same old.kept new.kept (d.kept ∙ u.made.kept);
    lines = prints;
    cause = rose_first old.out_faults mid.out_faults new.out_faults d.nothing.out_faults u.cause;
  }

-- ---- by what each call answered

module _ {K : Type 0} (written : K → Option (List ℕ)) (faults : K → ℕ) (scripts : List ScriptValue) (drafts : List (Draft K)) (old new : Told) where
  pub settles_ok : (result : Result (Unit {0}) Unwritten) → OnOk result (HasKeptAll written scripts drafts old new) → IfErr result (λ u. HasKeptUpTo written scripts drafts u.script u.at old new) → Settles written scripts drafts (Ok tt) old new result
  settles_ok (Ok done) kept cut = kept
  settles_ok (Err unwritten) kept cut = cut

-- what is known once the outputs were to be made
abbrev pub Worked : {K : Type 0} → (K → ℕ) → List ScriptValue → List (Worker K) → Told → Told → Result (Unit {0}) Unwritten → Type 0
Worked faults scripts workers old new (Ok done) = HasWorked faults scripts workers old new
Worked faults scripts workers old new (Err unwritten) = NotAllMade scripts workers unwritten.script unwritten.at old new

pub worked_by : {K : Type 0} (faults : K → ℕ) (scripts : List ScriptValue) (workers : List (Worker K)) (old new : Told) (made : Result (Unit {0}) Unwritten) → OnOk made (HasWorked faults scripts workers old new) → IfErr made (λ u. NotAllMade scripts workers u.script u.at old new) → Worked faults scripts workers old new made
worked_by faults scripts workers old new (Ok done) ok err = ok
worked_by faults scripts workers old new (Err unwritten) ok err = err

-- of how many outputs there are none fewer are open
pub worked_open : {K : Type 0} (faults : K → ℕ) (scripts : List ScriptValue) (workers : List (Worker K)) (old new : Told) (made : Result (Unit {0}) Unwritten) → Worked faults scripts workers old new made → HasOpenFor 0 old → HasOpenFor (length (outputs_of workers)) new
worked_open faults scripts workers old new (Ok done) w start =
    let a = ap length w.names in let b = length-map (outputs_of workers) (λ (d : Draft _). name_at scripts d.script d.at) in
    subst (λ (n : ℕ). HasOpenFor n new) (omega (arith, a, b)) (w.made.«open» 0 start)
worked_open faults scripts workers old new (Err unwritten) u start =
    subst (λ (n : ℕ). HasOpenFor n new) (let c = u.count in omega (arith, c)) (u.made.«open» 0 start)

pub worked_nothing : {K : Type 0} (faults : K → ℕ) (scripts : List ScriptValue) (workers : List (Worker K)) (old new : Told) (made : Result (Unit {0}) Unwritten) → Worked faults scripts workers old new made → TookNothing old new
worked_nothing faults scripts workers old new (Ok done) w = w.made.nothing
worked_nothing faults scripts workers old new (Err unwritten) u = u.made.nothing

pub settled_nothing : {K : Type 0} (written : K → Option (List ℕ)) (scripts : List ScriptValue) (drafts : List (Draft K)) (made : Result (Unit {0}) Unwritten) (old new : Told) (result : Result (Unit {0}) Unwritten) → Settles written scripts drafts made old new result → TookNothing old new
settled_nothing written scripts drafts (Ok done) old new (Ok kept) s = s.nothing
settled_nothing written scripts drafts (Ok done) old new (Err unwritten) s = s.nothing
settled_nothing written scripts drafts (Err unmade) old new (Ok kept) s = absurd s
settled_nothing written scripts drafts (Err unmade) old new (Err unwritten) s = s.1.nothing

module _ {K : Type 0} (written : K → Option (List ℕ)) (faults : K → ℕ) (job : Job) (workers : List (Worker K)) (drafts : List (Draft K)) (same : drafts ≡ outputs_of workers)
    (old mid new : Told) (lines lines' : Option (List ℕ)) (counts counts' : ℕ) (past : Option WriterState) (journal : List ChangeLine) (left : LeftOf job past journal) (applies : AppliesAll job.scripts workers journal) where
  all_applied : HasWorked faults job.scripts workers old mid → HasKeptAll written job.scripts drafts mid new → AllApplied job.scripts journal
  all_applied w k = applies w.wholes (subst (All (λ (d : Draft K). d.progress ≡ Written)) same k.whole)

  -- all were kept, and so the printing ended
  pub kept_ends : (made : Result (Unit {0}) Unwritten) (done : Unit {0}) (others : List (List PassLine)) (ending : Ending) → Worked faults job.scripts workers old mid made → Settles written job.scripts drafts made mid new (Ok done)
      → LogEnds lines lines' (threads_log job.scripts journal others) counts counts' ending → RunEnds job (seen old lines counts) (seen new lines' counts') past ending
  kept_ends (Ok ok) done others Done w k ends = (journal, others, all_kept written faults job workers drafts same old mid new lines lines' counts counts' journal others w k ends, left, ends, all_applied w k)
  kept_ends (Ok ok) done others Stopped w k ends = (journal, inr (not_printed written faults job workers drafts same old mid new lines lines' counts counts' journal others w k ends.0 ends.1 (all_applied w k)), left)
  kept_ends (Ok ok) done others (Refused refusal) w k ends = absurd ends
  kept_ends (Ok ok) done others Misused w k ends = absurd ends
  kept_ends (Err unmade) done others ending w k ends = absurd k

  -- one was not
  pub cut_unkept : (made : Result (Unit {0}) Unwritten) (unwritten : Unwritten) → Worked faults job.scripts workers old mid made → Settles written job.scripts drafts made mid new (Err unwritten)
      → Prints lines lines' (cannot_write (name_at job.scripts unwritten.script unwritten.at)) counts counts' → NotAllKept job (seen old lines counts) (seen new lines' counts')
  cut_unkept (Ok ok) unwritten w k prints = not_kept written faults job workers drafts same old mid new lines lines' counts counts' unwritten.script unwritten.at w k prints
  cut_unkept (Err unmade) unwritten w k prints =
      not_made written faults job workers drafts same old mid new lines lines' counts counts' unwritten.script unwritten.at
      (subst (λ (u : Unwritten). NotAllMade job.scripts workers u.script u.at old mid) (sym k.0) w) k.1 prints

  pub cut_ends : (made : Result (Unit {0}) Unwritten) (unwritten : Unwritten) → Worked faults job.scripts workers old mid made → Settles written job.scripts drafts made mid new (Err unwritten)
      → Prints lines lines' (cannot_write (name_at job.scripts unwritten.script unwritten.at)) counts counts' → RunEnds job (seen old lines counts) (seen new lines' counts') past Stopped
  cut_ends made unwritten w k prints = (journal, inl (cut_unkept made unwritten w k prints), left)

-- the report whose file is named stands in its script
pub cut_stands : {K : Type 0} (written : K → Option (List ℕ)) (faults : K → ℕ) (scripts : List ScriptValue) (workers : List (Worker K)) (drafts : List (Draft K)) (same : drafts ≡ outputs_of workers) (old mid new : Told) (made : Result (Unit {0}) Unwritten) (unwritten : Unwritten)
    → Worked faults scripts workers old mid made → Settles written scripts drafts made mid new (Err unwritten) → StandsAt scripts unwritten.script unwritten.at
cut_stands written faults scripts workers drafts same old mid new (Ok ok) unwritten w k =
    let are : All (IsDraftOf scripts) drafts = subst (All (IsDraftOf scripts)) (sym same) w.are in
    let behind : All (IsDraftOf scripts) (k.draft ∷ k.after) = all_behind (IsDraftOf scripts) k.before (k.draft ∷ k.after) (subst (All (IsDraftOf scripts)) k.parts are) in
    subst (λ (s : ℕ). StandsAt scripts s unwritten.at) k.place.0 (subst (λ (a : ℕ). StandsAt scripts k.draft.script a) k.place.1 (All-head (IsDraftOf scripts) k.draft k.after behind))
cut_stands written faults scripts workers drafts same old mid new (Err unmade) unwritten w k = subst (λ (u : Unwritten). StandsAt scripts u.script u.at) (sym k.0) w.stands

-- where all were made the outputs are those of statements, and the first that was not written whole has faults
pub worked_ok : {K : Type 0} (faults : K → ℕ) (scripts : List ScriptValue) (workers : List (Worker K)) (old new : Told) (made : Result (Unit {0}) Unwritten) → Worked faults scripts workers old new made → made ≡ Ok tt → HasWorked faults scripts workers old new
worked_ok faults scripts workers old new made w is = subst (Worked faults scripts workers old new) is w

-- ---- a run whose workers were lent and came back

-- what was lent whole is what came back
pub lent_whole : {A : Type 0} (n : ℕ) (new items : List A) → length new ≡ length items → length items ≡ n → take n (new ++ drop (length new) items) ≡ new
lent_whole n new items same all =
    let none : drop (length new) items ≡ [] = drop_all (length new) items (omega (arith, same)) in
    ap (λ l. take n (new ++ l)) none ∙ ap (λ l. take n l) (append-nil new) ∙ take_all n new (omega (arith, same, all))

some_writer : {a b : WriterState} → Some a ≡ Some b → a ≡ b
some_writer {a} {b} e = ap (λ (o : Option WriterState). unwrap_or o a) e

left_of : (job : Job) (w : WriterState) (journal : List ChangeLine) → IsWriterOf job.scripts (Some w) → IsJournalOf (meanings_in job.core job.scripts) job.scripts journal w → LeftOf job (Some w) journal
left_of job w journal met tells = record { met = met; tells = subst (λ (x : WriterState). IsJournalOf (meanings_in job.core job.scripts) job.scripts journal x) (some_writer met.is) tells }

module _ {K : Type 0} (written : K → Option (List ℕ)) (faults : K → ℕ) (job : Job) (workers lent : List (Worker K)) (front : lent ≡ workers) (drafts : List (Draft K)) (are : drafts ≡ outputs_of lent) (old mid new : Told) (lines lines' : Option (List ℕ)) (counts counts' : ℕ)
    (made : Result (Unit {0}) Unwritten) (w : WriterState) (journal : List ChangeLine) (worked : Worked faults job.scripts workers old mid made) (own : All (λ x. KnowsOwnOf (meanings_in job.core job.scripts) job.scripts x) workers) (met : IsWriterOf job.scripts (Some w))
    (tells : (process : Meanings) → All (λ x. KnowsOwnOf process job.scripts x) lent → IsJournalOf process job.scripts journal w × AppliesAll job.scripts lent journal) where
  outputs_same : drafts ≡ outputs_of workers
  outputs_same = are ∙ ap (λ (l : List (Worker K)). outputs_of l) front

  told : IsJournalOf (meanings_in job.core job.scripts) job.scripts journal w × AppliesAll job.scripts lent journal
  told = tells (meanings_in job.core job.scripts) (subst (λ (l : List (Worker K)). All (λ x. KnowsOwnOf (meanings_in job.core job.scripts) job.scripts x) l) (sym front) own)

  applies : AppliesAll job.scripts workers journal
  applies = subst (λ (l : List (Worker K)). AppliesAll job.scripts l journal) front told.1

  pub run_kept : (result : Result (Unit {0}) Unwritten) (done : Unit {0}) (others : List (List PassLine)) (ending : Ending) → result ≡ Ok done → Settles written job.scripts drafts made mid new result
      → LogEnds lines lines' (threads_log job.scripts journal others) counts counts' ending → RunEnds job (seen old lines counts) (seen new lines' counts') (Some w) ending
  run_kept result done others ending is settles ends =
      kept_ends written faults job workers drafts outputs_same old mid new lines lines' counts counts' (Some w) journal (left_of job w journal met told.0) applies made done others ending worked
      (subst (λ (r : Result (Unit {0}) Unwritten). Settles written job.scripts drafts made mid new r) is settles) ends

  pub run_cut : (result : Result (Unit {0}) Unwritten) (unwritten : Unwritten) → result ≡ Err unwritten → Settles written job.scripts drafts made mid new result
      → Prints lines lines' (cannot_write (name_at job.scripts unwritten.script unwritten.at)) counts counts' → RunEnds job (seen old lines counts) (seen new lines' counts') (Some w) Stopped
  run_cut result unwritten is settles prints =
      cut_ends written faults job workers drafts outputs_same old mid new lines lines' counts counts' (Some w) journal (left_of job w journal met told.0) applies made unwritten worked
      (subst (λ (r : Result (Unit {0}) Unwritten). Settles written job.scripts drafts made mid new r) is settles) prints

  pub run_unkept : (result : Result (Unit {0}) Unwritten) (unwritten : Unwritten) → result ≡ Err unwritten → Settles written job.scripts drafts made mid new result
      → Prints lines lines' (cannot_write (name_at job.scripts unwritten.script unwritten.at)) counts counts' → NotAllKept job (seen old lines counts) (seen new lines' counts')
  run_unkept result unwritten is settles prints =
      cut_unkept written faults job workers drafts outputs_same old mid new lines lines' counts counts' (Some w) journal (left_of job w journal met told.0) applies made unwritten worked
      (subst (λ (r : Result (Unit {0}) Unwritten). Settles written job.scripts drafts made mid new r) is settles) prints

  pub run_stands : (result : Result (Unit {0}) Unwritten) (unwritten : Unwritten) → result ≡ Err unwritten → Settles written job.scripts drafts made mid new result → StandsAt job.scripts unwritten.script unwritten.at
  run_stands result unwritten is settles =
      cut_stands written faults job.scripts workers drafts outputs_same old mid new made unwritten worked
      (subst (λ (r : Result (Unit {0}) Unwritten). Settles written job.scripts drafts made mid new r) is settles)

  pub run_goes : (result : Result (Unit {0}) Unwritten) → Settles written job.scripts drafts made mid new result → TookNothing old new
  run_goes result settles = nothing_twice old mid new (worked_nothing faults job.scripts workers old mid made worked) (settled_nothing written job.scripts drafts made mid new result settles)
