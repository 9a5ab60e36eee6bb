-- One step of a run: what was done with its file and its line, and the turn of its statement.
use Rattle.std.proofs.Common.{inl, inr, ◌≡◌, ◌≢◌, ℕ, ◌<◌, true, false, List, [], ◌∷◌, Option, None, Result, Ok, Err, Bor, length, cond, refl, sym, ap, subst, ◌∙◌, ⊎_elim, ne_eqb}
use Rattle.std.proofs.lemmas.Bool.{cases_eq}
use Rattle.std.specs.Prelude.{◌==◌, if◌then◌else◌}
use Rattle.std.specs.Io.KnownBytes.{append_known}
use Rattle.plcr_base.specs.Causes.{Rose}
use Rattle.plcr_base.specs.Told.{Gains, AppendsProperFront, Prints}
use Rattle.plcr_base.proofs.Appended.{append_nothing}
use Rattle.plcr_base.proofs.Gained.{gains_none}
use Rattle.plcr_io.specs.Desk.{Told}
use Rattle.plcr_machine.specs.declared.image.Image.{Image}
use Rattle.plcr_machine.specs.declared.change.Named.{Named}
use Rattle.plcr_machine.specs.Changes.{named, all_named}
use Rattle.plcr_machine.specs.Events.{changes_in}
use Rattle.plcr_machine.proofs.Cases.{eqb_same}
use Rattle.plcr_macho.specs.Images.{Listed}
use Rattle.plcr_imagelist.specs.Walk as walk
use Rattle.plcr_script.specs.declared.outcomes.Outcome.{Outcome}
use Rattle.plcr_script.specs.declared.outcomes.Outcome.TheVariants.{Reported}
use Rattle.plcr_script.specs.Log.{log_line}
use Rattle.plcr_script.specs.Contexts.{lent}
use Rattle.plcr_script.specs.Meanings.{Meanings}
use Rattle.plcr_script.specs.RunStates.{Place, State, placed, is_in, met_in, entered_if_out, walked, walk_to_end, left}
use Rattle.plcr_script.specs.RunTurns.{Turn, listed, reported, report_turn}
use Rattle.plcr_command.specs.Seen.{Seen, seen}
use Rattle.plcr_command.specs.Saving.{IsSaved, IsUnsaved}
use Rattle.plcr_command.specs.Lines.{cannot_write}
use Rattle.plcr_command.specs.Endings.{HasKept, CannotWrite, CannotPrint}
use Rattle.plcr_run.specs.declared.stepping.Stop.{Stop}
use Rattle.plcr_run.specs.declared.stepping.Stop.TheVariants.{Unwritten, Unprinted}
use Rattle.plcr_run.specs.declared.slots.Slot.{Slot}
use Rattle.plcr_run.specs.declared.slots.Slot.TheVariants.{Out, In, Away}
use Rattle.plcr_run.specs.declared.writing.Writing.{Writing}
use Rattle.plcr_run.specs.inner.Slots.{slot_at, IsInSlot, IsOutSlot, IsInAt, IsOutAt}
use Rattle.plcr_run.specs.inner.Tokens.{writer_of, IsAll, place_in, StateIs, Goes, Turns, LeavesWith}
use Rattle.plcr_run.specs.inner.Reports.{images_in, images_at}
use Rattle.plcr_run.specs.inner.Stepping.{IsUnwritten, StepEnds, StepLeaves, StepIs, Takes, ReportEnds}
use Rattle.plcr_run.proofs.Leaving.{goes_twice, state_same, place_out, place_inside}
use Rattle.plcr_run.proofs.Kept.{entering_keeps, entering_follows}

-- a line was printed
pub line_done : (line : List ℕ) (desk : Told) (lines lines_after : Option (List ℕ)) (faults faults_after : ℕ) → lines_after ≡ append_known lines line → HasKept [] line (seen desk lines faults) (seen desk lines_after faults_after)
line_done line desk lines lines_after faults faults_after printed = record {
  made = gains_none desk.made;
  kept = gains_none desk.kept;
  dropped = gains_none desk.dropped;
  lines = printed;
}

-- a line wasn't printed whole
pub line_unprinted : (line : List ℕ) (desk : Told) (lines lines_after : Option (List ℕ)) (faults faults_after : ℕ) → AppendsProperFront lines lines_after line → Rose faults faults_after → CannotPrint [] [] line (seen desk lines faults) (seen desk lines_after faults_after)
line_unprinted line desk lines lines_after faults faults_after cut rose = record {
  made = gains_none desk.made;
  kept = gains_none desk.kept;
  dropped = gains_none desk.dropped;
  lines = let Q : Option (List ℕ) → Type 0 = λ o. AppendsProperFront o lines_after line in subst Q (sym (append_nothing lines)) cut;
  cause = rose;
}

-- a step that keeps no file
told_leaves : (result : Result (Unit {0}) Stop) (line : List ℕ) (before after : Seen) (state next : State) (new : Writing) (news : List Slot) → StepEnds result [] line before after → StateIs new news next → StepLeaves result state next new news
told_leaves (Ok done) line before after state next new news ends is = is
told_leaves (Err Unprinted) line before after state next new news ends is = is
told_leaves (Err Unwritten) line before after state next new news ends is = let no = ends.file in cc

told_is : (turn : Turn) (number : ℕ) (state : State) (before after : Seen) (new : Writing) (news : List Slot) (result : Result (Unit {0}) Stop) (said : Outcome) → said ≡ turn.outcome → turn.kept ≡ [] → StateIs new news turn.state → StepEnds result [] (log_line None number said) before after
    → StepIs turn number state before after new news result
told_is turn number state before after new news result said is none at ends = record {
  ends = subst (λ (fs : List (List ℕ × List ℕ)). StepEnds result fs (log_line None number turn.outcome) before after) (sym none) (subst (λ (o : Outcome). StepEnds result [] (log_line None number o) before after) is ends);
  leaves = told_leaves result (log_line None number said) before after state turn.state new news ends at;
}

pub told_takes : (turn : State → Turn) (number : ℕ) (old : Writing) (olds : List Slot) (before after : Seen) (new : Writing) (news : List Slot) (result : Result (Unit {0}) Stop) (said : Outcome) → ((state : State) → (turn state).kept ≡ []) → Turns old olds turn new news said
    → StepEnds result [] (log_line None number said) before after → Takes turn number old olds before new news after result
told_takes turn number old olds before after new news result said none t ends = record {
  sizes = t.goes.sizes;
  back = t.goes.back;
  is = λ all state is. told_is (turn state) number state before after new news result said (t.outcome all state is) (none state) (t.goes.state all state is) ends;
}

-- the images of a hold, without their numbers
images_listed : (names : List (List ℕ)) (met : List Image) → walk.all_named names met ≡ listed (all_named names met)
images_listed names [] = refl
images_listed names (x ∷ met) = ap (λ (l : List Listed). walk.with_name names x ∷ l) (images_listed names met)

images_met : (slot : Slot) → images_in slot ≡ listed (met_in (place_in slot))
images_met (Out pass) = refl
images_met (In hold) = images_listed hold.walker.names hold.met
images_met Away = refl

-- where a pass was put
placed_here : (pass : ℕ) (place : Place) (places : ℕ → Place) → placed pass place places pass ≡ place
placed_here pass place places = ap (λ b. cond b place (places pass)) (eqb_same pass)

-- what a pass that walked to its end reports
reported_there : (pass : ℕ) (s : State) → met_in ((walked pass (walk_to_end (changes_in s.events) (s.places pass)) s).places pass) ≡ reported pass s
reported_there pass s = ap met_in (placed_here pass (walk_to_end (changes_in s.events) (s.places pass)) s.places)

-- the steps of a report up to the one that keeps its file
pub record Saves (pass : ℕ) (old : Writing) (olds : List Slot) (mid : Writing) (mids : List Slot) : Type 0 where
  pub goes : Goes old olds (λ state. walked pass (walk_to_end (changes_in (entered_if_out pass state).events) ((entered_if_out pass state).places pass)) (entered_if_out pass state)) mid mids
  pub below : pass < (writer_of mid).passes

pub saves : (pass : ℕ) (old : Writing) (olds : List Slot) (first : Writing) (firsts : List Slot) (mid : Writing) (mids : List Slot) → Goes old olds (entered_if_out pass) first firsts → Goes first firsts (λ state. walked pass (walk_to_end (changes_in state.events) (state.places pass)) state) mid mids → pass < (writer_of mid).passes → Saves pass old olds mid mids
saves pass old olds first firsts mid mids a b below = record { goes = goes_twice old olds _ first firsts _ mid mids a b; below = below }

-- the images that were written
images_are : (pass : ℕ) (old : Writing) (olds : List Slot) (mid : Writing) (mids : List Slot) → Saves pass old olds mid mids → IsAll mid mids → (state : State) → StateIs old olds state → images_at mids pass ≡ listed (reported pass (entered_if_out pass state))
images_are pass old olds mid mids s all state is =
    let at = (s.goes.state all state is).places pass s.below in
    images_met (slot_at mids pass) ∙ ap (λ (p : Place). listed (met_in p)) at ∙ ap listed (reported_there pass (entered_if_out pass state))

-- a file wasn't kept
unwritten_is : (report file name : List ℕ) (faults faults_after : ℕ) (old new : Told) (lines lines_after : Option (List ℕ)) → IsUnsaved name report old new → name ≡ file → Prints lines lines_after (cannot_write file) faults faults_after → IsUnwritten ((file, report) ∷ []) (seen old lines faults) (seen new lines_after faults_after)
unwritten_is report file name faults faults_after old new lines lines_after unsaved named printed =
    let stop : CannotWrite [] [] file report (seen old lines faults) (seen new lines_after faults_after) = record {
      outcome = elim unsaved.outcome [
        | inl none ↦ inl none
        | inr one ↦ inr (let P : List ℕ → Type 0 = λ l. Gains old.made new.made (l ∷ []) in subst P named one.0, one.1)
      ];
      kept = unsaved.kept;
      lines = let Q : Option (List ℕ) → Type 0 = λ o. Prints o lines_after (cannot_write file) faults faults_after in subst Q (sym (append_nothing lines)) printed;
      cause = unsaved.cause;
    } in
    record { name = file; bytes = report; file = refl; stop = stop }

pub report_unwritten : (process : Meanings) (number pass : ℕ) (file name : List ℕ) (old : Writing) (olds : List Slot) (mid : Writing) (mids : List Slot) (faults faults_after : ℕ) (desk desk_after : Told) (lines lines_after : Option (List ℕ))
    → Saves pass old olds mid mids → IsUnsaved name (process.report (images_at mids pass)) desk desk_after → name ≡ file → Prints lines lines_after (cannot_write file) faults faults_after
    → ReportEnds process number pass file old olds (seen desk lines faults) mid mids (seen desk_after lines_after faults_after) (Err Unwritten)
report_unwritten process number pass file name old olds mid mids faults faults_after desk desk_after lines lines_after s unsaved named printed = record {
  sizes = s.goes.sizes;
  back = s.goes.back;
  is = λ all state is.
      let images = images_are pass old olds mid mids s all state is in
      let inside : State = entered_if_out pass state in
      let stop = unwritten_is (process.report (images_at mids pass)) file name faults faults_after desk desk_after lines lines_after unsaved named printed in
      record {
        ends = subst (λ (l : List Listed). IsUnwritten ((file, process.report l) ∷ []) (seen desk lines faults) (seen desk_after lines_after faults_after)) images stop;
        leaves = (walked pass (walk_to_end (changes_in inside.events) (inside.places pass)) inside, s.goes.state all state is, entering_keeps pass state, entering_follows pass state);
      };
}

-- the pass came out then
left_as : (pass : ℕ) (place : Place) (new : Writing) (news : List Slot) (s : State) → StateIs new news (left pass (walked pass place s)) → StateIs new news (left pass s)
left_as pass place new news s is = state_same new news (left pass (walked pass place s)) (left pass s) refl refl
    (λ k below. ⊎_elim
    (λ (e : k ≡ pass). rw (e, eqb_same pass) refl)
    (λ (n : k ≡ pass → ⊥). rw (ne_eqb k pass n) refl)
    (cases_eq k pass)) is

-- the line of a report
line_is : (number bytes images low high : ℕ) (file : Bor (List ℕ)) → log_line None number (Reported file bytes images low high) ≡ log_line None number (Reported (lent file.now) bytes images low high)
unfolding log_line
line_is number bytes images low high file = refl

-- a whole report: its file was kept, and the pass came out
pub record Reports (process : Meanings) (number pass : ℕ) (file : Bor (List ℕ)) (bytes met low high : ℕ) (old : Writing) (olds : List Slot) (mid : Writing) (mids : List Slot) (new : Writing) (news : List Slot) : Type 0 where
  pub saved : Saves pass old olds mid mids
  pub goes : Goes mid mids (left pass) new news
  pub told : LeavesWith mid mids pass new news met low high
  pub length_is : bytes ≡ length (process.report (images_at mids pass))

-- and its turn
record ReportedIs (process : Meanings) (number pass : ℕ) (file : Bor (List ℕ)) (bytes met low high : ℕ) (report : List ℕ) (state : State) (new : Writing) (news : List Slot) : Type 0 where
  pub kept : (file.now, report) ∷ [] ≡ (report_turn process pass file.now state).kept
  pub line : log_line None number (Reported file bytes met low high) ≡ log_line None number (report_turn process pass file.now state).outcome
  pub leaves : StateIs new news (report_turn process pass file.now state).state

reported_is : (process : Meanings) (number pass : ℕ) (file : Bor (List ℕ)) (bytes met low high : ℕ) (old : Writing) (olds : List Slot) (mid : Writing) (mids : List Slot) (new : Writing) (news : List Slot) → Reports process number pass file bytes met low high old olds mid mids new news
    → IsAll new news → (state : State) → StateIs old olds state → ReportedIs process number pass file bytes met low high (process.report (images_at mids pass)) state new news
reported_is process number pass file bytes met low high old olds mid mids new news r all state is =
    let all' = r.goes.back all in
    let images = images_are pass old olds mid mids r.saved all' state is in
    let inside : State = entered_if_out pass state in
    let place : Place = walk_to_end (changes_in inside.events) (inside.places pass) in
    let middle = r.saved.goes.state all' state is in
    let tells = r.told all (walked pass place inside) middle in
    let count : met ≡ length (reported pass inside) = tells.0 ∙ ap (λ (l : List Named). length l) (reported_there pass inside) in
    let size : bytes ≡ length (process.report (listed (reported pass inside))) = r.length_is ∙ ap (λ (l : List Listed). length (process.report l)) images in
    record {
      kept = ap (λ (l : List Listed). (file.now, process.report l) ∷ []) images;
      line = line_is number bytes met low high file ∙ (λ i. log_line None number (Reported (lent file.now) (size i) (count i) (tells.1 i) (tells.2 i)));
      leaves = left_as pass place new news inside (r.goes.state all (walked pass place inside) middle);
    }

-- the file was kept and the line printed, or not whole
saved_done : (report name file line : List ℕ) (faults faults_after : ℕ) (old new : Told) (lines lines_after : Option (List ℕ)) → IsSaved name report old new → name ≡ file → lines_after ≡ append_known lines line → HasKept ((file, report) ∷ []) line (seen old lines faults) (seen new lines_after faults_after)
saved_done report name file line faults faults_after old new lines lines_after saved named printed = record {
  made = let P : List ℕ → Type 0 = λ l. Gains old.made new.made (l ∷ []) in subst P named saved.made;
  kept = let P : List ℕ → Type 0 = λ l. Gains old.kept new.kept ((l, report) ∷ []) in subst P named saved.kept;
  dropped = saved.dropped;
  lines = printed;
}

saved_unprinted : (report name file line : List ℕ) (faults faults_after : ℕ) (old new : Told) (lines lines_after : Option (List ℕ)) → IsSaved name report old new → name ≡ file → AppendsProperFront lines lines_after line → Rose faults faults_after → CannotPrint ((file, report) ∷ []) [] line (seen old lines faults) (seen new lines_after faults_after)
saved_unprinted report name file line faults faults_after old new lines lines_after saved named cut rose = record {
  made = let P : List ℕ → Type 0 = λ l. Gains old.made new.made (l ∷ []) in subst P named saved.made;
  kept = let P : List ℕ → Type 0 = λ l. Gains old.kept new.kept ((l, report) ∷ []) in subst P named saved.kept;
  dropped = saved.dropped;
  lines = let Q : Option (List ℕ) → Type 0 = λ o. AppendsProperFront o lines_after line in subst Q (sym (append_nothing lines)) cut;
  cause = rose;
}

reports_sizes : (pass : ℕ) (old : Writing) (olds : List Slot) (mid : Writing) (mids : List Slot) (new : Writing) (news : List Slot) → Saves pass old olds mid mids → Goes mid mids (left pass) new news → ((writer_of new).nodes ≡ (writer_of old).nodes) × ((writer_of new).passes ≡ (writer_of old).passes)
reports_sizes pass old olds mid mids new news s g = (g.sizes.0 ∙ s.goes.sizes.0, g.sizes.1 ∙ s.goes.sizes.1)

pub report_done : (process : Meanings) (number pass : ℕ) (file : Bor (List ℕ)) (name : List ℕ) (bytes met low high : ℕ) (old : Writing) (olds : List Slot) (mid : Writing) (mids : List Slot) (new : Writing) (news : List Slot) (faults faults_after : ℕ) (desk desk_after : Told) (lines lines_after : Option (List ℕ))
    → Reports process number pass file bytes met low high old olds mid mids new news → IsSaved name (process.report (images_at mids pass)) desk desk_after → name ≡ file.now → lines_after ≡ append_known lines (log_line None number (Reported file bytes met low high))
    → ReportEnds process number pass file.now old olds (seen desk lines faults) new news (seen desk_after lines_after faults_after) (Ok tt)
report_done process number pass file name bytes met low high old olds mid mids new news faults faults_after desk desk_after lines lines_after r saved named printed = record {
  sizes = reports_sizes pass old olds mid mids new news r.saved r.goes;
  back = λ all. r.saved.goes.back (r.goes.back all);
  is = λ all state is.
      let t = reported_is process number pass file bytes met low high old olds mid mids new news r all state is in
      let done = saved_done (process.report (images_at mids pass)) name file.now (log_line None number (Reported file bytes met low high)) faults faults_after desk desk_after lines lines_after saved named printed in
      record {
        ends = subst (λ (fs : List (List ℕ × List ℕ)). HasKept fs (log_line None number (report_turn process pass file.now state).outcome) (seen desk lines faults) (seen desk_after lines_after faults_after)) t.kept
            (subst (λ (l : List ℕ). HasKept ((file.now, process.report (images_at mids pass)) ∷ []) l (seen desk lines faults) (seen desk_after lines_after faults_after)) t.line done);
        leaves = t.leaves;
      };
}

pub report_unprinted : (process : Meanings) (number pass : ℕ) (file : Bor (List ℕ)) (name : List ℕ) (bytes met low high : ℕ) (old : Writing) (olds : List Slot) (mid : Writing) (mids : List Slot) (new : Writing) (news : List Slot) (faults faults_after : ℕ) (desk desk_after : Told) (lines lines_after : Option (List ℕ))
    → Reports process number pass file bytes met low high old olds mid mids new news → IsSaved name (process.report (images_at mids pass)) desk desk_after → name ≡ file.now → AppendsProperFront lines lines_after (log_line None number (Reported file bytes met low high)) → Rose faults faults_after
    → ReportEnds process number pass file.now old olds (seen desk lines faults) new news (seen desk_after lines_after faults_after) (Err Unprinted)
report_unprinted process number pass file name bytes met low high old olds mid mids new news faults faults_after desk desk_after lines lines_after r saved named cut rose = record {
  sizes = reports_sizes pass old olds mid mids new news r.saved r.goes;
  back = λ all. r.saved.goes.back (r.goes.back all);
  is = λ all state is.
      let t = reported_is process number pass file bytes met low high old olds mid mids new news r all state is in
      let stop = saved_unprinted (process.report (images_at mids pass)) name file.now (log_line None number (Reported file bytes met low high)) faults faults_after desk desk_after lines lines_after saved named cut rose in
      record {
        ends = subst (λ (fs : List (List ℕ × List ℕ)). CannotPrint fs [] (log_line None number (report_turn process pass file.now state).outcome) (seen desk lines faults) (seen desk_after lines_after faults_after)) t.kept
            (subst (λ (l : List ℕ). CannotPrint ((file.now, process.report (images_at mids pass)) ∷ []) [] l (seen desk lines faults) (seen desk_after lines_after faults_after)) t.line stop);
        leaves = t.leaves;
      };
}

-- passes that are in, in the slots
in_place : (slot : Slot) → IsInSlot slot → is_in (place_in slot) ≡ true
in_place slot i = place_inside slot i

out_place : (slot : Slot) → IsOutSlot slot → is_in (place_in slot) ≡ false
out_place slot o = ap is_in (place_out slot o)

pub moves_in : (pass : ℕ) (olds news : List Slot) → IsInAt news pass → ((k : ℕ) → k ≢ pass → slot_at news k ≡ slot_at olds k) → (k : ℕ) → is_in (place_in (slot_at news k)) ≡ (if pass == k then true else is_in (place_in (slot_at olds k)))
moves_in pass olds news inside others k = ⊎_elim
    (λ (e : k ≡ pass). rw (e, eqb_same pass) (in_place (slot_at news pass) inside))
    (λ (n : k ≡ pass → ⊥). rw (ne_eqb pass k (λ s. n (sym s))) (ap (λ (s : Slot). is_in (place_in s)) (others k n)))
    (cases_eq k pass)

pub moves_out : (pass : ℕ) (olds news : List Slot) → IsOutAt news pass → ((k : ℕ) → k ≢ pass → slot_at news k ≡ slot_at olds k) → (k : ℕ) → is_in (place_in (slot_at news k)) ≡ (if pass == k then false else is_in (place_in (slot_at olds k)))
moves_out pass olds news outside others k = ⊎_elim
    (λ (e : k ≡ pass). rw (e, eqb_same pass) (out_place (slot_at news pass) outside))
    (λ (n : k ≡ pass → ⊥). rw (ne_eqb pass k (λ s. n (sym s))) (ap (λ (s : Slot). is_in (place_in s)) (others k n)))
    (cases_eq k pass)

pub moves_none : (pass : ℕ) (olds news : List Slot) → IsInAt olds pass → IsInAt news pass → ((k : ℕ) → k ≢ pass → slot_at news k ≡ slot_at olds k) → (k : ℕ) → is_in (place_in (slot_at news k)) ≡ is_in (place_in (slot_at olds k))
moves_none pass olds news before inside others k = ⊎_elim
    (λ (e : k ≡ pass). ap (λ j. is_in (place_in (slot_at news j))) e ∙ in_place (slot_at news pass) inside ∙ sym (ap (λ j. is_in (place_in (slot_at olds j))) e ∙ in_place (slot_at olds pass) before))
    (λ (n : k ≡ pass → ⊥). ap (λ (s : Slot). is_in (place_in s)) (others k n))
    (cases_eq k pass)
