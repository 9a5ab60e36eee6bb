-- Workers that took all statements of their scripts, by what they were before.
use Rattle.std.proofs.Common.{◌≡◌, ℕ, suc, ◌<◌, List, [], ◌∷◌, length, get_or, slice_get, All, Option, Some, sym, ap, ◌∙◌, subst, arith}
use Rattle.std.proofs.lemmas.List.Elements.{All-tail}
use Rattle.atomic_table.specs.Seated.{TableId}
use Rattle.crossbeam_queue.specs.Passes.{view}
use Rattle.plcr_base.specs.Told.{IfTold}
use Rattle.plcr_macho.specs.Images.{Listed}
use Rattle.plcr_imagelist.specs.Holds.{WalkerState}
use Rattle.plcr_script.specs.Reading.{files_of}
use Rattle.plcr_script.specs.Scripts.{ScriptValue}
use Rattle.plcr_workers.specs.declared.drafts.Progress.TheVariants.{Waiting}
use Rattle.plcr_workers.specs.declared.drafts.Draft.{Draft}
use Rattle.plcr_workers.specs.declared.places.Place.TheVariants.{Out}
use Rattle.plcr_workers.specs.declared.worker.Worker.{Worker}
use Rattle.plcr_workers.specs.inner.Drafts.{HasTaken, HaveTaken}
use Rattle.plcr_workers.specs.inner.Hired.{AreNew, IsReadyToRun}
use Rattle.plcr_workers.specs.inner.Outputs.{AreEmpty, AreSameWorkers, HaveEmpty}
use Rattle.plcr_workers.specs.inner.Traces.{ActsWholeOf, HaveActed, HaveBytes, HaveGained, IsActed, Ran}
use Rattle.plcr_workers.proofs.Hires.{some_value}
use Rattle.plcr_workers.proofs.Lawful.{told_bytes}
use Rattle.plcr_workers.proofs.Tracing.{ran_count}

have_bytes : {K : Type 0} (written : K → Option (List ℕ)) (firsts drafts : List (Draft K)) (wrote : List (List ℕ)) → length drafts ≡ length wrote → length firsts ≡ length drafts → HaveGained written wrote firsts drafts → AreEmpty written firsts → HaveBytes written drafts wrote
have_bytes written [] [] [] many same gained empty = tt
have_bytes written [] [] (b ∷ wrote) many same gained empty = absurd (omega (arith, many))
have_bytes written [] (d ∷ drafts) wrote many same gained empty = absurd (omega (arith, same))
have_bytes written (f ∷ firsts) [] wrote many same gained empty = absurd (omega (arith, same))
have_bytes written (f ∷ firsts) (d ∷ drafts) [] many same gained empty = absurd (omega (arith, many))
have_bytes {K} written (f ∷ firsts) (d ∷ drafts) (b ∷ wrote) many same gained empty = (
  told_bytes (written f.out) (written d.out) b (empty 0 f (omega arith)).1 (gained 0 b d (omega arith)),
  have_bytes written firsts drafts wrote (omega (arith, many)) (omega (arith, same)) (λ k bytes other less. gained (suc k) bytes other (omega (arith, less)))
      (All-tail (λ (x : Draft K). (x.progress ≡ Waiting) × IfTold (written x.out) (λ bytes. bytes ≡ [])) f firsts empty),
)

acted_one : {K : Type 0} (written : K → Option (List ℕ)) (faults : K → ℕ) (report : List Listed → List ℕ) (queue list : TableId) (scripts : List ScriptValue) (old new : Worker K) → (view old.turns).journal ≡ [] → ((image : WalkerState) → old.image ≡ Some image → image.history ≡ [])
    → AreEmpty written old.drafts.items → IsReadyToRun faults queue list scripts old → HasTaken faults old new → ActsWholeOf written report scripts old new → IsActed written report scripts new
acted_one {K} written faults report queue list scripts old new journal untouched empty ready taken acts = record {
  script = acts.script;
  stands = ap (slice_get scripts) taken.number ∙ acts.stands;
  gone = λ all.
      let a = acts.acts all in
      let image = ready.ready.image in
      let same : ready.script ≡ acts.script = some_value (sym ready.stands ∙ acts.stands) in
      let count = ran_count report old.script 0 acts.script.statements (Out a.first) (view old.turns) new.lines.items a.wrote a.place (view new.turns) a.ran in
      let many = taken.places.count in
      let outputs = ready.outputs.count ∙ ap (λ (s : ScriptValue). length (files_of s.statements)) same in
      record {
        first = a.first;
        number = ap (λ (i : WalkerState). i.number) (some_value (sym a.was ∙ image.held)) ∙ image.number ∙ sym taken.number;
        none = untouched a.first a.was;
        start = view old.turns;
        empty = journal;
        last = a.last;
        is = a.is;
        place = a.place;
        out = a.out;
        wrote = a.wrote;
        ran = subst (λ n. Ran report n 0 acts.script.statements (Out a.first) (view old.turns) new.lines.items a.wrote a.place (view new.turns)) (sym taken.number) a.ran;
        bytes = have_bytes written old.drafts.items new.drafts.items a.wrote (omega (arith, many, outputs, count)) (omega (arith, many)) a.gained empty;
      };
}

-- all workers, which were hired, got their outputs and ran
pub acted_all : {K : Type 0} (written : K → Option (List ℕ)) (faults : K → ℕ) (report : List Listed → List ℕ) (queue list : TableId) (scripts : List ScriptValue) (olds made news : List (Worker K)) → AreNew scripts olds → AreSameWorkers olds made → HaveEmpty written made
    → All (λ w. IsReadyToRun faults queue list scripts w) made → HaveTaken faults made news → HaveActed written report scripts made news → All (λ w. IsActed written report scripts w) news
acted_all {K} written faults report queue list scripts olds made news new same empty ready taken acted k other within =
    let less : k < length made = (let count = taken.count in omega (arith, count, within)) in
    let first : k < length olds = (let count = same.count in omega (arith, count, less)) in
    let is = same.each k other first in
    let was = new k other first in
    acted_one written faults report queue list scripts (get_or made k other) (get_or news k other) (ap (λ (w : Worker K). (view w.turns).journal) is ∙ was.journal)
    (λ image e. was.untouched image (sym (ap (λ (w : Worker K). w.image) is) ∙ e))
    (empty k other less) (ready k other less) (taken.each k other less) (acted k other less)
