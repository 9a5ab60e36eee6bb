-- How many changes a writer's calls make.
use Rattle.std.proofs.Common.{◌≡◌, ℕ, zero, suc, List, Some, None, Option, Result, Ok, Err, refl, ap, ◌∙◌, arith}
use Rattle.std.specs.Prelude.{is_ok}
use Rattle.plcr_machine.specs.declared.image.Image.{Image}
use Rattle.plcr_machine.specs.Lists.{changes, loads}
use Rattle.plcr_nodes.proofs.Known.{loads_same}
use Rattle.plcr_nodes.proofs.Pacing.{changes_same}
use Rattle.plcr_imagelist.specs.declared.refusals.LoadRefused.{LoadRefused}
use Rattle.plcr_imagelist.specs.declared.refusals.LoadRefused.TheVariants.{Full, NameTooLong, Worn}
use Rattle.plcr_imagelist.specs.declared.refusals.UnloadRefused.{UnloadRefused}
use Rattle.plcr_imagelist.specs.States.{WriterState}
use Rattle.plcr_imagelist.specs.Changes.{IsLookedAt, Looks, IsCountedAt, IsLoadedAt, IsUnloadedAt, FindsNode, AtOnce, AfterLooks}
use Rattle.plcr_imagelist.specs.Loading.{IsLoaded, IsUnloaded, LoadsOrRefuses, UnloadsOrRefuses}
use Rattle.plcr_imagelist.specs.Refusing.{RefusesFull}
use Rattle.plcr_race.specs.Counting.{MakesChanges, MakesLoads, one_if}

-- a state as it was, with no change more
stays : (old new : WriterState) → new ≡ old → MakesLoads old 0 new
stays old new same = (ap (λ (w : WriterState). loads w.history) same ∙ omega arith, ap (λ (w : WriterState). changes w.history) same ∙ omega arith)

looked_makes : (old : WriterState) (pass stamp : ℕ) (new : WriterState) → IsLookedAt old pass stamp new → MakesLoads old 0 new
looked_makes old pass stamp new k =
    let own = k.sees.added.owner refl in (
      ap (λ (w : WriterState). loads w.history) k.now ∙ loads_same k.past old.history own ∙ omega arith,
      ap (λ (w : WriterState). changes w.history) k.now ∙ changes_same k.past old.history own ∙ omega arith,
    )

looks_make : (passes : ℕ) (old : WriterState) (found : ℕ) (new : WriterState) → Looks passes old found new → MakesLoads old 0 new
looks_make zero old found new k = stays old new k.0
looks_make (suc pass) old found new k =
    let before = looks_make pass old k.1 k.0 k.3 in
    let last = looked_makes k.0 pass k.2 new k.4 in
    (omega (arith, before.0, last.0), omega (arith, before.1, last.1))

counted_makes : (old new : WriterState) → IsCountedAt old new → MakesLoads old 0 new
counted_makes old new k =
    let own = k.sees.added.owner refl in (
      ap (λ (w : WriterState). loads w.history) k.now ∙ loads_same k.past old.history own ∙ omega arith,
      ap (λ (w : WriterState). changes w.history) k.now ∙ changes_same k.past old.history own ∙ omega arith,
    )

linked_makes : (old : WriterState) (header : ℕ) (name : List ℕ) (load node : ℕ) (new : WriterState) → IsLoadedAt old header name load node new → MakesLoads old 1 new
linked_makes old header name load node new k =
    let own = k.sees.added.owner refl in (
      ap (λ (w : WriterState). loads w.history) k.now ∙ ap suc (loads_same k.past old.history own) ∙ omega arith,
      ap (λ (w : WriterState). changes w.history) k.now ∙ ap suc (changes_same k.past old.history own) ∙ omega arith,
    )

unlinked_makes : (old : WriterState) (image : Image) (new : WriterState) → IsUnloadedAt old image new → MakesChanges old 1 new
unlinked_makes old image new k =
    ap (λ (w : WriterState). changes w.history) k.now ∙ ap suc (changes_same k.past old.history (k.sees.added.owner refl)) ∙ omega arith

ready_makes : (old : WriterState) (node : ℕ) (ready : WriterState) → FindsNode old node ready → MakesLoads old 0 ready
ready_makes old node ready (AtOnce free same) = stays old ready same
ready_makes old node ready (AfterLooks none found looks free) = looks_make old.passes old found ready looks

loaded_makes : (old : WriterState) (header : ℕ) (name : List ℕ) (number : ℕ) (new : WriterState) → IsLoaded old header name number new → MakesLoads old 1 new
loaded_makes old header name number new k =
    let ready = ready_makes old k.node k.ready k.finds in
    let linked = linked_makes k.ready header name number k.node k.linked k.link in
    let counted = counted_makes k.linked new k.count in
    (omega (arith, ready.0, linked.0, counted.0), omega (arith, ready.1, linked.1, counted.1))

unloaded_makes : (old : WriterState) (image : Image) (new : WriterState) → IsUnloaded old image new → MakesChanges old 1 new
unloaded_makes old image new k =
    let unlinked = unlinked_makes old image k.unlinked k.unlink in
    let counted = counted_makes k.unlinked new k.count in
    omega (arith, unlinked, counted.1)

refused_makes : (old new : WriterState) (refused : LoadRefused) → RefusesFull old new refused → MakesLoads old 0 new
refused_makes old new (Full lives held seen) k = looks_make old.passes old k.announced new k.looks
refused_makes old new (NameTooLong len) k = absurd k
refused_makes old new (Worn changes) k = absurd k

-- a load counts one where it isn't refused
pub load_makes : (old : WriterState) (header : ℕ) (name : List ℕ) (new : WriterState) (result : Result ℕ LoadRefused) → LoadsOrRefuses old header name new result → MakesLoads old (one_if (is_ok result)) new
load_makes old header name new (Ok number) k = loaded_makes old header name number new k
load_makes old header name new (Err refused) k = refused_makes old new refused k

-- so does an unload
pub unload_makes : (old : WriterState) (first : Option Image) (new : WriterState) (result : Result ℕ UnloadRefused) → UnloadsOrRefuses old first new result → MakesChanges old (one_if (is_ok result)) new
unload_makes old (Some image) new (Ok number) k = unloaded_makes old image new k.1
unload_makes old (Some image) new (Err refused) k = absurd k
unload_makes old None new (Ok number) k = absurd k
unload_makes old None new (Err refused) k = (stays old new k.1).1

-- a worn writer makes no change
pub worn_makes : {A : Type 0} (old new : WriterState) (result : Result ℕ A) (refused : A) → (new ≡ old) × (result ≡ Err refused) → MakesLoads old (one_if (is_ok result)) new
worn_makes old new result refused k = rw k.1 (stays old new k.0)
