-- What the writer knows after a step of its owner.
use Rattle.std.proofs.Common.{◌≡◌, ℕ, suc, ◌<◌, List, ◌∷◌, Some, true, false, refl, sym, ap, ◌∙◌, subst, arith}
use Rattle.plcr_machine.specs.declared.image.Image.{Image}
use Rattle.plcr_machine.specs.declared.entry.Entry.{Entry}
use Rattle.plcr_machine.specs.declared.entry.Entry.TheVariants.{Load}
use Rattle.plcr_machine.specs.Lists.{live, without, loads}
use Rattle.plcr_machine.specs.Passes.{counts, owes_count, IsPaced}
use Rattle.plcr_machine.specs.Histories.{IsLegal}
use Rattle.plcr_machine.specs.Changes.{TakesFirst}
use Rattle.plcr_machine.proofs.OnNodes.{IsApart}
use Rattle.plcr_machine.proofs.Freedom.{live_apart}
use Rattle.plcr_machine.specs.declared.limits.TheConstants.{MOST_CHANGES}
use Rattle.plcr_nodes.specs.Names.{header_in, name_in, stored_elsewhere}
use Rattle.plcr_nodes.specs.Tokens.{OwnerState}
use Rattle.plcr_nodes.specs.Owning.{IsLinked, IsUnlinked, IsCounted, IsLooked}
use Rattle.plcr_nodes.proofs.Known.{live_same, loads_same, counts_same}
use Rattle.plcr_imagelist.specs.Finding.{first_with}
use Rattle.plcr_imagelist.specs.inner.Keeping.{writer_state}
use Rattle.plcr_imagelist.specs.States.{IsAtRest}
use Rattle.plcr_imagelist.specs.Changes.{IsLookedAt, IsCountedAt, IsLoadedAt, IsUnloadedAt}
use Rattle.plcr_imagelist.proofs.Placed.{first_cut}
use Rattle.plcr_machine.proofs.ListsMade.{takes_same}
use Rattle.plcr_imagelist.proofs.Taking.{unload_takes}
use Rattle.plcr_nodes.proofs.Pacing.{owes_same, paced_same}

pub looked_at : (old : OwnerState) (pass found : ℕ) (new : OwnerState) → IsLooked old pass found new → IsLookedAt (writer_state old) pass found (writer_state new)
looked_at old pass found new k = record { past = k.entry.past; names = k.entry.names; sees = k.entry.sees; now = ap writer_state k.entry.now; legal = k.entry.legal }

pub counted_at : (old : OwnerState) (found : ℕ) (new : OwnerState) → IsCounted old found new → IsCountedAt (writer_state old) (writer_state new)
counted_at old found new k = record { past = k.entry.past; names = k.entry.names; sees = k.entry.sees; now = ap writer_state k.entry.now; legal = k.entry.legal }

pub loaded_at : (old : OwnerState) (node header load : ℕ) (name : List ℕ) (new : OwnerState) → IsLinked old node new → load ≡ suc (loads old.history) → header ≡ header_in node old.filled → name ≡ name_in node old.filled
    → IsLoadedAt (writer_state old) header name load node (writer_state new)
loaded_at old node header load name new k number h n =
    let same : load ≡ suc (loads k.past) = number ∙ ap suc (sym (loads_same k.past old.history (k.sees.added.owner refl))) in
    let may : IsLegal old.nodes old.passes (Load node (suc (loads k.past)) (header_in node old.filled) ∷ k.past) = subst (λ (s : OwnerState). IsLegal s.nodes s.passes s.history) k.now k.legal.legal in
    record {
      past = k.past;
      names = k.names;
      sees = k.sees;
      free = (may.0.0, may.0.1, may.0.2);
      number = same;
      now = ap writer_state k.now ∙ (λ i. record (writer_state old) { history = Load node (sym same i) (sym h i) ∷ k.past; names = sym n i ∷ k.names; stores = stored_elsewhere node old.filled });
      legal = k.legal;
    }

pub unloaded_at : (old : OwnerState) (image : Image) (new : OwnerState) → IsUnlinked old image.node new → first_with image.header (live old.history) ≡ Some image → IsUnloadedAt (writer_state old) image (writer_state new)
unloaded_at old image new k first =
    let lists = live_same k.past old.history (k.sees.added.owner refl) in
    let apart = subst (λ (xs : List Image). IsApart xs) lists (live_apart old.nodes old.passes k.past k.sees.legal.legal) in
    record {
      past = k.past;
      names = k.names;
      sees = k.sees;
      now = ap writer_state k.now;
      legal = k.legal;
      first = first;
      list = ap (λ (s : OwnerState). live s.history) k.now ∙ ap (without image.node) lists ∙ first_cut image.header (live old.history) image apart first;
    }

-- a count after a change leaves the writer at rest
pub rest_counted : (old : OwnerState) (found : ℕ) (new : OwnerState) → IsCounted old found new → IsPaced old.history → TakesFirst old.history → owes_count old.history ≡ true → IsAtRest (writer_state new)
rest_counted old found new k paced first owes =
    let own = k.entry.sees.added.owner refl in
    let past : List Entry = k.entry.past in
    record {
      known = k.entry.legal;
      paced = subst (λ (s : OwnerState). IsPaced s.history) (sym k.entry.now) (owes_same past old.history own ∙ owes, paced_same past old.history own paced);
      first = subst (λ (s : OwnerState). TakesFirst s.history) (sym k.entry.now) (takes_same old.history past own first);
      counted = subst (λ (s : OwnerState). owes_count s.history ≡ false) (sym k.entry.now) refl;
    }

-- after a change it is to be counted, and there is room for that
pub record IsDue (h : List Entry) : Type 0 where
  pub paced : IsPaced h
  pub first : TakesFirst h
  pub owes : owes_count h ≡ true
  pub fewer : counts h < MOST_CHANGES

pub due_linked : (old : OwnerState) (node : ℕ) (new : OwnerState) → IsLinked old node new → IsPaced old.history → TakesFirst old.history → owes_count old.history ≡ false → counts old.history < MOST_CHANGES → IsDue new.history
due_linked old node new k paced first owes few =
    let own = k.sees.added.owner refl in
    let same = counts_same k.past old.history own in
    subst (λ (s : OwnerState). IsDue s.history) (sym k.now) (record { paced = (owes_same k.past old.history own ∙ owes, paced_same k.past old.history own paced); first = takes_same old.history k.past own first; owes = refl; fewer = omega arith })

pub due_unlinked : (old : OwnerState) (image : Image) (new : OwnerState) → IsUnlinked old image.node new → IsPaced old.history → TakesFirst old.history → owes_count old.history ≡ false → counts old.history < MOST_CHANGES
    → first_with image.header (live old.history) ≡ Some image → IsDue new.history
due_unlinked old image new k paced first owes few found =
    let own = k.sees.added.owner refl in
    let same = counts_same k.past old.history own in
    let lists = live_same k.past old.history own in
    let apart = live_apart old.nodes old.passes k.past k.sees.legal.legal in
    let taken = unload_takes (live k.past) image apart (ap (first_with image.header) lists ∙ found) in
    subst (λ (s : OwnerState). IsDue s.history) (sym k.now)
    (record { paced = (owes_same k.past old.history own ∙ owes, paced_same k.past old.history own paced); first = (taken, takes_same old.history k.past own first); owes = refl; fewer = omega arith })
