-- Changes, counts and their pace are told by the owner's entries.
use Rattle.std.proofs.Common.{◌≡◌, ℕ, suc, List, [], ◌∷◌, true, refl, sym, ap, ◌∙◌, subst}
use Rattle.plcr_machine.specs.declared.entry.Entry.{Entry}
use Rattle.plcr_machine.specs.declared.entry.Entry.TheVariants.{Announce, Enter, Leave, Retire, Load, Unload, Count, Look}
use Rattle.plcr_machine.specs.Lists.{changes}
use Rattle.plcr_machine.specs.Passes.{owes_count, IsPaced}
use Rattle.plcr_machine.specs.Parts.{owner_entries}
use Rattle.plcr_nodes.specs.Seeing.{AddsOthers}
use Rattle.plcr_nodes.specs.Entries.{among}
use Rattle.plcr_nodes.specs.Knowing.{KnowsTheList, StandsAsBefore}
use Rattle.plcr_nodes.proofs.Known.{live_same, loads_same, counts_same, free_same, stands_as_before}

changes-owner : (h : List Entry) → changes (owner_entries h) ≡ changes h
changes-owner [] = refl
changes-owner (Enter q ∷ past) = changes-owner past
changes-owner (Announce q s ∷ past) = changes-owner past
changes-owner (Leave q ∷ past) = changes-owner past
changes-owner (Retire q ∷ past) = changes-owner past
changes-owner (Load n i a ∷ past) = ap suc (changes-owner past)
changes-owner (Unload n ∷ past) = ap suc (changes-owner past)
changes-owner (Count ∷ past) = changes-owner past
changes-owner (Look w x ∷ past) = changes-owner past

pub changes_same : (g h : List Entry) → owner_entries g ≡ owner_entries h → changes g ≡ changes h
changes_same g h e = sym (changes-owner g) ∙ ap changes e ∙ changes-owner h

owes-owner : (h : List Entry) → owes_count (owner_entries h) ≡ owes_count h
owes-owner [] = refl
owes-owner (Enter q ∷ past) = owes-owner past
owes-owner (Announce q s ∷ past) = owes-owner past
owes-owner (Leave q ∷ past) = owes-owner past
owes-owner (Retire q ∷ past) = owes-owner past
owes-owner (Load n i a ∷ past) = refl
owes-owner (Unload n ∷ past) = refl
owes-owner (Count ∷ past) = refl
owes-owner (Look w x ∷ past) = owes-owner past

pub owes_same : (g h : List Entry) → owner_entries g ≡ owner_entries h → owes_count g ≡ owes_count h
owes_same g h e = sym (owes-owner g) ∙ ap owes_count e ∙ owes-owner h

paced_part : (h : List Entry) → IsPaced h → IsPaced (owner_entries h)
paced_part [] p = tt
paced_part (Enter q ∷ past) p = paced_part past p
paced_part (Announce q s ∷ past) p = paced_part past p
paced_part (Leave q ∷ past) p = paced_part past p
paced_part (Retire q ∷ past) p = paced_part past p
paced_part (Load n i a ∷ past) p = (owes-owner past ∙ p.0, paced_part past p.1)
paced_part (Unload n ∷ past) p = (owes-owner past ∙ p.0, paced_part past p.1)
paced_part (Count ∷ past) p = (owes-owner past ∙ p.0, paced_part past p.1)
paced_part (Look w x ∷ past) p = paced_part past p

paced_whole : (h : List Entry) → IsPaced (owner_entries h) → IsPaced h
paced_whole [] p = tt
paced_whole (Enter q ∷ past) p = paced_whole past p
paced_whole (Announce q s ∷ past) p = paced_whole past p
paced_whole (Leave q ∷ past) p = paced_whole past p
paced_whole (Retire q ∷ past) p = paced_whole past p
paced_whole (Load n i a ∷ past) p = (sym (owes-owner past) ∙ p.0, paced_whole past p.1)
paced_whole (Unload n ∷ past) p = (sym (owes-owner past) ∙ p.0, paced_whole past p.1)
paced_whole (Count ∷ past) p = (sym (owes-owner past) ∙ p.0, paced_whole past p.1)
paced_whole (Look w x ∷ past) p = paced_whole past p

pub paced_same : (g h : List Entry) → owner_entries g ≡ owner_entries h → IsPaced h → IsPaced g
paced_same g h e p = paced_whole g (subst IsPaced (sym e) (paced_part h p))

pub same_list : (numbers : List ℕ) (old all : List Entry) → AddsOthers true numbers old all → KnowsTheList old all
same_list numbers old all a =
    let e = a.owner refl in
    record {
      list = live_same all old e;
      free = λ passes n. free_same passes n all old e;
      loads = loads_same all old e;
      changes = changes_same all old e;
      counts = counts_same all old e;
      paced = paced_same all old e;
    }

pub same_joined : (numbers : List ℕ) (old all : List Entry) → AddsOthers true numbers old all → (p : ℕ) → among p numbers ≡ true → StandsAsBefore p old all
same_joined numbers old all a p joined = stands_as_before p old all (a.own p joined)
