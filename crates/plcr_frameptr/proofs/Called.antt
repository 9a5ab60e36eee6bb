-- The caller by a saved frame is the one that the two words at the frame pointer tell.
use Rattle.std.proofs.Common.{◌≡◌, ◌<◌, ◌==◌, ◌⊎◌, ℕ, Bool, true, false, cond, List, Option, Some, None, refl, sym, ap, ◌∙◌, arith}
use Rattle.std.specs.Prelude.{◌≢◌}
use Rattle.std.proofs.lemmas.Bool.{eqb-false}
use Rattle.std.proofs.lemmas.Bool.Decides.{nat_tests}
use Rattle.plcr_base.specs.Numbers.{u64_in}
use Rattle.plcr_base.proofs.Plain.{not_equal}
use Rattle.plcr_memory.specs.Regions.{Contents, bytes_at}
use Rattle.plcr_regs.specs.declared.frame.Frame.{Frame}
use Rattle.plcr_regs.specs.declared.frame.Step.{Step}
use Rattle.plcr_regs.specs.declared.frame.Step.TheVariants as steps
use Rattle.plcr_regs.specs.Frames.{register_at}
use Rattle.plcr_regs.specs.Places.{fp_place}
use Rattle.plcr_frameptr.specs.declared.saved.TheConstants.{SAVED_FRAME}
use Rattle.plcr_frameptr.specs.declared.bad.TheConstants.{DOES_NOT_RISE}
use Rattle.plcr_frameptr.specs.Saved.{by_bytes, by_pointer, caller_of, rises, saved_frame}
use Rattle.plcr_frameptr.specs.Callers.{IsCaller}

rises_by : (pointer saved : ℕ) → rises pointer saved ≡ true → (saved ≡ 0) ⊎ (pointer < saved)
rises_by pointer saved h = grind (arith, nat_tests)

rises_back : (pointer saved : ℕ) → (saved ≡ 0) ⊎ (pointer < saved) → rises pointer saved ≡ true
rises_back pointer saved h = grind (arith, nat_tests)

-- what the words tell, where they rise
by_words : Frame → ℕ → List ℕ → Bool → Step
by_words frame pointer words risen = cond risen (steps.Frame (caller_of frame pointer (u64_in words 0) (u64_in words 8))) (steps.Bad DOES_NOT_RISE)

found_words : (memory : Contents) (frame caller : Frame) (pointer : ℕ) (words : List ℕ) (risen : Bool)
    → register_at frame.registers (fp_place frame.registers.arch) ≡ Some pointer → pointer ≢ 0 → bytes_at memory pointer SAVED_FRAME ≡ Some words
    → rises pointer (u64_in words 0) ≡ risen → by_words frame pointer words risen ≡ steps.Frame caller → IsCaller memory frame caller
unfolding by_words
found_words memory frame caller pointer words true known leads there risen h = record {
  pointer = pointer;
  words = words;
  known = known;
  leads = leads;
  there = there;
  rises = rises_by pointer (u64_in words 0) risen;
  is = cc;
}
found_words memory frame caller pointer words false known leads there risen h = let e = h in cc

found_bytes : (memory : Contents) (frame caller : Frame) (pointer : ℕ) (is_zero : Bool) (bytes : Option (List ℕ))
    → register_at frame.registers (fp_place frame.registers.arch) ≡ Some pointer → (pointer == 0) ≡ is_zero → bytes_at memory pointer SAVED_FRAME ≡ bytes
    → cond is_zero steps.End (by_bytes frame pointer bytes) ≡ steps.Frame caller → IsCaller memory frame caller
unfolding by_words
found_bytes memory frame caller pointer true bytes known zero there h = let e = h in cc
found_bytes memory frame caller pointer false None known zero there h = let e = h in cc
found_bytes memory frame caller pointer false (Some words) known zero there h =
    found_words memory frame caller pointer words (rises pointer (u64_in words 0)) known (eqb-false pointer 0 zero) there refl h

found_pointer : (memory : Contents) (frame caller : Frame) (pointer : Option ℕ)
    → register_at frame.registers (fp_place frame.registers.arch) ≡ pointer → by_pointer memory frame pointer ≡ steps.Frame caller → IsCaller memory frame caller
found_pointer memory frame caller None known h = let e = h in cc
found_pointer memory frame caller (Some pointer) known h =
    found_bytes memory frame caller pointer (pointer == 0) (bytes_at memory pointer SAVED_FRAME) known refl refl h

pub caller_found : (memory : Contents) (frame caller : Frame) → saved_frame memory frame ≡ steps.Frame caller → IsCaller memory frame caller
unfolding saved_frame
caller_found memory frame caller h = found_pointer memory frame caller (register_at frame.registers (fp_place frame.registers.arch)) refl h

pub caller_only : (memory : Contents) (frame caller : Frame) → IsCaller memory frame caller → saved_frame memory frame ≡ steps.Frame caller
unfolding saved_frame by_words
caller_only memory frame caller h =
    ap (by_pointer memory frame) h.known
    ∙ ap (λ (b : Bool). cond b steps.End (by_bytes frame h.pointer (bytes_at memory h.pointer SAVED_FRAME))) (not_equal h.pointer 0 h.leads)
    ∙ ap (by_bytes frame h.pointer) h.there
    ∙ ap (by_words frame h.pointer h.words) (rises_back h.pointer (u64_in h.words 0) h.rises)
    ∙ ap (λ (f : Frame). let s : Step = steps.Frame f in s) (sym h.is)
