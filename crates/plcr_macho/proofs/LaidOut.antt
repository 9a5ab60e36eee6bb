-- An image is found just where it is laid out in memory, and else the fault is the first one there.
use Rattle.std.proofs.Common.{◌≡◌, ℕ, List, length, inl, inr, Option, None, Some, Result, Ok, Err, refl, ap, subst, ◌∙◌}
use Rattle.std.specs.Prelude.{ok_or}
use Rattle.std.specs.List.{find}
use Rattle.plcr_base.proofs.Chained.{bind_ok, bind_err}
use Rattle.plcr_base.specs.Chains.{◌>>=◌}
use Rattle.plcr_memory.specs.Regions.{Contents}
use Rattle.plcr_loader.specs.declared.constants.TheConstants.{SEG_TEXT}
use Rattle.plcr_loader.specs.declared.mach_header_64.TheConstants.{LENGTH, NCMDS, SIZEOFCMDS}
use Rattle.plcr_loader.specs.Commands.{Command, commands_at, faulted}
use Rattle.plcr_loader.specs.declared.trouble.Trouble.{Trouble}
use Rattle.plcr_loader.proofs.Results.{faulted_ok, faulted_err}
use Rattle.plcr_loader.proofs.Lists.{lists_lie, lists_again, lists_stop}
use Rattle.plcr_loader.specs.Fields.{number}
use Rattle.plcr_regs.specs.declared.arch.Arch.{Arch}
use Rattle.plcr_macho.specs.declared.image.Image.{Image}
use Rattle.plcr_macho.specs.declared.image.ImageFault.{ImageFault}
use Rattle.plcr_macho.specs.declared.image.ImageFault.TheVariants.{NoText}
use Rattle.plcr_macho.specs.Sources.{plus, memory_bytes}
use Rattle.plcr_macho.specs.Loading.{head_at, image_trouble, image_of, image_at, image_with, commands_in, fault_of, is_segment_named}
use Rattle.plcr_macho.specs.Laws.{IsLaidOut, IsFirstFault}
use Rattle.plcr_macho.proofs.Reading.{memory_is_plain}

read_ok : (m : Contents) (header : ℕ) (head : List ℕ) (cs : List Command) → commands_in m header head ≡ Ok cs
    → commands_at (memory_bytes m (plus header LENGTH)) image_trouble (number SIZEOFCMDS head) (number NCMDS head) 0 0 ≡ Ok cs
unfolding commands_in
read_ok m header head cs h = faulted_ok (fault_of (plus header LENGTH)) _ cs h

pub images_lie : (m : Contents) (arch : Arch) (header : ℕ) (image : Image) → image_at m arch header ≡ Ok image → IsLaidOut m arch header image
unfolding image_at
images_lie m arch header image h =
    let a = bind_ok (head_at m arch header) (λ (head : List ℕ). commands_in m header head >>= λ (cs : List Command). image_of header head cs) image h in
    let b = bind_ok (commands_in m header a.0) (λ (cs : List Command). image_of header a.0 cs) image a.2 in
    let source = memory_bytes m (plus header LENGTH) in
    let l = lists_lie source (memory_is_plain m (plus header LENGTH)) image_trouble (number SIZEOFCMDS a.0) (number NCMDS a.0) 0 0 b.0 (read_ok m header a.0 b.0 b.1) in
    record { head = a.0; commands = b.0; stands = a.1; count = l.0; laid = l.1; says = b.2 }

again : (m : Contents) (header : ℕ) (head : List ℕ) (cs : List Command) → length cs ≡ number NCMDS head
    → commands_at (memory_bytes m (plus header LENGTH)) image_trouble (number SIZEOFCMDS head) (length cs) 0 0 ≡ Ok cs → commands_in m header head ≡ Ok cs
unfolding commands_in
again m header head cs count h =
    let all = subst (λ (n : ℕ). commands_at (memory_bytes m (plus header LENGTH)) image_trouble (number SIZEOFCMDS head) n 0 0 ≡ Ok cs) count h in
    ap (faulted (fault_of (plus header LENGTH))) all

-- an image that is laid out is found
pub images_again : (m : Contents) (arch : Arch) (header : ℕ) (image : Image) → IsLaidOut m arch header image → image_at m arch header ≡ Ok image
unfolding image_at
images_again m arch header image h =
    let source = memory_bytes m (plus header LENGTH) in
    let all = lists_again source (memory_is_plain m (plus header LENGTH)) image_trouble (number SIZEOFCMDS h.head) 0 0 h.commands h.laid in
    let read = again m header h.head h.commands h.count all in
    ap (λ (r : Result (List ℕ) ImageFault). r >>= λ (head : List ℕ). commands_in m header head >>= λ (cs : List Command). image_of header head cs) h.stands
    ∙ ap (λ (r : Result (List Command) ImageFault). r >>= λ (cs : List Command). image_of header h.head cs) read
    ∙ h.says

read_err : (m : Contents) (header : ℕ) (head : List ℕ) (fault : ImageFault) → commands_in m header head ≡ Err fault
    → (t : Trouble) × (commands_at (memory_bytes m (plus header LENGTH)) image_trouble (number SIZEOFCMDS head) (number NCMDS head) 0 0 ≡ Err t) × (fault ≡ fault_of (plus header LENGTH) t)
unfolding commands_in
read_err m header head fault h = faulted_err (fault_of (plus header LENGTH)) _ fault h

none_there : (header : ℕ) (head : List ℕ) (cs : List Command) (fault : ImageFault) (o : Option Command)
    → (ok_or o NoText >>= λ (text : Command). let r : Result Image ImageFault = Ok (image_with header head cs text) in r) ≡ Err fault → (o ≡ None) × (fault ≡ NoText)
none_there header head cs fault None h = (refl, cc)
none_there header head cs fault (Some c) h = cc

no_text : (header : ℕ) (head : List ℕ) (cs : List Command) (fault : ImageFault) → image_of header head cs ≡ Err fault → (find (is_segment_named SEG_TEXT) cs ≡ None) × (fault ≡ NoText)
unfolding image_of
no_text header head cs fault h = none_there header head cs fault (find (is_segment_named SEG_TEXT) cs) h

-- where none is found, the fault is the first one there
pub images_stop : (m : Contents) (arch : Arch) (header : ℕ) (fault : ImageFault) → image_at m arch header ≡ Err fault → IsFirstFault m arch header fault
unfolding image_at
images_stop m arch header fault h =
    let source = memory_bytes m (plus header LENGTH) in
    let plain = memory_is_plain m (plus header LENGTH) in
    elim (bind_err (head_at m arch header) (λ (head : List ℕ). commands_in m header head >>= λ (cs : List Command). image_of header head cs) fault h) [
      | inl at_head ↦ inl at_head
      | inr past ↦
          let head = past.0 in
          elim (bind_err (commands_in m header head) (λ (cs : List Command). image_of header head cs) fault past.2) [
            | inl broken ↦
                let t = read_err m header head fault broken in
                inr (inl (record { head = head; trouble = t.0; stands = past.1; first = lists_stop source plain image_trouble (number SIZEOFCMDS head) (number NCMDS head) 0 0 t.0 t.1; is = t.2 }))
            | inr whole ↦
                let cs = whole.0 in
                let l = lists_lie source plain image_trouble (number SIZEOFCMDS head) (number NCMDS head) 0 0 cs (read_ok m header head cs whole.1) in
                let n = no_text header head cs fault whole.2 in
                inr (inr (record { head = head; commands = cs; stands = past.1; count = l.0; laid = l.1; none = n.0; is = n.1 }))
          ]
    ]
