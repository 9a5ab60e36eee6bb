-- The image that is made of what was kept is that of the commands.
use Rattle.std.proofs.Common.{◌≡◌, ℕ, List, Option, Some, None, Result, Ok, Err, refl, sym, ap, ◌∙◌}
use Rattle.std.specs.Prelude.{ok_or}
use Rattle.std.specs.Option.{option_map}
use Rattle.std.specs.List.{find}
use Rattle.plcr_base.specs.Chains.{◌>>=◌, result_map}
use Rattle.plcr_memory.specs.Regions.{Contents}
use Rattle.plcr_loader.specs.declared.constants.TheConstants.{SEG_TEXT, SEG_LINKEDIT}
use Rattle.plcr_loader.specs.declared.segment_command_64.TheConstants.{VMADDR}
use Rattle.plcr_loader.specs.declared.section_64.TheConstants.{SECTNAME}
use Rattle.plcr_loader.specs.declared.trouble.Trouble.{Trouble}
use Rattle.plcr_loader.specs.Commands.{Command, commands_at, faulted, is_symtab}
use Rattle.plcr_loader.specs.declared.mach_header_64.TheConstants as mach_header_64
use Rattle.plcr_loader.specs.Fields.{number, is_named}
use Rattle.plcr_base.proofs.Chained.{map_ok, map_err}
use Rattle.plcr_regs.specs.declared.arch.Arch.{Arch}
use Rattle.plcr_macho.specs.declared.sections.TheConstants.{UNWIND_INFO, EH_FRAME}
use Rattle.plcr_macho.specs.declared.image.Part.{Part}
use Rattle.plcr_macho.specs.declared.image.Symtab.{Symtab}
use Rattle.plcr_macho.specs.declared.image.Image.{Image}
use Rattle.plcr_macho.specs.declared.image.ImageFault.{ImageFault}
use Rattle.plcr_macho.specs.declared.image.ImageFault.TheVariants.{NoText}
use Rattle.plcr_macho.specs.declared.header.Header.{Header}
use Rattle.plcr_macho.specs.declared.kept.Kept.{Kept}
use Rattle.plcr_macho.specs.declared.kept.Text.{Text}
use Rattle.plcr_macho.specs.Sources.{plus, minus, memory_bytes}
use Rattle.plcr_macho.specs.Loading.{head_at, commands_in, image_of, image_at, image_with, image_trouble, is_segment_named, fault_of, part_of, symtab_of, sections_of}
use Rattle.plcr_macho.specs.inner.Keeping.{header_of, image_by, image_from, kept_of, moved, part_in, parts_in, segment_in, symtab_from, tables_in, text_of}

-- a part, moved
same_part : (slide : ℕ) (o : Option (List ℕ)) → option_map (part_of slide) o ≡ option_map (moved slide) (option_map part_in o)
unfolding part_in
same_part slide None = refl
same_part slide (Some s) = refl

-- the tables of the symbols
same_symtab : (slide : ℕ) (linkedit symtab : Option Command) → symtab_of slide linkedit symtab ≡ symtab_from slide (option_map (λ c. segment_in c.bytes) linkedit) (option_map (λ c. tables_in c.bytes) symtab)
unfolding symtab_from segment_in tables_in
same_symtab slide None symtab = refl
same_symtab slide (Some l) None = refl
same_symtab slide (Some l) (Some t) = refl

same_image : {header cpu subtype slide size : ℕ} {uuid : Option (List ℕ)} {a b : Option Symtab} {c d e f : Option Part} → a ≡ b → c ≡ d → e ≡ f
    → ◌≡◌ {A = Image} (record { header = header; cpu = cpu; subtype = subtype; slide = slide; text_size = size; uuid = uuid; symtab = a; unwind = c; eh_frame = e })
    (record { header = header; cpu = cpu; subtype = subtype; slide = slide; text_size = size; uuid = uuid; symtab = b; unwind = d; eh_frame = f })
same_image p q r = cc

with_text : (address : ℕ) (head : List ℕ) (cs : List Command) (text : Command) → image_with address head cs text ≡ image_by address (header_of head) (kept_of cs) (text_of text)
unfolding image_by header_of kept_of parts_in segment_in
with_text address head cs text =
    let slide = minus address (number VMADDR text.bytes) in
    same_image
    (same_symtab slide (find (is_segment_named SEG_LINKEDIT) cs) (find is_symtab cs))
    (same_part slide (find (is_named SECTNAME UNWIND_INFO) (sections_of text)))
    (same_part slide (find (is_named SECTNAME EH_FRAME) (sections_of text)))

text_is : (address : ℕ) (head : List ℕ) (cs : List Command) (o : Option Command)
    → (ok_or o NoText >>= λ text. Ok (image_with address head cs text)) ≡ (ok_or (option_map text_of o) NoText >>= λ text. Ok (image_by address (header_of head) (kept_of cs) text))
text_is address head cs None = refl
text_is address head cs (Some text) = ap (λ (i : Image). let r : Result Image ImageFault = Ok i in r) (with_text address head cs text)

kept_text : (cs : List Command) → (kept_of cs).text ≡ option_map text_of (find (is_segment_named SEG_TEXT) cs)
unfolding kept_of
kept_text cs = refl

-- the image of the commands is that of what was kept of them
pub image_is : (address : ℕ) (head : List ℕ) (cs : List Command) → image_of address head cs ≡ image_from address (header_of head) (kept_of cs)
unfolding image_of
image_is address head cs =
    text_is address head cs (find (is_segment_named SEG_TEXT) cs)
    ∙ ap (λ (o : Option Text). ok_or o NoText >>= λ (text : Text). let r : Result Image ImageFault = Ok (image_by address (header_of head) (kept_of cs) text) in r) (sym (kept_text cs))

-- the load commands behind a header
abbrev pub read : Contents → ℕ → Header → Result (List Command) Trouble
read m address header = commands_at (memory_bytes m (plus address mach_header_64.LENGTH)) image_trouble header.size header.commands 0 0

read_by : (m : Contents) (address : ℕ) (head : List ℕ) → commands_in m address head ≡ faulted (fault_of (plus address mach_header_64.LENGTH)) (read m address (header_of head))
unfolding commands_in header_of
read_by m address head = refl

-- a header with a fault
pub no_head : (m : Contents) (arch : Arch) (address : ℕ) (fault : ImageFault) → Err fault ≡ result_map header_of (head_at m arch address) → Err fault ≡ image_at m arch address
unfolding image_at
no_head m arch address fault h =
    ap (λ (r : Result (List ℕ) ImageFault). r >>= λ (head : List ℕ). commands_in m address head >>= λ (cs : List Command). image_of address head cs)
    (sym (map_err header_of (head_at m arch address) fault (sym h)))

by_head : (m : Contents) (arch : Arch) (address : ℕ) (head : List ℕ) → head_at m arch address ≡ Ok head
    → image_at m arch address ≡ (faulted (fault_of (plus address mach_header_64.LENGTH)) (read m address (header_of head)) >>= λ cs. image_of address head cs)
unfolding image_at
by_head m arch address head h =
    ap (λ (r : Result (List ℕ) ImageFault). r >>= λ (head : List ℕ). commands_in m address head >>= λ (cs : List Command). image_of address head cs) h
    ∙ ap (λ (r : Result (List Command) ImageFault). r >>= λ (cs : List Command). image_of address head cs) (read_by m address head)

-- commands with a trouble
pub no_commands : (m : Contents) (arch : Arch) (address : ℕ) (header : Header) (trouble : Trouble) → Ok header ≡ result_map header_of (head_at m arch address)
    → Err trouble ≡ result_map kept_of (read m address header) → Err (fault_of (plus address mach_header_64.LENGTH) trouble) ≡ image_at m arch address
no_commands m arch address header trouble h t =
    let p = map_ok header_of (head_at m arch address) header (sym h) in
    let e : read m address (header_of p.0) ≡ Err trouble = ap (read m address) p.2 ∙ map_err kept_of (read m address header) trouble (sym t) in
    sym (by_head m arch address p.0 p.1 ∙ ap (λ (r : Result (List Command) Trouble). faulted (fault_of (plus address mach_header_64.LENGTH)) r >>= λ (cs : List Command). image_of address p.0 cs) e)

-- commands that were read
pub with_commands : (m : Contents) (arch : Arch) (address : ℕ) (header : Header) (kept : Kept) → Ok header ≡ result_map header_of (head_at m arch address)
    → Ok kept ≡ result_map kept_of (read m address header) → image_from address header kept ≡ image_at m arch address
with_commands m arch address header kept h k =
    let p = map_ok header_of (head_at m arch address) header (sym h) in
    let q = map_ok kept_of (read m address header) kept (sym k) in
    let e : read m address (header_of p.0) ≡ Ok q.0 = ap (read m address) p.2 ∙ q.1 in
    let image : image_at m arch address ≡ image_of address p.0 q.0 =
    by_head m arch address p.0 p.1 ∙ ap (λ (r : Result (List Command) Trouble). faulted (fault_of (plus address mach_header_64.LENGTH)) r >>= λ (cs : List Command). image_of address p.0 cs) e in
    ap (λ (x : Header). image_from address x kept) (sym p.2) ∙ ap (image_from address (header_of p.0)) (sym q.2) ∙ sym (image ∙ image_is address p.0 q.0)
