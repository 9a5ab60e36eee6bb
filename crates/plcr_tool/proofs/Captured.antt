-- The images of a process can be handed in for a report: what stands of them in its memory has the width of its field.
use Rattle.std.proofs.Common.{◌≡◌, ℕ, ◌+◌, ◌*◌, ◌^◌, ◌<◌, ◌≤◌, ◌==◌, Bool, true, false, cond, List, [], ◌∷◌, length, drop, Option, Some, None, Result, Ok, Err, refl, subst, nat_lt, arith, lit<, lit≤, length-drop}
use Rattle.std.specs.Prelude.{IfSome, not, option_map, ok_or, if◌then◌else◌}
use Rattle.std.specs.List.{AllByRecursion, find}
use Rattle.std.proofs.lemmas.List.{length-map, length-take-le}
use Rattle.std.proofs.lemmas.List.Elements.{All-map, recursion_from_All}
use Rattle.std.proofs.lemmas.Bool.Decides.{nat_tests}
use Rattle.plcr_base.specs.Chains.{◌>>=◌}
use Rattle.plcr_base.proofs.Chained.{bind_ok, if_ok, ok_or_ok}
use Rattle.plcr_regs.specs.declared.arch.Arch.{Arch}
use Rattle.plcr_regs.specs.declared.registers.Registers.{Registers}
use Rattle.plcr_loader.specs.declared.trouble.Trouble.{Trouble}
use Rattle.plcr_loader.specs.declared.trouble.Trouble.TheVariants.{Bad}
use Rattle.plcr_loader.specs.declared.constants.TheConstants.{MH_MAGIC_64, SEG_TEXT}
use Rattle.plcr_loader.specs.declared.mach_header_64.TheConstants.{LENGTH, MAGIC, CPUTYPE, NCMDS, SIZEOFCMDS}
use Rattle.plcr_loader.specs.declared.segment_command_64.TheConstants.{NSECTS}
use Rattle.plcr_loader.specs.declared.uuid_command.TheConstants.{UUID}
use Rattle.plcr_loader.specs.Commands.{Command, AreLaid, IsLaid, commands_at, faulted, is_segment, is_symtab, is_uuid}
use Rattle.plcr_loader.specs.Fields.{number, bytes_of}
use Rattle.plcr_loader.proofs.Lists.{lists_lie}
use Rattle.plcr_base.specs.Bytes.{IsBytes}
use Rattle.plcr_base.specs.Limits.{IsImageName}
use Rattle.plcr_memory.specs.Regions.{Contents, bytes_at}
use Rattle.plcr_macho.specs.declared.image.Image as macho
use Rattle.plcr_macho.specs.declared.image.ImageFault.{ImageFault}
use Rattle.plcr_macho.specs.declared.image.ImageFault.TheVariants.{Unreadable, NotMachO, OtherCpu, NoText}
use Rattle.plcr_macho.specs.Images.{Listed}
use Rattle.plcr_macho.specs.Loading as loading
use Rattle.plcr_macho.specs.Loading.{cpu_of, fault_of, head_at, commands_in, image_at, image_trouble, is_segment_named, least_size}
use Rattle.plcr_macho.specs.Sources.{plus, memory_bytes}
use Rattle.plcr_macho.proofs.Reading.{memory_is_plain}
use Rattle.plcr_report.specs.Spelling.{spelling_of}
use Rattle.plcr_encode.specs.declared.context.Context.{Context}
use Rattle.plcr_encode.specs.Images.{image_with, image_of, images_of}
use Rattle.plcr_encode.specs.Values.{process_report, threads_of}
use Rattle.plcr_decode.specs.Reads.{reads}
use Rattle.plcr_tool.specs.Laws.{IsHandedContext, AreHandedStates, IsHandedImage, AreHandedImages, AreHandedListed}
use Rattle.plcr_tool.proofs.Stored.{IsPiece, first_found, piece_there, four_small, eight_small}
use Rattle.plcr_tool.proofs.Threaded.{threads_handed}
use Rattle.plcr_tool.proofs.Written.{written_again}

-- a load command of bytes, as long as its kind asks for
record IsSound (c : Command) : Type 0 where
  piece : IsPiece c.cmdsize c.bytes
  least : least_size c ≤ c.cmdsize

untroubled : (size least index : ℕ) → cond (nat_lt size least) (Some (Bad index)) None ≡ None → least ≤ size
untroubled size least index h = grind (arith, nat_tests)

sound_there : (m : Contents) (start end index at : ℕ) (c : Command) → IsBytes m.file → IsLaid (memory_bytes m start) image_trouble end index at c → IsSound c
unfolding memory_bytes
sound_there m start end index at c bytes laid = record {
  piece = piece_there m (plus start at) c.cmdsize c.bytes bytes laid.there;
  least = untroubled c.cmdsize (least_size c) index laid.passes;
}

all_sound : (m : Contents) (start end index at : ℕ) (cs : List Command) → IsBytes m.file → AreLaid (memory_bytes m start) image_trouble end index at cs → AllByRecursion IsSound cs
all_sound m start end index at [] bytes laid = tt
all_sound m start end index at (c ∷ cs) bytes laid = (sound_there m start end index at c bytes laid.0, all_sound m start end (index + 1) (at + c.cmdsize) cs bytes laid.1)

unfaulted : {A : Type 0} (start : ℕ) (r : Result A Trouble) (x : A) → faulted (fault_of start) r ≡ Ok x → r ≡ Ok x
unfaulted start (Ok y) x h = cc
unfaulted start (Err t) x h = cc

-- the commands of an image
commands_sound : (m : Contents) (header : ℕ) (head : List ℕ) (cs : List Command) → IsBytes m.file → commands_in m header head ≡ Ok cs → AllByRecursion IsSound cs
unfolding commands_in
commands_sound m header head cs bytes h =
    let start = plus header LENGTH in
    let size = number SIZEOFCMDS head in
    let count = number NCMDS head in
    let all = unfaulted start (commands_at (memory_bytes m start) image_trouble size count 0 0) cs h in
    all_sound m start size 0 0 cs bytes (lists_lie (memory_bytes m start) (memory_is_plain m start) image_trouble size count 0 0 cs all).1

-- the header of an image
head_there : (m : Contents) (arch : Arch) (header : ℕ) (head : List ℕ) → IsBytes m.file → head_at m arch header ≡ Ok head → IsBytes head
unfolding head_at
head_there m arch header head bytes h =
    let a = bind_ok (ok_or (bytes_at m header LENGTH) (Unreadable header)) (λ head.
    if not (number MAGIC head == MH_MAGIC_64) then Err (NotMachO (number MAGIC head)) else
    if not (number CPUTYPE head == cpu_of arch) then Err (OtherCpu (number CPUTYPE head)) else
    Ok head) head h in
    let b = if_ok (not (number MAGIC a.0 == MH_MAGIC_64)) (NotMachO (number MAGIC a.0))
    (if not (number CPUTYPE a.0 == cpu_of arch) then Err (OtherCpu (number CPUTYPE a.0)) else Ok a.0) head a.2 in
    let c = if_ok (not (number CPUTYPE a.0 == cpu_of arch)) (OtherCpu (number CPUTYPE a.0)) (Ok a.0) head b.1 in
    let same : a.0 ≡ head = cc in
    let piece = piece_there m header LENGTH a.0 bytes (ok_or_ok (bytes_at m header LENGTH) (Unreadable header) a.0 a.1) in
    subst IsBytes same piece.bytes

-- the first element that passes a test
found : {A : Type 0} (P : A → Type 0) (test : A → Bool) (xs : List A) → AllByRecursion P xs → IfSome (find test xs) (λ x. P x × (test x ≡ true))
found P test [] all = tt
found P test (x ∷ xs) all = first_found (λ x. P x × (test x ≡ true)) (test x) x (find test xs) (λ passes. (all.0, passes)) (found P test xs all.1)

found_is : {A : Type 0} (P : A → Type 0) (test : A → Bool) (xs : List A) (x : A) → find test xs ≡ Some x → AllByRecursion P xs → P x
found_is P test xs x same all =
    let there : IfSome (Some x) (λ x. P x × (test x ≡ true)) = subst (λ o. IfSome o (λ x. P x × (test x ≡ true))) same (found P test xs all) in
    there.0

mapped : {A B : Type 0} (P : A → Type 0) (Q : B → Type 0) (f : A → B) (o : Option A) → ((x : A) → P x → Q (f x)) → IfSome o P → IfSome (option_map f o) Q
mapped P Q f None holds p = tt
mapped P Q f (Some x) holds p = holds x p

-- the command of a uuid has the 24 bytes that hold it
room_of_uuid : (s t u : Bool) (n : ℕ) → u ≡ true → 24 ≤ (if s then 72 + n else if t then 24 else if u then 24 else 8)
room_of_uuid true t u n h = omega arith
room_of_uuid false true u n h = lit≤ tt
room_of_uuid false false true n h = lit≤ tt
room_of_uuid false false false n h = cc

uuid_length : (c : Command) → IsSound c × (is_uuid c ≡ true) → length (bytes_of UUID c.bytes) ≡ 16
unfolding bytes_of
uuid_length c h =
    let room = room_of_uuid (is_segment c) (is_symtab c) (is_uuid c) (80 * number NSECTS c.bytes) h.1 in
    let sound = h.0 in
    let most : least_size c ≤ c.cmdsize = sound.least in
    let long : length c.bytes ≡ c.cmdsize = sound.piece.length in
    let rest = length-drop 8 c.bytes in
    length-take-le 16 (drop 8 c.bytes) (omega (arith, room, most, long, rest))

-- an image whose numbers have the width of their fields
record IsWide (image : macho.Image) : Type 0 where
  size : image.text_size < 2 ^ 64
  cpu : image.cpu < 2 ^ 32
  subtype : image.subtype < 2 ^ 32
  uuid : IfSome image.uuid (λ bytes. length bytes ≡ 16)

made_wide : (header : ℕ) (head : List ℕ) (cs : List Command) (text : Command) → IsBytes head → AllByRecursion IsSound cs → IsSound text → IsWide (loading.image_with header head cs text)
made_wide header head cs text bytes all sound = record {
  size = eight_small 32 text.bytes sound.piece.bytes;
  cpu = four_small 4 head bytes;
  subtype = four_small 8 head bytes;
  uuid = mapped (λ c. IsSound c × (is_uuid c ≡ true)) (λ bytes. length bytes ≡ 16) (λ c. bytes_of UUID c.bytes) (find is_uuid cs) uuid_length (found IsSound is_uuid cs all);
}

-- the image at a header
image_wide : (m : Contents) (arch : Arch) (header : ℕ) (image : macho.Image) → IsBytes m.file → image_at m arch header ≡ Ok image → IsWide image
unfolding image_at loading.image_of
image_wide m arch header image bytes h =
    let a = bind_ok (head_at m arch header) (λ head. commands_in m header head >>= λ cs. loading.image_of header head cs) image h in
    let b = bind_ok (commands_in m header a.0) (λ cs. loading.image_of header a.0 cs) image a.2 in
    let text = bind_ok (ok_or (find (is_segment_named SEG_TEXT) b.0) NoText) (λ text. Ok (loading.image_with header a.0 b.0 text)) image b.2 in
    let all = commands_sound m header a.0 b.0 bytes b.1 in
    let there = ok_or_ok (find (is_segment_named SEG_TEXT) b.0) NoText text.0 text.1 in
    let same : loading.image_with header a.0 b.0 text.0 ≡ image = cc in
    subst IsWide same (made_wide header a.0 b.0 text.0 (head_there m arch header a.0 bytes a.1) all (found_is IsSound (is_segment_named SEG_TEXT) b.0 text.0 there all))

-- what is written of a listed image
handed_with : (listed : Listed) (r : Result macho.Image ImageFault) → listed.header < 2 ^ 64 → IsImageName listed.name → ((image : macho.Image) → r ≡ Ok image → IsWide image) → IsHandedImage (image_with listed r)
handed_with listed (Ok image) addressed short wide =
    let w = wide image refl in
    record {
      base_address = addressed;
      size = w.size;
      name = short;
      uuid = w.uuid;
      code_type = record { encoding = lit< tt; cpu = let cpu = w.cpu in omega (arith, cpu); subtype = let subtype = w.subtype in omega (arith, subtype) };
    }
handed_with listed (Err fault) addressed short wide = record {
  base_address = addressed;
  size = lit< tt;
  name = short;
  uuid = tt;
  code_type = tt;
}

images_handed : (m : Contents) (arch : Arch) (listed : List Listed) → IsBytes m.file → AreHandedListed listed → AreHandedImages (images_of m arch listed)
images_handed m arch listed bytes handed =
    let one = λ (l : Listed) (addressed : l.header < 2 ^ 64) (short : IsImageName l.name).
    handed_with l (image_at m arch l.header) addressed short (λ image there. image_wide m arch l.header image bytes there) in
    record {
      each = recursion_from_All IsHandedImage (images_of m arch listed)
          (All-map IsHandedImage (image_of m arch) listed (λ k d less. one _ (handed.headers k d less) (handed.namable.each k d less)));
      few = rw (length-map listed (image_of m arch)) handed.namable.few;
    }

-- each report of a process that is written is read again
pub captured_again : (context : Context) (states : List Registers) (memory : Contents) (listed : List Listed) → IsHandedContext context → AreHandedStates context states → IsBytes memory.file → AreHandedListed listed
    → reads (spelling_of (process_report context states memory listed)) ≡ Ok (process_report context states memory listed)
captured_again context states memory listed about stopped bytes handed =
    written_again context (threads_of memory listed context states) (images_of memory context.arch listed) about
    (threads_handed memory listed context states bytes stopped) (images_handed memory context.arch listed bytes handed)
