-- What is kept of one command, by its kind.
use Rattle.std.proofs.Common.{◌≡◌, ◌≤◌, ◌<◌, ℕ, ◌+◌, ◌*◌, lit≤, Bool, true, false, cond, nat_lt, List, take, drop, Option, Some, None, Result, Ok, Err, refl, sym, ap, subst, ◌∙◌, arith}
use Rattle.std.specs.Prelude.{◌≢◌, ◌==◌, ◌&&◌, not, is_some}
use Rattle.std.specs.Option.{option_map}
use Rattle.std.proofs.lemmas.Bool.{lt-ltb, le-ltb}
use Rattle.plcr_base.proofs.Plain.{not_equal}
use Rattle.plcr_base.specs.Chains.{◌>>=◌, passed, result_map}
use Rattle.plcr_loader.specs.declared.constants.TheConstants.{LC_SEGMENT_64, LC_SYMTAB, LC_UUID, SEG_LINKEDIT, SEG_TEXT}
use Rattle.plcr_loader.specs.declared.load_command.TheConstants as load_command
use Rattle.plcr_loader.specs.declared.segment_command_64.TheConstants as segment_command_64
use Rattle.plcr_loader.specs.declared.section_64.TheConstants as section_64
use Rattle.plcr_loader.specs.declared.symtab_command.TheConstants as symtab_command
use Rattle.plcr_loader.specs.declared.uuid_command.TheConstants as uuid_command
use Rattle.plcr_loader.specs.declared.segment_command_64.TheConstants.{SEGNAME, NSECTS}
use Rattle.plcr_loader.specs.declared.uuid_command.TheConstants.{UUID}
use Rattle.plcr_loader.specs.declared.trouble.Trouble.{Trouble}
use Rattle.plcr_loader.specs.declared.trouble.Trouble.TheVariants.{Bad}
use Rattle.plcr_loader.specs.Commands.{Bytes, Command, framed_at, command_at}
use Rattle.plcr_loader.specs.Fields.{number, bytes_of, is_named}
use Rattle.plcr_loader.proofs.Fields.{name_front}
use Rattle.plcr_macho.specs.declared.kept.Segment.{Segment}
use Rattle.plcr_macho.specs.declared.kept.Parts.{Parts}
use Rattle.plcr_macho.specs.declared.kept.Text.{Text}
use Rattle.plcr_macho.specs.declared.kept.Tables.{Tables}
use Rattle.plcr_macho.specs.declared.kept.Kept.{Kept}
use Rattle.plcr_macho.specs.Loading.{image_trouble, sections_in}
use Rattle.plcr_macho.specs.inner.Keeping.{first_kept, gain_with, kept_in, kept_of, nothing, parts_in, segment_in, tables_in, text_of}
use Rattle.plcr_macho.proofs.FirstKept.{gives, fails, segment_later}
use Rattle.plcr_macho.proofs.Fronts.{sections_are, segment_front}

-- what is kept of `__TEXT`
pub text_is : (s : Segment) (p : Parts) (c : Command) → s ≡ segment_in c.bytes → p ≡ parts_in (sections_in s.sections (drop segment_command_64.LENGTH c.bytes)) → record { segment = s; parts = p } ≡ text_of c
text_is s p c is parts =
    let n : s.sections ≡ number NSECTS c.bytes = sections_are s c.bytes is in
    let q : p ≡ parts_in (sections_in (number NSECTS c.bytes) (drop segment_command_64.LENGTH c.bytes)) = parts ∙ ap (λ (k : ℕ). parts_in (sections_in k (drop segment_command_64.LENGTH c.bytes))) n in
    ap (λ (t : Segment). let x : Text = record { segment = t; parts = p } in x) is ∙ ap (λ (r : Parts). let x : Text = record { segment = segment_in c.bytes; parts = r } in x) q

map_cond : {X Y : Type 0} (f : X → Y) (b : Bool) (x : X) → option_map f (cond b (Some x) None) ≡ cond b (Some (f x)) None
map_cond f true x = refl
map_cond f false x = refl

segment_two : (index size place : ℕ) (bytes : List ℕ) → nat_lt size (segment_command_64.LENGTH + section_64.LENGTH * number NSECTS bytes) ≡ false
    → kept_in index (record { cmd = LC_SEGMENT_64; cmdsize = size; place = place; bytes = bytes })
    ≡ Ok (record {
      text = option_map text_of (cond (is_named SEGNAME SEG_TEXT bytes) (Some (record { cmd = LC_SEGMENT_64; cmdsize = size; place = place; bytes = bytes })) None);
      linkedit = option_map (λ (c : Command). segment_in c.bytes) (cond (is_named SEGNAME SEG_LINKEDIT bytes) (Some (record { cmd = LC_SEGMENT_64; cmdsize = size; place = place; bytes = bytes })) None);
      symtab = None;
      uuid = None;
    })
unfolding kept_of
segment_two index size place bytes h = rw h refl

segment_bad_two : (index size place : ℕ) (bytes : List ℕ) → nat_lt size (segment_command_64.LENGTH + section_64.LENGTH * number NSECTS bytes) ≡ true
    → kept_in index (record { cmd = LC_SEGMENT_64; cmdsize = size; place = place; bytes = bytes }) ≡ Err (Bad index)
segment_bad_two index size place bytes h = rw h refl

-- a segment that is too short
pub segment_bad : (index : ℕ) (c : Command) → c.cmd ≡ LC_SEGMENT_64 → c.cmdsize < segment_command_64.LENGTH + section_64.LENGTH * number NSECTS c.bytes → Err (Bad index) ≡ kept_in index c
segment_bad index c kind less =
    subst (λ (k : ℕ). Err (Bad index) ≡ kept_in index (record { cmd = k; cmdsize = c.cmdsize; place = c.place; bytes = c.bytes })) (sym kind)
    (sym (segment_bad_two index c.cmdsize c.place c.bytes (lt-ltb c.cmdsize (segment_command_64.LENGTH + section_64.LENGTH * number NSECTS c.bytes) less)))

-- a segment with its sections
pub segment_kept_is : (index : ℕ) (c : Command) (front : List ℕ) (s : Segment) (text : Option Text) (linkedit : Option Segment)
    → c.cmd ≡ LC_SEGMENT_64 → front ≡ take segment_command_64.LENGTH c.bytes → s ≡ segment_in front → segment_command_64.LENGTH + section_64.LENGTH * s.sections ≤ c.cmdsize
    → text ≡ cond (is_named SEGNAME SEG_TEXT front) (Some (text_of c)) None
    → linkedit ≡ cond (is_named SEGNAME SEG_LINKEDIT front) (Some s) None
    → Ok (record { text = text; linkedit = linkedit; symtab = None; uuid = None }) ≡ kept_in index c
segment_kept_is index c front s text linkedit kind is_front is_segment long is_text is_linkedit =
    let d : Command = record { cmd = LC_SEGMENT_64; cmdsize = c.cmdsize; place = c.place; bytes = c.bytes } in
    let same : c ≡ d = ap (λ (k : ℕ). let x : Command = record { cmd = k; cmdsize = c.cmdsize; place = c.place; bytes = c.bytes } in x) kind in
    let is : s ≡ segment_in c.bytes = is_segment ∙ ap segment_in is_front ∙ segment_front c.bytes in
    let count : s.sections ≡ number NSECTS c.bytes = sections_are s c.bytes is in
    let most : segment_command_64.LENGTH + section_64.LENGTH * number NSECTS c.bytes ≤ c.cmdsize = subst (λ (n : ℕ). segment_command_64.LENGTH + section_64.LENGTH * n ≤ c.cmdsize) count long in
    let name = λ (n : List ℕ). ap (is_named SEGNAME n) is_front ∙ name_front SEGNAME segment_command_64.LENGTH n c.bytes (lit≤ tt) in
    let t : text ≡ option_map text_of (cond (is_named SEGNAME SEG_TEXT c.bytes) (Some d) None) =
    is_text ∙ ap (λ (b : Bool). cond b (Some (text_of c)) None) (name SEG_TEXT) ∙ sym (map_cond text_of (is_named SEGNAME SEG_TEXT c.bytes) d) in
    let l : linkedit ≡ option_map (λ (c : Command). segment_in c.bytes) (cond (is_named SEGNAME SEG_LINKEDIT c.bytes) (Some d) None) =
    is_linkedit ∙ ap (λ (b : Bool). cond b (Some s) None) (name SEG_LINKEDIT)
    ∙ ap (λ (s : Segment). cond (is_named SEGNAME SEG_LINKEDIT c.bytes) (Some s) None) is
    ∙ sym (map_cond (λ (c : Command). segment_in c.bytes) (is_named SEGNAME SEG_LINKEDIT c.bytes) d) in
    ap (λ (o : Option Text). let r : Result Kept Trouble = Ok (record { text = o; linkedit = linkedit; symtab = None; uuid = None }) in r) t
    ∙ ap (λ (o : Option Segment). let r : Result Kept Trouble = Ok (record { text = option_map text_of (cond (is_named SEGNAME SEG_TEXT c.bytes) (Some d) None); linkedit = o; symtab = None; uuid = None }) in r) l
    ∙ sym (segment_two index c.cmdsize c.place c.bytes (le-ltb c.cmdsize (segment_command_64.LENGTH + section_64.LENGTH * number NSECTS c.bytes) most))
    ∙ ap (kept_in index) (sym same)

-- the same behind what was kept
pub segment_behind : (index : ℕ) (c : Command) (before k : Kept) (front : List ℕ) (s : Segment) (seen : Bool) (text : Option Text) (linkedit : Option Segment)
    → c.cmd ≡ LC_SEGMENT_64 → front ≡ take segment_command_64.LENGTH c.bytes → s ≡ segment_in front → segment_command_64.LENGTH + section_64.LENGTH * s.sections ≤ c.cmdsize
    → seen ≡ is_some before.text
    → text ≡ cond (not seen && is_named SEGNAME SEG_TEXT front) (Some (text_of c)) None
    → linkedit ≡ cond (is_named SEGNAME SEG_LINKEDIT front) (Some s) None
    → k ≡ first_kept before (record { text = text; linkedit = linkedit; symtab = None; uuid = None })
    → Ok k ≡ result_map (first_kept before) (kept_in index c)
segment_behind index c before k front s seen text linkedit kind is_front is_segment long is_seen is_text is_linkedit is =
    let named = is_named SEGNAME SEG_TEXT front in
    let first : text ≡ cond (not (is_some before.text) && named) (Some (text_of c)) None = is_text ∙ ap (λ (b : Bool). cond (not b && named) (Some (text_of c)) None) is_seen in
    let all : k ≡ first_kept before (record { text = cond named (Some (text_of c)) None; linkedit = linkedit; symtab = None; uuid = None }) =
    is ∙ ap (λ (o : Option Text). first_kept before (record { text = o; linkedit = linkedit; symtab = None; uuid = None })) first ∙ segment_later before named (text_of c) linkedit in
    ap (λ (l : Kept). let r : Result Kept Trouble = Ok l in r) all
    ∙ ap (result_map (first_kept before)) (segment_kept_is index c front s (cond named (Some (text_of c)) None) linkedit kind is_front is_segment long refl is_linkedit)

symtab_two : (index size place : ℕ) (bytes : List ℕ) → nat_lt size symtab_command.LENGTH ≡ false
    → kept_in index (record { cmd = LC_SYMTAB; cmdsize = size; place = place; bytes = bytes }) ≡ Ok (record { text = None; linkedit = None; symtab = Some (tables_in bytes); uuid = None })
unfolding kept_of
symtab_two index size place bytes h = rw h refl

-- the tables of the symbols
pub symtab_kept_is : (index : ℕ) (c : Command) (t : Tables) → c.cmd ≡ LC_SYMTAB → symtab_command.LENGTH ≤ c.cmdsize → t ≡ tables_in c.bytes → Ok (record { text = None; linkedit = None; symtab = Some t; uuid = None }) ≡ kept_in index c
symtab_kept_is index c t kind long is =
    subst (λ (k : ℕ). Ok (record { text = None; linkedit = None; symtab = Some t; uuid = None }) ≡ kept_in index (record { cmd = k; cmdsize = c.cmdsize; place = c.place; bytes = c.bytes })) (sym kind)
    (ap (λ (t : Tables). let r : Result Kept Trouble = Ok (record { text = None; linkedit = None; symtab = Some t; uuid = None }) in r) is
    ∙ sym (symtab_two index c.cmdsize c.place c.bytes (le-ltb c.cmdsize symtab_command.LENGTH long)))

uuid_two : (index size place : ℕ) (bytes : List ℕ) → nat_lt size uuid_command.LENGTH ≡ false
    → kept_in index (record { cmd = LC_UUID; cmdsize = size; place = place; bytes = bytes }) ≡ Ok (record { text = None; linkedit = None; symtab = None; uuid = Some (bytes_of UUID bytes) })
unfolding kept_of
uuid_two index size place bytes h = rw h refl

-- the uuid
pub uuid_kept_is : (index : ℕ) (c : Command) (u : List ℕ) → c.cmd ≡ LC_UUID → uuid_command.LENGTH ≤ c.cmdsize → u ≡ bytes_of UUID c.bytes → Ok (record { text = None; linkedit = None; symtab = None; uuid = Some u }) ≡ kept_in index c
uuid_kept_is index c u kind long is =
    subst (λ (k : ℕ). Ok (record { text = None; linkedit = None; symtab = None; uuid = Some u }) ≡ kept_in index (record { cmd = k; cmdsize = c.cmdsize; place = c.place; bytes = c.bytes })) (sym kind)
    (ap (λ (u : List ℕ). let r : Result Kept Trouble = Ok (record { text = None; linkedit = None; symtab = None; uuid = Some u }) in r) is
    ∙ sym (uuid_two index c.cmdsize c.place c.bytes (le-ltb c.cmdsize uuid_command.LENGTH long)))

-- what a command gives that stands there
pub gain_is : (source : Bytes) (end index at : ℕ) (before : Kept) (c : Command) (k : Kept) → Ok c ≡ framed_at source end index at → Ok k ≡ result_map (first_kept before) (kept_in index c)
    → Ok (record { kept = k; size = c.cmdsize }) ≡ result_map (gain_with before) (command_at source image_trouble end index at)
gain_is source end index at before c k frame kept =
    sym (gives before c (image_trouble index c) k kept)
    ∙ ap (λ (r : Result Command Trouble). result_map (gain_with before) (r >>= λ (c : Command). passed c (image_trouble index c))) frame

-- a command that stands there and has a trouble
pub gain_fails : (source : Bytes) (end index at : ℕ) (before : Kept) (c : Command) (t : Trouble) → Ok c ≡ framed_at source end index at → Err t ≡ result_map (first_kept before) (kept_in index c)
    → Err t ≡ result_map (gain_with before) (command_at source image_trouble end index at)
gain_fails source end index at before c t frame kept =
    sym (fails before c (image_trouble index c) t kept)
    ∙ ap (λ (r : Result Command Trouble). result_map (gain_with before) (r >>= λ (c : Command). passed c (image_trouble index c))) frame

other_two : (index : ℕ) (c : Command) → (c.cmd == LC_SEGMENT_64) ≡ false → (c.cmd == LC_SYMTAB) ≡ false → (c.cmd == LC_UUID) ≡ false → nat_lt c.cmdsize load_command.LENGTH ≡ false → kept_in index c ≡ Ok nothing
unfolding kept_of
other_two index c p q r s = rw (p, q, r, s) refl

-- a command of another kind
pub other_kept_is : (index : ℕ) (c : Command) (k : Kept) → k ≡ nothing → c.cmd ≢ LC_SEGMENT_64 → c.cmd ≢ LC_SYMTAB → c.cmd ≢ LC_UUID → load_command.LENGTH ≤ c.cmdsize → Ok k ≡ kept_in index c
other_kept_is index c k none p q r least =
    ap (λ (k : Kept). let x : Result Kept Trouble = Ok k in x) none
    ∙ sym (other_two index c (not_equal c.cmd LC_SEGMENT_64 p) (not_equal c.cmd LC_SYMTAB q) (not_equal c.cmd LC_UUID r) (le-ltb c.cmdsize load_command.LENGTH least))
