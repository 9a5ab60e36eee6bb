-- What is kept of one command more.
use Rattle.std.proofs.Common.{◌≡◌, ℕ, Bool, true, false, cond, is_some, ◌&&◌, List, [], ◌∷◌, Option, Some, None, Result, Ok, Err, refl, sym, ap}
use Rattle.std.specs.Prelude.{not}
use Rattle.std.specs.Option.{option_map, option_or}
use Rattle.std.specs.List.{find}
use Rattle.plcr_base.specs.Chains.{passed, result_map}
use Rattle.plcr_loader.specs.declared.constants.TheConstants.{SEG_TEXT, SEG_LINKEDIT}
use Rattle.plcr_loader.specs.declared.section_64.TheConstants.{SECTNAME}
use Rattle.plcr_loader.specs.declared.uuid_command.TheConstants.{UUID}
use Rattle.plcr_loader.specs.declared.trouble.Trouble.{Trouble}
use Rattle.plcr_loader.specs.Commands.{Command, is_symtab, is_uuid}
use Rattle.plcr_loader.specs.Fields.{bytes_of, is_named}
use Rattle.plcr_macho.specs.declared.sections.TheConstants.{UNWIND_INFO, EH_FRAME}
use Rattle.plcr_macho.specs.declared.image.Part.{Part}
use Rattle.plcr_macho.specs.declared.kept.Segment.{Segment}
use Rattle.plcr_macho.specs.declared.kept.Parts.{Parts}
use Rattle.plcr_macho.specs.declared.kept.Text.{Text}
use Rattle.plcr_macho.specs.declared.kept.Tables.{Tables}
use Rattle.plcr_macho.specs.declared.kept.Kept.{Kept}
use Rattle.plcr_macho.specs.declared.gain.Gain.{Gain}
use Rattle.plcr_macho.specs.Loading.{is_segment_named}
use Rattle.plcr_macho.specs.inner.Keeping.{first_kept, first_parts, gain_with, kept_of, nothing, parts_in, part_in, text_of, segment_in, tables_in}

find_more : {X Y : Type 0} (f : X → Y) (p : X → Bool) (x : X) (xs : List X) → option_map f (find p (x ∷ xs)) ≡ option_or (option_map f (find p (x ∷ []))) (option_map f (find p xs))
find_more f p x xs =
    elim (p x) as (λ b. option_map f (cond b (Some x) (find p xs)) ≡ option_or (option_map f (cond b (Some x) None)) (option_map f (find p xs))) [ true ↦ refl | false ↦ refl ]

or_none : {X : Type 0} (o : Option X) → option_or o None ≡ o
or_none None = refl
or_none (Some x) = refl

or_twice : {X : Type 0} (a b c : Option X) → option_or (option_or a b) c ≡ option_or a (option_or b c)
or_twice None b c = refl
or_twice (Some x) b c = refl

same_kept : {a b : Option Text} {c d : Option Segment} {e f : Option Tables} {g h : Option (List ℕ)} → a ≡ b → c ≡ d → e ≡ f → g ≡ h
    → ◌≡◌ {A = Kept} (record { text = a; linkedit = c; symtab = e; uuid = g }) (record { text = b; linkedit = d; symtab = f; uuid = h })
same_kept p q r s = cc

same_parts : {a b c d : Option Part} → a ≡ b → c ≡ d → ◌≡◌ {A = Parts} (record { unwind = a; eh_frame = c }) (record { unwind = b; eh_frame = d })
same_parts p q = cc

-- one command more
pub kept_more : (c : Command) (cs : List Command) → kept_of (c ∷ cs) ≡ first_kept (kept_of (c ∷ [])) (kept_of cs)
unfolding kept_of first_kept
kept_more c cs =
    same_kept
    (find_more text_of (is_segment_named SEG_TEXT) c cs)
    (find_more (λ (c : Command). segment_in c.bytes) (is_segment_named SEG_LINKEDIT) c cs)
    (find_more (λ (c : Command). tables_in c.bytes) is_symtab c cs)
    (find_more (λ (c : Command). bytes_of UUID c.bytes) is_uuid c cs)

pub kept_twice : (k l m : Kept) → first_kept (first_kept k l) m ≡ first_kept k (first_kept l m)
unfolding first_kept
kept_twice k l m = same_kept (or_twice k.text l.text m.text) (or_twice k.linkedit l.linkedit m.linkedit) (or_twice k.symtab l.symtab m.symtab) (or_twice k.uuid l.uuid m.uuid)

pub kept_none : (k : Kept) → first_kept k (kept_of []) ≡ k
unfolding kept_of first_kept
kept_none k = same_kept (or_none k.text) (or_none k.linkedit) (or_none k.symtab) (or_none k.uuid)

pub none_kept : (k : Kept) → first_kept nothing k ≡ k
unfolding first_kept
none_kept k = refl

-- a later segment `__TEXT` adds none
text_later : (o : Option Text) (b : Bool) (t : Text) → option_or o (cond (not (is_some o) && b) (Some t) None) ≡ option_or o (cond b (Some t) None)
text_later None b t = refl
text_later (Some x) b t = refl

pub segment_later : (before : Kept) (b : Bool) (t : Text) (s : Option Segment)
    → first_kept before (record { text = cond (not (is_some before.text) && b) (Some t) None; linkedit = s; symtab = None; uuid = None })
    ≡ first_kept before (record { text = cond b (Some t) None; linkedit = s; symtab = None; uuid = None })
unfolding first_kept
segment_later before b t s = same_kept (text_later before.text b t) refl refl refl

-- one section more
pub parts_more : (s : List ℕ) (ss : List (List ℕ)) → parts_in (s ∷ ss) ≡ first_parts (parts_in (s ∷ [])) (parts_in ss)
unfolding parts_in first_parts
parts_more s ss =
    same_parts
    (find_more part_in (is_named SECTNAME UNWIND_INFO) s ss)
    (find_more part_in (is_named SECTNAME EH_FRAME) s ss)

pub parts_twice : (p q r : Parts) → first_parts (first_parts p q) r ≡ first_parts p (first_parts q r)
unfolding first_parts
parts_twice p q r = same_parts (or_twice p.unwind q.unwind r.unwind) (or_twice p.eh_frame q.eh_frame r.eh_frame)

pub parts_none : (p : Parts) → first_parts p (parts_in []) ≡ p
unfolding parts_in first_parts
parts_none p = same_parts (or_none p.unwind) (or_none p.eh_frame)

pub parts_no : (p : Parts) → first_parts p (record { unwind = None; eh_frame = None }) ≡ p
unfolding first_parts
parts_no p = same_parts (or_none p.unwind) (or_none p.eh_frame)

pub none_parts : (p : Parts) → first_parts (record { unwind = None; eh_frame = None }) p ≡ p
unfolding first_parts
none_parts p = refl

-- what a command gives that passed its test, and its trouble where it didn't
pub gives : (before : Kept) (c : Command) (o : Option Trouble) (k : Kept) → Ok k ≡ result_map (first_kept before) (passed (kept_of (c ∷ [])) o) → result_map (gain_with before) (passed c o) ≡ Ok (record { kept = k; size = c.cmdsize })
gives before c None k h =
    let e : k ≡ first_kept before (kept_of (c ∷ [])) = cc in
    ap (λ (l : Kept). let r : Result Gain Trouble = Ok (record { kept = l; size = c.cmdsize }) in r) (sym e)
gives before c (Some t) k h = cc

pub fails : (before : Kept) (c : Command) (o : Option Trouble) (t : Trouble) → Err t ≡ result_map (first_kept before) (passed (kept_of (c ∷ [])) o) → result_map (gain_with before) (passed c o) ≡ Err t
fails before c None t h = cc
fails before c (Some u) t h = cc
