-- Which rows are candidates.
use Rattle.std.proofs.Common.{◌≡◌, ◌≤◌, ◌<◌, ℕ, ◌+◌, ◌-◌, Bool, true, false, nat_eq, nat_le, nat_lt, List, Some, None, refl, ap, ◌∙◌, arith}
use Rattle.std.specs.Prelude.{◌&&◌, if◌then◌else◌}
use Rattle.std.specs.Int.Bits.{bit_and}
use Rattle.std.proofs.lemmas.Bool.Decides.{nat_tests}
use Rattle.std.proofs.lemmas.Bool.{le-leb, lt-ltb}
use Rattle.plcr_loader.specs.declared.constants.TheConstants.{N_STAB, N_TYPE, N_SECT}
use Rattle.plcr_loader.specs.declared.nlist_64.TheConstants as nlist_64
use Rattle.plcr_loader.specs.Fields.{number}
use Rattle.plcr_macho.specs.declared.image.Symtab.{Symtab}
use Rattle.plcr_macho.specs.declared.image.Image.{Image}
use Rattle.plcr_symbols.specs.declared.symbol.SymbolAt.{SymbolAt}
use Rattle.plcr_symbols.specs.Symbols.{address_in, candidate, defined_in, in_text, is_defined, said_by, where_its_address}
use Rattle.plcr_symbols.specs.Laws.{IsCandidate}
use Rattle.plcr_symbols.proofs.Zeros.{eq_from, eq_is}

both : (a b : Bool) → (a && b) ≡ true → (a ≡ true) × (b ≡ true)
both true b h = (refl, h)
both false b h = cc

parts : (d t : Bool) (s : SymbolAt) (address : ℕ) (u : SymbolAt) → where_its_address (λ a. nat_le a address) (if d && t then Some s else None) ≡ Some u
    → (d ≡ true) × (t ≡ true) × (nat_le s.value address ≡ true) × (s ≡ u)
parts true true s address u h = chosen (nat_le s.value address) refl h
  where
    chosen : (b : Bool) → nat_le s.value address ≡ b → (if b then Some s else None) ≡ Some u → (true ≡ true) × (true ≡ true) × (nat_le s.value address ≡ true) × (s ≡ u)
    chosen true is h = (refl, refl, is, cc)
    chosen false is h = cc
parts true false s address u h = cc
parts false t s address u h = cc

defined_is : (row : List ℕ) → is_defined row ≡ true → (bit_and (number nlist_64.N_TYPE row) N_STAB ≡ 0) × (bit_and (number nlist_64.N_TYPE row) N_TYPE ≡ N_SECT)
unfolding is_defined
defined_is row h =
    let p = both (nat_eq (bit_and (number nlist_64.N_TYPE row) N_STAB) 0) (nat_eq (bit_and (number nlist_64.N_TYPE row) N_TYPE) N_SECT) h in
    (eq_from (bit_and (number nlist_64.N_TYPE row) N_STAB) 0 p.0, eq_from (bit_and (number nlist_64.N_TYPE row) N_TYPE) N_SECT p.1)

defined_from : (row : List ℕ) → bit_and (number nlist_64.N_TYPE row) N_STAB ≡ 0 → bit_and (number nlist_64.N_TYPE row) N_TYPE ≡ N_SECT → is_defined row ≡ true
unfolding is_defined
defined_from row stab section =
    let one : nat_eq (bit_and (number nlist_64.N_TYPE row) N_STAB) 0 ≡ true = eq_is (bit_and (number nlist_64.N_TYPE row) N_STAB) 0 stab in
    let two : nat_eq (bit_and (number nlist_64.N_TYPE row) N_TYPE) N_SECT ≡ true = eq_is (bit_and (number nlist_64.N_TYPE row) N_TYPE) N_SECT section in
    rw (one, two) refl

text_is : (image : Image) (a : ℕ) → in_text image a ≡ true → (image.header ≤ a) × (a < image.header + image.text_size)
text_is image a h =
    let p = both (nat_le image.header a) (nat_lt (a - image.header) image.text_size) h in
    let from_it : image.header ≤ a = le_from image.header a p.0 in
    let to : a - image.header < image.text_size = lt_from (a - image.header) image.text_size p.1 in
    (from_it, omega (arith, from_it, to))
  where
    le_from : (x y : ℕ) → nat_le x y ≡ true → x ≤ y
    le_from x y h = grind (arith, nat_tests)

    lt_from : (x y : ℕ) → nat_lt x y ≡ true → x < y
    lt_from x y h = grind (arith, nat_tests)

text_from : (image : Image) (a : ℕ) → image.header ≤ a → a < image.header + image.text_size → in_text image a ≡ true
text_from image a low high =
    let one : nat_le image.header a ≡ true = le-leb image.header a low in
    let two : nat_lt (a - image.header) image.text_size ≡ true = lt-ltb (a - image.header) image.text_size (omega (arith, low, high)) in
    rw (one, two) refl

pub candidate_is : (image : Image) (table : Symtab) (address : ℕ) (row : List ℕ) (u : SymbolAt) → candidate image table address row ≡ Some u → IsCandidate image address row × (said_by image table row ≡ u)
unfolding defined_in
candidate_is image table address row u h =
    let p = parts (is_defined row) (in_text image (address_in image row)) (said_by image table row) address u h in
    let kind = defined_is row p.0 in
    let text = text_is image (address_in image row) p.1 in (
      record { no_stab = kind.0; section = kind.1; «from» = text.0; to = text.1; below = le_from (address_in image row) address p.2 },
      p.3,
    )
  where
    le_from : (x y : ℕ) → nat_le x y ≡ true → x ≤ y
    le_from x y h = grind (arith, nat_tests)

pub candidate_from : (image : Image) (table : Symtab) (address : ℕ) (row : List ℕ) → IsCandidate image address row → candidate image table address row ≡ Some (said_by image table row)
unfolding defined_in
candidate_from image table address row h =
    let kind : is_defined row ≡ true = defined_from row h.no_stab h.section in
    let text : in_text image (address_in image row) ≡ true = text_from image (address_in image row) h.«from» h.to in
    let low : nat_le (address_in image row) address ≡ true = le-leb (address_in image row) address h.below in
    ap (λ (b : Bool). where_its_address (λ a. nat_le a address) (if b && in_text image (address_in image row) then Some (said_by image table row) else None)) kind
    ∙ ap (λ (b : Bool). where_its_address (λ a. nat_le a address) (if b then Some (said_by image table row) else None)) text
    ∙ rw low refl
