-- The first image of a list that has an address.
use Rattle.std.proofs.Common.{◌≡◌, ◌≤◌, ◌<◌, ℕ, zero, suc, ◌+◌, ◌-◌, ◌&&◌, ◌⊎◌, inl, inr, Bool, true, false, cond, nat_le, nat_lt, List, [], ◌∷◌, length, Option, Some, None, Result, Ok, Err, refl, sym, ap, subst, ◌∙◌, arith}
use Rattle.std.specs.Option.{option_or, option_map}
use Rattle.std.proofs.lemmas.Bool.{cases_order}
use Rattle.std.proofs.lemmas.Bool.Decides.{nat_tests}
use Rattle.plcr_memory.specs.Regions.{Contents}
use Rattle.plcr_regs.specs.declared.arch.Arch.{Arch}
use Rattle.plcr_macho.specs.declared.image.Image.{Image}
use Rattle.plcr_macho.specs.declared.image.ImageFault.{ImageFault}
use Rattle.plcr_macho.specs.Images.{Listed, listed_at}
use Rattle.plcr_macho.specs.Loading.{image_at}
use Rattle.plcr_macho.specs.Containing.{first_over, over}
use Rattle.plcr_macho.specs.Laws.{HasAddress, IsFirstOver}

lies_over : (start size a : ℕ) → (nat_le start a && nat_lt (a - start) size) ≡ true → (start ≤ a) × (a < start + size)
lies_over start size a h = (grind (arith, nat_tests), grind (arith, nat_tests))

over_lies : (start size a : ℕ) → start ≤ a → a < start + size → (nat_le start a && nat_lt (a - start) size) ≡ true
over_lies start size a h k = grind (arith, nat_tests)

chosen : (b : Bool) (x y : Image) → cond b (Some x) None ≡ Some y → (b ≡ true) × (x ≡ y)
chosen true x y h = (refl, cc)
chosen false x y h = cc

-- an image that has the address
has : (address : ℕ) (r : Result Image ImageFault) (image : Image) → over address r ≡ Some image → (r ≡ Ok image) × (image.header ≤ address) × (address < image.header + image.text_size)
has address (Err fault) image h = cc
has address (Ok i) image h =
    let p = chosen (nat_le i.header address && nat_lt (address - i.header) i.text_size) i image h in
    let w = lies_over i.header i.text_size address p.0 in
    subst (λ (x : Image). ((let r : Result Image ImageFault = Ok i in r) ≡ Ok x) × (x.header ≤ address) × (address < x.header + x.text_size)) p.1 (refl, w.0, w.1)

has_address : (m : Contents) (arch : Arch) (address header : ℕ) (image : Image) → over address (image_at m arch header) ≡ Some image → HasAddress m arch address header image
has_address m arch address header image h =
    let p = has address (image_at m arch header) image h in
    record { reads = p.0; «from» = p.1; to = p.2 }

-- one that hasn't
has_none : (m : Contents) (arch : Arch) (address header : ℕ) → over address (image_at m arch header) ≡ None → (image : Image) → ¬ HasAddress m arch address header image
has_none m arch address header none image h =
    let yes = over_lies image.header image.text_size address h.«from» h.to in
    let there : over address (image_at m arch header) ≡ Some image = ap (over address) h.reads ∙ ap (λ (b : Bool). cond b (Some image) None) yes in
    let both : ◌≡◌ {A = Option Image} None (Some image) = sym none ∙ there in
    cc

-- the first of two answers
either : (i : ℕ) (o : Option Image) (r : Option (ℕ × Image)) (index : ℕ) (image : Image) → option_or (option_map (λ (image : Image). let p : ℕ × Image = (i, image) in p) o) r ≡ Some (index, image)
    → ((o ≡ Some image) × (i ≡ index)) ⊎ ((o ≡ None) × (r ≡ Some (index, image)))
either i None r index image h = inr (refl, h)
either i (Some x) r index image h =
    let same : ◌≡◌ {A = ℕ × Image} (i, x) (index, image) = cc in
    inl (ap (λ (p : ℕ × Image). let o : Option Image = Some p.1 in o) same, ap (λ (p : ℕ × Image). p.0) same)

neither : (i : ℕ) (o : Option Image) (r : Option (ℕ × Image)) → option_or (option_map (λ (image : Image). let p : ℕ × Image = (i, image) in p) o) r ≡ None → (o ≡ None) × (r ≡ None)
neither i None r h = (refl, h)
neither i (Some x) r h = cc

-- of images counted from an index on
found_from : (m : Contents) (arch : Arch) (address i : ℕ) (images : List Listed) (index : ℕ) (image : Image) → first_over m arch address i images ≡ Some (index, image)
    → (n : ℕ) × (index ≡ i + n) × IsFirstOver m arch address images n image
found_from m arch address i [] index image h = cc
found_from m arch address i (l ∷ ls) index image h =
    elim (either i (over address (image_at m arch l.header)) (first_over m arch address (i + 1) ls) index image h) [
      | inl here ↦
          (0, omega (arith, here.1), record { inside = omega arith; here = has_address m arch address l.header image here.0; before = λ k lt. absurd (omega (arith, lt)) })
      | inr later ↦
          let rest = found_from m arch address (i + 1) ls index image later.1 in
          let none = has_none m arch address l.header later.0 in (
            suc rest.0,
            omega (arith, rest.1),
            record {
              inside = omega (arith, rest.2.inside);
              here = rest.2.here;
              before = λ k lt. elim k as (λ k. k < suc rest.0 → (other : Image) → ¬ HasAddress m arch address (listed_at (l ∷ ls) k).header other) [
                | zero ↦ λ lt. none
                | suc k ↦ λ lt. rest.2.before k (omega (arith, lt))
              ] lt;
            },
          )
    ]

-- the image that is found
pub first_found : (m : Contents) (arch : Arch) (address : ℕ) (images : List Listed) (index : ℕ) (image : Image) → first_over m arch address 0 images ≡ Some (index, image) → IsFirstOver m arch address images index image
first_found m arch address images index image h =
    let f = found_from m arch address 0 images index image h in
    let same : f.0 ≡ index = omega (arith, f.1) in
    subst (λ (n : ℕ). IsFirstOver m arch address images n image) same f.2

none_from : (m : Contents) (arch : Arch) (address i : ℕ) (images : List Listed) → first_over m arch address i images ≡ None
    → (k : ℕ) → k < length images → (image : Image) → ¬ HasAddress m arch address (listed_at images k).header image
none_from m arch address i [] h k lt = absurd (omega (arith, lt))
none_from m arch address i (l ∷ ls) h zero lt = has_none m arch address l.header (neither i (over address (image_at m arch l.header)) (first_over m arch address (i + 1) ls) h).0
none_from m arch address i (l ∷ ls) h (suc k) lt =
    none_from m arch address (i + 1) ls (neither i (over address (image_at m arch l.header)) (first_over m arch address (i + 1) ls) h).1 k (omega (arith, lt))

-- where none is found
pub none_found : (m : Contents) (arch : Arch) (address : ℕ) (images : List Listed) → first_over m arch address 0 images ≡ None
    → (k : ℕ) → k < length images → (image : Image) → ¬ HasAddress m arch address (listed_at images k).header image
none_found m arch address images h = none_from m arch address 0 images h

-- an image that stands so is found
pub first_again : (m : Contents) (arch : Arch) (address : ℕ) (images : List Listed) (index : ℕ) (image : Image) → IsFirstOver m arch address images index image → first_over m arch address 0 images ≡ Some (index, image)
first_again m arch address images index image h = answer (first_over m arch address 0 images) refl
  where
    same_pair : (i j : ℕ) (x y : Image) → i ≡ j → x ≡ y → ◌≡◌ {A = Option (ℕ × Image)} (Some (i, x)) (Some (j, y))
    same_pair i j x y p q = cc

    answer : (o : Option (ℕ × Image)) → first_over m arch address 0 images ≡ o → first_over m arch address 0 images ≡ Some (index, image)
    answer None e = absurd (none_found m arch address images e index h.inside image h.here)
    answer (Some p) e =
        let f = first_found m arch address images p.0 p.1 e in
        elim (cases_order p.0 index) [
          | inl same ↦
              let there : HasAddress m arch address (listed_at images index).header p.1 = subst (λ (n : ℕ). HasAddress m arch address (listed_at images n).header p.1) same f.here in
              let both : ◌≡◌ {A = Result Image ImageFault} (Ok p.1) (Ok image) = sym there.reads ∙ h.here.reads in
              let one : p.1 ≡ image = cc in
              e ∙ same_pair p.0 index p.1 image same one
          | inr apart ↦ elim apart [
            | inl l ↦ absurd (h.before p.0 l p.1 f.here)
            | inr l ↦ absurd (f.before index l image h.here)
          ]
        ]
