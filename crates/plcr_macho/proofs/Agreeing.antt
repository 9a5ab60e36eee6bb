-- What an index answers is the place of the first image of the list that has the address.
use Rattle.std.proofs.Common.{◌≡◌, ◌≤◌, ℕ, suc, ◌+◌, Bool, true, false, if◌then◌else◌, List, [], ◌∷◌, ◌++◌, Option, Some, None, Result, Ok, Err, refl, ap, arith}
use Rattle.std.specs.List.{All}
use Rattle.std.specs.Option.{option_or, option_map}
use Rattle.plcr_memory.specs.Regions.{Contents}
use Rattle.plcr_regs.specs.declared.arch.Arch.{Arch}
use Rattle.plcr_macho.specs.declared.image.Image.{Image}
use Rattle.plcr_macho.specs.declared.image.ImageFault.{ImageFault}
use Rattle.plcr_macho.specs.Images.{Listed}
use Rattle.plcr_macho.specs.Loading.{image_at}
use Rattle.plcr_macho.specs.Containing.{first_over, over}
use Rattle.plcr_macho.specs.Index.{Extent, extent_at, extents_from, index_of, has_address, lesser, least_over, located}
use Rattle.plcr_macho.proofs.Ordered.{all_late}

-- the least of later positions is no less
late_more : (address i : ℕ) (e : Extent) (r : Option ℕ) → i ≤ e.position → lesser i r ≡ i → (b : Bool) → lesser i (if b then Some (lesser e.position r) else r) ≡ i
late_more address i e r late rest false = rest
late_more address i e None late rest true = omega arith
late_more address i e (Some p) late rest true = omega (arith, rest)

least_late : (address i : ℕ) (es : List Extent) → All (λ e. i ≤ e.position) es → lesser i (least_over es address) ≡ i
least_late address i [] late = refl
least_late address i (e ∷ es) late =
    late_more address i e (least_over es address) (late 0 e (omega arith)) (least_late address i es (λ k d below. late (suc k) d (omega (arith, below)))) (has_address address e)

abbrev place : ℕ × Image → ℕ
place found = found.0

chosen_same : (b : Bool) (i : ℕ) (image : Image) (r : Option ℕ) (rest : Option (ℕ × Image)) → r ≡ option_map place rest → lesser i r ≡ i
    → (if b then Some (lesser i r) else r) ≡ option_map place (option_or (option_map (λ image. (i, image)) (if b then Some image else None)) rest)
chosen_same true i image r rest same late = ap (λ (n : ℕ). let o : Option ℕ = Some n in o) late
chosen_same false i image r rest same late = same

agrees_cons : (address i : ℕ) (r : Result Image ImageFault) (es : List Extent) (rest : Option (ℕ × Image)) → All (λ e. i + 1 ≤ e.position) es → least_over es address ≡ option_map place rest
    → least_over (extent_at i r ++ es) address ≡ option_map place (option_or (option_map (λ image. (i, image)) (over address r)) rest)
agrees_cons address i (Err fault) es rest late same = same
agrees_cons address i (Ok image) es rest late same =
    chosen_same (has_address address (record { position = i; header = image.header; size = image.text_size })) i image (least_over es address) rest same
    (least_late address i es (λ k d below. let l = late k d below in omega arith))

agrees_from : (m : Contents) (arch : Arch) (address i : ℕ) (ls : List Listed) → least_over (extents_from m arch i ls) address ≡ option_map place (first_over m arch address i ls)
agrees_from m arch address i [] = refl
agrees_from m arch address i (l ∷ ls) =
    agrees_cons address i (image_at m arch l.header) (extents_from m arch (i + 1) ls) (first_over m arch address (i + 1) ls) (all_late m arch (i + 1) ls) (agrees_from m arch address (i + 1) ls)

pub index_agrees : (m : Contents) (arch : Arch) (address : ℕ) (images : List Listed) → located (Some (index_of m arch images)) address ≡ option_map (λ (found : ℕ × Image). found.0) (first_over m arch address 0 images)
index_agrees m arch address images = agrees_from m arch address 0 images
