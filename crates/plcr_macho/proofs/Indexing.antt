-- The images looked at so far have their extents in the index.
use Rattle.std.proofs.Common.{◌≡◌, ◌≤◌, ◌<◌, ℕ, ◌+◌, List, ◌++◌, Option, Some, length, take, drop, sym, ap, ◌∙◌, subst, append_assoc, append-nil, arith, []}
use Rattle.std.specs.List.Sorted.{IsPermutation}
use Rattle.std.proofs.lemmas.List.Sorted.{IsPermutation-sym, IsPermutation-refl}
use Rattle.plcr_memory.specs.Regions.{Contents}
use Rattle.plcr_regs.specs.declared.arch.Arch.{Arch}
use Rattle.plcr_macho.specs.declared.spot.Spot.{Spot}
use Rattle.plcr_macho.specs.Images.{Listed, listed_at}
use Rattle.plcr_macho.specs.Loading.{image_at}
use Rattle.plcr_macho.specs.Index.{Extent, extent_at, extents_from, index_of, least_over, located, ordered_from}
use Rattle.plcr_macho.specs.Spots.{extents_of, index_in, IsSearchable, IsSettled, IsIndexOf}
use Rattle.plcr_macho.specs.inner.Searching.{IsIndexed}
use Rattle.plcr_macho.proofs.FirstOver.{drop_here, drop_past}
use Rattle.plcr_macho.proofs.Least.{least_again}
use Rattle.plcr_macho.proofs.Ordered.{ordered_as}

-- with what is left, they are all of them
abbrev pub IsFront : Contents → Arch → List Listed → ℕ → List Extent → Type 0
IsFront m arch images i es = es ++ extents_from m arch i (drop i images) ≡ index_of m arch images

pub front_more : (m : Contents) (arch : Arch) (images : List Listed) (i : ℕ) (es more : List Extent) → IsFront m arch images i es → i < length images
    → more ≡ es ++ extent_at i (image_at m arch (listed_at images i).header) → IsFront m arch images (i + 1) more
front_more m arch images i es more front below is =
    let one : List Extent = extent_at i (image_at m arch (listed_at images i).header) in
    let rest : List Extent = extents_from m arch (i + 1) (drop (i + 1) images) in
    ap (λ (xs : List Extent). xs ++ rest) is ∙ append_assoc es one rest
    ∙ ap (λ (ls : List Listed). es ++ extents_from m arch i ls) (sym (drop_here images i below)) ∙ front

pub front_end : (m : Contents) (arch : Arch) (images : List Listed) (i : ℕ) (es : List Extent) → IsFront m arch images i es → length images ≤ i → es ≡ index_of m arch images
front_end m arch images i es front past =
    sym (append-nil es) ∙ ap (λ (ls : List Listed). es ++ extents_from m arch i ls) (sym (drop_past images i past)) ∙ front

-- sorted spots are an index of the images that they were put there for
pub indexes : (m : Contents) (arch : Arch) (images : List Listed) (old new : List Spot) (filled : ℕ) → filled ≤ length new → IsSearchable (take filled new)
    → IsPermutation (extents_of (take filled old)) (extents_of (take filled new)) → extents_of (take filled old) ≡ index_of m arch images → IsIndexOf m arch images new filled
indexes m arch images old new filled inside searchable moved is =
    let from_index = subst (λ (es : List Extent). IsPermutation es (extents_of (take filled new))) is moved in
    let ordered = ordered_as m arch images (extents_of (take filled new)) from_index in
    record {
      settled = record {
        within = inside;
        searchable = searchable;
        whole = subst (λ (es : List Extent). IsPermutation (extents_of (take filled new)) es) (sym ordered) (IsPermutation-sym (index_of m arch images) (extents_of (take filled new)) from_index);
      };
      is = ap (λ (es : List Extent). let o : Option (List Extent) = Some es in o) ordered;
    }

-- and what they answer is what the index does
settled_in : (n : ℕ) (room : List Spot) (filled : Option ℕ) (count : ℕ) → filled ≡ Some count → IsIndexed n room filled → IsSettled n room count
settled_in n room filled count is indexed = subst (IsIndexed n room) is indexed

pub located_in : (n : ℕ) (room : List Spot) (filled : Option ℕ) (count address : ℕ) → filled ≡ Some count → IsIndexed n room filled → least_over (extents_of (take count room)) address ≡ located (index_in n room filled) address
located_in n room filled count address is indexed =
    let settled = settled_in n room filled count is indexed in
    least_again address (extents_of (take count room)) (ordered_from 0 n (extents_of (take count room))) settled.whole ∙ sym (ap (λ (f : Option ℕ). located (index_in n room f) address) is)

-- no spot is an index of no image
pub settled_none : (room : List Spot) → IsSettled 0 room 0
settled_none room = record {
  within = omega arith;
  searchable = record { rises = λ i j d up below. absurd (omega (arith, below)); reaches = λ k i d e up below. absurd (omega (arith, below)) };
  whole = IsPermutation-refl [];
}
