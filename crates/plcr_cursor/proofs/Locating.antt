-- The image that has a frame's lookup address, by the index of the list.
use Rattle.std.proofs.Common.{◌≡◌, ℕ, Bool, true, false, ◌≤◌, ◌<◌, List, length, Option, Some, None, refl, sym, ap, subst, ◌∙◌}
use Rattle.std.specs.Prelude.{option_map, Ok, IsSomeAnd}
use Rattle.std.specs.Option.{option_and_then}
use Rattle.std.specs.Result.{result_ok}
use Rattle.plcr_memory.specs.Regions.{Contents}
use Rattle.plcr_regs.specs.declared.frame.Frame.{Frame}
use Rattle.plcr_regs.specs.Frames.{frame_lookup}
use Rattle.plcr_macho.specs.declared.image.Image.{Image}
use Rattle.plcr_macho.specs.Containing.{first_over}
use Rattle.plcr_macho.specs.Images.{Listed, listed_at}
use Rattle.plcr_macho.specs.Index.{Extent, index_of, located}
use Rattle.plcr_macho.specs.Loading.{image_at}
use Rattle.plcr_macho.proofs.Agreeing.{index_agrees}
use Rattle.plcr_macho.proofs.Held.{first_found}
use Rattle.plcr_cursor.specs.declared.given.Reader.{Reader}
use Rattle.plcr_cursor.specs.declared.located.Located.{Located}
use Rattle.plcr_cursor.specs.Frames.{located_at, located_over}
use Rattle.plcr_cursor.specs.Walks.{located_last}
use Rattle.plcr_cursor.specs.inner.Answering.{IsBelow, given_as}

-- the image of the list that has a frame's lookup address stands at this place
pub record IsLocated (memory : Contents) (images : List Listed) (frame : Frame) (place : ℕ) : Type 0 where
  pub inside : place < length images
  pub image : Image
  pub reads : image_at memory frame.registers.arch (listed_at images place).header ≡ Ok image
  pub over : located_over memory images frame ≡ Some (record { place = place; image = image })

-- it is what stands at the header of its place
pub image_there : {memory : Contents} {images : List Listed} {frame : Frame} {place header : ℕ} (found : IsLocated memory images frame place)
    → header ≡ (listed_at images place).header → result_ok (image_at memory frame.registers.arch header) ≡ Some found.image
image_there {memory} {images} {frame} {place} {header} found is =
    ap (λ (h : ℕ). result_ok (image_at memory frame.registers.arch h)) is ∙ ap result_ok found.reads

module _ (memory : Contents) (images : List Listed) (frame : Frame) where
  over_is : (address : ℕ) → Some address ≡ frame_lookup frame
      → option_map located_at (first_over memory frame.registers.arch address 0 images) ≡ located_over memory images frame
  over_is address looked = ap (option_and_then (λ (a : ℕ). option_map located_at (first_over memory frame.registers.arch a 0 images))) looked

  -- the image that was located stands no higher than the address
  below_by : (address : ℕ) (found : Option (ℕ × Image)) → frame_lookup frame ≡ Some address → first_over memory frame.registers.arch address 0 images ≡ found
      → IsBelow frame (option_map located_at found)
  below_by address None looked is = tt
  below_by address (Some f) looked is =
      let here = first_found memory frame.registers.arch address images f.0 f.1 is in
      subst (λ (o : Option ℕ). IsSomeAnd o (λ a. f.1.header ≤ a)) (sym looked) here.here.«from»

  below_at : (looked : Option ℕ) → frame_lookup frame ≡ looked
      → IsBelow frame (option_and_then (λ (a : ℕ). option_map located_at (first_over memory frame.registers.arch a 0 images)) looked)
  below_at None is = tt
  below_at (Some address) is = below_by address (first_over memory frame.registers.arch address 0 images) is refl

  pub located_below : (over : Option Located) → over ≡ located_over memory images frame → IsBelow frame over
  located_below over is = subst (IsBelow frame) (sym is) (below_at (frame_lookup frame) refl)

-- as the one of the frame given last
pub below_last : (memory : Contents) (images : List Listed) (frame : Frame) (by : Reader) (given : Bool) (left : ℕ) (over : Option Located)
    → given ≡ true → over ≡ located_last memory images (record { last = given_as frame by; given = given; left = left }) → IsBelow frame over
below_last memory images frame by true left over known is = located_below memory images frame over is
below_last memory images frame by false left over known is = absurd (cc)

module _ (memory : Contents) (images : List Listed) (frame : Frame) (address : ℕ) (extents : Option (List Extent)) (looked : Some address ≡ frame_lookup frame)
    (index : extents ≡ Some (index_of memory frame.registers.arch images)) where
  place_is : located extents address ≡ option_map (λ (found : ℕ × Image). found.0) (first_over memory frame.registers.arch address 0 images)
  place_is = ap (λ (e : Option (List Extent)). located e address) index ∙ index_agrees memory frame.registers.arch address images

  none_by : (found : Option (ℕ × Image)) → None ≡ option_map (λ (f : ℕ × Image). f.0) found → None ≡ option_map located_at found
  none_by None h = refl
  none_by (Some f) h = cc

  some_by : (place : ℕ) (found : Option (ℕ × Image)) → first_over memory frame.registers.arch address 0 images ≡ found → Some place ≡ option_map (λ (f : ℕ × Image). f.0) found → IsLocated memory images frame place
  some_by place None is h = cc
  some_by place (Some f) is h =
      let here = first_found memory frame.registers.arch address images f.0 f.1 is in
      let same : f.0 ≡ place = cc in
      subst (IsLocated memory images frame) same (record {
        inside = here.inside;
        image = f.1;
        reads = here.here.reads;
        over = sym (over_is memory images frame address looked) ∙ ap (option_map located_at) is;
      })

  -- no place, no image
  pub not_located : None ≡ located extents address → None ≡ located_over memory images frame
  not_located h = none_by (first_over memory frame.registers.arch address 0 images) (h ∙ place_is) ∙ over_is memory images frame address looked

  -- a place
  pub is_located : (place : ℕ) → Some place ≡ located extents address → IsLocated memory images frame place
  is_located place h = some_by place (first_over memory frame.registers.arch address 0 images) refl (h ∙ place_is)
