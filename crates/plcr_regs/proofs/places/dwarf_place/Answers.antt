use Rattle.std.proofs.Common.{◌≡◌, ◌+◌, ◌∙◌, ℕ, Some, ap, refl, sym, arith, map}
use Rattle.std.specs.Prelude.{slice_get}
use Rattle.std.specs.List.{range_with_len}
use Rattle.std.proofs.lemmas.List.FromFn.{get_or-range_with_len}
use Rattle.std.proofs.lemmas.Option.{slice_get-get_or, slice_get-map, slice_get_past}
use Rattle.plcr_regs.specs.declared.arch.Arch.TheVariants.{Arm64}
use Rattle.plcr_regs.specs.Places.{dwarf_names, dwarf_place, place_of}
use Rattle.plcr_regs.proofs.places.dwarf_place.Goals as goal

-- the general registers of arm64 stand at their DWARF numbers
arm64_places : map (place_of Arm64) (dwarf_names Arm64) ≡ range_with_len 0 32
arm64_places = refl

arm64_place : (n : ℕ) → dwarf_place Arm64 n ≡ slice_get (range_with_len 0 32) n
unfolding dwarf_place
arm64_place n = sym (slice_get-map (place_of Arm64) (dwarf_names Arm64) n) ∙ ap (λ places. slice_get places n) arm64_places

pub returns-in-Arm64-clause-place : goal.returns-in-Arm64-clause-place
returns-in-Arm64-clause-place c =
    let n = c.args.number in
    let there = slice_get-get_or (range_with_len 0 32) n 0 (omega arith) in
    let plain : 0 + n ≡ n = omega arith in
    let number = get_or-range_with_len 0 32 n 0 (omega arith) ∙ plain in
    rw c.in-Arm64.is (sym (arm64_place n ∙ there ∙ ap Some number))

pub returns-in_default-2-clause-place : goal.returns-in_default-2-clause-place
returns-in_default-2-clause-place c =
    rw c.in-Arm64.is (sym (arm64_place c.args.number ∙ slice_get_past (range_with_len 0 32) c.args.number (omega arith)))
