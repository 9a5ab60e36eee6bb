-- Headers and segments of Mach-O files (loader.h).
use Rattle.std.specs.Prelude.{ℕ, List, [], ◌∷◌, ◌++◌}
use Rattle.plcr_loader.specs.declared.constants.TheConstants.{MH_MAGIC_64, CPU_TYPE_X86_64, CPU_SUBTYPE_X86_64_ALL, LC_SEGMENT_64}
use Rattle.plcr_loader.specs.declared.segment_command_64.TheConstants as segment_command_64
use Rattle.plcr_make.specs.declared.segments.Segment.{Segment}
use Rattle.plcr_make.specs.Numbers.{u32s, u64s}

-- the header of a file of this type, with so many load commands of so many bytes
abbrev pub header : (filetype commands size : ℕ) → List ℕ
header filetype commands size =
    u32s (MH_MAGIC_64 ∷ CPU_TYPE_X86_64 ∷ CPU_SUBTYPE_X86_64_ALL ∷ filetype ∷ commands ∷ size ∷ 0
    ∷ 0 ∷ [])

-- the command of a segment that has no sections
abbrev pub segment_command : Segment → List ℕ
segment_command s =
    u32s (LC_SEGMENT_64 ∷ segment_command_64.LENGTH ∷ [])
    ++ (s.name ++ (u64s (s.address ∷ s.memory_size ∷ s.file_offset ∷ s.file_size ∷ [])
    ++ u32s (s.protection ∷ s.protection ∷ 0 ∷ 0 ∷ [])))
