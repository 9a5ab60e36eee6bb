-- Where registers stand in a thread state, by what they are for and by their DWARF numbers.
-- x86-64: System V Application Binary Interface, AMD64 supplement, the figure "DWARF Register
-- Number Mapping". arm64: DWARF for the Arm 64-bit Architecture, "DWARF register names".
use Rattle.std.specs.Prelude.{ℕ, List, [], ◌∷◌, length, take_while, not, codes, slice_get, Option, Some, None}
use Rattle.std.specs.Option.{option_map}
use Rattle.std.specs.Str.{bytes_eq}
use Rattle.plcr_regs.specs.declared.arch.Arch.{Arch}
use Rattle.plcr_regs.specs.declared.arch.Arch.TheVariants.{X86_64, Arm64}
use Rattle.plcr_regs.specs.Names.{register_names}

-- the place of the register with a name: how many stand before it
abbrev pub place_of : Arch → List ℕ → ℕ
place_of arch name = length (take_while (λ other. not (bytes_eq name other)) (register_names arch))

-- the program counter
unfoldable pub pc_place : Arch → ℕ
pc_place X86_64 = place_of X86_64 (codes "rip")
pc_place Arm64 = place_of Arm64 (codes "pc")

-- the stack pointer
unfoldable pub sp_place : Arch → ℕ
sp_place X86_64 = place_of X86_64 (codes "rsp")
sp_place Arm64 = place_of Arm64 (codes "sp")

-- the frame pointer
unfoldable pub fp_place : Arch → ℕ
fp_place X86_64 = place_of X86_64 (codes "rbp")
fp_place Arm64 = place_of Arm64 (codes "fp")

-- the link register, where the architecture has one
unfoldable pub lr_place : Arch → Option ℕ
lr_place X86_64 = None
lr_place Arm64 = Some (place_of Arm64 (codes "lr"))

-- the names of the general registers by their DWARF numbers, from 0; on x86-64 the last is the
-- return address
abbrev pub dwarf_names : Arch → List (List ℕ)
dwarf_names X86_64 =
    codes "rax" ∷ codes "rdx" ∷ codes "rcx" ∷ codes "rbx" ∷ codes "rsi" ∷ codes "rdi" ∷ codes "rbp"
    ∷
    codes "rsp" ∷ codes "r8" ∷ codes "r9" ∷ codes "r10" ∷ codes "r11" ∷ codes "r12" ∷ codes "r13" ∷
    codes "r14" ∷ codes "r15" ∷ codes "rip" ∷ []
dwarf_names Arm64 =
    codes "x0" ∷ codes "x1" ∷ codes "x2" ∷ codes "x3" ∷ codes "x4" ∷ codes "x5" ∷ codes "x6" ∷
    codes "x7" ∷ codes "x8" ∷ codes "x9" ∷ codes "x10" ∷ codes "x11" ∷ codes "x12" ∷ codes "x13" ∷
    codes "x14" ∷ codes "x15" ∷ codes "x16" ∷ codes "x17" ∷ codes "x18" ∷ codes "x19" ∷ codes "x20"
    ∷
    codes "x21" ∷ codes "x22" ∷ codes "x23" ∷ codes "x24" ∷ codes "x25" ∷ codes "x26" ∷ codes "x27"
    ∷
    codes "x28" ∷ codes "fp" ∷ codes "lr" ∷ codes "sp" ∷ []

-- the register with a DWARF number, where there is one
unfoldable pub dwarf_place : Arch → ℕ → Option ℕ
dwarf_place arch number = option_map (place_of arch) (slice_get (dwarf_names arch) number)
