-- The registers of a thread state, in the order of the Mach headers (mach/i386/_structs.h,
-- mach/arm/_structs.h).
use Rattle.std.specs.Prelude.{ℕ, List, [], ◌∷◌, length, codes}
use Rattle.plcr_regs.specs.declared.arch.Arch.{Arch}
use Rattle.plcr_regs.specs.declared.arch.Arch.TheVariants.{X86_64, Arm64}

-- the names of the registers, in the order of the thread state
abbrev pub register_names : Arch → List (List ℕ)
register_names X86_64 =
    codes "rax" ∷ codes "rbx" ∷ codes "rcx" ∷ codes "rdx" ∷ codes "rdi" ∷ codes "rsi" ∷ codes "rbp"
    ∷
    codes "rsp" ∷ codes "r8" ∷ codes "r9" ∷ codes "r10" ∷ codes "r11" ∷ codes "r12" ∷ codes "r13" ∷
    codes "r14" ∷ codes "r15" ∷ codes "rip" ∷ codes "rflags" ∷ codes "cs" ∷ codes "fs" ∷ codes "gs"
    ∷ []
register_names Arm64 =
    codes "x0" ∷ codes "x1" ∷ codes "x2" ∷ codes "x3" ∷ codes "x4" ∷ codes "x5" ∷ codes "x6" ∷
    codes "x7" ∷ codes "x8" ∷ codes "x9" ∷ codes "x10" ∷ codes "x11" ∷ codes "x12" ∷ codes "x13" ∷
    codes "x14" ∷ codes "x15" ∷ codes "x16" ∷ codes "x17" ∷ codes "x18" ∷ codes "x19" ∷ codes "x20"
    ∷
    codes "x21" ∷ codes "x22" ∷ codes "x23" ∷ codes "x24" ∷ codes "x25" ∷ codes "x26" ∷ codes "x27"
    ∷
    codes "x28" ∷ codes "fp" ∷ codes "lr" ∷ codes "sp" ∷ codes "pc" ∷ codes "cpsr" ∷ []

-- how many registers a thread state has
abbrev pub register_count : Arch → ℕ
register_count arch = length (register_names arch)
