-- The report that the bytes of a file spell, or their first fault (PLCrashReporter's
-- crash_report.proto; Protocol Buffers documentation, "Encoding").
use Rattle.std.specs.Prelude.{ℕ, ◌==◌, List, [], ◌∷◌, length, Result, Ok, Err, if◌then◌else◌}
use Rattle.plcr_base.specs.Chains.{◌>>=◌}
use Rattle.plcr_report.specs.declared.kinds.Kind.TheVariants as kinds
use Rattle.plcr_report.specs.declared.messages.Report.{Report}
use Rattle.plcr_report.specs.Spelling.{magic, version}
use Rattle.plcr_decode.specs.Fields.{fields_of}
use Rattle.plcr_decode.specs.Scan.{scan}
use Rattle.plcr_decode.specs.Required.{whole}
use Rattle.plcr_decode.specs.Values.{report_of}
use Rattle.plcr_decode.specs.declared.faults.DecodeFault.{DecodeFault}
use Rattle.plcr_decode.specs.declared.faults.DecodeFault.TheVariants.{Magic, Version, Truncated}

-- the root message: what stands behind this text and the version
abbrev pub behind : List ℕ → ℕ → List ℕ → Result (List ℕ) DecodeFault
behind [] at [] = Err (Truncated at)
behind [] at (found ∷ rest) = if found == version then Ok rest else Err (Version found)
behind (c ∷ cs) at [] = Err Magic
behind (c ∷ cs) at (b ∷ bs) = if b == c then behind cs at bs else Err Magic

-- the root message of a file, behind its magic text and its version
unfoldable pub root_of : List ℕ → Result (List ℕ) DecodeFault
root_of bytes = behind magic (length bytes) bytes

-- first the faults of its bytes in reading order, then the first field that lacks, then the report
unfoldable pub reads : List ℕ → Result Report DecodeFault
reads bytes = root_of bytes >>= λ root.
    (scan kinds.Root (length bytes) root >>= λ u.
    (whole kinds.Root (fields_of root) >>= λ u. Ok (report_of (fields_of root))))
