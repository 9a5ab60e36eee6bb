-- The script that is made.
use Rattle.std.specs.Prelude.{ℕ, ◌%◌, false, List, [], ◌++◌, ◌==◌, if◌then◌else◌, codes, decimal}
use Rattle.std.specs.Fmt.{digits}
use Rattle.plcr_machine.specs.declared.limits.TheConstants.{MOST_NODES}
use Rattle.plcr_make.specs.declared.constants.TheConstants.{MADE_REPORT, UNLOAD_STRIDE}
use Rattle.plcr_make.specs.Numbers.{joined}
use Rattle.plcr_make.specs.Images.{image_address}

-- an address in hexadecimal digits
abbrev pub hexadecimal : ℕ → List ℕ
hexadecimal address = codes "0x" ++ digits 16 false address

-- the line of the sizes: a list of the most nodes, and one pass
abbrev pub sizes_line : List ℕ
sizes_line = codes "table " ++ (decimal MOST_NODES ++ codes " 1\n")

-- the line that loads an image, and the one that unloads it
abbrev pub load_line : ℕ → List ℕ
load_line k = codes "load "
    ++ (hexadecimal (image_address k) ++ (codes " /usr/lib/lib" ++ (decimal k ++ codes ".dylib\n")))

abbrev pub unload_line : ℕ → List ℕ
unload_line k = codes "unload " ++ (hexadecimal (image_address k) ++ codes "\n")

-- each image whose number the stride divides is unloaded
abbrev pub unload_lines : ℕ → List ℕ
unload_lines k = if k % UNLOAD_STRIDE == 0 then unload_line k else []

-- the name of the report's file
abbrev pub report_name : List ℕ
report_name = MADE_REPORT.now

-- the line of the report
abbrev pub report_line : List ℕ
report_line = codes "report 0 " ++ (report_name ++ codes "\n")

-- the script for so many images: the sizes, the loads, the unloads and one report
unfoldable pub script_of : ℕ → List ℕ
script_of images = sizes_line
    ++ (joined load_line images ++ (joined unload_lines images ++ report_line))
