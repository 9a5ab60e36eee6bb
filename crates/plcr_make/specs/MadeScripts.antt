-- What the script that is made says.
use Rattle.std.specs.Prelude.{◌≡◌, ℕ, zero, suc, ◌+◌, ◌%◌, ◌≤◌, List, [], ◌∷◌, ◌++◌, Ok, length, ◌==◌, if◌then◌else◌, codes, decimal}
use Rattle.plcr_machine.specs.declared.limits.TheConstants.{MOST_NODES}
use Rattle.plcr_script.specs.declared.modes.Mode.TheVariants.{Single}
use Rattle.plcr_script.specs.declared.statements.Statement.TheVariants.{Load, Unload, Report}
use Rattle.plcr_script.specs.declared.statements.NumberedStatement.{NumberedStatement}
use Rattle.plcr_script.specs.Values.{default_values}
use Rattle.plcr_script.specs.Scripts.{ScriptValue, script_value}
use Rattle.plcr_script.specs.Reading.{script_in}
use Rattle.plcr_make.specs.declared.constants.TheConstants.{MOST_IMAGES, UNLOAD_STRIDE}
use Rattle.plcr_make.specs.Images.{image_address}
use Rattle.plcr_make.specs.Scripts.{report_name, script_of}

-- the name of an image
abbrev pub image_name : ℕ → List ℕ
image_name k = codes "/usr/lib/lib" ++ (decimal k ++ codes ".dylib")

-- the loads of the images below a number, each on the line behind the sizes and the loads before it
unfoldable pub loads : ℕ → List NumberedStatement
loads zero = []
loads (suc k) = loads k
    ++ record { line = k + 2; statement = Load (image_address k) (image_name k) } ∷ []

-- and the unloads, behind so many loads
unfoldable pub unloads : (images : ℕ) → ℕ → List NumberedStatement
unloads images zero = []
unloads images (suc k) =
    if k % UNLOAD_STRIDE == 0
    then unloads images k ++ record {
      line = images + 2 + length (unloads images k);
      statement = Unload (image_address k);
    } ∷ []
    else unloads images k

-- the script: the loads, the unloads and one report, on a list of the most nodes with one pass
abbrev pub made_script : ℕ → ScriptValue
made_script images = script_value
    (loads images ++ (unloads images images
    ++ record {
      line = images + 2 + length (unloads images images);
      statement = Report 0 report_name;
    } ∷ []))
    MOST_NODES 1 default_values

-- the bytes that are made are read as this script
abbrev pub MadeScriptsAreRead : Type 0
MadeScriptsAreRead = (images : ℕ) → images ≤ MOST_IMAGES →
    script_in Single [] (script_of images) ≡ Ok (made_script images)
