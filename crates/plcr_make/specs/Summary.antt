-- What is printed of the report that was made.
use Rattle.std.specs.Prelude.{ℕ, List, ◌++◌, codes, decimal}

-- the numbers of its images, of its threads, of all their frames, and of its bytes
unfoldable pub summary_line : (images threads frames bytes : ℕ) → List ℕ
summary_line images threads frames bytes =
    codes "made images "
    ++ (decimal images ++ (codes " threads "
    ++ (decimal threads ++ (codes " frames "
    ++ (decimal frames ++ (codes " bytes " ++ (decimal bytes ++ codes "\n")))))))
