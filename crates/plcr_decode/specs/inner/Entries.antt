-- The rows of the code's table.
use Rattle.std.specs.Prelude.{List, map}
use Rattle.plcr_report.specs.Schema as schema
use Rattle.plcr_report.specs.Schema.{Row}
use Rattle.plcr_decode.specs.declared.table.Entry.{Entry}
use Rattle.plcr_decode.specs.declared.table.Entry.TheVariants.{Required, Optional, Repeated}

-- an entry of the table
abbrev pub row_of : Entry → Row
row_of (Required n holds) = schema.required n holds
row_of (Optional n holds) = schema.optional n holds
row_of (Repeated n holds) = schema.repeated n holds

-- the rows that they say
abbrev pub rows_of : List Entry → List Row
rows_of entries = map row_of entries
