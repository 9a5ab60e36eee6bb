-- What contracts see of a walk: the hold that it borrows until it is dropped, and the list from
-- which it reads.
use Rattle.std.specs.Prelude.{List, Option, Some, None, if◌then◌else◌}
use Rattle.std.specs.Borrow.{MutBor}
use Rattle.atomic_table.specs.Seated.{TableId}
use Rattle.plcr_macho.specs.Index.{Extent}
use Rattle.plcr_imagelist.specs.declared.walk.Walk.{Walk}
use Rattle.plcr_imagelist.specs.Holds.{HoldState}

abbrev pub lent_hold : Walk → MutBor HoldState
lent_hold w = w.hold

-- its index, where one was made
abbrev pub walked_extents : Walk → Option (List Extent)
walked_extents w = if w.indexed then Some (lent_hold w).now.extents else None

abbrev pub walked_list : Walk → TableId
walked_list w = w.list.now
