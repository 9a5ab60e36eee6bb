-- What the private functions behind an index answer, and what a list of images keeps of its room.
use Rattle.std.specs.Prelude.{ℕ, if◌then◌else◌, List, Option, Some, None, ⊤}
use Rattle.plcr_macho.specs.declared.spot.Spot.{Spot}
use Rattle.plcr_macho.specs.Index.{Extent, has_address, lesser}
use Rattle.plcr_macho.specs.Spots.{IsSettled}

-- the least position found, with one extent more
abbrev pub counted : ℕ → Extent → Option ℕ → Option ℕ
counted address e found = if has_address address e then Some (lesser e.position found) else found

-- what a list of so many images keeps of its room
abbrev pub IsIndexed : ℕ → List Spot → Option ℕ → Type 0
IsIndexed n room None = ⊤
IsIndexed n room (Some filled) = IsSettled n room filled
