use Rattle.std.proofs.Common.{◌≡◌, ◌++◌, length, map, drop}
use Rattle.plcr_encode.specs.inner.Lookups.{address_of}
use Rattle.plcr_encode.proofs.lookups.list_addresses.Given as goal

-- the addresses that are listed and those to come make up all
abbrev pub invariant-loop-lookup : goal.invariant-loop-lookup
invariant-loop-lookup l = record {
  listed : l.addresses.items ++ map address_of (drop l.lookup-index l.lookups) ≡ map address_of l.lookups;
  room : length l.found.items ≡ l.lookup-index;
}
