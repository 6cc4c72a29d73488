use Rattle.std.proofs.Common.{◌≡◌, take}
use Rattle.stores.specs.ListingStores.{gathered}
use Rattle.stores.proofs.listing_store.wire_types.Given as goal

-- the types of the wire words so far
abbrev pub invariant-loop-wire : goal.invariant-loop-wire
invariant-loop-wire l = l.types ≡ gathered (take l.wire-index l.wires) l.from l.to
