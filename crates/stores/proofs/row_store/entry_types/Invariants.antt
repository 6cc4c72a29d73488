use Rattle.std.proofs.Common.{◌≡◌, take}
use Rattle.stores.specs.RowStores.{pair_set}
use Rattle.stores.proofs.row_store.entry_types.Given as goal

-- the union of the entries so far
abbrev pub invariant-loop-entry : goal.invariant-loop-entry
invariant-loop-entry l = l.types ≡ pair_set (take l.entry-index l.row) l.to
