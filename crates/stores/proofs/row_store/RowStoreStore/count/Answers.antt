use Rattle.std.proofs.Common.{rules}
use Rattle.stores.specs.RowStores.{row_graph}
use Rattle.stores.proofs.row_store.RowStoreStore.count.Goals as goal

pub returns : goal.returns
unfolding row_graph
returns g c = search rules
