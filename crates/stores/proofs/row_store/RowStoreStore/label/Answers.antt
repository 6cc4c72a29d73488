use Rattle.std.proofs.Common.{◌∙◌}
use Rattle.stores.specs.RowStores.{row_graph}
use Rattle.stores.proofs.RowStores.{got}
use Rattle.stores.proofs.row_store.RowStoreStore.label.Goals as goal

pub returns : goal.returns
unfolding row_graph
returns g c = c.copied.ensures ∙ got c.args.self.now.labels.now c.args.block c.get.result c.get.ensures.lookup
