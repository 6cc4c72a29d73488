use Rattle.std.proofs.Common.{rules}
use Rattle.stores.proofs.RowStores.{sorted_is}
use Rattle.stores.proofs.row_store.starts_fit.Goals as goal

pub returns-then-from-entries : goal.returns-then-from-entries
returns-then-from-entries c = let never = sorted_is c.args.starts.now c.args.count c.is_sorted.result c.requires c.is_sorted.ensures.cases in search rules
