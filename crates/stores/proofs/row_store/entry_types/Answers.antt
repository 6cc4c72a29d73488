use Rattle.std.proofs.Common.{sym, ◌∙◌}
use Rattle.stores.proofs.RowStores.{union_none, union_with, union_skip}
use Rattle.stores.proofs.row_store.entry_types.Goals as goal
use Rattle.stores.proofs.row_store.entry_types.Goals.{then-from-to, else-from-to}

pub loop-entry-init : goal.loop-entry-init
loop-entry-init c = union_none c.args.to

pub loop-entry-preserved : goal.loop-entry-preserved
loop-entry-preserved c =
    let i = c.loop-entry.entry-index in
    elim c.if-from-to.branch [
      | then-from-to w ↦ w.types-is ∙ w.union-types.ensures.value ∙ union_with c.args.row.now i c.args.to _ c.loop-entry.types c.loop-entry-test.true c.loop-entry.invariant (sym c.from.ensures ∙ w.if-from-to.true)
      | else-from-to w ↦ w.types-is ∙ union_skip c.args.row.now i c.args.to _ c.loop-entry.types c.loop-entry-test.true c.loop-entry.invariant (λ e. w.if-from-to.false (c.from.ensures ∙ e))
    ]
