use Rattle.std.proofs.Common.{◌-◌, take, drop, length, Some, sym, ap, ◌∙◌, ap₂, inl, inr, ⊎_elim, rules}
use Rattle.model.proofs.Meanings.{pair_there, pair_absent}
use Rattle.stores.specs.RowStores.{row_graph, pair_set}
use Rattle.stores.proofs.RowStores.{row_bounds}
use Rattle.stores.proofs.row_store.RowStoreStore.pair.Goals as goal

pub returns-then-from-count : goal.returns-then-from-count
unfolding row_graph
returns-then-from-count g c =
    let s = c.args.self.now in
    sym (pair_absent (row_graph s.starts.now s.entries.now s.labels.now) c.args.from c.args.to (⊎_elim inl (λ l. inr l.1) c.then-from-count.either))

pub slice_bounds-entry_types-count : goal.slice_bounds-entry_types-count
slice_bounds-entry_types-count g c =
    let s = c.args.self.now in
    let b = row_bounds s.starts.now s.entries.now (length s.labels.now) c.args.from s.rows c.if-from-count.false in
    search rules

pub slice_bounds-entry_types-start : goal.slice_bounds-entry_types-start
slice_bounds-entry_types-start g c =
    let s = c.args.self.now in
    let b = row_bounds s.starts.now s.entries.now (length s.labels.now) c.args.from s.rows c.if-from-count.false in
    search rules

pub slice_bounds-entry_types-end : goal.slice_bounds-entry_types-end
slice_bounds-entry_types-end g c =
    let s = c.args.self.now in
    let b = row_bounds s.starts.now s.entries.now (length s.labels.now) c.args.from s.rows c.if-from-count.false in
    search rules

pub returns : goal.returns
unfolding row_graph
returns g c =
    let s = c.args.self.now in
    ap Some (c.entry_types.ensures ∙ ap₂ (λ a b. pair_set (take (b - a) (drop a s.entries.now)) c.args.to) c.from-start.ensures c.from-end.ensures)
    ∙ sym (pair_there (row_graph s.starts.now s.entries.now s.labels.now) c.args.from c.args.to c.if-from-count.false c.if-to-count.false)
