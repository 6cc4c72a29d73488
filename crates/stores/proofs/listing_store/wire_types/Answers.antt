use Rattle.std.proofs.Common.{sym, ap, ◌∙◌, arith}
use Rattle.stores.proofs.ListingStores.{gathered_none, gathered-with, gathered_skip}
use Rattle.stores.proofs.listing_store.wire_types.Goals as goal
use Rattle.stores.proofs.listing_store.wire_types.Goals.{then-leads, else-leads}
use Rattle.sets.specs.Sets.{added}

pub loop-wire-init : goal.loop-wire-init
loop-wire-init c = gathered_none c.args.from c.args.to

pub loop-wire-preserved : goal.loop-wire-preserved
loop-wire-preserved c =
    let es = c.args.wires.now in
    let i = c.loop-wire.wire-index in
    elim c.if-leads.branch [
      | then-leads w ↦ w.types-is ∙ w.with-types.ensures.value ∙ ap (λ k. added k c.loop-wire.types) w.wire_type.ensures ∙ gathered-with es i c.args.from c.args.to c.loop-wire.types (omega arith) c.loop-wire.invariant (sym c.leads.ensures ∙ w.if-leads.true)
      | else-leads w ↦ w.types-is ∙ gathered_skip es i c.args.from c.args.to c.loop-wire.types (omega arith) c.loop-wire.invariant (sym c.leads.ensures ∙ w.if-leads.false)
    ]
