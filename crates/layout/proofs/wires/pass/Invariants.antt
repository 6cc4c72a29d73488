use Rattle.layout.specs.Passes.{Below}
use Rattle.layout.proofs.wires.pass.Given as goal

abbrev pub invariant-loop-wire : goal.invariant-loop-wire
invariant-loop-wire l = Below l.fn.listing.words.now l.row (record { wires = l.wire; pairs = l.pairs })
