use Rattle.layout.proofs.Passing.{no_wires}
use Rattle.layout.proofs.Answering.{entry_count}
use Rattle.layout.proofs.wires.count_pairs.Goals as goal

pub pass-requires-clause-below : goal.pass-requires-clause-below
pass-requires-clause-below c = no_wires _ _

pub returns : goal.returns
returns c = entry_count c.args.listing.now.words.now c.counts.result c.counts.ensures.listed _ c.pass.ensures.start
