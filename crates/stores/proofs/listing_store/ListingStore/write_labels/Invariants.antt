use Rattle.std.proofs.Common.{◌≡◌, map}
use lib.Seq.{paste}
use Rattle.listing.specs.Graphs.{tag_set}
use Rattle.stores.proofs.listing_store.ListingStore.write_labels.Given as goal

-- the labels of the blocks so far are written, and nothing else
abbrev pub invariant-loop-block : goal.invariant-loop-block
invariant-loop-block l = l.memory ≡ paste l.initial.memory 0 (map tag_set l.words) l.block
