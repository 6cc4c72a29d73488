use Rattle.listing.proofs.listing_words.ListingWords.of.Goals as goal

pub invariant_of-result : goal.invariant_of-result
invariant_of-result c = record { listed = (c.check.ensures.accepts c.in_ok-counts.counts).0 c.in_ok-counts.was }
