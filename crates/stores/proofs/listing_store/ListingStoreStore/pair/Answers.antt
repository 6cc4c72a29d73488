use Rattle.std.proofs.Common.{Some, ap, ◌∙◌, arith}
use Rattle.stores.specs.ListingStores.{words_in, gathered}
use Rattle.stores.proofs.ListingStores.{types_there}
use Rattle.stores.proofs.listing_store.ListingStoreStore.pair.Goals as goal

pub returns : goal.returns
returns c =
    let n = c.count-blocks.ensures in
    ap Some (c.wire_types.ensures ∙ ap (λ es. gathered es c.args.from c.args.to) c.wire_words.ensures)
    ∙ types_there (words_in c.args.self.now) c.args.from c.args.to (omega arith) (omega arith)
