use Rattle.std.proofs.Common.{rules}
use Rattle.stores.specs.ListingStores.{words_in}
use Rattle.stores.proofs.ListingStores.{count_words}
use Rattle.stores.proofs.listing_store.ListingStoreStore.count.Goals as goal

pub returns : goal.returns
returns c = let n = count_words (words_in c.args.self.now) in search rules
