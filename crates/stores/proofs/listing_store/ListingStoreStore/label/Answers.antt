use Rattle.std.proofs.Common.{Some, ap, ◌∙◌, arith}
use Rattle.stores.specs.ListingStores.{words_in}
use Rattle.stores.proofs.ListingStores.{label_past, label_there}
use Rattle.stores.proofs.listing_store.ListingStoreStore.label.Goals as goal

pub returns-in_err-word : goal.returns-in_err-word
returns-in_err-word c =
    let h = c.in_err-word.ensures.lookup in
    c.from_residual.ensures ∙ label_past (words_in c.args.self.now) c.block_words.result.now c.args.block c.block_words.ensures.value (omega arith)

pub returns : goal.returns
returns c =
    let h = c.in_ok-word.ensures.lookup in
    ap Some c.tags.ensures ∙ label_there (words_in c.args.self.now) c.block_words.result.now c.args.block c.in_ok-word.word.now c.block_words.ensures.value (omega arith) h.1
