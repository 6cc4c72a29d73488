use Rattle.std.proofs.Common.{length, ap, ◌∙◌, arith}
use Rattle.stores.specs.ListingStores.{words_in}
use Rattle.stores.proofs.ListingStores.{count_words, labels_more, labels_all}
use Rattle.stores.proofs.listing_store.ListingStore.write_labels.Goals as goal

pub loop-block-preserved : goal.loop-block-preserved
loop-block-preserved c =
    let few = c.block_words-words.ensures.few in
    let i = c.loop-block.block in
    let written = c.loop-block.invariant in
    let tags = c.tags.ensures in
    let more = labels_more c.args.memory.now c.block_words-words.result.now i (omega arith) (omega arith) in
    cc

pub returns-clause-answer : goal.returns-clause-answer
returns-clause-answer c = ap length c.block_words-words.ensures.value ∙ count_words (words_in c.args.self.now)

pub returns-clause-left : goal.returns-clause-left
returns-clause-left c =
    c.loop-block.invariant ∙ labels_all (words_in c.args.self.now) c.block_words-words.result.now c.args.memory.now c.loop-block.block c.block_words-words.ensures.value (omega arith)
