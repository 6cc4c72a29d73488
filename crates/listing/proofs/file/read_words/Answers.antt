use Rattle.std.proofs.Common.{[], get_or, Ok, Err, sym, ap, ◌∙◌, arith}
use Rattle.std.proofs.lemmas.List.{length-take}
use Rattle.std.proofs.lemmas.Bool.{cond-true, cond-false}
use Rattle.listing.specs.declared.fault.Fault.TheVariants.{PartialWord}
use Rattle.listing.specs.Faults.{at}
use Rattle.listing.specs.Files.{word_at, is_whole}
use Rattle.listing.proofs.Files.{words_of, whole_is, chunk_word, words_more, words_all}
use Rattle.listing.proofs.file.read_words.Goals as goal

pub returns-then-not-is_empty : goal.returns-then-not-is_empty
returns-then-not-is_empty c =
    let bs = c.args.bytes.now in
    let broken = whole_is bs c.min.result c.min.ensures _ c.as_chunks.ensures.back_len ∙ sym c.is_empty.ensures ∙ c.if-not-is_empty.true in
    let words = c.as_chunks.ensures.front_len ∙ words_of bs c.min.result c.min.ensures in
    record {
      answer = ap (λ n. Err (PartialWord (at n))) words ∙ sym (cond-false (is_whole bs) _ _ broken);
      left = sym (cond-false (is_whole bs) _ _ broken);
      within = tt;
    }

pub loop-place-preserved : goal.loop-place-preserved
loop-place-preserved c =
    let bs = c.args.bytes.now in
    let n = c.min.result in
    let i = c.loop-place.place in
    let words = c.as_chunks.ensures.front_len ∙ words_of bs n c.min.ensures in
    let taken = length-take n bs in
    let is = chunk_word bs n c.min.ensures i [] (let h = c.as_chunks.ensures.front_len in omega arith) in
    ap (λ m. lib.ListN.set m i c.from_be_bytes.result) c.loop-place.invariant
    ∙ words_more bs c.args.memory.now i c.from_be_bytes.result (omega arith) (omega arith) (c.from_be_bytes.ensures ∙ ap (λ cs. word_at (get_or cs i []) 0) c.as_chunks.ensures.front ∙ is)

pub returns : goal.returns
returns c =
    let bs = c.args.bytes.now in
    let whole = whole_is bs c.min.result c.min.ensures _ c.as_chunks.ensures.back_len ∙ sym c.is_empty.ensures ∙ c.if-not-is_empty.false in
    let words = c.as_chunks.ensures.front_len ∙ words_of bs c.min.result c.min.ensures in
    record {
      answer = ap Ok words ∙ sym (cond-true (is_whole bs) _ _ whole);
      left = c.loop-place.invariant ∙ words_all bs c.args.memory.now c.loop-place.place (omega arith) whole;
      within = let h = c.as_chunks.ensures.front_len in let taken = length-take c.min.result bs in omega arith;
    }
