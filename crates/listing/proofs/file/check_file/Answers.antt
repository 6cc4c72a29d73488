use Rattle.std.proofs.Common.{take, Err, sym, ap, ◌∙◌}
use Rattle.std.proofs.lemmas.Result.{err_from_is_err_and}
use Rattle.listing.specs.Faults.{verdict}
use Rattle.listing.proofs.Files.{verdict_from_fault, front_is_words, verdict_from_words}
use Rattle.listing.proofs.file.check_file.Goals as goal

pub returns-in_err-words-clause-answer : goal.returns-in_err-words-clause-answer
returns-in_err-words-clause-answer c =
    let p = err_from_is_err_and c.from_residual.result c.from_residual.ensures.1 in
    let fault = sym c.in_err-words.was ∙ c.read_words.ensures.answer in
    p.1 ∙ ap Err p.2 ∙ sym (verdict_from_fault c.args.bytes.now c.in_err-words.field-0.0 fault)

pub returns-clause-answer : goal.returns-clause-answer
returns-clause-answer c =
    let bs = c.args.bytes.now in
    let n = c.in_ok-words.words in
    let read = sym c.in_ok-words.was ∙ c.read_words.ensures.answer in
    let words = ap (take n) c.read_words.ensures.left ∙ front_is_words bs c.args.memory.now n read in
    c.check.ensures.answer ∙ ap verdict words ∙ sym (verdict_from_words bs n read)
