use Rattle.std.proofs.Common.{◌≡◌, ℕ, ◌+◌, ◌<◌, length, get_or, ap, ◌∙◌, subst, arith}
use Rattle.listing.specs.Words.{wire_from}
use Rattle.listing.specs.Checks.{wire_word}
use Rattle.layout.specs.Passes.{Below}
use Rattle.layout.proofs.Listed.{open_test, entries_to, wire_count, wire_at}
use Rattle.layout.proofs.Passing.{passing, few_pairs, next_wire, pairs_open, pairs_add, start_found, start_end}
use Rattle.layout.proofs.wires.pass.Goals as goal
use Rattle.layout.proofs.wires.pass.Goals.{In-loop-wire, then-opens, else-opens}

-- the word that a turn looks at is that of its wire
word_at : (c : In-loop-wire) → get_or c.wire_words-wires.result.now c.loop-wire.wire 0 ≡ wire_word c.args.listing.now.words.now c.args.listing.now.counts c.loop-wire.wire
word_at c =
    let len = ap length c.wire_words-wires.ensures ∙ wire_count c.args.listing.now.words.now c.args.listing.now.counts c.args.listing.now.listed in
    ap (λ ws. get_or ws c.loop-wire.wire 0) c.wire_words-wires.ensures
    ∙ wire_at c.args.listing.now.words.now c.args.listing.now.counts c.args.listing.now.listed c.loop-wire.wire (omega arith)

pub returns-then-from-row-clause-start : goal.returns-then-from-row-clause-start
returns-then-from-row-clause-start c =
    let at = ap wire_from (word_at (goal.at.returns-then-from-row-clause-start c).In-loop-wire) in
    start_found c.args.listing.now.words.now c.args.listing.now.counts c.args.listing.now.listed c.args.row c.loop-wire.wire c.loop-wire.pairs c.requires.row c.loop-wire.invariant (omega arith)

pub overflow_add-pairs : goal.overflow_add-pairs
overflow_add-pairs c =
    let f = few_pairs c.args.listing.now.words.now c.args.listing.now.counts c.args.listing.now.listed c.args.row (passing c.loop-wire.wire c.loop-wire.pairs) c.loop-wire.invariant in
    omega arith

pub loop-wire-preserved : goal.loop-wire-preserved
loop-wire-preserved c =
    let ws = c.args.listing.now.words.now in
    let l = c.args.listing.now.listed in
    let i = c.loop-wire.wire in
    let len = ap length c.wire_words-wires.ensures ∙ wire_count c.args.listing.now.words.now c.args.listing.now.counts c.args.listing.now.listed in
    let h : i < c.args.listing.now.counts.wires = omega arith in
    let at = ap wire_from (word_at (goal.at.loop-wire-preserved c).In-loop-wire) in
    let p = c.loop-wire.pairs in
    let count : c.if-opens.pairs ≡ length (entries_to ws (i + 1)) =
    elim c.if-opens.branch [
      | then-opens w ↦ w.pairs-is ∙ pairs_open ws c.args.listing.now.counts l c.args.row i p c.loop-wire.invariant h (w.if-opens.ensures ∙ ap (λ es. open_test es i) c.wire_words-wires.ensures)
      | else-opens w ↦ w.pairs-is ∙ pairs_add ws c.args.listing.now.counts l c.args.row i p c.loop-wire.invariant h (w.if-opens.ensures ∙ ap (λ es. open_test es i) c.wire_words-wires.ensures)
    ] in
    next_wire ws c.args.listing.now.counts l c.args.row i p c.if-opens.pairs c.loop-wire.invariant h (omega arith) count

pub returns-clause-start : goal.returns-clause-start
returns-clause-start c =
    let s = c.args.listing.now in
    let m = wire_count s.words.now s.counts s.listed in
    let len = ap length c.wire_words-wires.ensures ∙ m in
    let w = c.requires.below.within in
    let end : c.loop-wire.wire ≡ s.counts.wires = omega arith in
    start_end s.words.now s.counts s.listed c.args.row c.loop-wire.pairs c.requires.row (subst (λ (n : ℕ). Below s.words.now c.args.row (passing n c.loop-wire.pairs)) end c.loop-wire.invariant)
