use Rattle.std.proofs.Common.{◌≡◌, ◌+◌, ◌<◌, ◌≤◌, length, get_or, Some, sym, ap, ◌∙◌, rules, arith, get_or-take}
use Rattle.lines.proofs.Places.{block-at, none_past_counts, none_past_words, wire_at}
use Rattle.lines.specs.GraphLines.{block_line, line_length, line_over, wire_line}
use Rattle.listing.specs.Listings.{counts_of}
use Rattle.listing.specs.Words.{block_tags}
use Rattle.lines.proofs.graph.graph_line.Goals as goal

pub returns-in_err-first : goal.returns-in_err-first
returns-in_err-first c =
    let empty : length c.args.words.now ≡ 0 = search rules in
    let none = none_past_words c.args.words.now c.args.index (omega arith) in
    record { answer = c.from_residual.ensures ∙ sym (ap line_length none); left = sym (ap (λ line. line_over line c.args.out.now) none); within = search rules }

pub returns-then-index-counts : goal.returns-then-index-counts
returns-then-index-counts c =
    let none = none_past_counts c.args.words.now c.args.index (search rules) in
    record { answer = sym (ap line_length none); left = sym (ap (λ line. line_over line c.args.out.now) none); within = tt }

pub returns-in_err-get : goal.returns-in_err-get
returns-in_err-get c =
    let none = none_past_words c.args.words.now c.args.index (search rules) in
    record { answer = c.from_residual-in_err-get.ensures ∙ sym (ap line_length none); left = sym (ap (λ line. line_over line c.args.out.now) none); within = search rules }

-- `get_or-take`: that the word is the one at the place holds of the words, and of any part of them that reaches it
pub returns-then-index-counts-2 : goal.returns-then-index-counts-2
returns-then-index-counts-2 c =
    let below : c.args.index < (counts_of c.args.words.now).blocks = search rules in
    let inside : c.args.index + 1 < length c.args.words.now = search rules in
    let there : c.in_ok-get.field-0.now ≡ get_or c.args.words.now (c.args.index + 1) 0 = search (rules, get_or-take) in
    let is = ap (λ w. Some (block_line c.args.index (block_tags w))) there ∙ sym (block-at c.args.words.now c.args.index below inside) in
    record {
      answer = ap Some c.block_line.ensures.answer ∙ ap line_length is;
      left = c.block_line.ensures.left ∙ ap (λ line. line_over line c.args.out.now) is;
      within = c.block_line.ensures.short;
    }

pub returns-else-index-counts-2 : goal.returns-else-index-counts-2
returns-else-index-counts-2 c =
    let above : (counts_of c.args.words.now).blocks ≤ c.args.index = search rules in
    let below : c.args.index < (counts_of c.args.words.now).blocks + (counts_of c.args.words.now).wires = search rules in
    let inside : c.args.index + 1 < length c.args.words.now = search rules in
    let there : c.in_ok-get.field-0.now ≡ get_or c.args.words.now (c.args.index + 1) 0 = search (rules, get_or-take) in
    let is = ap (λ w. Some (wire_line w)) there ∙ sym (wire_at c.args.words.now c.args.index above below inside) in
    record {
      answer = ap Some c.wire_line.ensures.answer ∙ ap line_length is;
      left = c.wire_line.ensures.left ∙ ap (λ line. line_over line c.args.out.now) is;
      within = c.wire_line.ensures.short;
    }
