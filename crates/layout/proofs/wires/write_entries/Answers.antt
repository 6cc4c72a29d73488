use Rattle.std.proofs.Common.{◌≡◌, ◌-◌, ◌<◌, ◌≤◌, length, get_or, sym, ap, ◌∙◌, ap₂, arith}
use Rattle.sets.specs.Sets.{added, set}
use Rattle.listing.specs.Words.{wire_to, wire_type}
use Rattle.listing.specs.Checks.{wire_word}
use Rattle.layout.specs.Layouts.{entry, laid}
use Rattle.layout.proofs.Listed.{open_test, wire_count, wire_at, entries_all}
use Rattle.layout.proofs.Writing.{entries_none, room_open, room_add, entries_pushed, entries_grown}
use Rattle.layout.proofs.wires.write_entries.Goals as goal
use Rattle.layout.proofs.wires.write_entries.Goals.{then-opens, else-opens, Then-opens, Else-opens}

pub loop-index-init : goal.loop-index-init
loop-index-init c = entries_none c.args.listing.now.words.now c.args.entries.now

pub bounds-entries-written : goal.bounds-entries-written
bounds-entries-written c =
    let s = c.args.listing.now in
    let len = ap length c.wire_words-wires.ensures ∙ wire_count s.words.now s.counts s.listed in
    let r = room_open s.words.now s.counts s.listed c.args.entries.now c.requires c.loop-index.index (omega arith) (sym (c.if-opens.ensures ∙ ap (λ ws. open_test ws c.loop-index.index) c.wire_words-wires.ensures)) in
    let e = c.loop-index.invariant.0 in
    omega arith

-- the last entry, at a wire that does not open a pair
adding : (c : Else-opens) → (0 < c.loop-index.written) × (c.loop-index.written ≤ length c.loop-index.entries)
adding c =
    let s = c.args.listing.now in
    let len = ap length c.wire_words-wires.ensures ∙ wire_count s.words.now s.counts s.listed in
    let r = room_add s.words.now s.counts s.listed c.args.entries.now c.requires c.loop-index.index (omega arith) (sym (c.if-opens.ensures ∙ ap (λ ws. open_test ws c.loop-index.index) c.wire_words-wires.ensures)) in
    let e = c.loop-index.invariant.0 in
    (omega arith, omega arith)

pub overflow_sub-last : goal.overflow_sub-last
overflow_sub-last c = let f = adding c in omega arith

pub bounds-entries-written-else-opens : goal.bounds-entries-written-else-opens
bounds-entries-written-else-opens c = let f = adding (goal.at.bounds-entries-written-else-opens c).Else-opens in omega arith

pub loop-index-preserved : goal.loop-index-preserved
loop-index-preserved c =
    let s = c.args.listing.now in
    let i = c.loop-index.index in
    let len = ap length c.wire_words-wires.ensures ∙ wire_count s.words.now s.counts s.listed in
    let below : i < s.counts.wires = omega arith in
    let at : get_or c.wire_words-wires.result.now i 0 ≡ wire_word s.words.now s.counts i =
    ap (λ ws. get_or ws i 0) c.wire_words-wires.ensures ∙ wire_at s.words.now s.counts s.listed i below in
    elim c.if-opens.branch [
      | then-opens w ↦
          let p = entries_pushed s.words.now s.counts s.listed c.args.entries.now c.requires i below
          c.loop-index.written c.loop-index.entries (entry w.to.result w.with.result) (sym (w.if-opens.ensures ∙ ap (λ ws. open_test ws i) c.wire_words-wires.ensures)) c.loop-index.invariant.0 c.loop-index.invariant.1
          (ap₂ entry (w.to.ensures ∙ ap wire_to at) (w.with.ensures.value ∙ ap (λ k. added k (set 0)) (w.wire_type.ensures ∙ ap wire_type at))) in
          (w.written-is ∙ p.0, w.entries-is ∙ p.1)
      | else-opens w ↦
          let last = get_or c.loop-index.entries (c.loop-index.written - 1) (entry 0 (set 0)) in
          let p = entries_grown s.words.now s.counts s.listed c.args.entries.now c.requires i below
          c.loop-index.written c.loop-index.entries (entry last.to w.with-last.result) (entry 0 (set 0)) (sym (w.if-opens.ensures ∙ ap (λ ws. open_test ws i) c.wire_words-wires.ensures)) c.loop-index.invariant.0 c.loop-index.invariant.1
          (ap (entry last.to) (w.with-last.ensures.value ∙ ap (λ k. added k last.types) (w.wire_type-else-opens.ensures ∙ ap wire_type at))) in
          (w.written-is ∙ p.0, w.entries-is ∙ p.1)
    ]

pub returns : goal.returns
returns c =
    let s = c.args.listing.now in
    let len = ap length c.wire_words-wires.ensures ∙ wire_count s.words.now s.counts s.listed in
    c.loop-index.invariant.1 ∙ ap (λ t. laid t c.args.entries.now) (entries_all s.words.now s.counts s.listed c.loop-index.index (omega arith))
