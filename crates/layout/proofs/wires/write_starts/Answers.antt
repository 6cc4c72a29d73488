use Rattle.std.proofs.Common.{set, ap, ◌∙◌, arith}
use Rattle.std.proofs.lemmas.List.Edits.{paste_none}
use Rattle.listing.specs.declared.counts.Counts.{Counts}
use Rattle.listing.specs.Graphs.{stated}
use Rattle.layout.specs.Layouts.{starts_of}
use Rattle.layout.proofs.Passing.{no_wires, next_row, few_pairs}
use Rattle.layout.proofs.Writing.{starts_more, starts_all}
use Rattle.layout.proofs.wires.write_starts.Goals as goal

pub loop-row-init : goal.loop-row-init
loop-row-init c = (no_wires c.args.listing.now.words.now 0, paste_none c.args.starts.now 0 (starts_of (stated c.args.listing.now.words.now)))

pub overflow_cast-starts : goal.overflow_cast-starts
overflow_cast-starts c = let f = few_pairs c.args.listing.now.words.now c.args.listing.now.counts c.args.listing.now.listed c.loop-row.row c.pass-passed.result c.pass-passed.ensures.below in omega arith

pub loop-row-preserved : goal.loop-row-preserved
loop-row-preserved c = let count = ap (λ (d : Counts). d.blocks) c.counts-row-end.ensures.value in (
  next_row c.args.listing.now.words.now c.loop-row.row c.pass-passed.result c.pass-passed.ensures.below,
  ap (λ ss. set ss c.loop-row.row c.pass-passed.result.pairs) c.loop-row.invariant.1
      ∙ starts_more c.args.listing.now.words.now c.args.listing.now.counts c.args.listing.now.listed c.args.starts.now c.loop-row.row c.pass-passed.result.pairs (omega arith) c.requires c.pass-passed.ensures.start,
)

pub returns : goal.returns
returns c =
    let count = ap (λ (d : Counts). d.blocks) c.counts-row-end.ensures.value in
    c.loop-row.invariant.1 ∙ starts_all c.args.listing.now.words.now c.args.listing.now.counts c.args.listing.now.listed c.args.starts.now c.loop-row.row (omega arith)
