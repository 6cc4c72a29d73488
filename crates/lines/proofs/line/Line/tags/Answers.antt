use Rattle.std.proofs.Common.{◌++◌, sym, ap, ◌∙◌, arith, append-nil}
use Rattle.lines.proofs.Tags.{tags_none, tag_added, tag_skipped, length_so_far}
use Rattle.lines.proofs.line.Line.tags.Goals.{then-has, else-has}
use Rattle.lines.proofs.line.Line.tags.Goals as goal

pub loop-tag-init : goal.loop-tag-init
loop-tag-init c = sym (ap (λ text. c.args.self.now ++ text) (tags_none c.args.tags.0) ∙ append-nil c.args.self.now)

pub tag-requires : goal.tag-requires
tag-requires c = (omega arith, omega (arith, length_so_far _ _ c.loop-tag.tag c.args.tags.0 c.loop-tag.invariant (omega arith)))

pub loop-tag-preserved : goal.loop-tag-preserved
loop-tag-preserved c =
    elim c.if-has.branch [
      | then-has w ↦ w.self-is ∙ w.tag.ensures.bytes ∙ tag_added _ _ c.loop-tag.tag c.args.tags.0 c.loop-tag.invariant (sym c.has.ensures ∙ w.if-has.true)
      | else-has w ↦ w.self-is ∙ tag_skipped _ _ c.loop-tag.tag c.args.tags.0 c.loop-tag.invariant (sym c.has.ensures ∙ w.if-has.false)
    ]

pub returns-clause-long : goal.returns-clause-long
returns-clause-long c =
    let all = length_so_far _ _ c.loop-tag.tag c.args.tags.0 c.loop-tag.invariant (omega arith) in
    omega arith
