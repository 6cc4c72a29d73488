use Rattle.std.proofs.Common.{arith}
use Rattle.lines.proofs.Tags.{length_tag_number}
use Rattle.lines.proofs.line.Line.tag.Goals as goal

pub two_digits-requires : goal.two_digits-requires
two_digits-requires c = (omega arith, omega (arith, c.byte.ensures.long, length_tag_number c.args.tag (omega arith)))
