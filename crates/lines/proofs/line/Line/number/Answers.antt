use Rattle.std.proofs.Common.{arith}
use Rattle.lines.proofs.Joins.{length_most}
use Rattle.lines.proofs.line.Line.number.Goals as goal

pub digits-requires : goal.digits-requires
digits-requires c = omega (arith, length_most c.args.n (omega arith))

pub returns-clause-most : goal.returns-clause-most
returns-clause-most c = omega (arith, c.digits.ensures.long, length_most c.args.n (omega arith))
