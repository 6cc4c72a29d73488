use Rattle.std.proofs.Common.{rules}
use Rattle.lines.proofs.Joins.{fault_line_is}
use Rattle.lines.proofs.write.fault_line.Goals as goal

pub returns-clause-answer : goal.returns-clause-answer
returns-clause-answer c = let is = fault_line_is c.args.role c.args.number.0 c.args.place.0 in search rules

pub returns-clause-left : goal.returns-clause-left
returns-clause-left c = let is = fault_line_is c.args.role c.args.number.0 c.args.place.0 in search rules
