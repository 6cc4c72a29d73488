use Rattle.std.proofs.Common.{rules}
use Rattle.lines.proofs.Joins.{count_line_is}
use Rattle.lines.proofs.write.count_line.Goals as goal

pub returns-clause-answer : goal.returns-clause-answer
returns-clause-answer c = let is = count_line_is c.args.role c.args.counts in search rules

pub returns-clause-left : goal.returns-clause-left
returns-clause-left c = let is = count_line_is c.args.role c.args.counts in search rules
