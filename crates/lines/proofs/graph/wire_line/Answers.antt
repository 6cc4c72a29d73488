use Rattle.std.proofs.Common.{rules}
use Rattle.lines.proofs.Joins.{wire_line_joined}
use Rattle.lines.proofs.graph.wire_line.Goals as goal

pub returns-clause-answer : goal.returns-clause-answer
returns-clause-answer c = let joined = wire_line_joined c.args.word.0 in search rules

pub returns-clause-left : goal.returns-clause-left
returns-clause-left c = let joined = wire_line_joined c.args.word.0 in search rules
