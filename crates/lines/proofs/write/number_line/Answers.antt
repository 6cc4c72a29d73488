use Rattle.std.proofs.Common.{rules}
use Rattle.lines.proofs.Joins.{number_line_joined}
use Rattle.lines.proofs.write.number_line.Goals as goal

pub returns-clause-line : goal.returns-clause-line
returns-clause-line c =
    let joined = number_line_joined c.args.role c.args.first c.args.second c.args.middle.now c.args.end.now in
    search rules
