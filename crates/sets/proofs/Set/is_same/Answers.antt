use Rattle.std.proofs.Common.{arith}
use Rattle.sets.proofs.Membership.{same_word}
use Rattle.sets.proofs.Set.is_same.Goals as goal

pub returns-clause-test : goal.returns-clause-test
returns-clause-test c = let same = same_word c.args.self c.args.other (omega arith) (omega arith) in cc
