use Rattle.std.proofs.Common.{arith}
use Rattle.std.proofs.lemmas.Bool.Decides.{Decides-at}
use Rattle.sets.proofs.Membership.{subset_word, decides_subset}
use Rattle.sets.proofs.Set.is_subset.Goals as goal

pub returns : goal.returns
returns c =
    let agrees = subset_word c.args.self c.args.other (omega arith) (omega arith) in
    record { test = agrees; members = Decides-at _ _ agrees (decides_subset c.args.self c.args.other) }
