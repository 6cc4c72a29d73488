use Rattle.std.proofs.Common.{sym, ◌∙◌, arith}
use Rattle.std.proofs.lemmas.Bool.{le-ltb}
use Rattle.sets.proofs.Membership.{has_past}
use Rattle.sets.proofs.Set.has.Goals as goal

pub returns-else-number-lt32 : goal.returns-else-number-lt32
returns-else-number-lt32 c =
    le-ltb c.args.number 32 c.if-number-lt32.false ∙ sym (has_past c.args.self.0 c.args.number (omega arith) c.if-number-lt32.false)
