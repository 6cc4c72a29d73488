use Rattle.std.proofs.Common.{ap, arith}
use lib.Bits.{bit_or, or_lt}
use Rattle.sets.specs.Sets.{set}
use Rattle.sets.proofs.Membership.{has_or, word_is}
use Rattle.sets.proofs.Set.union.Goals as goal

pub returns : goal.returns
returns c =
    let a = c.args.self.0 in
    let b = c.args.other.0 in
    record {
      value = ap set (word_is (bit_or a b) _ (or_lt 32 a b (omega arith) (omega arith)) (λ k h. has_or k a b));
      members = λ k h. has_or k a b;
    }
