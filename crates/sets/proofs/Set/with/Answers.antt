use Rattle.std.proofs.Common.{◌^◌, eqb, sym, ap, ◌∙◌, arith}
use lib.Bits.{bit_or, or_lt}
use Rattle.std.proofs.lemmas.Nat.{one_shl, pow_below}
use Rattle.std.proofs.lemmas.Bool.{ne_eqb}
use Rattle.sets.specs.Sets.{set, has}
use Rattle.sets.proofs.Membership.{has_or_power, word_is, or_nothing}
use Rattle.sets.proofs.Set.with.Goals as goal

pub returns-then-number-lt32 : goal.returns-then-number-lt32
returns-then-number-lt32 c =
    let a = c.args.self.0 in
    let n = c.args.number in
    let small = c.if-number-lt32.true in
    let one = one_shl n 32 small in
    record {
      value = ap (λ w. set (bit_or a w)) one ∙ ap set (word_is (bit_or a (2 ^ n)) _ (or_lt 32 a (2 ^ n) (omega arith) (pow_below n 32 small)) (λ k h. has_or_power k a n));
      members = λ k h. ap (λ w. has k (bit_or a w)) one ∙ has_or_power k a n;
    }

pub returns-else-number-lt32 : goal.returns-else-number-lt32
returns-else-number-lt32 c =
    let a = c.args.self.0 in
    let n = c.args.number in
    let large = c.if-number-lt32.false in
    record {
      value = ap set (word_is a _ (omega arith) (λ k h. sym (or_nothing (has k a) (eqb k n) (ne_eqb k n (λ e. omega arith)))));
      members = λ k h. sym (or_nothing (has k a) (eqb k n) (ne_eqb k n (λ e. omega arith)));
    }
