use Rattle.std.proofs.Common.{◌++◌, ◌∷◌, [], ◌+◌, ◌/◌, ◌%◌, ap, ◌∙◌, arith}
use Rattle.lines.proofs.Joins.{digit_added, last_added, length_digits}
use Rattle.lines.proofs.Tags.{length_decimal_digit}
use Rattle.lines.proofs.line.Line.two_digits.Goals as goal

pub byte-requires : goal.byte-requires
byte-requires c = omega (arith, length_decimal_digit c.args.n c.if-n-lt10.true)

pub returns-then-n-lt10 : goal.returns-then-n-lt10
returns-then-n-lt10 c =
    record {
      bytes = c.byte.ensures.bytes ∙ digit_added c.args.self.now c.args.n c.if-n-lt10.true;
      long = omega (arith, c.byte.ensures.long, length_decimal_digit c.args.n c.if-n-lt10.true);
    }

pub byte-requires-else-n-lt10 : goal.byte-requires-else-n-lt10
byte-requires-else-n-lt10 c = omega (arith, length_digits c.args.n c.if-n-lt10.false (omega arith))

pub byte-requires-else-n-lt10-2 : goal.byte-requires-else-n-lt10-2
byte-requires-else-n-lt10-2 c =
    let first = length_decimal_digit (c.args.n / 10) (omega arith) in
    omega (arith, c.byte-else-n-lt10.ensures.long, length_digits c.args.n c.if-n-lt10.false (omega arith))

pub returns-else-n-lt10 : goal.returns-else-n-lt10
returns-else-n-lt10 c =
    let first = length_decimal_digit (c.args.n / 10) (omega arith) in
    record {
      bytes = c.byte-else-n-lt10-2.ensures.bytes
          ∙ ap (λ xs. xs ++ ((48 + c.args.n % 10) ∷ [])) (c.byte-else-n-lt10.ensures.bytes ∙ digit_added c.args.self.now (c.args.n / 10) (omega arith))
          ∙ last_added c.args.self.now c.args.n c.if-n-lt10.false (omega arith);
      long = omega (arith, c.byte-else-n-lt10-2.ensures.long, c.byte-else-n-lt10.ensures.long, length_digits c.args.n c.if-n-lt10.false (omega arith));
    }
