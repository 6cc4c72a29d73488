use Rattle.std.proofs.Common.{◌++◌, ◌∷◌, [], ◌+◌, ◌%◌, ap, ◌∙◌, arith}
use Rattle.lines.proofs.Joins.{last_added, length_digits}
use Rattle.lines.proofs.line.Line.+digits.Goals as goal

pub two_digits-requires-then-n-lt1000 : goal.two_digits-requires-then-n-lt1000
two_digits-requires-then-n-lt1000 t c = (omega arith, omega (arith, length_digits c.args.n (omega arith) (omega arith)))

pub byte-requires : goal.byte-requires
byte-requires t c = omega (arith, c.two_digits-then-n-lt1000.ensures.long, length_digits c.args.n (omega arith) (omega arith))

pub returns-then-n-lt1000 : goal.returns-then-n-lt1000
returns-then-n-lt1000 t c =
    record {
      bytes = c.byte.ensures.bytes ∙ ap (λ xs. xs ++ ((48 + c.args.n % 10) ∷ [])) c.two_digits-then-n-lt1000.ensures.bytes ∙ last_added c.args.self.now c.args.n (omega arith) (omega arith);
      long = omega (arith, c.byte.ensures.long, c.two_digits-then-n-lt1000.ensures.long, length_digits c.args.n (omega arith) (omega arith));
    }

pub digits-requires : goal.digits-requires
digits-requires t c = (omega arith, omega (arith, length_digits c.args.n (omega arith) (omega arith)))

pub byte-requires-else-n-lt1000 : goal.byte-requires-else-n-lt1000
byte-requires-else-n-lt1000 t c = omega (arith, c.digits.ensures.long, length_digits c.args.n (omega arith) (omega arith))

pub returns-else-n-lt1000 : goal.returns-else-n-lt1000
returns-else-n-lt1000 t c =
    record {
      bytes = c.byte-else-n-lt1000.ensures.bytes ∙ ap (λ xs. xs ++ ((48 + c.args.n % 10) ∷ [])) c.digits.ensures.bytes ∙ last_added c.args.self.now c.args.n (omega arith) (omega arith);
      long = omega (arith, c.byte-else-n-lt1000.ensures.long, c.digits.ensures.long, length_digits c.args.n (omega arith) (omega arith));
    }
