use Rattle.std.proofs.Common.{◌≤◌, sym, ◌∙◌, arith}
use Rattle.std.proofs.lemmas.Result.{IfOk-at_ok}
use Rattle.lines.specs.declared.role.Role.TheVariants.{Pattern, Program}
use Rattle.inspection.specs.Printouts.{file_line, printout}
use Rattle.inspection.proofs.TwoLines.{Lines, length_of_two, two_written}
use Rattle.inspection.proofs.inspect.Goals as goal
use Rattle.inspection.proofs.inspect.Goals.{After-unwrap-second}

written : (c : After-unwrap-second)
    → Lines c.args.out.now (file_line Pattern c.args.pattern.now) (file_line Program c.args.program.now) c.file_line.new.out c.file_line-2.new.out c.unwrap-first.result c.unwrap-second.result
written c =
    record {
      room = c.told-out;
      first_answer = sym c.unwrap-first.ensures ∙ c.file_line.ensures.answer;
      first_left = c.file_line.ensures.left;
      first_within = IfOk-at_ok (λ n. n ≤ 64) c.unwrap-first.ensures c.file_line.ensures.within;
      second_answer = sym c.unwrap-second.ensures ∙ c.file_line-2.ensures.answer;
      second_left = c.file_line-2.ensures.left;
    }

pub returns : goal.returns
unfolding printout
returns c =
    let w = written (goal.at.returns c).After-unwrap-second in
    let short = IfOk-at_ok (λ n. n ≤ 64) c.unwrap-second.ensures c.file_line-2.ensures.within in
    let short' = w.first_within in
    record { answer = length_of_two _ _ _ _ _ _ _ w; left = two_written _ _ _ _ _ _ _ w; within = omega arith }
