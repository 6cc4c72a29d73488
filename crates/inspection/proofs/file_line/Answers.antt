use Rattle.std.proofs.Common.{sym, ap, ◌∙◌}
use Rattle.lines.specs.Lines.{line_answer, line_left}
use Rattle.inspection.proofs.Printouts.{line_of_counts, line_of_fault}
use Rattle.inspection.proofs.file_line.Goals as goal

pub returns-in_default : goal.returns-in_default
returns-in_default c =
    let found = sym c.unwrap_err.ensures ∙ c.check_file-checked.ensures.answer in
    let line = line_of_fault c.args.role c.args.bytes.now c.unwrap_err.result c.from-refusal.result c.unwrap_or.result found c.from-refusal.ensures c.unwrap_or.ensures in
    record {
      answer = c.fault_line.ensures.answer ∙ ap (λ l. line_answer l c.args.out.now) line;
      left = c.fault_line.ensures.left ∙ ap (λ l. line_left l c.args.out.now) line;
      within = c.fault_line.ensures.within;
    }

pub returns : goal.returns
returns c =
    let found = sym c.in-Ok.is ∙ c.check_file-checked.ensures.answer in
    let line = line_of_counts c.args.role c.args.bytes.now c.in-Ok.counts found in
    record {
      answer = c.count_line.ensures.answer ∙ ap (λ l. line_answer l c.args.out.now) line;
      left = c.count_line.ensures.left ∙ ap (λ l. line_left l c.args.out.now) line;
      within = c.count_line.ensures.within;
    }
