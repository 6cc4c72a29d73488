use Rattle.std.proofs.Common.{◌≡◌, ◌+◌, ◌-◌, take, None, Ok, sym, ap, ◌∙◌, arith, rules}
use Rattle.std.specs.Result.{result_ok}
use Rattle.lines.specs.GraphLines.{graph_line, line_length, line_over}
use Rattle.listing.specs.Files.{file_verdict}
use Rattle.inspection.specs.Printouts.{file_graph_line}
use Rattle.inspection.proofs.Printouts.{no_line_of_fault, line_of_graph, words_in_front, words_few}
use Rattle.inspection.proofs.file_graph_line.Goals.{In_ok-counts, In_err-counts, After-graph_line}
use Rattle.inspection.proofs.file_graph_line.Goals as goal

-- the file is refused
refused : (c : In_err-counts) → file_graph_line c.args.bytes.now c.args.index ≡ None
refused c = no_line_of_fault c.args.bytes.now c.args.index (ap result_ok (sym c.check_file.ensures.answer) ∙ sym c.ok.ensures.value ∙ c.in_err-counts.was)

-- the file is accepted
found : (c : In_ok-counts) → file_verdict c.args.bytes.now ≡ Ok c.in_ok-counts.counts
found c = let is : c.check_file.result ≡ Ok c.in_ok-counts.counts = search rules in sym c.check_file.ensures.answer ∙ is

pub returns-in_err-counts-clause-answer : goal.returns-in_err-counts-clause-answer
returns-in_err-counts-clause-answer c =
    c.from_residual.ensures ∙ sym (ap line_length (refused (goal.at.returns-in_err-counts-clause-answer c).In_err-counts))

pub returns-in_err-counts-clause-left : goal.returns-in_err-counts-clause-left
returns-in_err-counts-clause-left c =
    sym (ap (λ l. line_over l c.args.out.now) (refused (goal.at.returns-in_err-counts-clause-left c).In_err-counts))

pub overflow_add-counts : goal.overflow_add-counts
overflow_add-counts c = let few = words_few c.args.bytes.now c.in_ok-counts.counts (found (goal.at.overflow_add-counts c).In_ok-counts) in search rules

pub overflow_add-counts-2 : goal.overflow_add-counts-2
overflow_add-counts-2 c = let few = words_few c.args.bytes.now c.in_ok-counts.counts (found (goal.at.overflow_add-counts-2 c).In_ok-counts) in search rules

pub slice_bounds-graph_line-end : goal.slice_bounds-graph_line-end
slice_bounds-graph_line-end c = let few = words_few c.args.bytes.now c.in_ok-counts.counts (found (goal.at.slice_bounds-graph_line-end c).In_ok-counts) in search rules

-- the words before the end that was taken are those of the file
line : (c : After-graph_line) → file_verdict c.args.bytes.now ≡ Ok c.in_ok-counts.counts
    → graph_line (take (c.in_ok-counts.counts.blocks + c.in_ok-counts.counts.wires + 2 - 0) c.check_file.new.memory) c.args.index ≡ file_graph_line c.args.bytes.now c.args.index
line c e =
    let bs = c.args.bytes.now in
    let counts = c.in_ok-counts.counts in
    let n = counts.blocks + counts.wires + 2 - 0 in
    let words = ap (take n) c.check_file.ensures.left ∙ words_in_front bs _ counts n e (omega arith) in
    ap (λ ws. graph_line ws c.args.index) words ∙ line_of_graph bs c.args.index counts e

pub returns-clause-answer : goal.returns-clause-answer
returns-clause-answer c = c.graph_line.ensures.answer ∙ ap line_length (line c (found (goal.at.returns-clause-answer c).In_ok-counts))

pub returns-clause-left : goal.returns-clause-left
returns-clause-left c = c.graph_line.ensures.left ∙ ap (λ l. line_over l c.args.out.now) (line c (found (goal.at.returns-clause-left c).In_ok-counts))
