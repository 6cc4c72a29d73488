-- What `inspect` prints of two files, from their bytes alone.
--
--   verdict_line role r    the line of a file that is found to be r: its counts, or the number and place of its first fault
--   file_line role bs      the line of a file of these bytes
--   printout ps qs         all that is printed for a pattern file of bytes ps and a program file of bytes qs, the pattern first
--   file_graph_line bs i   line i of the graph that a file of these bytes holds; none where the file is refused, or has
--                          no such line
--   overwritten text m     a memory that held m, with the text at its front and the bytes after it as they were
use Rattle.std.specs.Prelude.{ℕ, List, ◌++◌, length, drop, None, Ok, Err, Option, Result}
use Rattle.listing.specs.declared.counts.Counts.{Counts}
use Rattle.listing.specs.declared.fault.Fault.{Fault}
use Rattle.listing.specs.Faults.{number_of, place_of}
use Rattle.listing.specs.Files.{file_words, file_verdict}
use Rattle.lines.specs.declared.role.Role.{Role}
use Rattle.lines.specs.declared.role.Role.TheVariants.{Pattern, Program}
use Rattle.lines.specs.Lines.{count_line, fault_line}
use Rattle.lines.specs.GraphLines.{graph_line}

abbrev pub verdict_line : Role → Result Counts Fault → List ℕ
verdict_line role (Ok counts) = count_line role counts
verdict_line role (Err fault) = fault_line role (number_of fault) (place_of fault)

unfoldable pub file_line : Role → List ℕ → List ℕ
file_line role bs = verdict_line role (file_verdict bs)

unfoldable pub printout : List ℕ → List ℕ → List ℕ
printout ps qs = file_line Pattern ps ++ file_line Program qs

abbrev pub overwritten : List ℕ → List ℕ → List ℕ
overwritten text m = text ++ drop (length text) m

abbrev pub graph_line_of : Result Counts Fault → List ℕ → ℕ → Option (List ℕ)
graph_line_of (Ok counts) ws i = graph_line ws i
graph_line_of (Err fault) ws i = None

unfoldable pub file_graph_line : List ℕ → ℕ → Option (List ℕ)
file_graph_line bs i = graph_line_of (file_verdict bs) (file_words bs) i
