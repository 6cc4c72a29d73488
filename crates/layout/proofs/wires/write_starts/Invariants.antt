use Rattle.std.proofs.Common.{◌≡◌}
use lib.Seq.{paste}
use Rattle.listing.specs.Graphs.{stated}
use Rattle.layout.specs.Layouts.{starts_of}
use Rattle.layout.specs.Passes.{Below}
use Rattle.layout.proofs.wires.write_starts.Given as goal

-- the starts of the rows so far are written, and nothing else
abbrev pub invariant-loop-row : goal.invariant-loop-row
invariant-loop-row l =
    Below l.fn.listing.words.now l.row l.passed × (l.starts ≡ paste l.initial.starts 0 (starts_of (stated l.fn.listing.words.now)) l.row)
