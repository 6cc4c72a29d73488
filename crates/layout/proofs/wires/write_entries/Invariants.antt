use Rattle.std.proofs.Common.{◌≡◌, length}
use Rattle.layout.proofs.Listed.{entries_to}
use Rattle.layout.specs.Layouts.{laid}
use Rattle.layout.proofs.wires.write_entries.Given as goal

-- the entries of the wires so far are written, and nothing else
abbrev pub invariant-loop-index : goal.invariant-loop-index
invariant-loop-index l = (l.written ≡ length (entries_to l.fn.listing.words.now l.index)) × (l.entries ≡ laid (entries_to l.fn.listing.words.now l.index) l.initial.entries)
