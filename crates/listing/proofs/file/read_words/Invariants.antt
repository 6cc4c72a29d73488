use Rattle.std.proofs.Common.{◌≡◌}
use lib.Seq.{paste}
use Rattle.listing.specs.Files.{file_words}
use Rattle.listing.proofs.file.read_words.Given as goal

-- the words up to this place are written, and nothing else
abbrev pub invariant-loop-place : goal.invariant-loop-place
invariant-loop-place l = l.memory ≡ paste l.initial.memory 0 (file_words l.bytes) l.place
