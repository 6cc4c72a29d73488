use Rattle.std.proofs.Common.{◌≡◌, ◌++◌}
use Rattle.lines.specs.GraphLines.{tags_below}
use Rattle.lines.proofs.line.Line.tags.Given as goal

-- the tags below this one are written
abbrev pub invariant-loop-tag : goal.invariant-loop-tag
invariant-loop-tag l = l.self ≡ l.initial.self ++ tags_below l.tag l.tags.0
