use Rattle.std.proofs.Common.{rules, arith}
use Rattle.listing.specs.Words.{block_tags}
use Rattle.lines.proofs.Joins.{block_line_joined, length_decimal_number}
use Rattle.lines.proofs.graph.block_line.Goals as goal

pub tags-requires-2 : goal.tags-requires-2
tags-requires-2 c = let digits = length_decimal_number c.args.number (omega arith) in search rules

pub write-requires : goal.write-requires
write-requires c = let digits = length_decimal_number c.args.number (omega arith) in search rules

pub returns-clause-answer : goal.returns-clause-answer
returns-clause-answer c = let joined = block_line_joined c.args.number (block_tags c.args.word.0) in search rules

pub returns-clause-left : goal.returns-clause-left
returns-clause-left c = let joined = block_line_joined c.args.number (block_tags c.args.word.0) in search rules

pub returns-clause-short : goal.returns-clause-short
returns-clause-short c = let digits = length_decimal_number c.args.number (omega arith) in search rules
