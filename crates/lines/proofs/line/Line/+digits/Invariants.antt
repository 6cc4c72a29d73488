use Rattle.lines.proofs.line.Line.+digits.Given as goal

-- each call is for a number with one digit fewer
abbrev pub decreases-digits : goal.decreases-digits
decreases-digits l = l.n
