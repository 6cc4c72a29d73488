use Rattle.std.proofs.Common.{◌≡◌, ◌-◌, ◌<◌, ◌≤◌, length}
use Rattle.listing.proofs.Verdicts.{first_from}
use Rattle.listing.proofs.check.check.Given as goal

-- the first fault from this place on is the first from place 1 on
abbrev pub invariant-places : goal.invariant-places
invariant-places l = (0 < l.place) × (l.place ≤ length l.words) × (first_from l.words l.place ≡ first_from l.words 1)

abbrev pub decreases-places : goal.decreases-places
decreases-places l = length l.words - l.place
