use Rattle.std.proofs.Common.{refl}
use Rattle.listing.specs.Faults.{verdict}
use Rattle.examples.proofs.Loops.{one_loop, no_loop}
use Rattle.examples.proofs.examples.Goals as goal

pub returns : goal.returns
unfolding verdict
returns c = record { count = refl; hold = (refl, (refl, (refl, (refl, (refl, (one_loop, (no_loop, tt))))))) }
