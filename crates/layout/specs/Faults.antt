-- The refusals of a layout.
--
--   refusal f   the number of the fault f, and its place: the check's for a fault of the words, else 18 or 19 with no place
use Rattle.refusal.specs.Refusals.{unplaced}
use Rattle.refusal.specs.declared.Refusal.{Refusal}
use Rattle.listing.specs.Faults as listing
use Rattle.layout.specs.declared.fault.LayoutFault.{LayoutFault}
use Rattle.layout.specs.declared.fault.LayoutFault.TheVariants.{Check, ShortStarts, ShortEntries}

abbrev pub refusal : LayoutFault → Refusal
refusal (Check f) = listing.refusal f
refusal ShortStarts = unplaced 18
refusal ShortEntries = unplaced 19
