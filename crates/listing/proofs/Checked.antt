-- All that the check promises follows from its answer.
use Rattle.std.proofs.Common.{◌≡◌, ℕ, List, IfOk, Ok, Err, Result, sym, refl, subst}
use Rattle.listing.specs.declared.counts.Counts.{Counts}
use Rattle.listing.specs.declared.fault.Fault.{Fault}
use Rattle.listing.specs.Listings.{Listing}
use Rattle.listing.specs.Faults.{verdict}
use Rattle.listing.specs.Checks.{Checked, Accepts, Refuses}
use Rattle.listing.proofs.Accepts.{accepts}
use Rattle.listing.proofs.Refuses.{refuses}
use Rattle.listing.proofs.States.{states}
use Rattle.listing.proofs.Unique.{only_listing}

-- what holds of every listing holds at an acceptance
made_from : (ws : List ℕ) (P : Counts → Type 0) → ((c : Counts) → Listing ws c → P c) → (r : Result Counts Fault) → Accepts ws r → IfOk r P
made_from ws P h (Ok c) a = h c ((a c).0 refl)
made_from ws P h (Err f) a = tt

pub checked : (ws : List ℕ) (r : Result Counts Fault) → r ≡ verdict ws → Checked ws r
checked ws r e =
    let a : Accepts ws r = subst (Accepts ws) (sym e) (accepts ws) in
    record {
      answer = e;
      accepts = a;
      refuses = subst (Refuses ws) (sym e) (refuses ws);
      states = made_from ws _ (states ws) r a;
      only = made_from ws _ (only_listing ws) r a;
    }
