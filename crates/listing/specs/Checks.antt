-- What the check promises above its answer, in the subject's words.
--
--   Accepts ws r       the answer r accepts with the counts c exactly where ws is a listing of these counts
--   Refuses ws r       the answer r refuses with the fault f exactly where f is the first fault of ws
--   wire_word ws c e   the word of wire e
--   Laid ws c u v k    one of the wires of ws runs from block u to block v and has type k
--   States ws c        the graph that ws states: as many blocks as c says, each with the tags of its block word, and
--                      type k in the set of a pair exactly when such a wire is laid
--   OnlyListing ws     every listing that states the same graph as ws is ws: no graph has two listings
--   Checked ws r       all that the check promises of its answer r to the words ws
use Rattle.std.specs.Prelude.{◌≡◌, ℕ, ◌+◌, ◌<◌, List, IfOk, Some, Ok, Err, Result}
use Rattle.listing.specs.declared.counts.Counts.{Counts}
use Rattle.listing.specs.declared.fault.Fault.{Fault}
use Rattle.listing.specs.Words.{wire_from, wire_to, wire_type}
use Rattle.listing.specs.Listings.{Listing, word}
use Rattle.listing.specs.Faults.{FirstFault, verdict}
use Rattle.model.specs.Graphs.{block_count, label_at}
use Rattle.sets.specs.Sets.{Member}
use Rattle.listing.specs.Graphs.{stated, tag_set, SameGraph}

abbrev pub Accepts : List ℕ → Result Counts Fault → Type 0
Accepts ws r = (c : Counts) → (r ≡ Ok c → Listing ws c) × (Listing ws c → r ≡ Ok c)

abbrev pub Refuses : List ℕ → Result Counts Fault → Type 0
Refuses ws r = (f : Fault) → (r ≡ Err f → FirstFault ws f) × (FirstFault ws f → r ≡ Err f)

-- the word of wire e
abbrev pub wire_word : List ℕ → Counts → ℕ → ℕ
wire_word ws c e = word ws (1 + c.blocks + e)

abbrev pub Laid : List ℕ → Counts → ℕ → ℕ → ℕ → Type 0
Laid ws c u v k =
    (e : ℕ) × (e < c.wires) × (wire_from (wire_word ws c e) ≡ u) × (wire_to (wire_word ws c e) ≡ v)
    × (wire_type (wire_word ws c e) ≡ k)

pub record States (ws : List ℕ) (c : Counts) : Type 0 where
  pub blocks : block_count (stated ws) ≡ c.blocks
  pub tags : (v : ℕ) → v < c.blocks → label_at (stated ws) v ≡ Some (tag_set (word ws (1 + v)))
  pub types : (u v k : ℕ)
      → (Member k ((stated ws).pairs u v) → Laid ws c u v k) × (Laid ws c u v k → Member k ((stated ws).pairs u v))

abbrev pub OnlyListing : List ℕ → Type 0
OnlyListing ws = (vs : List ℕ) (d : Counts) → Listing vs d → SameGraph (stated ws) (stated vs) → vs ≡ ws

pub record Checked (ws : List ℕ) (r : Result Counts Fault) : Type 0 where
  pub answer : r ≡ verdict ws
  pub accepts : Accepts ws r
  pub refuses : Refuses ws r
  pub states : IfOk r (States ws)
  pub only : IfOk r (λ _. OnlyListing ws)
