-- How far a pass over the wires of a listing has come.
--
--   drawn ls vs      the graph of the block labels ls whose wires are those of the wire words vs
--   early ws i       the graph that the words ws would state with their first i wires alone
--   Below ws row p   the pass p has passed wires that run from blocks below row, and counted the pairs that these wire
use Rattle.std.specs.Prelude.{◌≡◌, ℕ, ◌<◌, ◌≤◌, List, length, take, slice_index}
use Rattle.sets.specs.Sets.{set, set_of}
use Rattle.sets.specs.declared.Set.{Set}
use Rattle.model.specs.Graphs.{Graph}
use Rattle.std.specs.List.{list_any}
use Rattle.listing.specs.Words.{wire_from}
use Rattle.listing.specs.Listings.{wire_words}
use Rattle.listing.specs.Graphs.{runs, stated}
use Rattle.layout.specs.declared.passed.Passed.{Passed}
use Rattle.layout.specs.Layouts.{entries_of}

abbrev pub drawn : List Set → List ℕ → Graph Set Set
drawn ls vs = record { labels = ls; pairs = λ u v. set (set_of (λ k. list_any (runs u v k) vs)) }

abbrev pub early : List ℕ → ℕ → Graph Set Set
early ws i = drawn (stated ws).labels (take i (wire_words ws))

pub record Below (ws : List ℕ) (row : ℕ) (p : Passed) : Type 0 where
  pub within : p.wires ≤ length (wire_words ws)
  pub pairs : p.pairs ≡ length (entries_of (early ws p.wires))
  pub below : (e : ℕ) → e < p.wires → wire_from (slice_index (wire_words ws) e) < row
