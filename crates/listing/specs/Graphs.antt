-- The graph that a listing states: a labelled multigraph of blocks and wires.
--
--   leads u v w       the wire word w lays a wire from u to v
--   runs u v k w      the wire word w lays a wire of type k from u to v
--   wired ws u v k    one of the wire words lays such a wire
--   stated ws         the graph that the words state: each block is labelled with its tag set, and each ordered pair of
--                     blocks with the set of the types of the wires from the one to the other
--   tag_set w         the tag set of a block word
--   type_set ws u v   the set of the types of the wires from u to v
--   SameGraph g h     the same count, the same tag set at each block, the same type set at each pair of blocks
use Rattle.std.specs.Prelude.{◌≡◌, ℕ, ◌<◌, Bool, ◌&&◌, List, map, ◌==◌}
use Rattle.std.specs.List.{list_any}
use Rattle.listing.specs.Words.{block_tags, wire_from, wire_to, wire_type}
use Rattle.listing.specs.Listings.{block_words, wire_words}
use Rattle.model.specs.Graphs.{Graph, block_count}
use Rattle.sets.specs.Sets.{set, set_of}
use Rattle.sets.specs.declared.Set.{Set}

abbrev pub leads : ℕ → ℕ → ℕ → Bool
leads u v w = wire_from w == u && wire_to w == v

abbrev pub runs : ℕ → ℕ → ℕ → ℕ → Bool
runs u v k w = wire_from w == u && (wire_to w == v && wire_type w == k)

abbrev pub wired : List ℕ → ℕ → ℕ → ℕ → Bool
wired ws u v k = list_any (runs u v k) (wire_words ws)

abbrev pub tag_set : ℕ → Set
tag_set w = set (block_tags w)

abbrev pub type_set : List ℕ → ℕ → ℕ → Set
type_set ws u v = set (set_of (wired ws u v))

unfoldable pub stated : List ℕ → Graph Set Set
stated ws = record { labels = map tag_set (block_words ws); pairs = type_set ws }

abbrev pub SameGraph : Graph Set Set → Graph Set Set → Type 0
SameGraph g h =
    (g.labels ≡ h.labels) × ((u v : ℕ) → u < block_count g → v < block_count g → g.pairs u v ≡ h.pairs u v)
