-- What a row store means that is filled from a layout.
--
--   Refilled ws ss es   with the starts ss, the entries es and the tags of the listing ws as labels, filling a row store is
--                       accepted, and the store then means the graph that ws states
use Rattle.std.specs.Prelude.{◌≡◌, ℕ, List, Ok}
use Rattle.model.specs.Graphs.{SameMeaning}
use Rattle.listing.specs.Graphs.{stated}
use Rattle.stores.specs.declared.entry.Entry.{Entry}
use Rattle.stores.specs.RowStores.{row_graph, fill_answer}

pub record Refilled (ws : List ℕ) (ss : List ℕ) (es : List Entry) : Type 0 where
  pub accepted : fill_answer ss es (stated ws).labels ≡ Ok tt
  pub same : SameMeaning (row_graph ss es (stated ws).labels) (stated ws)
