-- The layout of a graph: its rows one after another, and where each begins.
--
--   entry v s                the entry for wires to block v whose types are the set s
--   cell_of g u v            the entry for the wires from u to v; nothing where there is no wire
--   row_of g u               one entry for each block that u is wired to, to-blocks rising
--   entries_of g             the rows of all blocks, one after another
--   start_of g u             where the row of u begins: how many entries the rows before it have
--   starts_of g              the starts of all rows, and after them the number of entries
--   laid new old             a buffer that held old, with new written over its first places
--   fault_of g s e r         why a graph g that the check answered with r is not laid out into s places for starts and e for
--                            entries: the check's fault, else too little room for the starts, else too little for the entries
--   fault_for ws ss es       the same of the words ws, the starts ss and the entries es
--   answer_by n f            the answer where n entries are laid out: n where f is no fault, else f
--   left_by new old f        a buffer that held old, afterwards: with new laid where f is no fault, else as it was
--   layout_answer ws ss es   the answer of the layout: the number of entries, or the fault
--   starts_left ws ss es     what the starts hold afterwards: the starts of the graph that ws states, then what they held there;
--                            all as it was at a fault
--   entries_left ws ss es    what the entries hold afterwards, in the same way
use Rattle.std.specs.Prelude.{ℕ, ◌+◌, cond, List, [], ◌∷◌, ◌++◌, map, length, drop, Some, None, Ok, Err, Option, Result, ◌==◌, nat_lt}
use Rattle.std.specs.List.{range_with_len, flat_map}
use Rattle.sets.specs.declared.Set.{Set}
use Rattle.model.specs.Graphs.{Graph, block_count}
use Rattle.stores.specs.declared.entry.Entry.{Entry}
use Rattle.listing.specs.declared.counts.Counts.{Counts}
use Rattle.listing.specs.declared.fault.Fault.{Fault}
use Rattle.listing.specs.Faults.{verdict}
use Rattle.listing.specs.Graphs.{stated}
use Rattle.layout.specs.declared.fault.LayoutFault.{LayoutFault}
use Rattle.layout.specs.declared.fault.LayoutFault.TheVariants.{Check, ShortStarts, ShortEntries}

abbrev pub entry : ℕ → Set → Entry
entry v s = record { to = v; types = s }

abbrev pub cell_of : Graph Set Set → ℕ → ℕ → List Entry
cell_of g u v = cond ((g.pairs u v).0 == 0) [] (entry v (g.pairs u v) ∷ [])

unfoldable pub row_of : Graph Set Set → ℕ → List Entry
row_of g u = flat_map (cell_of g u) (range_with_len 0 (block_count g))

unfoldable pub entries_of : Graph Set Set → List Entry
entries_of g = flat_map (row_of g) (range_with_len 0 (block_count g))

unfoldable pub start_of : Graph Set Set → ℕ → ℕ
start_of g u = length (flat_map (row_of g) (range_with_len 0 u))

unfoldable pub starts_of : Graph Set Set → List ℕ
starts_of g = map (start_of g) (range_with_len 0 (block_count g + 1))

abbrev pub laid : {X : Type 0} → List X → List X → List X
laid new old = new ++ drop (length new) old

abbrev pub fault_of : Graph Set Set → ℕ → ℕ → Result Counts Fault → Option LayoutFault
fault_of g s e (Err f) = Some (Check f)
fault_of g s e (Ok c) =
    cond (nat_lt s (block_count g + 1)) (Some ShortStarts) (cond (nat_lt e (length (entries_of g))) (Some ShortEntries) None)

abbrev pub fault_for : List ℕ → List ℕ → List Entry → Option LayoutFault
fault_for ws ss es = fault_of (stated ws) (length ss) (length es) (verdict ws)

abbrev pub answer_by : ℕ → Option LayoutFault → Result ℕ LayoutFault
answer_by n None = Ok n
answer_by n (Some f) = Err f

abbrev pub left_by : {X : Type 0} → List X → List X → Option LayoutFault → List X
left_by new old None = laid new old
left_by new old (Some f) = old

unfoldable pub layout_answer : List ℕ → List ℕ → List Entry → Result ℕ LayoutFault
layout_answer ws ss es = answer_by (length (entries_of (stated ws))) (fault_for ws ss es)

unfoldable pub starts_left : List ℕ → List ℕ → List Entry → List ℕ
starts_left ws ss es = left_by (starts_of (stated ws)) ss (fault_for ws ss es)

unfoldable pub entries_left : List ℕ → List ℕ → List Entry → List Entry
entries_left ws ss es = left_by (entries_of (stated ws)) es (fault_for ws ss es)
