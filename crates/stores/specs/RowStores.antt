-- What a row store means, and what its filling asks.
--
--   row_entries starts entries u        the entries of row u: those from its start to the next row's start
--   lists v k e                         the entry e puts k into the label of a pair that ends at v
--   any_entry v k es                    one of the entries es does
--   pair_set es v                       the union of those of the entries es that are for v
--   row_graph starts entries labels     the graph of a row store: these labels, and for each pair (u, v) the union of the
--                                       entries of row u that are for v
--   sizes_fit starts labels             there are at most 192 labels, and one start more than labels
--   never_falls starts n                each of the first n starts is at most the next one
--   starts_fit starts entries n         starts begin at 0, never fall, and the start after n rows is the number of entries
--   targets_fit entries n               every entry is for a block below n
--   fill_answer starts entries labels   what filling with these answers
--   refusal f                           the number of a fault of filling; it has no place
use Rattle.std.specs.Prelude.{ℕ, ◌+◌, ◌-◌, Bool, cond, ◌&&◌, List, length, take, drop, Ok, Err, Result, ◌==◌, nat_le, nat_lt, slice_index}
use Rattle.std.specs.List.{list_any, list_all}
use Rattle.refusal.specs.Refusals.{unplaced}
use Rattle.refusal.specs.declared.Refusal.{Refusal}
use Rattle.model.specs.Graphs.{Graph}
use Rattle.sets.specs.Sets.{has, set, set_of, every_below}
use Rattle.sets.specs.declared.Set.{Set}
use Rattle.stores.specs.declared.entry.Entry.{Entry}
use Rattle.stores.specs.declared.fault.FillFault.{FillFault}
use Rattle.stores.specs.declared.fault.FillFault.TheVariants.{Sizes, Starts, Target}

abbrev pub row_entries : List ℕ → List Entry → ℕ → List Entry
row_entries starts entries u = take (slice_index starts (u + 1) - slice_index starts u) (drop (slice_index starts u) entries)

abbrev pub lists : ℕ → ℕ → Entry → Bool
lists v k e = e.to == v && has k e.types.0

abbrev pub any_entry : ℕ → ℕ → List Entry → Bool
any_entry v k es = list_any (lists v k) es

abbrev pub pair_set : List Entry → ℕ → Set
pair_set es v = set (set_of (λ k. any_entry v k es))

unfoldable pub row_graph : {L : Type 0} → List ℕ → List Entry → List L → Graph L Set
row_graph starts entries labels = record { labels = labels; pairs = λ u v. pair_set (row_entries starts entries u) v }

abbrev pub sizes_fit : {L : Type 0} → List ℕ → List L → Bool
sizes_fit starts labels = nat_le (length labels) 192 && length starts == length labels + 1

abbrev pub never_falls : List ℕ → ℕ → Bool
never_falls starts n = every_below n (λ u. nat_le (slice_index starts u) (slice_index starts (u + 1)))

abbrev pub starts_fit : List ℕ → List Entry → ℕ → Bool
starts_fit starts entries n =
    (slice_index starts 0 == 0) && (slice_index starts n == length entries && never_falls starts n)

abbrev pub targets_fit : List Entry → ℕ → Bool
targets_fit entries n = list_all (λ e. nat_lt e.to n) entries

abbrev pub fill_answer : {L : Type 0} → List ℕ → List Entry → List L → Result (Unit {0}) FillFault
fill_answer starts entries labels =
    cond (sizes_fit starts labels)
    (cond (starts_fit starts entries (length labels)) (cond (targets_fit entries (length labels)) (Ok tt) (Err Target)) (Err Starts))
    (Err Sizes)

abbrev pub refusal : FillFault → Refusal
refusal Sizes = unplaced 20
refusal Starts = unplaced 21
refusal Target = unplaced 22
