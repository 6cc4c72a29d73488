-- What a listing store holds.
--
--   words_in s        the words of the listing that the store s holds; none, if it holds no listing
--   fault_part r      an answer without what it accepts with
--   read_answer ws    what reading ws answers: nothing, or the first fault of ws
--   gathered es u v   the set of the types of those of the wire words es that run from u to v
use Rattle.std.specs.Prelude.{ℕ, List, [], Ok, Err, Result}
use Rattle.std.specs.Option.{option_map_or}
use Rattle.stores.specs.declared.listing_store.ListingStore.{ListingStore}
use Rattle.std.specs.List.{list_any}
use Rattle.listing.specs.declared.fault.Fault.{Fault}
use Rattle.listing.specs.Faults.{verdict}
use Rattle.listing.specs.Graphs.{runs}
use Rattle.sets.specs.Sets.{set, set_of}
use Rattle.sets.specs.declared.Set.{Set}

abbrev pub words_in : ListingStore → List ℕ
words_in s = option_map_or (λ l. l.words.now) s.listing []

abbrev pub fault_part : {X : Type 0} → Result X Fault → Result (Unit {0}) Fault
fault_part (Ok x) = Ok tt
fault_part (Err f) = Err f

abbrev pub read_answer : List ℕ → Result (Unit {0}) Fault
read_answer ws = fault_part (verdict ws)

abbrev pub gathered : List ℕ → ℕ → ℕ → Set
gathered es u v = set (set_of (λ k. list_any (runs u v k) es))
