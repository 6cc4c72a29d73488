-- Worked examples of the definitions, in one table.
--
--   Example             what is asked, and the answer that it has
--   told r              an answer of the check, with a fault told by its number and place
--   by_subset p q       the matching problem of a listing p in a listing q, by subset rules
--   by_exact p q        the same, with the exact rule for pairs
--   Holds e             the definitions give the example's answer
--   accepted, refused   an acceptance with two counts; a refusal with a number and a place
--   fives               the band from -5 to 5
--   loop, double_loop   a block wired to itself with type 0; with types 0 and 1
--   table               the examples
--   TableHolds          every example of the table holds
use Rattle.std.specs.Prelude.{◌≡◌, ℕ, Bool, true, false, List, [], ◌∷◌, ℤ, pos, negsuc, Ok, Err, Result}
use Rattle.std.specs.List.{AllByRecursion}
use Rattle.refusal.specs.declared.Refusal.{Refusal}
use Rattle.listing.specs.declared.counts.Counts.{Counts}
use Rattle.listing.specs.declared.fault.Fault.{Fault}
use Rattle.refusal.specs.Refusals.{placed}
use Rattle.listing.specs.Faults.{refusal, verdict}
use Rattle.listing.specs.Graphs.{stated}
use Rattle.model.specs.Instances.{Instance, Embedding}
use Rattle.model.specs.Tasks.{instance_of}
use Rattle.rules.specs.Bands.{in_band}
use Rattle.rules.specs.declared.band.Band.{Band}
use Rattle.sets.specs.Sets.{is_subset, same_set}

pub data Example : Type 0 where
  -- the check of words
  checked : List ℕ → Result Counts Refusal → Example
  -- whether a band holds a number
  banded : Band → ℤ → Bool → Example
  -- a problem with one embedding
  embedded : Instance → List ℕ → Example
  -- a problem with none
  unembedded : Instance → Example

abbrev pub told : Result Counts Fault → Result Counts Refusal
told (Ok counts) = Ok counts
told (Err fault) = Err (refusal fault)

abbrev pub Holds : Example → Type 0
Holds (checked ws answer) = told (verdict ws) ≡ answer
Holds (banded band x answer) = in_band band x ≡ answer
Holds (embedded i f) = (h : List ℕ) → (Embedding i h → h ≡ f) × (h ≡ f → Embedding i h)
Holds (unembedded i) = (h : List ℕ) → Embedding i h → ⊥

abbrev pub accepted : ℕ → ℕ → Result Counts Refusal
accepted blocks wires = Ok (record { blocks = blocks; wires = wires })

abbrev pub refused : ℕ → ℕ → Result Counts Refusal
refused number place = Err (placed number place)

abbrev pub by_subset : List ℕ → List ℕ → Instance
by_subset p q = instance_of is_subset same_set is_subset same_set (stated p) (stated q)

abbrev pub by_exact : List ℕ → List ℕ → Instance
by_exact p q = instance_of is_subset same_set same_set same_set (stated p) (stated q)

abbrev pub fives : Band
fives = record { low = negsuc 4; high = pos 5 }

abbrev pub loop : List ℕ
loop = 0x00010001 ∷ 0x40000001 ∷ 0x80000000 ∷ 0xC0000003 ∷ []

abbrev pub double_loop : List ℕ
double_loop = 0x00020001 ∷ 0x40000001 ∷ 0x80000000 ∷ 0x80000001 ∷ 0xC0000004 ∷ []

abbrev pub table : List Example
table =
    checked (0x00000001 ∷ 0x40000001 ∷ 0xC0000002 ∷ []) (accepted 1 0)
    ∷ checked (0x00000001 ∷ 0x40000000 ∷ 0xC0000002 ∷ []) (refused 13 1)
    ∷ banded fives (negsuc 4) true
    ∷ banded fives (pos 5) true
    ∷ banded fives (pos 6) false
    ∷ embedded (by_subset loop double_loop) (0 ∷ [])
    ∷ unembedded (by_exact loop double_loop)
    ∷ []

abbrev pub TableHolds : Type 0
TableHolds = AllByRecursion Holds table
