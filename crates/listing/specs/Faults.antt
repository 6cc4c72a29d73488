-- The faults of words that are no listing, which of them comes first, and what the check answers.
--
--   refusal f         the number of the fault f, and its place
--   number_of f       its number
--   place_of f        its place as a number
--   fits ws f         the fault f is a fault of the words ws
--   Before f g        f comes before g: at a lower place, or at the same place with a lower number
--   FirstFault ws f   f is a fault of ws, and none of its faults comes before f
--   Inside ws c p     the opening word of ws gives the counts c, there are as many words as it asks for, and p is the
--                     place of one of them after the first
--   opening_faults    the faults at place 0, lowest number first
--   faults_at p       the faults that a word after the first can have at place p, lowest number first
--   ranked n          every fault that n words can have, each before those that it comes before
--   at p              the place p
--   answered c f      the answer where f is the first fault: f, or the counts c where there is none
--   verdict ws        the first of the faults of ws; where there is none, the two counts
use Rattle.std.specs.Prelude.{◌≡◌, ℕ, ◌+◌, ◌-◌, ◌<◌, Bool, true, false, not, ◌&&◌, ◌||◌, ◌⊎◌, List, [], ◌∷◌, ◌++◌, length, Some, None, Ok, Err, Option, Result, ◌==◌, nat_le, nat_lt}
use Rattle.std.specs.List.{range_with_len, flat_map, find}
use Rattle.std.specs.Option.{unwrap_or}
use Rattle.listing.specs.declared.counts.Counts.{Counts}
use Rattle.refusal.specs.Refusals.{placed}
use Rattle.refusal.specs.declared.Place.{Place}
use Rattle.refusal.specs.declared.Refusal.{Refusal}
use Rattle.listing.specs.declared.fault.Fault.{Fault}
use Rattle.listing.specs.declared.fault.Fault.TheVariants.{WordCount, Opening, Total, Block, Wire, Rise, Closing, PartialWord}
use Rattle.listing.specs.Words.{is_opening, is_block, is_wire, is_closing}
use Rattle.listing.specs.Listings.{word, counts_of}

abbrev pub refusal : Fault → Refusal
refusal WordCount = placed 10 0
refusal Opening = placed 11 0
refusal Total = placed 12 0
refusal (Block p) = placed 13 p.0
refusal (Wire p) = placed 14 p.0
refusal (Rise p) = placed 15 p.0
refusal (Closing p) = placed 16 p.0
refusal (PartialWord p) = placed 17 p.0

abbrev pub number_of : Fault → ℕ
number_of f = (refusal f).number.0

abbrev pub place_of : Fault → ℕ
place_of f = (unwrap_or (refusal f).place (record { 0 = 0 })).0

-- The counts that these speak of are those of the opening word, whatever it is: where it is faulty, that fault comes first.
abbrev pub fits : List ℕ → Fault → Bool
fits ws WordCount = nat_lt (length ws) 3 || nat_lt 1218 (length ws)
fits ws Opening = not (is_opening (word ws 0))
fits ws Total = not (length ws == (counts_of ws).blocks + (counts_of ws).wires + 2)
fits ws (Block p) = (nat_lt 0 p.0 && nat_le p.0 (counts_of ws).blocks) && not (is_block (word ws p.0))
fits ws (Wire p) =
    (nat_lt (counts_of ws).blocks p.0 && nat_le p.0 ((counts_of ws).blocks + (counts_of ws).wires))
    && not (is_wire (counts_of ws).blocks (word ws p.0))
fits ws (Rise p) =
    (nat_lt ((counts_of ws).blocks + 1) p.0 && nat_le p.0 ((counts_of ws).blocks + (counts_of ws).wires))
    && nat_le (word ws p.0) (word ws (p.0 - 1))
fits ws (Closing p) =
    (p.0 == (counts_of ws).blocks + (counts_of ws).wires + 1) && not (is_closing p.0 (word ws p.0))
fits ws (PartialWord p) = false

abbrev pub Before : Fault → Fault → Type 0
Before f g = (place_of f < place_of g) ⊎ ((place_of f ≡ place_of g) × (number_of f < number_of g))

abbrev pub FirstFault : List ℕ → Fault → Type 0
FirstFault ws f = (fits ws f ≡ true) × ((g : Fault) → fits ws g ≡ true → Before g f → ⊥)

pub record Inside (ws : List ℕ) (c : Counts) (p : ℕ) : Type 0 where
  pub counted : c ≡ counts_of ws
  pub whole : length ws ≡ c.blocks + c.wires + 2
  pub after : 0 < p
  pub within : p < length ws

abbrev pub at : ℕ → Place
at p = record { 0 = p }

abbrev pub faults_at : ℕ → List Fault
faults_at p = Block (at p) ∷ Wire (at p) ∷ Rise (at p) ∷ Closing (at p) ∷ []

abbrev pub opening_faults : List Fault
opening_faults = WordCount ∷ Opening ∷ Total ∷ []

abbrev pub ranked : ℕ → List Fault
ranked n = opening_faults ++ flat_map faults_at (range_with_len 1 (n - 1))

abbrev pub answered : Counts → Option Fault → Result Counts Fault
answered c None = Ok c
answered c (Some f) = Err f

unfoldable pub verdict : List ℕ → Result Counts Fault
verdict ws = answered (counts_of ws) (find (fits ws) (ranked (length ws)))
