-- What a listing is: for every place, what the word there has to be.
--
--   word ws p        the word at place p
--   counts_of ws     the two counts that the first word gives
--   block_words ws   the words in the places of blocks, in block order
--   wire_words ws    the words in the places of wires
--   Listing ws c     the words ws are a listing of c.blocks blocks and c.wires wires
use Rattle.std.specs.Prelude.{◌≡◌, ℕ, ◌+◌, ◌<◌, true, List, length, take, drop, slice_index}
use Rattle.listing.specs.declared.counts.Counts.{Counts}
use Rattle.listing.specs.Words.{opening_blocks, opening_wires, is_opening, is_block, is_wire, is_closing}

abbrev pub word : List ℕ → ℕ → ℕ
word ws p = slice_index ws p

abbrev pub counts_of : List ℕ → Counts
counts_of ws = record { blocks = opening_blocks (word ws 0); wires = opening_wires (word ws 0) }

abbrev pub block_words : List ℕ → List ℕ
block_words ws = take (counts_of ws).blocks (drop 1 ws)

abbrev pub wire_words : List ℕ → List ℕ
wire_words ws = take (counts_of ws).wires (drop (1 + (counts_of ws).blocks) ws)

-- The opening word, then the block words, then the wire words, each above the one before it, then the closing word.
pub record Listing (ws : List ℕ) (c : Counts) : Type 0 where
  pub opening : is_opening (word ws 0) ≡ true
  pub counts : counts_of ws ≡ c
  pub total : length ws ≡ c.blocks + c.wires + 2
  pub block : (v : ℕ) → v < c.blocks → is_block (word ws (1 + v)) ≡ true
  pub wire : (e : ℕ) → e < c.wires → is_wire c.blocks (word ws (1 + c.blocks + e)) ≡ true
  pub rising : (e : ℕ) → e + 1 < c.wires → word ws (1 + c.blocks + e) < word ws (1 + c.blocks + (e + 1))
  pub closing : is_closing (c.blocks + c.wires + 1) (word ws (c.blocks + c.wires + 1)) ≡ true
