-- The lines that tell the graph of a listing, and what a call that writes one of them answers and leaves.
--   tag_text s k         the text of one tag: a space and its number, or nothing where k is not in the set s
--   tags_below n s       the text of the tags of s that are below n, rising
--   tags_text s          the text of a tag set: of the tags below 24
--   block_line v s       the line of block number v with the tag set s
--   block_lines v ws     the lines of the blocks with the words ws, numbered from v on
--   wire_line w          the line of the wire that the word w lays
--   graph_lines ws       all lines of the words ws: those of the blocks, then those of the wires, in the words' order
--   graph_line ws i      the line of number i, if there is one
--   line_length line     what a call answers that is to write a line: its length, if there is one
--   line_over line out   what the buffer holds afterwards: the line and then what stood there, or all as it was
--   Short r              the answered length, if there is one, is at most 80
use Rattle.std.specs.Prelude.{ℕ, ◌+◌, ◌≤◌, cond, List, [], ◌∷◌, ◌++◌, map, length, drop, Some, None, codes, decimal, Option}
use Rattle.listing.specs.Listings.{block_words, wire_words}
use Rattle.listing.specs.Words.{block_tags, wire_from, wire_to, wire_type}
use Rattle.sets.specs.Sets.{has}
use Rattle.std.specs.List.{range_with_len, flat_map, slice_get}
use Rattle.std.specs.Option.{option_map}

unfoldable pub tag_text : ℕ → ℕ → List ℕ
tag_text s k = cond (has k s) (codes " " ++ decimal k) []

unfoldable pub tags_below : ℕ → ℕ → List ℕ
tags_below n s = flat_map (tag_text s) (range_with_len 0 n)

abbrev pub tags_text : ℕ → List ℕ
tags_text s = tags_below 24 s

-- the last byte is a line feed
unfoldable pub block_line : ℕ → ℕ → List ℕ
block_line v s = codes "block " ++ decimal v ++ codes " tags" ++ tags_text s ++ 10 ∷ []

abbrev pub block_lines : ℕ → List ℕ → List (List ℕ)
block_lines v [] = []
block_lines v (w ∷ ws) = block_line v (block_tags w) ∷ block_lines (v + 1) ws

-- the last byte is a line feed
unfoldable pub wire_line : ℕ → List ℕ
wire_line w =
    codes "wire " ++ decimal (wire_from w) ++ codes " " ++ decimal (wire_to w) ++ codes " type " ++ decimal (wire_type w) ++ 10 ∷ []

unfoldable pub graph_lines : List ℕ → List (List ℕ)
graph_lines ws = block_lines 0 (block_words ws) ++ map wire_line (wire_words ws)

abbrev pub graph_line : List ℕ → ℕ → Option (List ℕ)
graph_line ws i = slice_get (graph_lines ws) i

abbrev pub line_length : Option (List ℕ) → Option ℕ
line_length line = option_map length line

abbrev pub line_over : Option (List ℕ) → List ℕ → List ℕ
line_over None out = out
line_over (Some line) out = line ++ drop (length line) out

abbrev pub Short : Option ℕ → Type 0
Short None = Unit {0}
Short (Some n) = n ≤ 80
