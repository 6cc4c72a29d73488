-- The four kinds of words that a listing is made of, as tests on 32-bit words.
--
--   field low width w    the number that `width` bits of w hold, from bit `low` up
--   kind w               bits 31 and 30, which say what sort of word w is
--   kind_number k        the number of each kind
--   opening_blocks w     the block count that an opening word gives, bits 15 to 0
--   opening_wires w      the wire count that an opening word gives, bits 29 to 16
--   block_tags w         the set of tags that a block word gives, bits 23 to 0: tag k is in it when bit k is 1
--   wire_from, wire_to   the blocks between which a wire word lays a wire, bits 29 to 22 and 21 to 14
--   wire_type w          the type of that wire, bits 4 to 0
--   is_opening w         w is an opening word: kind 0, 1 to 192 blocks, 0 to 1,024 wires
--   is_block w           w is a block word: kind 1, bits 29 to 24 zero, at least one tag
--   is_wire b w          w is a wire word among b blocks: kind 2, bits 13 to 5 zero, both ends below b
--   is_closing n w       w is the closing word after n words: kind 3, bits 29 to 0 hold n
use Rattle.std.specs.Prelude.{ℕ, ◌/◌, ◌%◌, ◌^◌, Bool, ◌&&◌, ◌==◌, nat_le, nat_lt}
use Rattle.listing.specs.declared.word.Kind.{Kind}
use Rattle.listing.specs.declared.word.Kind.TheVariants.{Opening, Block, Wire, Closing}

abbrev pub field : ℕ → ℕ → ℕ → ℕ
field low width w = w / 2 ^ low % 2 ^ width

abbrev pub kind : ℕ → ℕ
kind w = w / 2 ^ 30

abbrev pub kind_number : Kind → ℕ
kind_number Opening = 0
kind_number Block = 1
kind_number Wire = 2
kind_number Closing = 3

abbrev pub opening_blocks : ℕ → ℕ
opening_blocks w = field 0 16 w

abbrev pub opening_wires : ℕ → ℕ
opening_wires w = field 16 14 w

abbrev pub block_tags : ℕ → ℕ
block_tags w = field 0 24 w

abbrev pub wire_from : ℕ → ℕ
wire_from w = field 22 8 w

abbrev pub wire_to : ℕ → ℕ
wire_to w = field 14 8 w

abbrev pub wire_type : ℕ → ℕ
wire_type w = field 0 5 w

abbrev pub is_opening : ℕ → Bool
is_opening w =
    (kind w == 0) && (nat_le 1 (opening_blocks w) && (nat_le (opening_blocks w) 192 && nat_le (opening_wires w) 1024))

abbrev pub is_block : ℕ → Bool
is_block w = kind w == 1 && (field 24 6 w == 0 && nat_lt 0 (block_tags w))

abbrev pub is_wire : ℕ → ℕ → Bool
is_wire b w = kind w == 2 && (field 5 9 w == 0 && (nat_lt (wire_from w) b && nat_lt (wire_to w) b))

abbrev pub is_closing : ℕ → ℕ → Bool
is_closing n w = kind w == 3 && field 0 30 w == n
