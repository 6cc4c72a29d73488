-- A word of each kind is made of its fields, so two words of one kind with the same fields are one.
use Rattle.std.proofs.Common.{◌≡◌, ℕ, ◌+◌, ◌*◌, ◌/◌, ◌<◌, Bool, true, ◌&&◌, eqb, ltb, arith}
use Rattle.std.proofs.lemmas.Nat.{shr-shr}
use Rattle.std.proofs.lemmas.Bool.{and_parts, eqb-true, ltb-true}
use Rattle.listing.specs.Words.{field, kind, opening_blocks, opening_wires, block_tags, wire_from, wire_to, wire_type, is_opening, is_block, is_wire, is_closing}

pub opening_is : (w : ℕ) → is_opening w ≡ true → w ≡ opening_wires w * 65536 + opening_blocks w
opening_is w e = let k = eqb-true (kind w) 0 (and_parts (eqb (kind w) 0) _ e).0 in omega arith

pub block_is : (w : ℕ) → is_block w ≡ true → w ≡ 1073741824 + block_tags w
block_is w e =
    let p = and_parts (eqb (kind w) 1) (eqb (field 24 6 w) 0 && ltb 0 (block_tags w)) e in
    let k = eqb-true (kind w) 1 p.0 in
    let z = eqb-true (field 24 6 w) 0 (and_parts (eqb (field 24 6 w) 0) (ltb 0 (block_tags w)) p.1).0 in
    omega arith

-- what a wire word tells
record WireParts (b w : ℕ) : Type 0 where
  sort : kind w ≡ 2
  blank : field 5 9 w ≡ 0
  from_below : wire_from w < b
  to_below : wire_to w < b

wire_parts : (b w : ℕ) → is_wire b w ≡ true → WireParts b w
wire_parts b w e =
    let ends : Bool = ltb (wire_from w) b && ltb (wire_to w) b in
    let p = and_parts (eqb (kind w) 2) (eqb (field 5 9 w) 0 && ends) e in
    let q = and_parts (eqb (field 5 9 w) 0) ends p.1 in
    let r = and_parts (ltb (wire_from w) b) (ltb (wire_to w) b) q.1 in
    record {
      sort = eqb-true (kind w) 2 p.0;
      blank = eqb-true (field 5 9 w) 0 q.0;
      from_below = ltb-true (wire_from w) b r.0;
      to_below = ltb-true (wire_to w) b r.1;
    }

pub wire_is : (b w : ℕ) → is_wire b w ≡ true → w ≡ 2147483648 + wire_from w * 4194304 + wire_to w * 16384 + wire_type w
wire_is b w e =
    let p = wire_parts b w e in
    let k = p.sort in
    let z = p.blank in
    let low : w / 32 / 512 ≡ w / 16384 = shr-shr w 5 9 in
    let middle : w / 16384 / 256 ≡ w / 4194304 = shr-shr w 14 8 in
    let high : w / 4194304 / 256 ≡ w / 1073741824 = shr-shr w 22 8 in
    omega arith

pub wire_ends : (b w : ℕ) → is_wire b w ≡ true → (wire_from w < b) × (wire_to w < b)
wire_ends b w e = let p = wire_parts b w e in (p.from_below, p.to_below)

pub closing_is : (n w : ℕ) → is_closing n w ≡ true → w ≡ 3221225472 + n
closing_is n w e =
    let p = and_parts (eqb (kind w) 3) (eqb (field 0 30 w) n) e in
    let k = eqb-true (kind w) 3 p.0 in
    let z = eqb-true (field 0 30 w) n p.1 in
    omega arith
