-- The block words and the wire words of a listing, place by place.
use Rattle.std.proofs.Common.{◌≡◌, ℕ, ◌+◌, ◌<◌, ◌≤◌, true, List, map, length, get_or, take, drop, Some, sym, ap, ◌∙◌, subst, arith}
use Rattle.std.specs.List.{slice_get}
use Rattle.std.proofs.lemmas.List.{length-take-le, length-drop, get_or-take, get_or-drop, length-map, get_or-map}
use Rattle.std.proofs.lemmas.Option.{slice_get-get_or}
use Rattle.sets.specs.Sets.{set}
use Rattle.listing.specs.Words.{is_wire}
use Rattle.listing.specs.Listings.{Listing, word, counts_of, block_words, wire_words}
use Rattle.listing.specs.Graphs.{tag_set}
use Rattle.lists.specs.Members.{In, Rising}
use Rattle.lists.proofs.Members.{in_get_or}
use Rattle.lists.proofs.Ranges.{rising_from_places}

-- a part of a list, place by place
length_part : (ws : List ℕ) (a n : ℕ) → a + n ≤ length ws → length (take n (drop a ws)) ≡ n
length_part ws a n h = length-take-le n (drop a ws) (let l = length-drop a ws in omega arith)

get_or_part : (ws : List ℕ) (a n i : ℕ) → i < n → get_or (take n (drop a ws)) i 0 ≡ get_or ws (a + i) 0
get_or_part ws a n i h = get_or-take n (drop a ws) i 0 h ∙ get_or-drop a ws i 0

module _ (ws : List ℕ) (l : Listing ws (counts_of ws)) where
  abbrev b : ℕ
  b = (counts_of ws).blocks

  abbrev n : ℕ
  n = (counts_of ws).wires

  pub length-block_words : length (block_words ws) ≡ b
  length-block_words = let t = l.total in length_part ws 1 b (omega arith)

  pub length-wire_words : length (wire_words ws) ≡ n
  length-wire_words = let t = l.total in length_part ws (1 + b) n (omega arith)

  pub get_or-wire_words : (e : ℕ) → e < n → get_or (wire_words ws) e 0 ≡ word ws (1 + b + e)
  get_or-wire_words e h = get_or_part ws (1 + b) n e h

  pub length_tags : length (map tag_set (block_words ws)) ≡ b
  length_tags = length-map (block_words ws) tag_set ∙ length-block_words

  pub slice_get_tags : (v : ℕ) → v < b → slice_get (map tag_set (block_words ws)) v ≡ Some (tag_set (word ws (1 + v)))
  slice_get_tags v h =
      let m = length-block_words in
      let n = length_tags in
      slice_get-get_or (map tag_set (block_words ws)) v (set 0) (omega arith)
      ∙ ap Some (get_or-map tag_set (block_words ws) v 0 (set 0) (omega arith) ∙ ap tag_set (get_or_part ws 1 b v h))

  pub all_wires : (w : ℕ) → In w (wire_words ws) → is_wire b w ≡ true
  all_wires w i =
      let m = length-wire_words in
      let r = in_get_or (wire_words ws) w 0 i in
      let below : r.0 < n = let h = r.1 in omega arith in
      subst (λ x. is_wire b x ≡ true) (sym (get_or-wire_words r.0 below) ∙ r.2) (l.wire r.0 below)

  pub rising_wires : Rising ◌<◌ (wire_words ws)
  rising_wires =
      let m = length-wire_words in
      rising_from_places (wire_words ws) (λ e h.
      let one : get_or (wire_words ws) e 0 ≡ word ws (1 + b + e) = get_or-wire_words e (omega arith) in
      let two : get_or (wire_words ws) (e + 1) 0 ≡ word ws (1 + b + (e + 1)) = get_or-wire_words (e + 1) (omega arith) in
      let up = l.rising e (omega arith) in
      omega arith)
