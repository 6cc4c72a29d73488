-- No graph has two listings.
use Rattle.std.proofs.Common.{◌≡◌, ℕ, ◌+◌, ◌-◌, ◌<◌, List, map, length, get_or, Some, sym, refl, ap, ◌∙◌, subst, ⊎_elim, arith}
use Rattle.std.proofs.lemmas.List.{ext_get_or}
use Rattle.std.proofs.lemmas.Bool.{cases_lt, cases_eq}
use Rattle.listing.specs.declared.counts.Counts.{Counts}
use Rattle.listing.specs.Words.{block_tags, wire_from, wire_to, wire_type}
use Rattle.listing.specs.Listings.{Listing, word, counts_of, wire_words, block_words}
use Rattle.sets.specs.Sets.{has}
use Rattle.sets.specs.declared.Set.{Set}
use Rattle.std.specs.List.{slice_get}
use Rattle.listing.specs.Graphs.{runs, tag_set, type_set, stated, SameGraph}
use Rattle.listing.specs.Checks.{OnlyListing}
use Rattle.listing.proofs.Fields.{opening_is, block_is, wire_is, wire_ends, closing_is}
use Rattle.lists.specs.Members.{In}
use Rattle.lists.proofs.Members.{any_in}
use Rattle.lists.proofs.Rising.{same_rising}
use Rattle.listing.proofs.Parts.{length-wire_words, get_or-wire_words, length_tags, slice_get_tags, all_wires, rising_wires}
use Rattle.listing.proofs.States.{runs_so, so_runs, has_wired, wired_member}

some_same : {x y : Set} → Some x ≡ Some y → x ≡ y
some_same e = cc

-- the same counts, tags and types as the words of two listings say them
record Alike (ws vs : List ℕ) : Type 0 where
  left : Listing ws (counts_of ws)
  right : Listing vs (counts_of vs)
  tags : map tag_set (block_words ws) ≡ map tag_set (block_words vs)
  types : (u v : ℕ) → u < (counts_of ws).blocks → v < (counts_of ws).blocks → type_set ws u v ≡ type_set vs u v

same_blocks : (ws vs : List ℕ) → Alike ws vs → (counts_of ws).blocks ≡ (counts_of vs).blocks
same_blocks ws vs a = sym (length_tags ws a.left) ∙ ap length a.tags ∙ length_tags vs a.right

turned : (ws vs : List ℕ) → Alike ws vs → Alike vs ws
turned ws vs a =
    let b = same_blocks ws vs a in
    record {
      left = a.right;
      right = a.left;
      tags = sym a.tags;
      types = λ u v h k. sym (a.types u v (omega arith) (omega arith));
    }

-- a wire word of the one is a wire word of the other
wire_across : (ws vs : List ℕ) → Alike ws vs → (w : ℕ) → In w (wire_words ws) → In w (wire_words vs)
wire_across ws vs a w i =
    let b : ℕ = (counts_of ws).blocks in
    let good = all_wires ws a.left w i in
    let ends = wire_ends b w good in
    let u : ℕ = wire_from w in
    let v : ℕ = wire_to w in
    let k : ℕ = wire_type w in
    let member = (wired_member ws u v k w i (so_runs u v k w refl refl refl)).1 in
    let moved = ap (λ s. has k s.0) (sym (a.types u v ends.0 ends.1)) ∙ member in
    let found = any_in (runs u v k) (wire_words vs) (has_wired vs u v k moved) in
    let so = runs_so u v k found.0 found.2 in
    let good' = all_wires vs a.right found.0 found.1 in
    let one = wire_is b w good in
    let two = wire_is (counts_of vs).blocks found.0 good' in
    let f = so.from in
    let t = so.to in
    let s = so.type in
    let same : found.0 ≡ w = omega arith in
    subst (λ x. In x (wire_words vs)) same found.1

same_wire_words : (ws vs : List ℕ) → Alike ws vs → wire_words ws ≡ wire_words vs
same_wire_words ws vs a =
    same_rising ◌<◌ (λ x y l m. omega arith) (wire_words ws) (wire_words vs) (rising_wires ws a.left) (rising_wires vs a.right)
    (wire_across ws vs a) (wire_across vs ws (turned ws vs a))

module _ (ws vs : List ℕ) (a : Alike ws vs) where
  abbrev b : ℕ
  b = (counts_of ws).blocks

  abbrev n : ℕ
  n = (counts_of ws).wires

  same_b : b ≡ (counts_of vs).blocks
  same_b = same_blocks ws vs a

  same_n : n ≡ (counts_of vs).wires
  same_n = sym (length-wire_words ws a.left) ∙ ap length (same_wire_words ws vs a) ∙ length-wire_words vs a.right

  same_opening : word ws 0 ≡ word vs 0
  same_opening =
      let one = opening_is (word ws 0) a.left.opening in
      let two = opening_is (word vs 0) a.right.opening in
      let eb = same_b in
      let en = same_n in
      omega arith

  same_block : (v : ℕ) → v < b → word ws (1 + v) ≡ word vs (1 + v)
  same_block v h =
      let eb = same_b in
      let one = block_is (word ws (1 + v)) (a.left.block v h) in
      let two = block_is (word vs (1 + v)) (a.right.block v (omega arith)) in
      let labels : Some (tag_set (word ws (1 + v))) ≡ Some (tag_set (word vs (1 + v))) =
      sym (slice_get_tags ws a.left v h) ∙ ap (λ l. slice_get l v) a.tags ∙ slice_get_tags vs a.right v (omega arith) in
      let tags : block_tags (word ws (1 + v)) ≡ block_tags (word vs (1 + v)) = ap (λ (s : Set). s.0) (some_same labels) in
      one ∙ ap (λ t. 1073741824 + t) tags ∙ sym two

  same_wire : (e : ℕ) → e < n → word ws (1 + b + e) ≡ word vs (1 + b + e)
  same_wire e h =
      let en = same_n in
      sym (get_or-wire_words ws a.left e h) ∙ ap (λ l. get_or l e 0) (same_wire_words ws vs a)
      ∙ get_or-wire_words vs a.right e (omega arith) ∙ ap (λ m. word vs (1 + m + e)) (sym same_b)

  same_closing : word ws (b + n + 1) ≡ word vs (b + n + 1)
  same_closing =
      let places : (counts_of vs).blocks + (counts_of vs).wires + 1 ≡ b + n + 1 = let eb = same_b in let en = same_n in omega arith in
      let one = closing_is (b + n + 1) (word ws (b + n + 1)) a.left.closing in
      let two = closing_is _ _ a.right.closing in
      one ∙ ap (λ m. 3221225472 + m) (sym places) ∙ sym two ∙ ap (word vs) places

  same_length : length ws ≡ length vs
  same_length = let eb = same_b in let en = same_n in let one = a.left.total in let two = a.right.total in omega arith

  same_place : (i : ℕ) → i < length ws → word ws i ≡ word vs i
  same_place i h =
      let t = a.left.total in
      ⊎_elim (λ e. rw e same_opening)
      (λ nonzero.
      ⊎_elim (λ low. let at : 1 + (i - 1) ≡ i = omega arith in subst (λ p. word ws p ≡ word vs p) at (same_block (i - 1) (omega arith)))
      (λ past.
      ⊎_elim
      (λ low. let at : 1 + b + (i - (1 + b)) ≡ i = omega arith in subst (λ p. word ws p ≡ word vs p) at (same_wire (i - (1 + b)) (omega arith)))
      (λ last. let at : b + n + 1 ≡ i = omega arith in subst (λ p. word ws p ≡ word vs p) at same_closing)
      (cases_lt i (1 + b + n)))
      (cases_lt i (1 + b)))
      (cases_eq i 0)

  same_words : ws ≡ vs
  same_words = ext_get_or 0 ws vs same_length same_place

alike : (ws vs : List ℕ) → Listing ws (counts_of ws) → Listing vs (counts_of vs) → SameGraph (stated ws) (stated vs) → Alike ws vs
unfolding stated
alike ws vs l m same =
    let long = length_tags ws l in
    record {
      left = l;
      right = m;
      tags = same.0;
      types = λ u v h k. same.1 u v (omega arith) (omega arith);
    }

pub only_listing : (ws : List ℕ) (c : Counts) → Listing ws c → OnlyListing ws
only_listing ws c l vs d m same =
    sym (same_words ws vs (alike ws vs (subst (Listing ws) (sym l.counts) l) (subst (Listing vs) (sym m.counts) m) same))
