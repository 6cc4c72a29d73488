-- What the words of a listing store are good for: its questions index within them.
use Rattle.std.proofs.Common.{◌≡◌, ℕ, ◌+◌, ◌<◌, ◌≤◌, true, false, ◌||◌, eqb, List, [], ◌++◌, map, length, get_or, take, drop, Some, None, sym, refl, ap, ◌∙◌, ap₂, ⊎_elim, zero-add, arith}
use Rattle.std.specs.Option.{option_map}
use Rattle.std.proofs.lemmas.List.{length-map, get_or-map}
use Rattle.std.specs.List.{list_any, slice_get}
use Rattle.std.proofs.lemmas.List.Folds.{list_any_more}
use Rattle.std.proofs.lemmas.Option.{slice_get_past, slice_get-map, slice_get_read}
use Rattle.std.proofs.lemmas.Bool.{eqb-true, eq-eqb, both_ways, cases_Bool, and_parts, and_from}
use Rattle.std.proofs.lemmas.Bool.Decides.{nat_tests}
use Rattle.listing.specs.Listings.{block_words, wire_words}
use Rattle.listing.specs.Graphs.{leads, runs, tag_set, stated}
use Rattle.listing.specs.Words.{wire_from, wire_to, wire_type}
use Rattle.sets.specs.Sets.{has, set, added}
use Rattle.sets.specs.declared.Set.{Set}
use Rattle.sets.proofs.Membership.{has_nothing, has-set_of, word_is, set_of-alike, or_nothing}
use lib.Seq.{paste}
use Rattle.std.proofs.lemmas.List.Edits.{paste_more, paste_all}
use Rattle.listing.proofs.States.{runs_so}
use Rattle.model.specs.Graphs.{block_count, label_at, pair_at}
use Rattle.model.proofs.Meanings.{pair_there}
use Rattle.stores.specs.ListingStores.{gathered}

-- ---- labels, by the block words
module _ (ws : List ℕ) where
  pub count_words : length (block_words ws) ≡ block_count (stated ws)
  unfolding stated
  count_words = sym (length-map (block_words ws) tag_set)

  pub label_past : (words : List ℕ) (v : ℕ) → words ≡ block_words ws → length words ≤ v → None ≡ label_at (stated ws) v
  label_past words v e h = sym (slice_get_past (stated ws).labels v (let n = count_words in let l = ap length e in omega arith))

  pub label_there : (words : List ℕ) (v w : ℕ) → words ≡ block_words ws → v < length words → w ≡ get_or words v w → Some (tag_set w) ≡ label_at (stated ws) v
  unfolding stated
  label_there words v w e h is =
      sym (ap (λ xs. slice_get (map tag_set xs) v) (sym e) ∙ slice_get-map tag_set words v ∙ ap (option_map tag_set) (slice_get_read words (length words) v w refl h is))

-- ---- gathering the types of a pair, one wire word after another
pub gathered_none : (u v : ℕ) → set 0 ≡ gathered [] u v
gathered_none u v = ap set (word_is 0 (λ k. false) (omega arith) (λ k h. has_nothing k))

-- a wire word between these two blocks lays a wire of its own type, any other none
runs_own : (u v k w : ℕ) → wire_from w ≡ u → wire_to w ≡ v → runs u v k w ≡ eqb k (wire_type w)
runs_own u v k w f t = rw (eq-eqb (wire_from w) u f, eq-eqb (wire_to w) v t) (turned (wire_type w) k)
  where
    turned : (m n : ℕ) → eqb m n ≡ eqb n m
    turned m n = grind (arith, nat_tests)

runs_none : (u v k w : ℕ) → leads u v w ≡ false → runs u v k w ≡ false
runs_none u v k w ne =
    ⊎_elim
    (λ e. absurd (let so = runs_so u v k w e in both_ways (leads u v w) ne (and_from _ _ (eq-eqb _ _ so.from) (eq-eqb _ _ so.to))))
    (λ e. e) (cases_Bool (runs u v k w))

-- one word more, where the set so far is that of the words so far
module _ (es : List ℕ) (i u v : ℕ) (s : Set) (inside : i < length es) (so_far : s ≡ gathered (take i es) u v) where
  longer : (k : ℕ) → list_any (runs u v k) (take (i + 1) es) ≡ (list_any (runs u v k) (take i es) || runs u v k (get_or es i 0))
  longer k = list_any_more (runs u v k) es i 0 inside

  held : (k : ℕ) → k < 32 → has k s.0 ≡ list_any (runs u v k) (take i es)
  held k h = ap (λ (x : Set). has k x.0) so_far ∙ has-set_of (λ j. list_any (runs u v j) (take i es)) k h

  pub gathered-with : leads u v (get_or es i 0) ≡ true → added (wire_type (get_or es i 0)) s ≡ gathered (take (i + 1) es) u v
  gathered-with e =
      let p = and_parts (eqb (wire_from (get_or es i 0)) u) (eqb (wire_to (get_or es i 0)) v) e in
      let f = eqb-true _ _ p.0 in
      let t = eqb-true _ _ p.1 in
      ap set (set_of-alike _ _ (λ k h.
      ap (λ b. b || eqb k (wire_type (get_or es i 0))) (held k h)
      ∙ ap (λ b. list_any (runs u v k) (take i es) || b) (sym (runs_own u v k (get_or es i 0) f t)) ∙ sym (longer k)))

  pub gathered_skip : leads u v (get_or es i 0) ≡ false → s ≡ gathered (take (i + 1) es) u v
  gathered_skip e =
      so_far
      ∙ ap set (set_of-alike _ _ (λ k h. sym (or_nothing _ _ (runs_none u v k (get_or es i 0) e)) ∙ sym (longer k)))

-- ---- the answer for a pair
pub types_there : (ws : List ℕ) (u v : ℕ) → u < block_count (stated ws) → v < block_count (stated ws) → Some (gathered (wire_words ws) u v) ≡ pair_at (stated ws) u v
unfolding stated
types_there ws u v h k = sym (pair_there (stated ws) u v h k)

-- ---- the labels, one block after another
pub labels_more : (m : List Set) (ws : List ℕ) (i : ℕ) → i < length ws → i < length m
    → lib.ListN.set (paste m 0 (map tag_set ws) i) i (tag_set (get_or ws i 0)) ≡ paste m 0 (map tag_set ws) (i + 1)
labels_more m ws i h room =
    let long = length-map ws tag_set in
    ap₂ (λ j x. lib.ListN.set (paste m 0 (map tag_set ws) i) j x) (sym (zero-add i)) (sym (get_or-map tag_set ws i 0 (set 0) h))
    ∙ paste_more m 0 (map tag_set ws) i (set 0) (omega arith) (omega arith)

pub labels_all : (ws words : List ℕ) (m : List Set) (n : ℕ) → words ≡ block_words ws → n ≡ length words → paste m 0 (map tag_set words) n ≡ (stated ws).labels ++ drop (block_count (stated ws)) m
unfolding stated
labels_all ws words m n is e =
    let long = length-map words tag_set in
    paste_all m 0 (map tag_set words) n (e ∙ sym long)
    ∙ ap₂ (λ ls k. ls ++ drop k m) (ap (map tag_set) is) (zero-add n ∙ e ∙ sym long ∙ ap (λ xs. length (map tag_set xs)) is)
