-- Which line stands at a place.
use Rattle.std.proofs.Common.{◌≡◌, ℕ, zero, suc, ◌+◌, ◌-◌, ◌<◌, ◌≤◌, min, List, [], ◌∷◌, ◌++◌, map, length, get_or, take, drop, Some, None, sym, refl, ap, ◌∙◌, ap₂, add-zero, zero-add, arith}
use Rattle.lines.specs.GraphLines.{block_line, block_lines, graph_line, graph_lines, wire_line}
use Rattle.listing.specs.Listings.{block_words, counts_of, wire_words, word}
use Rattle.listing.specs.Words.{block_tags}
use Rattle.std.proofs.lemmas.List.{get_or-drop, get_or-map, get_or-take, length-append, length-drop, length-map, length-take}
use Rattle.std.proofs.lemmas.Option.{slice_get-get_or, slice_get_past}
use Rattle.std.specs.List.{slice_get}

slice_get_append_left : {X : Type 0} (xs ys : List X) (i : ℕ) → i < length xs → slice_get (xs ++ ys) i ≡ slice_get xs i
slice_get_append_left [] ys i h = absurd (omega arith)
slice_get_append_left (x ∷ xs) ys zero h = refl
slice_get_append_left (x ∷ xs) ys (suc i) h = slice_get_append_left xs ys i (omega arith)

slice_get_append_right : {X : Type 0} (xs ys : List X) (i : ℕ) → length xs ≤ i → slice_get (xs ++ ys) i ≡ slice_get ys (i - length xs)
slice_get_append_right [] ys i h = let same : i ≡ i - 0 = omega arith in ap (slice_get ys) same
slice_get_append_right (x ∷ xs) ys zero h = absurd (omega arith)
slice_get_append_right (x ∷ xs) ys (suc i) h =
    let same : i - length xs ≡ suc i - suc (length xs) = omega arith in
    slice_get_append_right xs ys i (omega arith) ∙ ap (slice_get ys) same

length-block_lines : (v : ℕ) (ws : List ℕ) → length (block_lines v ws) ≡ length ws
length-block_lines v [] = refl
length-block_lines v (w ∷ ws) = ap suc (length-block_lines (v + 1) ws)

slice_get-block_lines : (v : ℕ) (ws : List ℕ) (i : ℕ) → i < length ws → slice_get (block_lines v ws) i ≡ Some (block_line (v + i) (block_tags (get_or ws i 0)))
slice_get-block_lines v [] i h = absurd (omega arith)
slice_get-block_lines v (w ∷ ws) zero h = ap (λ n. Some (block_line n (block_tags w))) (sym (add-zero v))
slice_get-block_lines v (w ∷ ws) (suc i) h =
    let same : v + 1 + i ≡ v + suc i = omega arith in
    slice_get-block_lines (v + 1) ws i (omega arith) ∙ ap (λ n. Some (block_line n (block_tags (get_or ws i 0)))) same

-- a part of a list
length_part : (ws : List ℕ) (a n : ℕ) → length (take n (drop a ws)) ≡ min n (length ws - a)
length_part ws a n = length-take n (drop a ws) ∙ ap (min n) (length-drop a ws)

get_or_part : (ws : List ℕ) (a n i j : ℕ) → i < n → a + i ≡ j → get_or (take n (drop a ws)) i 0 ≡ get_or ws j 0
get_or_part ws a n i j h same = get_or-take n (drop a ws) i 0 h ∙ get_or-drop a ws i 0 ∙ ap (λ k. get_or ws k 0) same

past_words : (b n long i : ℕ) → long ≤ i + 1 → min b (long - 1) + min n (long - (1 + b)) ≤ i
past_words b n long i h = omega arith

past_counts : (b n long i : ℕ) → b + n ≤ i → min b (long - 1) + min n (long - (1 + b)) ≤ i
past_counts b n long i h = omega arith

module _ (ws : List ℕ) (i : ℕ) where
  abbrev b : ℕ
  b = (counts_of ws).blocks

  abbrev n : ℕ
  n = (counts_of ws).wires

  length-blocks : length (block_lines 0 (block_words ws)) ≡ min b (length ws - 1)
  length-blocks = length-block_lines 0 (block_words ws) ∙ length_part ws 1 b

  length-wires : length (map wire_line (wire_words ws)) ≡ min n (length ws - (1 + b))
  length-wires = length-map (wire_words ws) wire_line ∙ length_part ws (1 + b) n

  length_lines : length (graph_lines ws) ≡ min b (length ws - 1) + min n (length ws - (1 + b))
  unfolding graph_lines
  length_lines = length-append (block_lines 0 (block_words ws)) (map wire_line (wire_words ws)) ∙ ap₂ ◌+◌ length-blocks length-wires

  pub none_past_words : length ws ≤ i + 1 → graph_line ws i ≡ None
  none_past_words past = slice_get_past (graph_lines ws) i (rw length_lines (past_words b n (length ws) i past))

  pub none_past_counts : b + n ≤ i → graph_line ws i ≡ None
  none_past_counts past = slice_get_past (graph_lines ws) i (rw length_lines (past_counts b n (length ws) i past))

  pub block-at : i < b → i + 1 < length ws → graph_line ws i ≡ Some (block_line i (block_tags (word ws (i + 1))))
  unfolding graph_lines
  block-at below inside =
      let many = length_part ws 1 b in
      let all = length-block_lines 0 (block_words ws) in
      slice_get_append_left (block_lines 0 (block_words ws)) (map wire_line (wire_words ws)) i (omega arith)
      ∙ slice_get-block_lines 0 (block_words ws) i (omega arith)
      ∙ ap₂ (λ v w. Some (block_line v (block_tags w))) (zero-add i) (get_or_part ws 1 b i (i + 1) below (omega arith))

  pub wire_at : b ≤ i → i < b + n → i + 1 < length ws → graph_line ws i ≡ Some (wire_line (word ws (i + 1)))
  unfolding graph_lines
  wire_at above below inside =
      let blocks : length (block_lines 0 (block_words ws)) ≡ b = let all = length-blocks in omega arith in
      let many = length_part ws (1 + b) n in
      let wires = length-wires in
      slice_get_append_right (block_lines 0 (block_words ws)) (map wire_line (wire_words ws)) i (omega arith)
      ∙ ap (λ m. slice_get (map wire_line (wire_words ws)) (i - m)) blocks
      ∙ slice_get-get_or (map wire_line (wire_words ws)) (i - b) [] (omega arith)
      ∙ ap Some (get_or-map wire_line (wire_words ws) (i - b) 0 [] (omega arith))
      ∙ ap (λ w. Some (wire_line w)) (get_or_part ws (1 + b) n (i - b) (i + 1) (omega arith) (omega arith))
