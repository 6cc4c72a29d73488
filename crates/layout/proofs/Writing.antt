-- The turns of the loops that write the starts and the entries.
use Rattle.std.proofs.Common.{◌≡◌, ℕ, ◌+◌, ◌-◌, ◌<◌, ◌≤◌, true, false, List, [], ◌∷◌, ◌++◌, length, get_or, drop, set, sym, refl, ap, ◌∙◌, ap₂, zero-add, arith}
use lib.Seq.{paste}
use Rattle.std.proofs.lemmas.List.{append_assoc, length_push, drop_more, set_at, get_or_at}
use Rattle.std.proofs.lemmas.List.Edits.{paste_more, paste_all}
use Rattle.std.proofs.lemmas.List.FromFn.{length-map-range_with_len, get_or-map-range_with_len}
use Rattle.sets.specs.Sets.{added}
use Rattle.sets.specs.Sets as sets
use Rattle.stores.specs.declared.entry.Entry.{Entry}
use Rattle.listing.specs.declared.counts.Counts.{Counts}
use Rattle.listing.specs.Words.{wire_to, wire_type}
use Rattle.listing.specs.Listings.{Listing, word, wire_words}
use Rattle.listing.specs.Graphs.{stated}
use Rattle.layout.specs.Layouts.{entry, entries_of, start_of, starts_of, laid}
use Rattle.layout.proofs.Steps.{no_entries}
use Rattle.layout.proofs.Listed.{open_test, entries_to, label_count, entries_open, entries_add, length_open, length_add, length_within}

-- ---- the starts
module _ (ws : List ℕ) (c : Counts) (l : Listing ws c) (ss : List ℕ) where
  length_starts : length (starts_of (stated ws)) ≡ c.blocks + 1
  unfolding starts_of
  length_starts = length-map-range_with_len (start_of (stated ws)) 0 (length (stated ws).labels + 1) ∙ ap (λ n. n + 1) (label_count ws c l)

  get_or_starts : (row : ℕ) → row ≤ c.blocks → get_or (starts_of (stated ws)) row 0 ≡ start_of (stated ws) row
  unfolding starts_of
  get_or_starts row h =
      let n = label_count ws c l in
      get_or-map-range_with_len (start_of (stated ws)) 0 (length (stated ws).labels + 1) row row 0 (omega arith) (zero-add row)

  pub starts_more : (row x : ℕ) → row ≤ c.blocks → c.blocks + 1 ≤ length ss → x ≡ start_of (stated ws) row
      → set (paste ss 0 (starts_of (stated ws)) row) row x ≡ paste ss 0 (starts_of (stated ws)) (row + 1)
  starts_more row x h room e =
      let long = length_starts in
      let step = paste_more ss 0 (starts_of (stated ws)) row 0 (omega arith) (omega arith) in
      let at : 0 + row ≡ row = zero-add row in
      let is = get_or_starts row h in
      cc

  pub starts_all : (n : ℕ) → n ≡ c.blocks + 1
      → paste ss 0 (starts_of (stated ws)) n ≡ laid (starts_of (stated ws)) ss
  starts_all n e =
      let long = length_starts in
      let at : 0 + n ≡ length (starts_of (stated ws)) = omega arith in
      paste_all ss 0 (starts_of (stated ws)) n (omega arith) ∙ ap (λ k. starts_of (stated ws) ++ drop k ss) at

-- ---- the entries
laid_push : (new old : List Entry) (x : Entry) → length new < length old → set (laid new old) (length new) x ≡ laid (new ++ x ∷ []) old
laid_push new old x h =
    ap (λ t. set (new ++ t) (length new) x) (drop_more old (length new) x h)
    ∙ set_at new (get_or old (length new) x) (drop (length new + 1) old) x (length new) refl
    ∙ sym (append_assoc new (x ∷ []) (drop (length new + 1) old))
    ∙ ap (λ k. (new ++ x ∷ []) ++ drop k old) (sym (length_push new x))

laid_last : (new old : List Entry) (x y : Entry) → set (laid (new ++ x ∷ []) old) (length new) y ≡ laid (new ++ y ∷ []) old
laid_last new old x y =
    let long = length_push new x in
    let same : length (new ++ x ∷ []) ≡ length (new ++ y ∷ []) = long ∙ sym (length_push new y) in
    ap (λ t. set t (length new) y) (append_assoc new (x ∷ []) (drop (length (new ++ x ∷ [])) old))
    ∙ set_at new x (drop (length (new ++ x ∷ [])) old) y (length new) refl
    ∙ sym (append_assoc new (y ∷ []) (drop (length (new ++ x ∷ [])) old))
    ∙ ap (λ k. (new ++ y ∷ []) ++ drop k old) same

laid-at : (new old : List Entry) (x d : Entry) → get_or (laid (new ++ x ∷ []) old) (length new) d ≡ x
laid-at new old x d =
    ap (λ t. get_or t (length new) d) (append_assoc new (x ∷ []) (drop (length (new ++ x ∷ [])) old))
    ∙ get_or_at new x (drop (length (new ++ x ∷ [])) old) d (length new) refl

pub entries_none : (ws : List ℕ) (es : List Entry) → (0 ≡ length (entries_to ws 0)) × (es ≡ laid (entries_to ws 0) es)
entries_none ws es =
    let none = no_entries (stated ws).labels in
    (sym (ap length none), sym (ap (λ t. laid t es) none))

module _ (ws : List ℕ) (c : Counts) (l : Listing ws c) (es : List Entry) (room : length (entries_of (stated ws)) ≤ length es) (i : ℕ) (h : i < c.wires) where
  -- a wire that opens a pair has room for its entry
  pub room_open : open_test (wire_words ws) i ≡ true → length (entries_to ws i) < length es
  room_open t = let a = length_open ws c l i h t in let b = length_within ws c l (i + 1) (omega arith) in omega arith

  pub entries_pushed : (n : ℕ) (xs : List Entry) (x : Entry) → open_test (wire_words ws) i ≡ true → n ≡ length (entries_to ws i) → xs ≡ laid (entries_to ws i) es
      → x ≡ entry (wire_to (word ws (1 + c.blocks + i))) (added (wire_type (word ws (1 + c.blocks + i))) (sets.set 0))
      → (n + 1 ≡ length (entries_to ws (i + 1))) × (set xs n x ≡ laid (entries_to ws (i + 1)) es)
  entries_pushed n xs x t en exs ex = (
    ap (λ k. k + 1) en ∙ sym (length_open ws c l i h t),
    ap₂ (λ k ys. set ys k x) en exs ∙ laid_push (entries_to ws i) es x (room_open t) ∙ ap (λ y. laid (entries_to ws i ++ y ∷ []) es) ex
        ∙ ap (λ t. laid t es) (sym (entries_open ws c l i h t)),
  )

  -- the last entry, where a wire adds its type to it
  pub room_add : open_test (wire_words ws) i ≡ false → (0 < length (entries_to ws i)) × (length (entries_to ws i) ≤ length es)
  room_add t = let a = (length_add ws c l i h t).1 in let b = length_within ws c l i (omega arith) in (a, omega arith)

  pub entries_grown : (n : ℕ) (xs : List Entry) (x d : Entry) → open_test (wire_words ws) i ≡ false → n ≡ length (entries_to ws i) → xs ≡ laid (entries_to ws i) es
      → x ≡ entry (get_or xs (n - 1) d).to (added (wire_type (word ws (1 + c.blocks + i))) (get_or xs (n - 1) d).types)
      → (n ≡ length (entries_to ws (i + 1))) × (set xs (n - 1) x ≡ laid (entries_to ws (i + 1)) es)
  entries_grown n xs x d t en exs ex =
      let g = entries_add ws c l i h t in
      let k : ℕ = wire_type (word ws (1 + c.blocks + i)) in
      let old : Entry = entry (wire_to (word ws (1 + c.blocks + i))) g.types in
      let long = en ∙ ap length g.now ∙ length_push g.rest old in
      let last : n - 1 ≡ length g.rest = omega arith in
      let whole : xs ≡ laid (g.rest ++ old ∷ []) es = exs ∙ ap (λ t. laid t es) g.now in
      let was : get_or xs (n - 1) d ≡ old = ap₂ (λ ys j. get_or ys j d) whole last ∙ laid-at g.rest es old d in
      let is = ex ∙ ap (λ (o : Entry). entry o.to (added k o.types)) was in (
        en ∙ sym (length_add ws c l i h t).0,
        ap₂ (λ ys j. set ys j x) whole last ∙ laid_last g.rest es old x ∙ ap (λ y. laid (g.rest ++ y ∷ []) es) is ∙ ap (λ t. laid t es) (sym g.next),
      )
