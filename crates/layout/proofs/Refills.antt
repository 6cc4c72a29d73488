-- The layout of a graph, read as the rows of a row store, is the graph again.
use Rattle.std.proofs.Common.{◌≡◌, ℕ, zero, suc, ◌+◌, ◌-◌, ◌^◌, ◌<◌, ◌≤◌, Bool, true, false, cond, ◌&&◌, ◌||◌, eqb, ltb, List, [], ◌∷◌, ◌++◌, length, get_or, take, drop, Some, None, Ok, sym, refl, ap, ◌∙◌, subst, ap₂, ⊎_elim, add-zero, zero-add, arith}
use Rattle.std.specs.List.{range_with_len, flat_map}
use Rattle.std.proofs.lemmas.List.{length-append, take_at, drop_at}
use Rattle.std.proofs.lemmas.List.FromFn.{length-map-range_with_len, get_or-map-range_with_len}
use Rattle.std.proofs.lemmas.Bool.{cond-true, le-leb, lt-ltb, eq-eqb, ne_eqb, eqb-true, and_from, and_left, and_right, cases_order, and_parts, ltb-true}
use Rattle.model.specs.Graphs.{Graph, block_count, SameMeaning}
use Rattle.sets.specs.Sets.{has, set}
use Rattle.sets.specs.declared.Set.{Set}
use Rattle.sets.proofs.Membership.{has_nothing, word_is, set_of_lt, or_nothing}
use Rattle.listing.specs.declared.counts.Counts.{Counts}
use Rattle.listing.specs.Listings.{Listing}
use Rattle.listing.specs.Graphs.{wired, stated}
use Rattle.listing.proofs.Accepts.{ranges}
use Rattle.listing.proofs.Parts.{length_tags}
use Rattle.layout.specs.Refills.{Refilled}
use Rattle.stores.specs.declared.entry.Entry.{Entry}
use Rattle.stores.specs.RowStores.{row_entries, lists, any_entry, pair_set, row_graph, sizes_fit, never_falls, starts_fit, targets_fit, fill_answer}
use Rattle.layout.specs.Layouts.{entry, cell_of, row_of, entries_of, start_of, starts_of, laid}
use Rattle.std.proofs.lemmas.List.Folds.{list_any-append, list_all-append}
use Rattle.layout.proofs.Joins.{joined_split}

-- ---- lists of entries
-- what holds of each part holds of all of them
targets_joined : (m : ℕ) (f : ℕ → List Entry) (a n : ℕ) → ((x : ℕ) → a ≤ x → x < a + n → targets_fit (f x) m ≡ true) → targets_fit (flat_map f (range_with_len a n)) m ≡ true
targets_joined m f a zero h = refl
targets_joined m f a (suc n) h =
    list_all-append (λ e. ltb e.to m) (f a) (flat_map f (range_with_len (a + 1) n))
    ∙ and_from _ _ (h a (omega arith) (omega arith)) (targets_joined m f (a + 1) n (λ x l k. h x (omega arith) (omega arith)))

module _ (g : Graph Set Set) where
  -- ---- one cell
  any_cell : (u a v k : ℕ) → any_entry v k (cell_of g u a) ≡ (eqb a v && has k (g.pairs u a).0)
  any_cell u a v k = go (eqb (g.pairs u a).0 0) refl
    where
      go : (b : Bool) → eqb (g.pairs u a).0 0 ≡ b → any_entry v k (cond b [] (entry a (g.pairs u a) ∷ [])) ≡ (eqb a v && has k (g.pairs u a).0)
      go true e = sym (ap (λ w. eqb a v && has k w) (eqb-true (g.pairs u a).0 0 e) ∙ ap (λ b. eqb a v && b) (has_nothing k) ∙ and_right (eqb a v) false refl)
      go false e = or_nothing (eqb a v && has k (g.pairs u a).0) false refl

  target_cell : (u a m : ℕ) → a < m → targets_fit (cell_of g u a) m ≡ true
  target_cell u a m h = go (eqb (g.pairs u a).0 0)
    where
      go : (b : Bool) → targets_fit (cond b [] (entry a (g.pairs u a) ∷ [])) m ≡ true
      go true = refl
      go false = and_from (ltb a m) true (lt-ltb a m h) refl

  -- ---- one row
  any_below : (u v k a n : ℕ) → v < a → any_entry v k (flat_map (cell_of g u) (range_with_len a n)) ≡ false
  any_below u v k a zero h = refl
  any_below u v k a (suc n) h =
      list_any-append (lists v k) (cell_of g u a) (flat_map (cell_of g u) (range_with_len (a + 1) n))
      ∙ ap₂ (λ x y. x || y) (any_cell u a v k ∙ and_left _ _ (ne_eqb a v (λ e. omega arith))) (any_below u v k (a + 1) n (omega arith))

  any_at : (u v k a n : ℕ) → a ≤ v → v < a + n → any_entry v k (flat_map (cell_of g u) (range_with_len a n)) ≡ has k (g.pairs u v).0
  any_at u v k a zero low high = absurd (omega arith)
  any_at u v k a (suc n) low high =
      list_any-append (lists v k) (cell_of g u a) (flat_map (cell_of g u) (range_with_len (a + 1) n))
      ∙ ⊎_elim
      (λ e. ap₂ (λ x y. x || y) (any_cell u a v k ∙ ap (λ b. b && has k (g.pairs u a).0) (eq-eqb a v e)) (any_below u v k (a + 1) n (omega arith)) ∙ or_nothing _ false refl ∙ ap (λ x. has k (g.pairs u x).0) e)
      (⊎_elim (λ l. ap₂ (λ x y. x || y) (any_cell u a v k ∙ and_left _ _ (ne_eqb a v (λ e. omega arith))) (any_at u v k (a + 1) n (omega arith) (omega arith))) (λ l. absurd (omega arith)))
      (cases_order a v)

  row_set : (u v : ℕ) → v < block_count g → (g.pairs u v).0 < 2 ^ 32 → pair_set (row_of g u) v ≡ g.pairs u v
  unfolding row_of
  row_set u v h small = ap set (sym (word_is (g.pairs u v).0 _ small (λ k l. sym (any_at u v k 0 (block_count g) (omega arith) (omega arith)))))

  -- ---- all rows
  start_next : (u : ℕ) → start_of g (u + 1) ≡ start_of g u + length (row_of g u)
  unfolding start_of
  start_next u =
      ap length (joined_split (row_of g) 0 u 1) ∙ length-append (flat_map (row_of g) (range_with_len 0 u)) _
      ∙ ap (λ n. length (flat_map (row_of g) (range_with_len 0 u)) + n) (length-append (row_of g (0 + u)) [] ∙ add-zero _ ∙ ap (λ x. length (row_of g x)) (zero-add u))

  -- the entries, cut at row u
  cut : (u : ℕ) → u < block_count g
      → entries_of g ≡ flat_map (row_of g) (range_with_len 0 u) ++ (row_of g u ++ flat_map (row_of g) (range_with_len (u + 1) (block_count g - (u + 1))))
  unfolding entries_of
  cut u h =
      let split : block_count g ≡ u + suc (block_count g - (u + 1)) = omega arith in
      ap (λ n. flat_map (row_of g) (range_with_len 0 n)) split ∙ joined_split (row_of g) 0 u (suc (block_count g - (u + 1)))
      ∙ ap (λ x. flat_map (row_of g) (range_with_len 0 u) ++ (row_of g x ++ flat_map (row_of g) (range_with_len (x + 1) (block_count g - (u + 1))))) (zero-add u)

  length_starts : length (starts_of g) ≡ block_count g + 1
  unfolding starts_of
  length_starts = length-map-range_with_len (start_of g) 0 (block_count g + 1)

  get_or_starts : (u : ℕ) → u < block_count g + 1 → get_or (starts_of g) u 0 ≡ start_of g u
  unfolding starts_of
  get_or_starts u h = get_or-map-range_with_len (start_of g) 0 (block_count g + 1) u u 0 h (zero-add u)

  row_is : (u : ℕ) → u < block_count g → row_entries (starts_of g) (entries_of g) u ≡ row_of g u
  unfolding start_of
  row_is u h =
      let s : get_or (starts_of g) u 0 ≡ start_of g u = get_or_starts u (omega arith) in
      let t : get_or (starts_of g) (u + 1) 0 ≡ start_of g (u + 1) = get_or_starts (u + 1) (omega arith) in
      let size : start_of g (u + 1) - start_of g u ≡ length (row_of g u) = let n = start_next u in omega arith in
      let rest : List Entry = row_of g u ++ flat_map (row_of g) (range_with_len (u + 1) (block_count g - (u + 1))) in
      ap₂ (λ x y. take (y - x) (drop x (entries_of g))) s t
      ∙ ap₂ (λ n es. take n (drop (start_of g u) es)) size (cut u h)
      ∙ ap (take (length (row_of g u))) (drop_at (flat_map (row_of g) (range_with_len 0 u)) rest (start_of g u) refl)
      ∙ take_at (row_of g u) _ (length (row_of g u)) refl

  never_falls_lem : (n : ℕ) → n ≤ block_count g → never_falls (starts_of g) n ≡ true
  never_falls_lem zero h = refl
  never_falls_lem (suc n) h =
      let s = get_or_starts n (omega arith) in
      let t = get_or_starts (n + 1) (omega arith) in
      let e = start_next n in
      and_from _ _ (le-leb (get_or (starts_of g) n 0) (get_or (starts_of g) (n + 1) 0) (omega arith)) (never_falls_lem n (omega arith))

  starts_fit_lem : starts_fit (starts_of g) (entries_of g) (block_count g) ≡ true
  unfolding start_of entries_of
  starts_fit_lem =
      and_from _ _ (eq-eqb (get_or (starts_of g) 0 0) 0 (get_or_starts 0 (omega arith)))
      (and_from _ _ (eq-eqb (get_or (starts_of g) (block_count g) 0) (length (entries_of g)) (get_or_starts (block_count g) (omega arith))) (never_falls_lem (block_count g) (omega arith)))

  targets_fit_lem : targets_fit (entries_of g) (block_count g) ≡ true
  unfolding entries_of row_of
  targets_fit_lem =
      targets_joined (block_count g) (row_of g) 0 (block_count g)
      (λ u l k. targets_joined (block_count g) (cell_of g u) 0 (block_count g) (λ v m n. target_cell u v (block_count g) (omega arith)))

  pub layout_fills : block_count g ≤ 192 → fill_answer (starts_of g) (entries_of g) g.labels ≡ Ok tt
  layout_fills few =
      cond-true (sizes_fit (starts_of g) g.labels) _ _ (and_from _ _ (le-leb (block_count g) 192 few) (eq-eqb (length (starts_of g)) (block_count g + 1) length_starts))
      ∙ cond-true (starts_fit (starts_of g) (entries_of g) (block_count g)) _ _ starts_fit_lem
      ∙ cond-true (targets_fit (entries_of g) (block_count g)) _ _ targets_fit_lem

  pub layout_means : ((u v : ℕ) → (g.pairs u v).0 < 2 ^ 32) → SameMeaning (row_graph (starts_of g) (entries_of g) g.labels) g
  unfolding row_graph
  layout_means small =
      record {
        counts = refl;
        labels = λ v. refl;
        pairs = λ u v. same_pair u v (ltb u (block_count g) && ltb v (block_count g)) refl;
      }
    where
      same_pair : (u v : ℕ) (b : Bool) → (ltb u (block_count g) && ltb v (block_count g)) ≡ b
          → cond b (Some (pair_set (row_entries (starts_of g) (entries_of g) u) v)) None ≡ cond b (Some (g.pairs u v)) None
      same_pair u v true e =
          let p = and_parts (ltb u (block_count g)) (ltb v (block_count g)) e in
          ap Some (ap (λ es. pair_set es v) (row_is u (ltb-true _ _ p.0)) ∙ row_set u v (ltb-true _ _ p.1) (small u v))
      same_pair u v false e = refl

-- ---- of a listing
pub refilled : (ws : List ℕ) (c : Counts) → Listing ws c → Refilled ws (starts_of (stated ws)) (entries_of (stated ws))
unfolding stated
refilled ws c l =
    let own = subst (Listing ws) (sym l.counts) l in
    let few = (ranges ws own).1 in
    let n = length_tags ws own in
    record { accepted = layout_fills (stated ws) (omega arith); same = layout_means (stated ws) (λ u v. set_of_lt (wired ws u v)) }

-- ---- of the buffers that a layout wrote
pub refilled_from : (ws : List ℕ) (c : Counts) → Listing ws c → (ss : List ℕ) (es : List Entry) (ss' : List ℕ) (es' : List Entry) (n : ℕ)
    → ss' ≡ laid (starts_of (stated ws)) ss → es' ≡ laid (entries_of (stated ws)) es → n ≡ length (entries_of (stated ws))
    → Refilled ws (take (block_count (stated ws) + 1) ss') (take n es')
refilled_from ws c l ss es ss' es' n one two e =
    let starts : take (block_count (stated ws) + 1) ss' ≡ starts_of (stated ws) =
    ap (take (block_count (stated ws) + 1)) one ∙ take_at (starts_of (stated ws)) _ (block_count (stated ws) + 1) (length_starts (stated ws)) in
    let entries : take n es' ≡ entries_of (stated ws) = ap (take n) two ∙ take_at (entries_of (stated ws)) _ n (sym e) in
    subst (λ xs. Refilled ws (take (block_count (stated ws) + 1) ss') xs) (sym entries)
    (subst (λ xs. Refilled ws xs (entries_of (stated ws))) (sym starts) (refilled ws c l))
